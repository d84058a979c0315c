use Rattle.std.proofs.Common.{◌∙◌, ap, Some}
use Rattle.std.proofs.lemmas.Option.{slice_get_within}
use Rattle.std.proofs.lemmas.Result.{IfOk-weaker}
use Rattle.hol_spec.specs.TermBinding.{lift}
use Rattle.hol_term.specs.TableLaws.{Some-term_in}
use Rattle.hol_term.proofs.binding.TermTableBinding.lift.Goals as goal

pub lift-requires : goal.lift-requires
lift-requires c = slice_get_within _ _ c.requires.known.0 c.requires.known.1

pub returns-clause-made : goal.returns-clause-made
returns-clause-made c = IfOk-weaker c.lift.result _ _ (λ r h t ht. h ∙ ap (λ x. Some (lift c.args.k x)) (Some-term_in c.args.self.now.terms c.args.id.0 t ht))
    c.lift.ensures.made

pub returns-clause-keeps : goal.returns-clause-keeps
returns-clause-keeps c = λ i t h. c.lift.ensures.keeps.stays.each i.0 t h
