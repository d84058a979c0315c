use Rattle.std.proofs.Common.{◌∙◌, Some}
use Rattle.std.proofs.Math.Path.{ap₂}
use Rattle.std.proofs.lemmas.Option.{slice_get_within}
use Rattle.std.proofs.lemmas.Result.{IfOk-weaker}
use Rattle.hol_spec.specs.TermBinding.{put}
use Rattle.hol_term.specs.TableLaws.{Some-term_in}
use Rattle.hol_term.proofs.binding.TermTableBinding.put.Goals as goal

pub put-requires-clause-arg : goal.put-requires-clause-arg
put-requires-clause-arg c = slice_get_within _ _ c.requires.arg.0 c.requires.arg.1

pub put-requires-clause-body : goal.put-requires-clause-body
put-requires-clause-body c = slice_get_within _ _ c.requires.body.0 c.requires.body.1

pub returns-clause-made : goal.returns-clause-made
returns-clause-made c =
    IfOk-weaker c.put.result _ _
    (λ r h a t ha ht. h ∙ ap₂ (λ x y. Some (put x y)) (Some-term_in c.args.self.now.terms c.args.arg.0 a ha)
    (Some-term_in c.args.self.now.terms c.args.body.0 t ht))
    c.put.ensures.made

pub returns-clause-keeps : goal.returns-clause-keeps
returns-clause-keeps c = λ i t h. c.put.ensures.keeps.stays.each i.0 t h
