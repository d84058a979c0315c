use Rattle.std.proofs.lemmas.Option.{slice_get_within}
use Rattle.std.proofs.lemmas.Result.{IfOk-weaker}
use Rattle.hol_term.specs.BindingLaws.{Pairwise-known, Holds-put_all}
use Rattle.hol_term.proofs.binding.TermTableBinding.put_all.Goals as goal

pub put_all-requires-clause-args : goal.put_all-requires-clause-args
put_all-requires-clause-args c = Pairwise-known c.args.self.now c.args.args.now c.requires.args.0 c.requires.args.1

pub put_all-requires-clause-body : goal.put_all-requires-clause-body
put_all-requires-clause-body c = slice_get_within _ _ c.requires.body.0 c.requires.body.1

pub returns-clause-made : goal.returns-clause-made
returns-clause-made c = IfOk-weaker c.put_all.result _ _ (λ r. Holds-put_all c.args.self.now c.put_all.new.self c.args.args.now c.args.body r)
    c.put_all.ensures.made

pub returns-clause-keeps : goal.returns-clause-keeps
returns-clause-keeps c = λ i t h. c.put_all.ensures.keeps.stays.each i.0 t h
