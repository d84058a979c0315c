use Rattle.std.proofs.lemmas.Result.{IfOk-weaker}
use Rattle.lp_term.specs.TableLaws.{Holds-within}
use Rattle.lp_term.specs.BindingLaws.{Pairwise-known, Holds-put_all}
use Rattle.lp_term.proofs.binding.LpTableBinding.put_all.Goals as goal

pub put_all-requires-clause-args : goal.put_all-requires-clause-args
put_all-requires-clause-args c = Pairwise-known _ _ c.requires.args.0 c.requires.args.1

pub put_all-requires-clause-body : goal.put_all-requires-clause-body
put_all-requires-clause-body c = Holds-within _ _ c.requires.body.0 c.requires.body.1

pub returns-clause-made : goal.returns-clause-made
returns-clause-made c = IfOk-weaker c.put_all.result _ _ (λ r. Holds-put_all _ _ _ c.args.body r) c.put_all.ensures.made
