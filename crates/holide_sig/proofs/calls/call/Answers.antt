use Rattle.std.proofs.Common.{◌∙◌, Some}
use Rattle.std.proofs.lemmas.Result.{IfOk-weaker}
use Rattle.lp_spec.specs.Modules.{applied}
use Rattle.lp_term.specs.TableLaws.{Holds-tree_at, trees_at-Keeps, AreKnown-Keeps}
use Rattle.holide_sig.proofs.calls.call.Goals as goal
use Rattle.std.proofs.Math.Path.{ap₂}

pub apply-requires-clause-args : goal.apply-requires-clause-args
apply-requires-clause-args c = AreKnown-Keeps c.in_ok-head.ensures.keeps _ c.requires

pub returns-clause-made : goal.returns-clause-made
returns-clause-made c =
    IfOk-weaker c.apply.result _ _
    (λ r h. h ∙ ap₂ (λ f xs. Some (applied f xs)) (Holds-tree_at _ c.in_ok-head.head.0 _ c.in_ok-head.ensures.made)
    (trees_at-Keeps c.in_ok-head.ensures.keeps _ c.requires))
    c.apply.ensures.made
