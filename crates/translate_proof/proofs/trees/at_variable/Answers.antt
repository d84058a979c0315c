use Rattle.std.proofs.Common.{◌∙◌, sym, arith, Some}
use Rattle.std.proofs.Math.Path.{ap₂}
use Rattle.std.proofs.lemmas.Result.{IfOk-weaker}
use Rattle.lp_spec.specs.Trees.{App}
use Rattle.lp_term.specs.TableLaws.{Holds-tree_at, Holds-within, tree_at-Stays, Keeps-trans}
use Rattle.translate_proof.proofs.trees.at_variable.Goals as goal

pub node-requires-2 : goal.node-requires-2
node-requires-2 c = (
  omega (arith, c.requires, c.in_ok-variable.ensures.keeps.longer),
  Holds-within _ c.in_ok-variable.variable.0 _ c.in_ok-variable.ensures.made,
)

pub returns-clause-made : goal.returns-clause-made
returns-clause-made c =
    IfOk-weaker c.node-2.result _ _
    (λ r h. h ∙ ap₂ (λ a b. Some (App a b)) (sym (tree_at-Stays c.in_ok-variable.ensures.keeps.stays c.args.head.0 c.requires))
    (Holds-tree_at _ c.in_ok-variable.variable.0 _ c.in_ok-variable.ensures.made))
    c.node-2.ensures.made

pub returns-clause-keeps : goal.returns-clause-keeps
returns-clause-keeps c = Keeps-trans c.in_ok-variable.ensures.keeps c.node-2.ensures.keeps
