use Rattle.std.proofs.Common.{◌∙◌, sym, arith, Some}
use Rattle.std.proofs.Math.Path.{ap₂}
use Rattle.std.proofs.lemmas.Result.{IfOk-weaker}
use Rattle.lp_spec.specs.Trees.{App}
use Rattle.lp_term.specs.TableLaws.{Holds-tree_at, Keeps-trans, tree_at-Stays}
use Rattle.translate_rule.proofs.statement.family.Goals as goal

pub node-requires-2 : goal.node-requires-2
node-requires-2 c = (c.in_ok-head.ensures.known, omega (arith, c.requires, c.in_ok-head.ensures.keeps.longer))

pub returns-clause-made : goal.returns-clause-made
returns-clause-made c =
    IfOk-weaker c.node-2.result _ _
    (λ r h. h ∙ ap₂ (λ a b. Some (App a b)) (Holds-tree_at _ c.in_ok-head.head.0 _ c.in_ok-head.ensures.made)
    (sym (tree_at-Stays c.in_ok-head.ensures.keeps.stays c.args.index.0 c.requires)))
    c.node-2.ensures.made

pub returns-clause-keeps : goal.returns-clause-keeps
returns-clause-keeps c = Keeps-trans c.in_ok-head.ensures.keeps c.node-2.ensures.keeps
