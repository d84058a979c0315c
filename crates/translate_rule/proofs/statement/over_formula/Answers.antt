use Rattle.std.proofs.Common.{◌∙◌, sym, arith, Some}
use Rattle.std.proofs.Math.Path.{ap₂}
use Rattle.std.proofs.lemmas.Result.{IfOk-weaker}
use Rattle.lp_spec.specs.Modules.{proof_of}
use Rattle.lp_spec.specs.Trees.{Pi, lift}
use Rattle.lp_term.specs.TableLaws.{Holds-tree_at, Holds-within, tree_at-Stays}
use Rattle.translate_term.specs.GrowLaws.{Grows-trans, Grows-table}
use Rattle.translate_rule.proofs.statement.over_formula.Goals as goal

pub product_over-requires-clause-tree : goal.product_over-requires-clause-tree
product_over-requires-clause-tree c = Holds-within _ c.in_ok-formula.formula.0 _
    (c.in_ok-formula.ensures.made c.requires.told.0 c.requires.told.1 c.requires.told.2)

pub product_over-requires-clause-inside : goal.product_over-requires-clause-inside
product_over-requires-clause-inside c = omega (arith, c.requires.inside, c.in_ok-formula.ensures.grows.table.longer)

pub returns-clause-made : goal.returns-clause-made
returns-clause-made c =
    IfOk-weaker c.product_over.result _ _
    (λ r h given stands told.
    h
    ∙ ap₂ (λ a b. Some (Pi (proof_of (lift c.args.outside a)) b)) (Holds-tree_at _ c.in_ok-formula.formula.0 _ (c.in_ok-formula.ensures.made given stands told))
    (sym (tree_at-Stays c.in_ok-formula.ensures.grows.table.stays c.args.inside.0 c.requires.inside)))
    c.product_over.ensures.made

pub returns-clause-grows : goal.returns-clause-grows
returns-clause-grows c = Grows-trans c.in_ok-formula.ensures.grows (Grows-table _ _ c.product_over.ensures.keeps)
