use Rattle.std.proofs.Common.{arith, sym, ◌∙◌, Some}
use Rattle.std.proofs.Math.Path.{ap₂}
use Rattle.std.proofs.lemmas.Result.{IfOk-weaker}
use Rattle.lp_spec.specs.Trees.{Pi}
use Rattle.lp_term.specs.TableLaws.{Holds-tree_at, Holds-within, Keeps-trans, tree_at-Stays}
use Rattle.translate_term.specs.GrowLaws.{Grows-table}
use Rattle.translate_term.proofs.closed.product_over.Goals as goal

pub call-requires : goal.call-requires
call-requires c = (c.requires.0, tt {0})

pub node-requires : goal.node-requires
node-requires c = (Holds-within _ c.in_ok-domain.domain.0 _ c.in_ok-domain.ensures.made, omega (arith, c.in_ok-domain.ensures.keeps.longer, c.requires.1))

pub returns-clause-made : goal.returns-clause-made
returns-clause-made c =
    IfOk-weaker c.node.result _ _
    (λ r h. h ∙ ap₂ (λ a b. Some (Pi a b)) (Holds-tree_at _ c.in_ok-domain.domain.0 _ c.in_ok-domain.ensures.made)
    (sym (tree_at-Stays c.in_ok-domain.ensures.keeps.stays c.args.inside.0 c.requires.1)))
    c.node.ensures.made

pub returns-clause-grows : goal.returns-clause-grows
returns-clause-grows c = Grows-table c.args.target.now _ (Keeps-trans c.in_ok-domain.ensures.keeps c.node.ensures.keeps)
