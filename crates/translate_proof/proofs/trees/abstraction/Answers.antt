use Rattle.std.proofs.Common.{◌∙◌, sym, arith, Some}
use Rattle.std.proofs.Math.Path.{ap₂}
use Rattle.std.proofs.lemmas.Result.{IfOk-weaker}
use Rattle.lp_spec.specs.Trees.{Lam}
use Rattle.lp_term.specs.TableLaws.{Holds-tree_at, Holds-within, tree_at-Stays, Keeps-trans}
use Rattle.translate_proof.proofs.trees.abstraction.Goals as goal

pub call-requires : goal.call-requires
call-requires c = (c.requires.index, tt {0})

pub node-requires : goal.node-requires
node-requires c = (Holds-within _ c.in_ok-domain.domain.0 _ c.in_ok-domain.ensures.made, omega (arith, c.requires.body, c.in_ok-domain.ensures.keeps.longer))

pub returns-clause-made : goal.returns-clause-made
returns-clause-made c =
    IfOk-weaker c.node.result _ _
    (λ r h. h ∙ ap₂ (λ a b. Some (Lam a b)) (Holds-tree_at _ c.in_ok-domain.domain.0 _ c.in_ok-domain.ensures.made)
    (sym (tree_at-Stays c.in_ok-domain.ensures.keeps.stays c.args.body.0 c.requires.body)))
    c.node.ensures.made

pub returns-clause-keeps : goal.returns-clause-keeps
returns-clause-keeps c = Keeps-trans c.in_ok-domain.ensures.keeps c.node.ensures.keeps
