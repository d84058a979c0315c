use Rattle.std.proofs.Common.{◌∙◌, sym, ap, arith, Some}
use Rattle.std.proofs.Math.Path.{ap₂}
use Rattle.std.proofs.lemmas.Result.{IfOk-weaker}
use Rattle.lp_spec.specs.Trees.{App, Pi, Sym}
use Rattle.lp_term.specs.TableLaws.{Holds-tree_at, Keeps-trans, tree_at-Stays}
use Rattle.translate_rule.proofs.statement.product_over.Goals as goal

pub node-requires : goal.node-requires
node-requires c = (c.in_ok-domain.ensures.known, omega (arith, c.requires.inside, c.in_ok-index.ensures.keeps.longer, c.in_ok-domain.ensures.keeps.longer))

pub returns-clause-made : goal.returns-clause-made
returns-clause-made c =
    let keeps = Keeps-trans c.in_ok-index.ensures.keeps c.in_ok-domain.ensures.keeps in
    IfOk-weaker c.node.result _ _
    (λ r h.
    h
    ∙ ap₂ (λ a b. Some (Pi a b)) (Holds-tree_at _ c.in_ok-domain.domain.0 _ c.in_ok-domain.ensures.made
    ∙ ap (App (Sym c.args.symbol)) (Holds-tree_at _ c.in_ok-index.index.0 _ c.in_ok-index.ensures.made))
    (sym (tree_at-Stays keeps.stays c.args.inside.0 c.requires.inside)))
    c.node.ensures.made

pub returns-in_err-domain-clause-keeps : goal.returns-in_err-domain-clause-keeps
returns-in_err-domain-clause-keeps c = Keeps-trans c.in_ok-index.ensures.keeps c.family.ensures.keeps

pub returns-clause-keeps : goal.returns-clause-keeps
returns-clause-keeps c = Keeps-trans (Keeps-trans c.in_ok-index.ensures.keeps c.in_ok-domain.ensures.keeps) c.node.ensures.keeps
