use Rattle.std.proofs.Common.{◌∙◌, sym, Some, arith}
use Rattle.std.proofs.Math.Path.{ap₂}
use Rattle.lp_spec.specs.Trees.{Lam, App, Sym}
use Rattle.lp_term.specs.TableLaws.{Holds-tree_at, Holds-within, tree_at-Stays}
use Rattle.translate_term.specs.GrowLaws.{Grows-trans, Grows-table}
use Rattle.translate_proof.proofs.StandTrees.{Ready-more}
use Rattle.translate_proof.proofs.ground.Ground.add_abstracted.Goals as goal

pub abstraction-requires-clause-index : goal.abstraction-requires-clause-index
abstraction-requires-clause-index c = omega (arith, c.requires.index, c.in_ok-body.ensures.grows.table.longer)

pub abstraction-requires-clause-body : goal.abstraction-requires-clause-body
abstraction-requires-clause-body c = Holds-within _ c.in_ok-body.body.0 _ (c.in_ok-body.ensures.made c.requires.told.0 c.requires.told.1 c.requires.told.2)

pub returns-in_err-tree-clause-grows : goal.returns-in_err-tree-clause-grows
returns-in_err-tree-clause-grows c = Grows-trans c.theorem.ensures.grows (Grows-table _ _ c.abstraction.ensures.keeps)

pub returns-in_err-push-clause-grows : goal.returns-in_err-push-clause-grows
returns-in_err-push-clause-grows c = Grows-trans c.theorem.ensures.grows (Grows-table _ _ c.abstraction.ensures.keeps)

pub returns-clause-grows : goal.returns-clause-grows
returns-clause-grows c = Grows-trans c.theorem.ensures.grows (Grows-table _ _ c.abstraction.ensures.keeps)

pub returns-clause-ready : goal.returns-clause-ready
returns-clause-ready c = λ given made h told.
    Ready-more (Grows-trans c.theorem.ensures.grows (Grows-table _ _ c.abstraction.ensures.keeps)) given c.args.self.proof.now.trees c.args.self.env.now
    c.args.args.now.items _ made c.in_ok-tree.tree _
    (c.in_ok-tree.ensures.made ∙ ap₂ (λ a b. Some (Lam (App (Sym c.args.family) a) b))
    (sym (tree_at-Stays c.in_ok-body.ensures.grows.table.stays c.args.index.0 c.requires.index))
    (Holds-tree_at _ c.in_ok-body.body.0 _ (c.in_ok-body.ensures.made given h.stands told)))
    c.in_ok-push.ensures.items h
