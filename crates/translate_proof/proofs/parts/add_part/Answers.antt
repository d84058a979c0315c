use Rattle.std.proofs.Common.{◌∙◌, sym, Some, arith}
use Rattle.std.proofs.Math.Path.{ap₂}
use Rattle.lp_spec.specs.Modules.{term_of}
use Rattle.lp_spec.specs.Trees.{App, Lam, Var}
use Rattle.lp_term.specs.TableLaws.{Holds-tree_at, Holds-within, tree_at-Stays}
use Rattle.translate_term.specs.GrowLaws.{Grows-trans, Grows-table}
use Rattle.translate_proof.proofs.StandTrees.{Ready-more}
use Rattle.translate_proof.proofs.parts.add_part.Goals as goal

pub at_variable-requires : goal.at_variable-requires
at_variable-requires c = Holds-within _ c.in_ok-part.part.0 _
    (c.in_ok-part.ensures.made c.requires.told.0 c.requires.told.1 c.requires.told.2 c.requires.told.3)

pub abstraction-requires-clause-index : goal.abstraction-requires-clause-index
abstraction-requires-clause-index c = omega (arith, c.requires.domain, c.part_call.ensures.grows.table.longer, c.at_variable.ensures.keeps.longer)

pub abstraction-requires-clause-body : goal.abstraction-requires-clause-body
abstraction-requires-clause-body c = Holds-within _ c.in_ok-body.body.0 _ c.in_ok-body.ensures.made

pub returns-in_err-body-clause-grows : goal.returns-in_err-body-clause-grows
returns-in_err-body-clause-grows c = Grows-trans c.part_call.ensures.grows (Grows-table _ _ c.at_variable.ensures.keeps)

pub returns-in_err-tree-clause-grows : goal.returns-in_err-tree-clause-grows
returns-in_err-tree-clause-grows c = Grows-trans c.part_call.ensures.grows
    (Grows-trans (Grows-table _ _ c.at_variable.ensures.keeps) (Grows-table _ _ c.abstraction.ensures.keeps))

pub returns-in_err-push-clause-grows : goal.returns-in_err-push-clause-grows
returns-in_err-push-clause-grows c = Grows-trans c.part_call.ensures.grows
    (Grows-trans (Grows-table _ _ c.at_variable.ensures.keeps) (Grows-table _ _ c.abstraction.ensures.keeps))

pub returns-clause-grows : goal.returns-clause-grows
returns-clause-grows c = Grows-trans c.part_call.ensures.grows
    (Grows-trans (Grows-table _ _ c.at_variable.ensures.keeps) (Grows-table _ _ c.abstraction.ensures.keeps))

pub returns-clause-ready : goal.returns-clause-ready
returns-clause-ready c = λ given made h whole told.
    let grows = Grows-trans c.part_call.ensures.grows (Grows-trans (Grows-table _ _ c.at_variable.ensures.keeps) (Grows-table _ _ c.abstraction.ensures.keeps))
    in
    let before = Grows-trans c.part_call.ensures.grows (Grows-table _ _ c.at_variable.ensures.keeps) in
    let part = Holds-tree_at _ c.in_ok-part.part.0 _ (c.in_ok-part.ensures.made given h.stands whole told) in
    let body = Holds-tree_at _ c.in_ok-body.body.0 _ c.in_ok-body.ensures.made in
    Ready-more grows given c.args.ground.proof.now.trees c.args.ground.env.now c.args.args.now.items _ made c.in_ok-tree.tree _
    (c.in_ok-tree.ensures.made ∙ ap₂ (λ a b. Some (Lam (term_of a) b)) (sym (tree_at-Stays before.table.stays c.args.domain.0 c.requires.domain))
    (body ∙ (λ i. App (part i) (Var 0)))) c.in_ok-push.ensures.items h
