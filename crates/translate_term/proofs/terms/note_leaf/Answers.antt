use Rattle.std.proofs.Common.{◌≡◌, ◌∙◌, refl, sym, ap, Some, arith}
use Rattle.lp_spec.specs.Trees.{lift}
use Rattle.lp_binding_laws.specs.Composition.{lift_zero}
use Rattle.lp_term.specs.Tables.{tree_at}
use Rattle.lp_term.specs.TableLaws.{tree_at-Holds}
use Rattle.translate_term.specs.GrowLaws.{Grows-refl}
use Rattle.translate_term.proofs.EndsLaws.{OnOk-map, OnOk-map3}
use Rattle.translate_term.proofs.TermTurns.{leaf_noted, leaf_noted-then}
use Rattle.translate_term.proofs.terms.note_leaf.Goals as goal

pub returns-then-place-eq0-clause-made : goal.returns-then-place-eq0-clause-made
returns-then-place-eq0-clause-made c =
    let e : c.args.place.depth ≡ 0 = omega (arith, c.if-place-eq0.true) in
    let tree = tree_at c.args.target.now.table c.args.tree.0 in
    let held = tree_at-Holds c.args.target.now.table c.args.tree.0 c.requires ∙ ap Some (sym (ap (λ d. lift d tree) e ∙ lift_zero tree)) in
    OnOk-map3 c.note.result (λ only new kept. leaf_noted c.args.place _ _ _ _ c.args.tree held only new kept)
    c.note.ensures.noted c.note.ensures.new c.note.ensures.kept

pub returns-then-place-eq0-clause-grows : goal.returns-then-place-eq0-clause-grows
returns-then-place-eq0-clause-grows c = Grows-refl _

pub returns-clause-made : goal.returns-clause-made
returns-clause-made c =
    let tree = tree_at c.args.target.now.table c.args.tree.0 in
    let held = tree_at-Holds c.args.target.now.table c.args.tree.0 c.requires ∙ ap Some (sym (lift_zero tree)) in
    let e = c.in_ok-note.ensures in
    let only = rw c.at.ensures at e.noted in
    let new = rw c.at.ensures at e.new in
    let kept = rw c.at.ensures at e.kept in
    OnOk-map c.note_lifted.result
    (λ made. leaf_noted-then c.args.place (record { id = c.args.place.id; depth = 0 }) _ _ _ _ _ _ refl c.note_lifted.ensures.grows.table
    (leaf_noted _ _ _ _ _ c.args.tree held only new kept) made)
    c.note_lifted.ensures.made
