use Rattle.std.proofs.Common.{refl, sym, ◌∙◌, inr, arith}
use Rattle.hol_type.proofs.MatchTurns.{meets_variable, meets_operator, never, never_named, never_counted, never_variable, names_differ, names_same, with_pairs_less}
use Rattle.hol_type.proofs.matching.meet_new.Goals as goal
use Rattle.hol_type.proofs.matching.meet_new.Goals.{then-ne-via-then-ne, then-ne-via-else-ne+then-parts-images}

pub view-requires : goal.view-requires
view-requires c = (c.requires.matching.2.known c.args.part c.args.image (inr (0, refl))).0

pub view-requires-2 : goal.view-requires-2
view-requires-2 c = (c.requires.matching.2.known c.args.part c.args.image (inr (0, refl))).1

pub returns-then-ne-clause-turn : goal.returns-then-ne-clause-turn
returns-then-ne-clause-turn c = elim c.then-ne.branch [
  | then-ne-via-then-ne w ↦ never _ _ _ _ _ _
      (never_named _ _ _ _ _ _ _ c.in-Op-Op.ensures.is c.in-Op-Op.ensures'.is (names_differ _ _ (sym c.ne.ensures ∙ w.if-ne.true)))
  | then-ne-via-else-ne+then-parts-images w ↦ never _ _ _ _ _ _
      (never_counted _ _ _ _ _ _ _ c.in-Op-Op.ensures.is c.in-Op-Op.ensures'.is w.if-parts-images.true)
]

pub returns-in_ok-note-in-Var-default-clause-turn : goal.returns-in_ok-note-in-Var-default-clause-turn
returns-in_ok-note-in-Var-default-clause-turn c =
    let e = c.in_ok-note-in-Var-default.ensures in
    rw (c.in_ok-push-in-Var-default.ensures.items, c.in_ok-clone-in-Var-default.ensures.cases)
    (meets_variable _ _ _ _ _ _ _ c.requires.new e.noted e.new e.kept c.in-Var-default.name.now c.in-Var-default.ensures.is)

pub returns-in_ok-note-in-Op-Op-clause-turn : goal.returns-in_ok-note-in-Op-Op-clause-turn
returns-in_ok-note-in-Op-Op-clause-turn c =
    let e = c.in_ok-note-in-Op-Op.ensures in
    let k = rw (← names_same c.in-Op-Op.name.now c.in-Op-Op.other.now (sym c.ne.ensures ∙ c.if-ne.false)) at c.in-Op-Op.ensures'.is in
    rw c.in_ok-set_out-in-Op-Op.ensures
    (meets_operator _ _ _ _ _ _ _ c.requires.new e.noted e.new e.kept c.in-Op-Op.name.now c.in-Op-Op.parts.now c.in-Op-Op.images.now c.in-Op-Op.ensures.is k
    c.in-Op-Op.ensures.lower c.in-Op-Op.ensures'.lower (omega (arith, c.if-parts-images.false)))

pub returns-in_ok-note-in-Op-Op-clause-less : goal.returns-in_ok-note-in-Op-Op-clause-less
returns-in_ok-note-in-Op-Op-clause-less c = rw c.in_ok-set_out-in-Op-Op.ensures (with_pairs_less _ c.args.part _ _ _ _ c.in-Op-Op.ensures.is)

pub returns-in-Op-Var-clause-turn : goal.returns-in-Op-Var-clause-turn
returns-in-Op-Var-clause-turn c = never _ _ _ _ _ _ (never_variable _ _ _ _ _ _ c.in-Op-Var.ensures.is c.in-Op-Var.ensures'.is)
