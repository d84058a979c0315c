use Rattle.std.proofs.Common.{subst, sym}
use Rattle.compose.specs.Listed.{set_at, IsFound, IsBetween, IsNoted}
use Rattle.compose.proofs.ListedLaws.{noted-known, noted-new}
use Rattle.compose.proofs.listing.note_among.Goals as goal

pub returns-in-Ok-clause-noted : goal.returns-in-Ok-clause-noted
returns-in-Ok-clause-noted c =
    let held = c.args.held.now in
    noted-known held c.args.list.now.items c.args.place c.in-Ok._known c.requires.within c.requires.ordered c.requires.last
    (subst (λ l. IsFound held l (set_at held c.args.place) c.in-Ok._known) c.deref.ensures.value
    (subst (λ s. IsFound held c.deref.result.now s c.in-Ok._known) c.hyps_at.ensures c.in-Ok.ensures.found))

pub returns-in_ok-insert-in-Err-clause-noted : goal.returns-in_ok-insert-in-Err-clause-noted
returns-in_ok-insert-in-Err-clause-noted c =
    let held = c.args.held.now in
    subst (λ l. IsNoted held c.args.place c.args.list.now.items l) (sym c.in_ok-insert-in-Err.ensures.items)
    (noted-new held c.args.list.now.items c.args.place c.in-Err.at c.requires.ordered
    (subst (λ l. IsBetween held l (set_at held c.args.place) c.in-Err.at c.in-Err.at) c.deref.ensures.value
    (subst (λ s. IsBetween held c.deref.result.now s c.in-Err.at c.in-Err.at) c.hyps_at.ensures c.in-Err.ensures.between)))
