use Rattle.std.proofs.Common.{refl, subst, sym, ap, []}
use Rattle.std.specs.Prelude.{IsSome}
use Rattle.compose.specs.Listed.{items_of, list_of, IsNoted}
use Rattle.compose.proofs.ListedLaws.{list_of-kept, noted-alone}
use Rattle.compose.proofs.PoolLaws.{on_err_map, on_ok_map}
use Rattle.compose.proofs.listing.note.Goals as goal

pub returns-in-Some-clause-unchanged : goal.returns-in-Some-clause-unchanged
returns-in-Some-clause-unchanged c =
    on_err_map c.note_among.result
    (λ e. list_of-kept c.args.lists.now.entries _ c.args.concl c.in-Some.list.now c.note_among.new.list c.in-Some.ensures.value
    ((c.get_mut.follows.holds c.note_among.new.list).3 (subst IsSome c.in-Some.ensures.value refl)).0 e)
    c.note_among.ensures.unchanged

pub returns-in-None-clause-noted : goal.returns-in-None-clause-noted
returns-in-None-clause-noted c =
    let held = c.args.held.now in
    let new = list_of c.begin.new.lists.entries c.args.concl in
    on_ok_map c.begin.result
    (λ e. subst (λ l. IsNoted held c.args.place l new) (ap items_of c.in-None.ensures.value)
    (subst (λ l. IsNoted held c.args.place [] l) (sym e) (noted-alone held c.args.place)))
    c.begin.ensures.list
