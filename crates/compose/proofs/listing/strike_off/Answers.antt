use Rattle.std.proofs.Common.{subst, sym, ◌≡◌, ◌<◌, length}
use Rattle.compose.specs.Listed.{place_at, IsStruck}
use Rattle.compose.proofs.ListedLaws.{struck}
use Rattle.compose.proofs.listing.strike_off.Goals as goal

pub returns-in-Some : goal.returns-in-Some
returns-in-Some c held h =
    let list = c.args.list.now.items in
    subst (λ l. IsStruck held c.args.place list l) (sym c.remove-struck.ensures.items)
    (struck held list c.args.place c.in-Some.at (subst (λ l. c.in-Some.at < length l) c.deref.ensures.value c.in-Some.ensures.within)
    (subst (λ l. place_at l c.in-Some.at ≡ c.args.place) c.deref.ensures.value c.in-Some.ensures.found) h)
