use Rattle.std.proofs.Common.{◌≡◌, arith, map, subst, take}
use Rattle.share_spec.specs.Folded.{kept}
use Rattle.share.specs.Listings.{entries_in}
use Rattle.share.proofs.ListingLaws.{kept-known, kept-next}
use Rattle.share.proofs.listing.list_kept.Goals as goal

pub loop-i-preserved : goal.loop-i-preserved
loop-i-preserved c =
    let i = c.loop-i.invariant in
    record {
      listed = λ m ts l. kept-next m ts c.loop-i.i c.loop-i.entries.items c.push.new.self.items c.in_ok-push.ensures.items l (i.listed m ts (omega (arith, l)));
      known = λ n b t l. kept-known n b t c.loop-i.i c.loop-i.entries.items c.push.new.self.items c.in_ok-push.ensures.items l
          (i.known n b t (omega (arith, l)));
    }

pub returns-clause-listed : goal.returns-clause-listed
returns-clause-listed c = λ m ts l.
    let e : c.loop-i.i ≡ c.args.count = omega (arith, c.loop-i-test.false, c.loop-i.auto.i-end) in
    subst (λ k. entries_in m ts c.loop-i.entries.items ≡ map kept (take k m)) e (c.loop-i.invariant.listed m ts (omega (arith, l, e)))
