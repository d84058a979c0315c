use Rattle.std.proofs.lemmas.Result.{on_ok_weaker}
use Rattle.holide_sig.specs.Modules.{declarations_of}
use Rattle.share.proofs.ListingLaws.{entries-stay, listing-after, lists-not, lists-one, on_ok_both}
use Rattle.share.proofs.listing.list_shared.Goals as goal

pub returns-then-is_twice-clause-listing : goal.returns-then-is_twice-clause-listing
returns-then-is_twice-clause-listing c =
    let l = c.list_abbreviation in
    on_ok_weaker l.result
    (λ h. listing-after c.args.source.now l.new.source _ c.args.listing.now l.new.listing c.args.id _ l.ensures.decls l.ensures.keeps c.requires.known
    c.requires.listing h.0 h.1) (on_ok_both l.result _ _ l.ensures.asking l.ensures.adds)

pub returns-then-is_twice-clause-more : goal.returns-then-is_twice-clause-more
returns-then-is_twice-clause-more c =
    let l = c.list_abbreviation in
    let m = declarations_of c.args.source.now in
    let q = c.requires.listing in
    on_ok_weaker l.result
    (λ h. lists-one m c.args.source.now.table l.new.source.table _ _ c.args.counts.now c.args.id c.is_twice.result l.ensures.keeps q.within c.requires.known
    (entries-stay m _ _ _ _ _ l.ensures.keeps q.within q.known) c.is_twice.ensures c.if-is_twice.true h) l.ensures.adds

pub returns-else-is_twice-clause-more : goal.returns-else-is_twice-clause-more
returns-else-is_twice-clause-more c = lists-not _ _ _ _ c.args.id c.is_twice.result c.requires.listing.within c.requires.known c.is_twice.ensures
    c.if-is_twice.false
