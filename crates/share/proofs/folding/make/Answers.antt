use Rattle.std.proofs.Common.{arith, length, subst, sym, ◌-◌, ◌∙◌}
use Rattle.std.proofs.lemmas.List.{length-map}
use Rattle.std.proofs.lemmas.Result.{on_ok_weaker}
use Rattle.holide_sig.specs.Modules.{declaration_in, declarations_of}
use Rattle.holide_sig.specs.ModuleLaws.{IsHeld-Keeps}
use Rattle.share_spec.specs.Folded.{entries_of, place_in}
use Rattle.share.specs.Listings.{AreListed}
use Rattle.share.specs.Moving.{AreMade}
use Rattle.share.proofs.ListingLaws.{AreListed-bodies}
use Rattle.share.proofs.PlacingLaws.{entries-count}
use Rattle.share.proofs.FoldingLaws.{all-declared, all-follow, all-made}
use Rattle.share.proofs.folding.make.Goals as goal

pub overflow_sub-more : goal.overflow_sub-more
overflow_sub-more c =
    let s = c.args.source.now in
    omega (
      arith,
      c.len.ensures.count,
      entries-count (declarations_of s) s.table c.args.entries.now c.requires.listed,
      length-map s.decls (declaration_in s.table),
    )

pub declare-requires-clause-listed : goal.declare-requires-clause-listed
declare-requires-clause-listed c =
    let s = c.args.source.now in
    let n = length s.decls in
    let above = c.above_types-count.ensures in
    subst (λ xs. AreListed n (length xs) (length xs) c.args.entries.now) (sym c.deref-2.ensures.value)
    (subst (λ k. AreListed n k k c.args.entries.now) (sym c.in_ok-make_moved.ensures.count)
    (AreListed-bodies n c.above_types-count.result c.args.top c.above_types-count.result c.args.entries.now above.more
    (above.listed n c.args.top (length s.table) c.requires.known)))

pub declare-requires-clause-held : goal.declare-requires-clause-held
declare-requires-clause-held c = IsHeld-Keeps c.args.target.now c.make_moved.new.target c.in_ok-make_moved.ensures.keeps c.requires.target

pub declare-requires-clause-follow : goal.declare-requires-clause-follow
declare-requires-clause-follow c =
    let s = c.args.source.now in
    let q = c.requires in
    let place = place_in (entries_of (declarations_of s)) in
    let sum = entries-count (declarations_of s) s.table c.args.entries.now q.listed in
    let made = all-made s c.make_moved.new.target c.args.entries.now c.deref.result.now (length c.args.entries.now - c.len.result) c.make_moved.new.made.items
    q.listed (c.deref.ensures.value ∙ c.in_ok-kept_places.ensures.places)
    (omega (arith, c.len.ensures.count, sum, length-map s.decls (declaration_in s.table))) c.in_ok-make_moved.ensures.made in (
      place,
      subst (λ xs. AreMade place s.table c.make_moved.new.target xs) (sym c.deref-2.ensures.value) made,
      all-follow s (record { table = c.make_moved.new.target; decls = c.args.target.now.decls }) c.args.entries.now q.empty q.listed q.is_module q.long
          q.shaped,
    )

pub returns-clause-folded : goal.returns-clause-folded
returns-clause-folded c =
    let s = c.args.source.now in
    let q = c.requires in
    let place = place_in (entries_of (declarations_of s)) in
    let sum = entries-count (declarations_of s) s.table c.args.entries.now q.listed in
    let made = all-made s c.make_moved.new.target c.args.entries.now c.deref.result.now (length c.args.entries.now - c.len.result) c.make_moved.new.made.items
    q.listed (c.deref.ensures.value ∙ c.in_ok-kept_places.ensures.places)
    (omega (arith, c.len.ensures.count, sum, length-map s.decls (declaration_in s.table))) c.in_ok-make_moved.ensures.made in
    on_ok_weaker c.declare.result
    (λ h. all-declared s (record { table = c.make_moved.new.target; decls = c.args.target.now.decls }) c.args.entries.now _ q.empty q.listed
    (h place (subst (λ xs. AreMade place s.table c.make_moved.new.target xs) (sym c.deref-2.ensures.value) made))) c.declare.ensures.declared
