use Rattle.std.proofs.Common.{◌≡◌, true, arith, sym, ◌∙◌, ap}
use Rattle.std.specs.Str.{bytes_eq}
use Rattle.std.specs.Prelude.{string_bytes}
use Rattle.bridge_base.proofs.Places.{lookup-place}
use Rattle.bridge_base.proofs.folder.place_of.Goals as goal

pub returns-then-eq-clause-place : goal.returns-then-eq-clause-place
returns-then-eq-clause-place c =
    let entry = c.index-entries-place.result in
    let passes : bytes_eq c.args.name.now (string_bytes entry.0) ≡ true =
    ap (bytes_eq c.args.name.now) (sym c.as_str.ensures.value) ∙ sym c.eq.ensures ∙ c.if-eq.true in
    sym (lookup-place (bytes_eq c.args.name.now) c.args.entries.now c.loop-place.place entry (omega arith) c.index-entries-place.is passes)
    ∙ sym c.loop-place.invariant
