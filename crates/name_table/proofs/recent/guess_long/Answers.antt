use Rattle.std.proofs.Common.{◌≡◌, ◌∙◌, Some, sym, ap, slice_get}
use Rattle.std.specs.Cmp.Lexicographic.{same_text}
use Rattle.std.proofs.lemmas.Option.{slice_get-get_or}
use Rattle.name_table.proofs.recent.guess_long.Goals as goal

pub returns-then-is_long : goal.returns-then-is_long
returns-then-is_long c =
    let names = c.args.names.now in
    let number = c.in_ok-number.field-0.now in
    let name = c.in_ok-get.field-0.now in
    let item = c.in_ok-get.ensures.lookup.3 in
    let at : slice_get names number ≡ Some name = slice_get-get_or names number name item.0 ∙ ap Some (sym (item.1 name)) in
    at ∙ ap Some (same_text name c.args.name.now (sym c.if-is_long.true ∙ c.is_long.ensures))
