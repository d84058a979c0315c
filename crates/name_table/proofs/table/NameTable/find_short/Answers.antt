use Rattle.std.proofs.Common.{◌≡◌, ◌∙◌, Some, sym, ap, subst, slice_get}
use Rattle.name_table.specs.Spellings.{unpacked}
use Rattle.name_table.specs.Places.{number_of}
use Rattle.name_table.proofs.table.NameTable.find_short.Goals as goal

-- the name that was guessed has this number
pub returns-in-Some : goal.returns-in-Some
returns-in-Some c =
    let names = c.self.inside.names.items in
    let at : slice_get names c.in-Some.number ≡ Some (unpacked c.args.key) =
    ap (λ l. slice_get l c.in-Some.number) (sym c.deref.ensures.value) ∙ c.in-Some.ensures in
    subst (λ l. Some c.in-Some.number ≡ number_of l (unpacked c.args.key)) c.self.view_is
    (sym (c.self.invariant.once c.in-Some.number (unpacked c.args.key) at))
