use Rattle.std.proofs.Common.{◌≡◌, ◌∙◌, Some, sym, ap, subst, slice_get}
use Rattle.name_table.specs.Spellings.{unpacked}
use Rattle.name_table.specs.Places.{with_name}
use Rattle.name_table.specs.NameLaws.{with_name-old}
use Rattle.name_table.proofs.table.NameTable.number_short.Goals as goal

-- the name that was guessed has this number
pub returns-in-Some-clause-names : goal.returns-in-Some-clause-names
returns-in-Some-clause-names c =
    let names = c.self.inside.names.items in
    let at : slice_get names c.in-Some.number ≡ Some (unpacked c.args.key) =
    ap (λ l. slice_get l c.in-Some.number) (sym c.deref.ensures.value) ∙ c.in-Some.ensures in
    subst (λ l. l ≡ with_name l (unpacked c.args.key)) c.self.view_is
    (sym (with_name-old names (unpacked c.args.key) c.in-Some.number (c.self.invariant.once c.in-Some.number (unpacked c.args.key) at)))
