use Rattle.std.proofs.Common.{◌∙◌, sym, ap, refl}
use Rattle.std.specs.Option.{option_copied}
use Rattle.std.specs.Ordering.{nat_cmp}
use Rattle.std.specs.Cmp.Lexicographic.{slice_cmp}
use Rattle.std.specs.Map.{lookup}
use Rattle.std.specs.BTreeMap.{is_at}
use Rattle.name_table.specs.Places.{get_long, ArePlaced}
use Rattle.name_table.specs.NameLaws.{number_of-at, with_name-old}
use Rattle.name_table.proofs.Placed.{ArePlaced-long, ArePlaced-same, added_number, added_names, added_places}
use Rattle.name_table.proofs.table.number_by_longs.Goals as goal

pub returns-in-Some-clause-number : goal.returns-in-Some-clause-number
returns-in-Some-clause-number c = number_of-at _ _ _ (sym c.requires.found ∙ sym c.get.ensures.value ∙ ap option_copied c.in-Some.is)

pub returns-in-Some-clause-names : goal.returns-in-Some-clause-names
returns-in-Some-clause-names c = sym (with_name-old _ _ _ (sym c.requires.found ∙ sym c.get.ensures.value ∙ ap option_copied c.in-Some.is))

pub returns-in-None-clause-number : goal.returns-in-None-clause-number
returns-in-None-clause-number c = added_number _ _ _ _ c.add_long.ensures.number c.add_long.ensures.names

pub returns-in-None-clause-names : goal.returns-in-None-clause-names
returns-in-None-clause-names c = added_names _ _ _ _ (sym c.requires.found ∙ sym c.get.ensures.value ∙ ap option_copied c.in-None.is) c.add_long.ensures.names

pub returns-in-None-clause-placed : goal.returns-in-None-clause-placed
returns-in-None-clause-placed c = λ short a.
    added_places _ _ _ (λ names. ArePlaced short (get_long c.add_long.new.longs) names) _ c.add_long.ensures.names c.add_long.ensures.placed
    c.add_long.ensures.unchanged
    (λ u. ArePlaced-long short c.args.longs.now c.add_long.new.longs c.args.names.now.items c.args.name.now c.requires.long a
    (sym c.get.ensures.value ∙ ap option_copied c.in-None.is) u)
    (λ e. ArePlaced-same short _ (get_long c.args.longs.now) _ _ (λ k. refl) (λ x. ap (lookup (is_at (λ k. slice_cmp nat_cmp x k.items))) e) a)
