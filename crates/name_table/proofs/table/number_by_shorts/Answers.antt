use Rattle.std.proofs.Common.{◌∙◌, sym, ap, refl}
use Rattle.std.specs.Option.{option_copied}
use Rattle.std.specs.Ordering.{nat_cmp}
use Rattle.std.specs.Map.{lookup}
use Rattle.std.specs.BTreeMap.{get, is_at}
use Rattle.name_table.specs.Places.{ArePlaced}
use Rattle.name_table.specs.NameLaws.{number_of-at, with_name-old}
use Rattle.name_table.proofs.Placed.{ArePlaced-short, ArePlaced-same, added_number, added_names, added_places}
use Rattle.name_table.proofs.table.number_by_shorts.Goals as goal

pub returns-in-Some-clause-number : goal.returns-in-Some-clause-number
returns-in-Some-clause-number c = number_of-at _ _ _ (sym c.requires.found ∙ sym c.get.ensures.value ∙ ap option_copied c.in-Some.is)

pub returns-in-Some-clause-names : goal.returns-in-Some-clause-names
returns-in-Some-clause-names c = sym (with_name-old _ _ _ (sym c.requires.found ∙ sym c.get.ensures.value ∙ ap option_copied c.in-Some.is))

pub returns-in-None-clause-number : goal.returns-in-None-clause-number
returns-in-None-clause-number c = added_number _ _ _ _ c.add_short.ensures.number c.add_short.ensures.names

pub returns-in-None-clause-names : goal.returns-in-None-clause-names
returns-in-None-clause-names c = added_names _ _ _ _ (sym c.requires.found ∙ sym c.get.ensures.value ∙ ap option_copied c.in-None.is) c.add_short.ensures.names

pub returns-in-None-clause-placed : goal.returns-in-None-clause-placed
returns-in-None-clause-placed c = λ long a.
    added_places _ _ _ (λ names. ArePlaced (get nat_cmp c.add_short.new.shorts) long names) _ c.add_short.ensures.names c.add_short.ensures.placed
    c.add_short.ensures.unchanged
    (λ u. ArePlaced-short c.args.shorts.now c.add_short.new.shorts long c.args.names.now.items c.args.key c.requires.short a
    (sym c.get.ensures.value ∙ ap option_copied c.in-None.is) u)
    (λ e. ArePlaced-same (get nat_cmp c.args.shorts.now) _ long _ _ (λ k. ap (lookup (is_at (nat_cmp k))) e) (λ x. refl) a)
