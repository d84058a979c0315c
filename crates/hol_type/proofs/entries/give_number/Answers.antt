use Rattle.std.proofs.Common.{◌≡◌, ◌∙◌, ap, length, Some, subst, arith}
use Rattle.std.proofs.lemmas.Grind.{common_steps}
use Rattle.std.specs.Prelude.{vec_len}
use Rattle.std.specs.BTreeMap.{Updates}
use Rattle.hol_type.specs.Numbered.{node_cmp}
use Rattle.hol_type.proofs.entries.give_number.Goals as goal

pub returns-clause-numbers : goal.returns-clause-numbers
returns-clause-numbers c =
    let count : vec_len c.reserve.new.self ≡ length c.reserve.new.self.items = grind (arith, common_steps) in
    let place = c.len-number.ensures ∙ count ∙ ap length c.reserve.ensures.items in
    let updated = subst (λ n. Updates node_cmp c.args.numbers.now c.insert.new.self c.in_ok-key.key (Some n)) place c.in_ok-insert.ensures.updates in
    (c.in_ok-key.key, c.in_ok-key.ensures, updated)
