use Rattle.std.proofs.Common.{◌≡◌, ◌∙◌, Some, sym, ap, length, subst, arith}
use Rattle.std.specs.Prelude.{if◌then◌else◌}
use Rattle.std.specs.Str.{bytes_eq}
use Rattle.name_table.specs.Places.{get_long}
use Rattle.name_table.proofs.Placed.{get_long-updated}
use Rattle.name_table.proofs.table.add_long.Goals as goal

pub returns-clause-placed : goal.returns-clause-placed
returns-clause-placed c = λ x.
    let long = get_long c.args.longs.now in
    get_long-updated c.args.longs.now c.insert.new.self c.in_ok-key.key (Some c.len-number.result) c.in_ok-insert.ensures.updates x
    ∙ ap (λ bytes. if bytes_eq bytes x then Some c.len-number.result else long x) c.in_ok-key.ensures.items
    ∙ ap (λ n. if bytes_eq c.args.name.now x then Some n else long x)
    (let e : c.len-number.result ≡ length c.args.names.now.items =
    omega (arith, c.len-number.ensures, c.reserve.new.self.ok, ap length c.reserve.ensures.items) in e)
