use Rattle.std.proofs.Common.{arith, ap, sym, []}
use Rattle.std.specs.Option.{option_map_or}
use Rattle.holide_sig.specs.ModuleLaws.{symbol_declaration-beyond}
use Rattle.dk_write.proofs.tree.symbol_name.Goals as goal

pub returns-else-symbol-len : goal.returns-else-symbol-len
returns-else-symbol-len c =
    let beyond = symbol_declaration-beyond c.args.source.now.table c.args.source.now.decls c.args.symbol
    (omega (arith, c.len.ensures.count, c.if-symbol-len.false)) in
    sym (ap (λ o. option_map_or (λ d. d.name) o []) beyond)
