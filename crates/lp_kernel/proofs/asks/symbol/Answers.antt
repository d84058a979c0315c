use Rattle.std.proofs.Common.{arith, ap, sym}
use Rattle.std.specs.Prelude.{option_map}
use Rattle.holide_sig.specs.ModuleLaws.{symbol_declaration-beyond}
use Rattle.lp_kernel.proofs.asks.symbol.Goals as goal

pub returns-else-s-len-clause-is : goal.returns-else-s-len-clause-is
returns-else-s-len-clause-is c =
    let beyond = symbol_declaration-beyond c.args.base.now.table c.args.base.now.decls c.args.s (omega (arith, c.len.ensures.count, c.if-s-len.false)) in
    ap (option_map (λ d. d.ty)) beyond
