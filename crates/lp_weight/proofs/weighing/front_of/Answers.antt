use Rattle.std.proofs.Common.{arith, ap}
use Rattle.std.specs.Prelude.{option_map}
use Rattle.holide_sig.specs.ModuleLaws.{symbol_declaration-beyond}
use Rattle.lp_weight.proofs.HeadLaws.{symbol-front, no_symbol-front}
use Rattle.lp_weight.proofs.weighing.front_of.Goals as goal

pub returns-then-symbol-len : goal.returns-then-symbol-len
returns-then-symbol-len c = symbol-front c.args.base.now c.args.symbol c.symbol_type.result c.symbol_type.ensures.known c.symbol_type.ensures.is

pub returns-else-symbol-len : goal.returns-else-symbol-len
returns-else-symbol-len c =
    let beyond = symbol_declaration-beyond c.args.base.now.table c.args.base.now.decls c.args.symbol (omega (arith, c.len.ensures.count, c.if-symbol-len.false))
    in
    no_symbol-front c.args.base.now c.args.symbol (ap (option_map (λ d. d.ty)) beyond)
