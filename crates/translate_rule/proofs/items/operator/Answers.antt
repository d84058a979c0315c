use Rattle.std.proofs.Common.{refl}
use Rattle.translate_rule.proofs.ItemLaws.{symbol-declared, symbol-known}
use Rattle.translate_rule.proofs.items.operator.Goals as goal

pub returns-clause-made : goal.returns-clause-made
returns-clause-made c = λ n tables. symbol-declared _ c.symbol.result _ _ c.in_ok-ty.ty _ c.symbol.ensures refl c.in_ok-ty.ensures.made

pub returns-clause-known : goal.returns-clause-known
returns-clause-known c = symbol-known _ c.symbol.result _ c.in_ok-ty.ty c.symbol.ensures c.in_ok-ty.ensures.known
