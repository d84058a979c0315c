use Rattle.std.proofs.Common.{sym, ap, arith}
use Rattle.std.specs.Prelude.{option_map, option_and_then}
use Rattle.lp_spec.specs.Modules.{Declaration}
use Rattle.holide_sig.specs.ModuleLaws.{symbol_declaration-beyond}
use Rattle.share_spec.specs.Abbreviations.{provided, is_solid}
use Rattle.share.proofs.questions.symbol.Goals as goal

pub returns-then-symbol-len : goal.returns-then-symbol-len
returns-then-symbol-len c = (
  tt,
  ap (λ o. option_and_then (λ t. provided (is_solid t) t) (option_map (λ (d : Declaration). d.ty) o))
      (sym (symbol_declaration-beyond c.args.source.now.table c.args.source.now.decls c.args.symbol
      (omega (arith, c.if-symbol-len.true, c.len.ensures.count)))),
)
