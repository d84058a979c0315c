use Rattle.std.proofs.Common.{ap, ◌∙◌}
use Rattle.std.specs.Prelude.{option_map}
use Rattle.holide_sig.specs.Modules.{declaration_in}
use Rattle.holide_sig.specs.ModuleLaws.{AreDeclsKnown-slice_get, symbol_declaration-behind}
use Rattle.holide_sig.proofs.module.Module.symbol_type.Goals as goal

pub returns-else-symbol-lt-SIGNATURE-clause-is : goal.returns-else-symbol-lt-SIGNATURE-clause-is
returns-else-symbol-lt-SIGNATURE-clause-is c =
    ap (option_map (λ d. d.ty))
    (symbol_declaration-behind c.args.self.now.table c.args.self.now.decls c.args.symbol c.if-symbol-lt-SIGNATURE.false
    ∙ ap (option_map (declaration_in c.args.self.now.table)) c.get.ensures)

pub returns-else-symbol-lt-SIGNATURE-clause-known : goal.returns-else-symbol-lt-SIGNATURE-clause-known
returns-else-symbol-lt-SIGNATURE-clause-known c =
    (AreDeclsKnown-slice_get c.args.self.now.table c.args.self.now.decls _ _ c.requires.held.decls c.get.ensures).ty
