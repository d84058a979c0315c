use Rattle.std.proofs.Common.{ap, sym, ◌∙◌, []}
use Rattle.std.specs.Option.{option_map_or}
use Rattle.std.specs.Prelude.{option_map}
use Rattle.holide_sig.specs.Modules.{declaration_in}
use Rattle.holide_sig.specs.ModuleLaws.{symbol_declaration-behind}
use Rattle.holide_sig.proofs.module.Module.symbol_name.Goals as goal

pub returns-else-symbol-lt-SIGNATURE : goal.returns-else-symbol-lt-SIGNATURE
returns-else-symbol-lt-SIGNATURE c =
    c.as_bytes.ensures
    ∙ sym (ap (λ o. option_map_or (λ d. d.name) o [])
    (symbol_declaration-behind c.args.self.now.table c.args.self.now.decls c.args.symbol c.if-symbol-lt-SIGNATURE.false
    ∙ ap (option_map (declaration_in c.args.self.now.table)) c.get.ensures))
