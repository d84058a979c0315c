use Rattle.std.proofs.Common.{ap, subst, sym, ◌∙◌, ◌<◌, length}
use Rattle.std.specs.Prelude.{IfSome, option_and_then, option_map}
use Rattle.lp_spec.specs.Modules.{signature}
use Rattle.lp_spec.specs.ShortNames.{short_body}
use Rattle.lp_term.specs.Tables.{tree_at}
use Rattle.holide_sig.proofs.ShortBodies.{short_id-tree, short_id-known}
use Rattle.holide_sig.specs.Modules.{declaration_in}
use Rattle.holide_sig.specs.ModuleLaws.{AreDeclsKnown-slice_get, symbol_declaration-behind}
use Rattle.holide_sig.proofs.module.Module.short_body.Goals as goal

pub returns-else-symbol-lt-SIGNATURE-clause-is : goal.returns-else-symbol-lt-SIGNATURE-clause-is
returns-else-symbol-lt-SIGNATURE-clause-is c =
    ap (option_map (λ id. tree_at c.args.self.now.table id.0)) c.short_tree.ensures
    ∙ short_id-tree c.args.self.now.table c.get.result.now
    ∙ sym (ap (option_and_then short_body) (symbol_declaration-behind c.args.self.now.table c.args.self.now.decls c.args.symbol c.if-symbol-lt-SIGNATURE.false
    ∙ ap (option_map (declaration_in c.args.self.now.table)) c.get.ensures))

pub returns-else-symbol-lt-SIGNATURE-clause-known : goal.returns-else-symbol-lt-SIGNATURE-clause-known
returns-else-symbol-lt-SIGNATURE-clause-known c =
    subst (λ r. IfSome r (λ id. id.0 < length c.args.self.now.table)) (sym c.short_tree.ensures)
    (short_id-known c.args.self.now.table c.get.result.now
    (AreDeclsKnown-slice_get c.args.self.now.table c.args.self.now.decls _ _ c.requires.held.decls c.get.ensures))
