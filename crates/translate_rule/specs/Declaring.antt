-- What is declared in a module, and of what, for whatever symbols the module tells.
use Rattle.std.specs.Prelude.{◌≡◌, ℕ, List}
use Rattle.hol_spec.specs.Terms.{Term}
use Rattle.hol_spec.specs.Types.{HolType}
use Rattle.holide_sig.specs.declared.decls.Decl.{Decl}
use Rattle.holide_sig.specs.declared.module.Module.{Module}
use Rattle.holide_sig.specs.Modules.{declaration_in, declarations_of}
use Rattle.lp_term.specs.declared.LpId.{LpId}
use Rattle.lp_term.specs.Tables.{Holds}
use Rattle.translate_spec.specs.Items.{Content, declaration_of, definition_tree}
use Rattle.translate_spec.specs.Scopes.{SymbolMap, generic_tree}
use Rattle.image_items_laws.specs.Told.{TellsContent}
use Rattle.translate_rule.specs.declared.items.Item.{Item}
use Rattle.translate_rule.specs.declared.run.Run.{Run}
use Rattle.translate_rule.specs.ItemViews.{accepted, item_content, item_name}
use Rattle.translate_term.specs.Told.{TellsTerm, TellsType}

-- a module tells what a content says
abbrev pub IsTold : Module → Content → Type 0
IsTold m content = (tables : SymbolMap) × TellsContent (declarations_of m) tables content

-- a declaration is that of a content under a name, where the module told before what the content says
abbrev pub IsDeclared : Module → Module → List ℕ → Content → Decl → Type 0
IsDeclared old new name content decl = (tables : SymbolMap) → TellsContent (declarations_of old) tables content → declaration_in new.table decl ≡ declaration_of
    tables name content

-- a declaration is that of an item of a run
abbrev pub IsItemDeclared : Module → Module → Run → List ℕ → Item → Decl → Type 0
IsItemDeclared old new run numbers one decl = IsDeclared old new (item_name (accepted run) one) (item_content run.proof.now numbers one) decl

-- a declaration is that of a content of which nothing has to be told
abbrev pub IsSymbolOf : Module → List ℕ → Content → Decl → Type 0
IsSymbolOf new name content decl = (tables : SymbolMap) → declaration_in new.table decl ≡ declaration_of tables name content

-- a tree is the declared type of a constant with a generic type
abbrev pub IsGenericType : Module → Module → HolType → LpId → Type 0
IsGenericType old new ty r = (tables : SymbolMap) → TellsType (declarations_of old) tables ty → Holds new.table r.0 (generic_tree tables ty)

-- a tree is what a constant of a generic type stands for
abbrev pub IsDefinitionBody : Module → Module → HolType → Term → LpId → Type 0
IsDefinitionBody old new ty term r = (tables : SymbolMap) → TellsTerm (declarations_of old) tables term → Holds new.table r.0 (definition_tree tables ty term)
