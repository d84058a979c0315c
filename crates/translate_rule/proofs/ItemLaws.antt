-- The declarations of the items of symbols.
use Rattle.std.proofs.Common.{◌≡◌, ℕ, ◌<◌, refl, sym, ap, ◌∙◌, subst, List, [], length, map, None, Some}
use Rattle.std.specs.Prelude.{replicate}
use Rattle.std.proofs.Math.Path.{ap₂, fun_ext}
use Rattle.hol_spec.specs.Names.{Name}
use Rattle.hol_spec.specs.Primitives.{generic}
use Rattle.hol_spec.specs.Terms.{Term}
use Rattle.hol_spec.specs.Types.{HolType, type_variables}
use Rattle.hol_term.specs.declared.Variable.{Variable as AVariable}
use Rattle.holide_sig.specs.declared.decls.Decl.{Decl}
use Rattle.holide_sig.specs.Modules.{declaration_in, IsKnown}
use Rattle.lp_spec.specs.declared.form.Form.TheVariants.{Symbol, Def}
use Rattle.lp_spec.specs.Modules.{Declaration, abstractions, products, symbol, term_of, types}
use Rattle.lp_spec.specs.Trees.{Tree, Pi, Var}
use Rattle.lp_term.specs.declared.LpId.{LpId}
use Rattle.lp_term.specs.Tables.{tree_at, Holds}
use Rattle.lp_term.specs.TableLaws.{Holds-tree_at}
use Rattle.translate_spec.specs.Items.{Content, declaration_of, definition_tree}
use Rattle.translate_spec.specs.Scopes.{SymbolMap, filled, generic_tree, term_tree, type_tree, under_types, unfilled}
use Rattle.translate_laws.specs.ListedScopes.{told, told_types}
use Rattle.translate_term.specs.Told.{types_in, terms_in}
use Rattle.translate_proof.specs.Environments.{TellTypes}
use Rattle.translate_rule.proofs.GenericLaws.{binders-of}

-- a symbol without a body
pub symbol-declared : (trees : List Tree) (d : Decl) (name text : List ℕ) (ty : LpId) (tree : Tree) → d
    ≡ record { name = text; form = Symbol; ty = ty; body = None } → text ≡ name → Holds trees ty.0 tree → declaration_in trees d ≡ symbol name tree
symbol-declared trees d name text ty tree is e h = ap (declaration_in trees) is ∙ ap₂ (λ n t. symbol n t) e (Holds-tree_at trees ty.0 tree h)

pub symbol-known : (trees : List Tree) (d : Decl) (text : List ℕ) (ty : LpId) → d ≡ record { name = text; form = Symbol; ty = ty; body = None }
    → ty.0 < length trees → IsKnown trees d
symbol-known trees d text ty is h = subst (IsKnown trees) (sym is) (record { ty = h; body = tt })

-- The type of an input constant
pub generic-is : (symbols : SymbolMap) → generic_tree symbols generic ≡ Pi types (term_of (Var 0))
generic-is symbols = refl

pub binders-are : (names vars : List Name) (count : ℕ) → names ≡ vars → count ≡ length names → replicate count types ≡ map (λ (n : Name). types) vars
binders-are names vars count e c = ap (λ n. replicate n types) c ∙ binders-of names ∙ ap (map (λ (n : Name). types)) e

-- what a scope tells, as a function
scope-is : (trees : List Tree) (entries : List (Name × LpId)) (names vars : List Name) → names ≡ vars → TellTypes trees entries (under_types names unfilled)
    → told_types (types_in trees entries) ≡ under_types vars unfilled
scope-is trees entries names vars e h = fun_ext h.each ∙ ap (λ l. under_types l unfilled) e

-- The type of a constant
pub generic-made : (symbols : SymbolMap) (t : HolType) (scoped mid inner new : List Tree) (entries : List (Name × LpId)) (names : List Name) (count : ℕ)
    (tree inside r : LpId) → names ≡ type_variables t → count ≡ length names → TellTypes scoped entries (under_types names unfilled)
    → Holds mid tree.0 (type_tree symbols (told_types (types_in scoped entries)) t) → Holds inner inside.0 (term_of (tree_at mid tree.0))
    → Holds new r.0 (products (replicate count types) (tree_at inner inside.0)) → Holds new r.0 (generic_tree symbols t)
generic-made symbols t scoped mid inner new entries names count tree inside r e c scope is terms made =
    made
    ∙ ap Some (ap₂ products (binders-are names (type_variables t) count e c)
    (Holds-tree_at inner inside.0 _ terms ∙ ap term_of
    (Holds-tree_at mid tree.0 _ is ∙ ap (λ s. type_tree symbols s t) (scope-is scoped entries names (type_variables t) e scope))))

-- What a constant stands for
pub definition-made : (symbols : SymbolMap) (a : HolType) (t : Term) (types_of : List HolType) (scoped mid new : List Tree) (entries : List (Name × LpId))
    (others : List (AVariable × LpId)) (names : List Name) (count : ℕ) (tree r : LpId) → names ≡ type_variables a → count ≡ length names
    → TellTypes scoped entries (under_types names unfilled) → others ≡ []
    → Holds mid tree.0 (term_tree symbols (told symbols (types_in scoped entries) (terms_in types_of scoped others)) t)
    → Holds new r.0 (abstractions (replicate count types) (tree_at mid tree.0)) → Holds new r.0 (definition_tree symbols a t)
definition-made symbols a t types_of scoped mid new entries others names count tree r e c scope none is made =
    made
    ∙ ap Some (ap₂ abstractions (binders-are names (type_variables a) count e c)
    (Holds-tree_at mid tree.0 _ is ∙ ap (λ os. term_tree symbols (told symbols (types_in scoped entries) (terms_in types_of scoped os)) t) none
    ∙ ap (λ s. term_tree symbols (filled symbols s) t) (scope-is scoped entries names (type_variables a) e scope)))

-- a constant with a body
pub defined-declared : (trees : List Tree) (name text : List ℕ) (ty body : LpId) (tree inside : Tree) → text ≡ name → Holds trees ty.0 tree
    → Holds trees body.0 inside
    → declaration_in trees (record { name = text; form = Def; ty = ty; body = Some body }) ≡ record { name = name; form = Def; ty = tree; body = Some inside }
defined-declared trees name text ty body tree inside e h k =
    let p = Holds-tree_at trees ty.0 tree h in
    let q = Holds-tree_at trees body.0 inside k in
    λ i. record { name = e i; form = Def; ty = p i; body = Some (q i) }

-- an operator by its name
pub operator-named : (symbols : SymbolMap) {d : Declaration} (text name : List ℕ) (n : Name) (k : ℕ) → d ≡ declaration_of symbols text (Content.operator n k)
    → text ≡ name → d ≡ declaration_of symbols name (Content.operator n k)
operator-named symbols text name n k is e = is ∙ ap (λ t. declaration_of symbols t (Content.operator n k)) e
