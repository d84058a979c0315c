-- Free variables and constants under no binder.
use Rattle.std.proofs.Common.{◌≡◌, ℕ, ◌<◌, sym, ap, ◌∙◌, subst, List, length, map, Option, Some, None}
use Rattle.std.specs.Prelude.{IsSome, is_some}
use Rattle.std.specs.Option.{unwrap_or}
use Rattle.std.specs.Map.{lookup}
use Rattle.std.proofs.Math.Path.{fun_ext, ap₂}
use Rattle.hol_spec.specs.Names.{Name}
use Rattle.hol_spec.specs.Types.{HolType}
use Rattle.hol_spec.specs.Terms.{free, constant, variable_eq}
use Rattle.hol_spec.specs.Substitution.{type_arguments}
use Rattle.hol_type.specs.declared.table.TypeId.{TypeId}
use Rattle.hol_type.specs.Tables as type
use Rattle.hol_term.specs.declared.Variable.{Variable}
use Rattle.lp_spec.specs.Trees.{Tree, Sym}
use Rattle.lp_spec.specs.Modules.{applied}
use Rattle.lp_binding_laws.specs.Composition.{lift_zero}
use Rattle.lp_term.specs.declared.LpId.{LpId}
use Rattle.lp_term.specs.Tables as lp
use Rattle.lp_term.specs.TableLaws as lp_reduction_laws
use Rattle.holide_sig.specs.declared.module.Module.{Module}
use Rattle.holide_sig.specs.Modules.{declarations_of}
use Rattle.translate_spec.specs.Scopes.{SymbolMap, TypeScope, constant_symbol, constant_tree, generic_type, type_tree, filler}
use Rattle.translate_laws.specs.ListedScopes.{told_types, told}
use Rattle.sequent.specs.Params.{same_variable}
use Rattle.translate_term.specs.Told.{TellsConstant, told_constant}
use Rattle.translate_term.specs.Patterns.{IsGeneric, IsTypeTree}
use Rattle.translate_term.specs.Walks.{Given, Grows, AreGiven, IsTypeStart, type_wanted, term_wanted}
use Rattle.translate_term.specs.GrowLaws.{IsHeld-Grows, declarations_of-Grows}
use Rattle.translate_term.proofs.ScopeLists.{term-found, term-absent}
use Rattle.std.proofs.lemmas.Option.{same_Some}

module _ (given : Given) (m : Module) (types : List HolType) (distinct : type.IsDistinct types) (variables : List (Variable × LpId)) (n : Name) (ty : TypeId)
    (known : ty.0 < length types) (told_here : AreGiven given m types variables) where
  filling : Tree
  filling = filler (type_tree given.symbols (told_types given.types) (type.tree_at types ty.0))

  -- a free variable that is told
  pub free-told : (id : LpId) → lookup (same_variable (record { name = n; ty = ty })) variables ≡ Some id
      → lp.Holds m.table id.0 (term_wanted given 0 (free n (type.tree_at types ty.0)))
  unfolding filling
  free-told id h =
      term-found types distinct m.table n ty known variables id filling told_here.known h
      ∙ ap (λ l. Some (unwrap_or (lookup (variable_eq (n, type.tree_at types ty.0)) l) filling)) told_here.told
      ∙ ap Some (sym (lift_zero (unwrap_or (lookup (variable_eq (n, type.tree_at types ty.0)) given.terms) filling)))

  -- and one that isn't
  pub free-filled : (new : List Tree) (r : LpId) → lookup (same_variable (record { name = n; ty = ty })) variables ≡ None
      → lp.Holds new r.0 (filler (type_wanted given (type.tree_at types ty.0)))
      → lp.Holds new r.0 (term_wanted given 0 (free n (type.tree_at types ty.0)))
  unfolding filling
  free-filled new r h is =
      is
      ∙ ap Some (sym (term-absent types distinct m.table n ty known variables filling told_here.known h))
      ∙ ap (λ l. Some (unwrap_or (lookup (variable_eq (n, type.tree_at types ty.0)) l) filling)) told_here.told
      ∙ ap Some (sym (lift_zero (unwrap_or (lookup (variable_eq (n, type.tree_at types ty.0)) given.terms) filling)))

-- a constant by the tree of its type
module _ (symbols : SymbolMap) (scope : TypeScope) (t : HolType) (m : Module) (n : Name) (ty : LpId) (h : IsTypeTree symbols scope t m n ty) where
  pub constant-found : (o : Option ℕ) → o ≡ told_constant (declarations_of m) n → IsSome o
  constant-found o e = ap is_some (e ∙ h.told.named)

  constant-symbol : (s : ℕ) → Some s ≡ told_constant (declarations_of m) n → s ≡ constant_symbol symbols n
  constant-symbol s e = same_Some _ _ (e ∙ h.told.named)

  pub constant-generic : (s : ℕ) → Some s ≡ told_constant (declarations_of m) n
      → IsGeneric (declarations_of m) s symbols scope (generic_type symbols n) t m.table ty
  constant-generic s e =
      subst (λ k. IsGeneric (declarations_of m) k symbols scope (generic_type symbols n) t m.table ty) (sym (constant-symbol s e))
      (record { declared = h.told.declared; instance = h.told.instance; known = h.known; is = h.is })

  pub constant-made : (s : ℕ) (trees : List Tree) → Some s ≡ told_constant (declarations_of m) n → trees
      ≡ map (type_tree symbols scope) (type_arguments (generic_type symbols n) t) → applied (Sym s) trees ≡ constant_tree symbols scope n t
  constant-made s trees e are = ap₂ (λ k l. applied (Sym k) l) (constant-symbol s e) are

-- the tree of its type, once it is made
pub constant-typed : (given : Given) (m now : Module) (types : List HolType) (names : List (Name × LpId)) (made : List (TypeId × LpId)) (n : Name) (ty : TypeId)
    → IsTypeStart given ty m types names made
    → TellsConstant given.declarations given.symbols n (type.tree_at types ty.0) → Grows m now → (tree : LpId)
    → lp.Holds now.table tree.0 (type_wanted given (type.tree_at types ty.0))
    → IsTypeTree given.symbols (told_types given.types) (type.tree_at types ty.0) now n tree
constant-typed given m now types names made n ty start told grows tree h = record {
  held = IsHeld-Grows m now grows start.reads.held;
  known = lp_reduction_laws.Holds-within now.table tree.0 _ h;
  is = lp_reduction_laws.Holds-tree_at now.table tree.0 _ h;
  told = subst (λ d. TellsConstant d given.symbols n (type.tree_at types ty.0))
      (sym (declarations_of-Grows m now grows start.reads.held ∙ start.reads.declared)) told;
}

pub constant-unlifted : (given : Given) (n : Name) (t : HolType) → constant_tree given.symbols (told_types given.types) n t ≡ term_wanted given 0 (constant n t)
constant-unlifted given n t = ap (λ w. constant_tree given.symbols w n t) (fun_ext (λ k. sym (lift_zero (told_types given.types k))))
