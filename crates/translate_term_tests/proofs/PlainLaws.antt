-- Types and terms that every module tells.
use Rattle.std.proofs.Common.{◌≡◌, ℕ, ◌<◌, refl, sym, subst, arith, List, [], ◌∷◌, length}
use Rattle.std.specs.Prelude.{codes, IfOk, Result, Ok, Err}
use Rattle.common.specs.declared.faults.Fault.{Fault}
use Rattle.common.specs.declared.faults.Memory.{Memory}
use Rattle.hol_spec.specs.Names.{Name}
use Rattle.hol_spec.specs.Types.{HolType, variable, operator, none, more}
use Rattle.hol_spec.specs.Primitives.{bool, function, arrow_name, bool_name}
use Rattle.hol_spec.specs.Terms.{Term, free, app}
use Rattle.hol_type.specs.declared.table.TypeId.{TypeId}
use Rattle.hol_type.specs.Tables as type
use Rattle.hol_type.specs.TableLaws as type_law
use Rattle.hol_term.specs.declared.TermId.{TermId}
use Rattle.hol_term.specs.Tables.{Trees, term_at, type_at, Holds, Keeps}
use Rattle.hol_term.specs.TableLaws.{Some-term_in, term_in-Stays}
use Rattle.lp_spec.specs.Modules.{Declaration}
use Rattle.lp_spec.specs.Trees.{Tree}
use Rattle.lp_term.specs.Tables as lp
use Rattle.holide_sig.specs.declared.module.Module.{Module}
use Rattle.holide_sig.specs.Modules.{declarations_of, IsHeld}
use Rattle.holide_sig.specs.ModuleLaws.{IsHeld-Keeps, declarations_of-Keeps}
use Rattle.translate_spec.specs.Scopes.{SymbolMap}
use Rattle.translate_term.specs.Told.{TellsConstant, TellsTerm, TellsType}
use Rattle.translate_term_tests.specs.Inputs.{input_symbols, input_module}
use Rattle.translate_term_tests.specs.Plain.{IsPlainType, IsPlainTerm, HasPlainType, HasPlainTree, KeepsPlain}

plain_bool : IsPlainType bool
plain_bool = record { told = λ m. (refl, tt {0}) }

plain_function : (a b : HolType) → IsPlainType a → IsPlainType b → IsPlainType (function a b)
plain_function a b h k = record { told = λ m. (refl, (h.told m, (k.told m, tt {0}))) }

-- what a number holds, it has
type_held : (types : List HolType) (id : ℕ) (t : HolType) → id < length types → type.Holds types id t → IsPlainType t → HasPlainType types id
type_held types id t k h p = record { known = k; plain = subst IsPlainType (sym (type_law.Holds-tree_at types id t h)) p }

tree_held : (trees : Trees) (id : ℕ) (t : Term) → id < length trees.terms → Holds trees id t → IsPlainTerm t → HasPlainTree trees id
tree_held trees id t k h p = record { known = k; plain = subst IsPlainTerm (sym (Some-term_in trees.terms id t h)) p }

pub variable_held : (types : List HolType) (made : Result TypeId Fault) (n : Name) → IfOk made (λ id. id.0 < length types)
    → IfOk made (λ id. type.Holds types id.0 (variable n)) → IfOk made (λ id. HasPlainType types id.0)
variable_held types (Ok id) n k h = type_held types id.0 (variable n) k h (record { told = λ m. tt {0} })
variable_held types (Err fault) n k h = h

pub bool_held : (types : List HolType) (made : Result TypeId Fault) (n : Name) → n ≡ bool_name → IfOk made (λ id. id.0 < length types)
    → IfOk made (λ id. type.Holds types id.0 (operator n none)) → IfOk made (λ id. HasPlainType types id.0)
bool_held types (Ok id) n e k h = type_held types id.0 (operator n none) k h (subst (λ m. IsPlainType (operator m none)) (sym e) plain_bool)
bool_held types (Err fault) n e k h = h

pub function_held : (old types : List HolType) (made : Result TypeId Fault) (n : Name) (a b : ℕ) → n ≡ arrow_name → HasPlainType old a → HasPlainType old b
    → IfOk made (λ id. id.0 < length types)
    → IfOk made (λ id. type.Holds types id.0 (operator n (more (type.tree_at old a) (more (type.tree_at old b) none))))
    → IfOk made (λ id. HasPlainType types id.0)
function_held old types (Ok id) n a b e p q k h =
    type_held types id.0 _ k h
    (subst (λ m. IsPlainType (operator m (more (type.tree_at old a) (more (type.tree_at old b) none)))) (sym e) (plain_function _ _ p.plain q.plain))
function_held old types (Err fault) n a b e p q k h = h

pub free_held : (old trees : Trees) (made : Result TermId Fault) (ty : ℕ) (n : Name) → HasPlainType old.types ty → IfOk made (λ id. id.0 < length trees.terms)
    → IfOk made (λ id. Holds trees id.0 (free n (type_at old ty))) → IfOk made (λ id. HasPlainTree trees id.0)
free_held old trees (Ok id) ty n p k h = tree_held trees id.0 _ k h (record { told = p.plain.told })
free_held old trees (Err fault) ty n p k h = h

pub app_held : (old trees : Trees) (made : Result TermId Memory) (f x : ℕ) → HasPlainTree old f → HasPlainTree old x
    → IfOk made (λ id. id.0 < length trees.terms) → IfOk made (λ id. Holds trees id.0 (app (term_at old f) (term_at old x)))
    → IfOk made (λ id. HasPlainTree trees id.0)
app_held old trees (Ok id) f x p q k h = tree_held trees id.0 _ k h (record { told = λ m. (p.plain.told m, q.plain.told m) })
app_held old trees (Err fault) f x p q k h = h

-- a table that grows keeps them
type_stays : (old new : List HolType) (id : ℕ) → type.Keeps old new → HasPlainType old id → HasPlainType new id
type_stays old new id k h = record { known = omega (arith, k.longer, h.known); plain = subst IsPlainType (type_law.tree_at-Stays k.stays id h.known) h.plain }

tree_stays : (old new : Trees) (id : ℕ) → Keeps old new → HasPlainTree old id → HasPlainTree new id
tree_stays old new id k h = record { known = omega (arith, k.longer, h.known); plain = subst IsPlainTerm (term_in-Stays k.stays id h.known) h.plain }

pub plain_kept : (old new : Trees) → Keeps old new → KeepsPlain old new
plain_kept old new k = record { types = λ id h. type_stays old.types new.types id k.types h; terms = λ id h. tree_stays old new id k h }

-- what a translation asks of a type, and of a term
pub type_told : (m : List Declaration) (types : List HolType) (id : ℕ) → HasPlainType types id → (symbols : SymbolMap)
    × TellsType m symbols (type.tree_at types id)
type_told m types id h = (input_symbols, h.plain.told m)

pub term_told : (m : List Declaration) (trees : Trees) (id : ℕ) → HasPlainTree trees id → (symbols : SymbolMap) × TellsTerm m symbols (term_at trees id)
term_told m trees id h = (input_symbols, h.plain.told m)

-- and of the input constant, in a module that declares it
pub input_told : (m : List Declaration) (types : List HolType) (id : ℕ) (n : Name) → m ≡ input_module → n ≡ codes "u" ∷ [] → HasPlainType types id
    → (symbols : SymbolMap) × TellsConstant m symbols n (type.tree_at types id)
input_told m types id n e f h =
    let told : TellsConstant input_module input_symbols (codes "u" ∷ []) (type.tree_at types id) =
    record { named = refl; declared = refl; instance = ((codes "A" ∷ [], type.tree_at types id) ∷ [], refl); ty = h.plain.told input_module } in (
      input_symbols,
      subst (λ k. TellsConstant m input_symbols k (type.tree_at types id)) (sym f)
          (subst (λ ds. TellsConstant ds input_symbols (codes "u" ∷ []) (type.tree_at types id)) (sym e) told),
    )

-- a module's table may grow
pub held_keeps : (m : Module) (trees : List Tree) → lp.Keeps m.table trees → IsHeld m → IsHeld (record { table = trees; decls = m.decls })
held_keeps m trees k h = IsHeld-Keeps m trees k h

pub declared_keeps : (m : Module) (trees : List Tree) → lp.Keeps m.table trees → IsHeld m → declarations_of (record { table = trees; decls = m.decls })
    ≡ declarations_of m
declared_keeps m trees k h = declarations_of-Keeps m trees k h
