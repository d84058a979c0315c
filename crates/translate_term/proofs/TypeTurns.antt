-- What a turn does to a walk over types.
use Rattle.std.proofs.Common.{◌≡◌, ℕ, ◌+◌, ◌<◌, refl, sym, ap, ◌∙◌, subst, arith, List, [], ◌∷◌, length, Some, ◌⊎◌, inr}
use Rattle.std.specs.Prelude.{IsSome, is_some}
use Rattle.hol_spec.specs.Names.{Name}
use Rattle.hol_spec.specs.Types.{HolType, HolTypes, variable, operator, none, count, types_of}
use Rattle.hol_spec.specs.Limits.{type_size, types_size}
use Rattle.hol_type.specs.declared.table.TypeId.{TypeId}
use Rattle.hol_type.specs.Tables.{tree_at, types_at, Holds, AreKnown, IsDistinct}
use Rattle.hol_type.specs.TableLaws.{Holds-tree_at, types_of-same, types_at-same}
use Rattle.lp_spec.specs.Trees.{Tree, Sym}
use Rattle.lp_spec.specs.Modules.{applied}
use Rattle.lp_term.specs.declared.LpId.{LpId}
use Rattle.lp_term.specs.Tables as lp
use Rattle.lp_term.specs.TableLaws as lp_reduction_laws
use Rattle.holide_sig.specs.declared.module.Module.{Module}
use Rattle.holide_sig.specs.Modules.{declarations_of}
use Rattle.translate_spec.specs.Scopes.{operator_symbol, type_trees}
use Rattle.translate_laws.specs.ListedScopes.{told_types}
use Rattle.translate_term.specs.declared.tasks.Task.{Task}
use Rattle.translate_term.specs.declared.tasks.Task.TheVariants.{Visit, Join}
use Rattle.translate_term.specs.Tasks.{IsNoted, IsDone, AreAll, visits, PartsAre}
use Rattle.translate_term.specs.Told.{TellsType, TellsTypes, told_operator}
use Rattle.translate_term.specs.Walks.{Grows, Given, IsGiven, IsTypeKnown, IsTypeMemo, IsTypeStart, IsTypeWalk, HasArguments, AreNoted, type_wanted, size_at}
use Rattle.translate_term.proofs.EndsLaws.{Ends-done, Ends-noted, Ends-set_out, noted-sound, sum_of}
use Rattle.translate_term.specs.GrowLaws.{IsGiven-Grows, IsTypeMemo-Keeps}
use Rattle.std.proofs.Math.Path.{ap₂}
use Rattle.std.proofs.lemmas.Option.{same_Some}

pub count-types_of : (types : List HolType) (ids : List TypeId) → count (types_of (types_at types ids)) ≡ length ids
count-types_of types [] = refl
count-types_of types (id ∷ ids) = omega (arith, count-types_of types ids)

-- the arguments of an operator whose symbols are told are such
arguments-known : (given : Given) (types : List HolType) (ids : List TypeId) → AreKnown types ids
    → TellsTypes given.declarations given.symbols (types_of (types_at types ids)) → AreAll (IsTypeKnown given types) ids
arguments-known given types [] k h = tt
arguments-known given types (id ∷ ids) k h = (record { known = k.0; told = h.0 }, arguments-known given types ids k.1 h.1)

pub told-operator : (given : Given) (types : List HolType) (id : TypeId) (n : Name) (args : List TypeId) → IsTypeKnown given types id
    → Holds types id.0 (operator n (types_of (types_at types args)))
    → TellsType given.declarations given.symbols (operator n (types_of (types_at types args)))
told-operator given types id n args k h = subst (TellsType given.declarations given.symbols) (Holds-tree_at types id.0 _ h) k.told

arguments_of : HolType → HolTypes
arguments_of (variable n) = none
arguments_of (operator n ts) = ts

-- the parts of an operator are its arguments
pub parts-arguments : (types : List HolType) (id : TypeId) (n : Name) (args : List TypeId) (P : TypeId → Type 0) → IsDistinct types → AreKnown types args
    → Holds types id.0 (operator n (types_of (types_at types args)))
    → PartsAre (HasArguments types) P id → AreAll P args
unfolding arguments_of
parts-arguments types id n args P d k h p =
    let e = types_of-same _ _ (ap arguments_of (same_Some _ _ (sym p.of.is ∙ h))) in
    subst (AreAll P) (types_at-same d p.parts args p.of.known k e) p.all

-- a variable has no parts
pub no-parts : (types : List HolType) (id : TypeId) (n : Name) (P : TypeId → Type 0) → Holds types id.0 (variable n) → PartsAre (HasArguments types) P id → ⊥
no-parts types id n P h p = let e : variable n ≡ operator p.of.name (types_of (types_at types p.parts)) = same_Some _ _ (sym h ∙ p.of.is) in cc

-- a walk at its beginning
pub type_begins : (given : Given) (root : TypeId) (m : Module) (types : List HolType) (names : List (Name × LpId)) (made : List (TypeId × LpId))
    → IsTypeStart given root m types names made → IsTypeWalk given root m types names (Visit root ∷ []) made
type_begins given root m types names made s = record { reads = s.reads; noted = s.noted; ends = (s.known, inr refl) }

module _ (given : Given) (root : TypeId) (m : Module) (types : List HolType) (names : List (Name × LpId)) (id : TypeId) (tasks : List (Task TypeId))
    (made : List (TypeId × LpId)) where
  -- a type that was made already
  pub type_done : (r : LpId) → IsNoted made id r → IsTypeWalk given root m types names (Visit id ∷ tasks) made → IsTypeWalk given root m types names tasks made
  type_done r n w = record {
    reads = w.reads;
    noted = w.noted;
    ends =
        Ends-done (IsTypeKnown given types) (HasArguments types) root tasks (IsDone made) id (r, n) w.ends.1;
  }

  -- an operator
  pub type_set_out : (n : Name) (args : List TypeId) → AreKnown types args → Holds types id.0 (operator n (types_of (types_at types args)))
      → IsTypeWalk given root m types names (Visit id ∷ tasks) made → IsTypeWalk given root m types names (visits args (Join id ∷ tasks)) made
  type_set_out n args k h w = record {
    reads = w.reads;
    noted = w.noted;
    ends = Ends-set_out (IsTypeKnown given types) (HasArguments types) root id args tasks (IsDone made)
        (arguments-known given types args k (told-operator given types id n args w.ends.0 h).1)
        (record { name = n; known = k; is = h }) w.ends;
  }

  module _ (now : Module) (grows : Grows m now) (noted : List (TypeId × LpId)) (mark : LpId)
      (only : (i : TypeId) (r : LpId) → IsNoted noted i r → IsNoted made i r ⊎ ((i ≡ id) × (r ≡ mark)))
      (new : IsNoted noted id mark) (kept : (i : TypeId) (r : LpId) → IsNoted made i r → (i ≡ id) ⊎ IsNoted noted i r) where
    type_noted : lp.Holds now.table mark.0 (type_wanted given (tree_at types id.0)) → IsTypeMemo given types m.table made
        → IsTypeMemo given types now.table noted
    type_noted is old = noted-sound (λ i r. lp.Holds now.table r.0 (type_wanted given (tree_at types i.0))) made noted id mark only is
        (IsTypeMemo-Keeps grows.table given types made old)

    -- a variable
    pub type_variable : (n : Name) → Holds types id.0 (variable n) → (IsGiven given m names → lp.Holds now.table mark.0 (told_types given.types n))
        → IsTypeWalk given root m types names (Visit id ∷ tasks) made → IsTypeWalk given root now types names tasks noted
    type_variable n h is w = record {
      reads = IsGiven-Grows grows given names w.reads;
      noted = type_noted (subst (λ t. lp.Holds now.table mark.0 (type_wanted given t)) (sym (Holds-tree_at types id.0 _ h)) (is w.reads)) w.noted;
      ends = Ends-noted (IsTypeKnown given types) (HasArguments types) root tasks made noted id mark new kept w.ends.1;
    }

    made-trees : (args : List TypeId) (parts : List LpId) → IsTypeMemo given types m.table made → AreNoted made args parts → lp.trees_at m.table parts
        ≡ type_trees given.symbols (told_types given.types) (types_of (types_at types args))
    made-trees [] [] s a = refl
    made-trees (x ∷ args) (p ∷ parts) s a = ap₂ (λ t l. t ∷ l) (lp_reduction_laws.Holds-tree_at m.table p.0 _ (s x p a.0)) (made-trees args parts s a.1)
    made-trees [] (p ∷ parts) s a = absurd a
    made-trees (x ∷ args) [] s a = absurd a

    -- an operator whose arguments were made
    pub type_join : (n : Name) (args : List TypeId) (parts : List LpId) → Holds types id.0 (operator n (types_of (types_at types args)))
        → AreNoted made args parts
        → ((symbol : ℕ) → told_operator (declarations_of m) n (length args) ≡ Some symbol
        → lp.Holds now.table mark.0 (applied (Sym symbol) (lp.trees_at m.table parts)))
        → IsTypeWalk given root m types names (Join id ∷ tasks) made → IsTypeWalk given root now types names tasks noted
    type_join n args parts h a is w =
        let told = (told-operator given types id n args w.ends.0 h).0 in
        let symbol = operator_symbol given.symbols n (count (types_of (types_at types args))) in
        let tree : applied (Sym symbol) (lp.trees_at m.table parts) ≡ type_wanted given (operator n (types_of (types_at types args))) =
        ap (applied (Sym symbol)) (made-trees args parts w.noted a) in
        record {
          reads = IsGiven-Grows grows given names w.reads;
          noted = type_noted (is symbol (ap₂ (λ d k. told_operator d n k) w.reads.declared (sym (count-types_of types args)) ∙ told) ∙ ap Some tree
              ∙ ap (λ t. Some (type_wanted given t)) (sym (Holds-tree_at types id.0 _ h))) w.noted;
          ends = Ends-noted (IsTypeKnown given types) (HasArguments types) root tasks made noted id mark new kept w.ends.2;
        }

-- no walk comes back to a variable
pub type_no_join : (given : Given) (root : TypeId) (m : Module) (types : List HolType) (names : List (Name × LpId)) (id : TypeId) (tasks : List (Task TypeId))
    (made : List (TypeId × LpId)) (n : Name)
    → Holds types id.0 (variable n) → IsTypeWalk given root m types names (Join id ∷ tasks) made → ⊥
type_no_join given root m types names id tasks made n h w = no-parts types id n (IsDone made) h w.ends.1

-- what was made is of the table
pub noted-known : (given : Given) (types : List HolType) (trees : List Tree) (made : List (TypeId × LpId)) → IsTypeMemo given types trees made
    → (args : List TypeId) (parts : List LpId) → AreNoted made args parts → lp.AreKnown trees parts
noted-known given types trees made s [] [] a = tt
noted-known given types trees made s (x ∷ args) (p ∷ parts) a =
    (lp_reduction_laws.Holds-within trees p.0 _ (s x p a.0), noted-known given types trees made s args parts a.1)
noted-known given types trees made s [] (p ∷ parts) a = absurd a
noted-known given types trees made s (x ∷ args) [] a = absurd a

-- the symbol of an operator is found
pub symbol-found : (given : Given) (root : TypeId) (m : Module) (types : List HolType) (names : List (Name × LpId)) (id : TypeId) (tasks : List (Task TypeId))
    (made : List (TypeId × LpId)) (n : Name) (args : List TypeId)
    → Holds types id.0 (operator n (types_of (types_at types args))) → IsTypeWalk given root m types names (Join id ∷ tasks) made
    → IsSome (told_operator (declarations_of m) n (length args))
symbol-found given root m types names id tasks made n args h w =
    let told = (told-operator given types id n args w.ends.0 h).0 in
    ap is_some (ap₂ (λ d k. told_operator d n k) w.reads.declared (sym (count-types_of types args)) ∙ told)

sum-sizes : (types : List HolType) (ids : List TypeId) → sum_of (size_at types) ids ≡ types_size (types_of (types_at types ids))
sum-sizes types [] = refl
sum-sizes types (id ∷ ids) = ap (λ n. type_size (tree_at types id.0) + n) (sum-sizes types ids)

pub arguments-less : (types : List HolType) (id : TypeId) (n : Name) (args : List TypeId) → Holds types id.0 (operator n (types_of (types_at types args)))
    → sum_of (size_at types) args < size_at types id
arguments-less types id n args h = let e = ap type_size (Holds-tree_at types id.0 _ h) in omega (arith, e, sum-sizes types args)

size-positive : (t : HolType) → 0 < type_size t
size-positive (variable n) = omega arith
size-positive (operator n ts) = omega arith

pub size_at-positive : (types : List HolType) (id : TypeId) → 0 < size_at types id
size_at-positive types id = size-positive (tree_at types id.0)
