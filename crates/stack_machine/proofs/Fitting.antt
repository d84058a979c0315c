-- The conditions of what is made: met where a call answers Ok, and refused with its fault.
use Rattle.std.proofs.Common.{◌≡◌, ℕ, ◌≤◌, ◌<◌, refl, sym, arith, List, [], ◌∷◌, length, Bool, true, false, Option, None, Some, option_map, Result, Ok}
use Rattle.std.specs.Prelude.{IsSome, is_some, nat_le, nat_eq}
use Rattle.std.proofs.lemmas.Grind.{common_steps}
use Rattle.hol_spec.specs.Names.{Name}
use Rattle.hol_spec.specs.Types.{HolType, operator, types_of}
use Rattle.hol_spec.specs.Terms.{Term, Variable, constant, lam, type_of, IsTerm}
use Rattle.hol_spec.specs.Symbols.{Symbol, generic_type, operator_arity, new_constant, new_operator}
use Rattle.hol_spec.specs.TermBinding.{close}
use Rattle.hol_laws.specs.TermTyping.{type_of-close}
use Rattle.hol_spec.specs.Limits.{greatest_size, greatest_depth, type_size, type_depth, term_size, term_depth, TypeWithin, TermWithin}
use Rattle.hol_spec.specs.Primitives.{function}
use Rattle.hol_spec.specs.Substitution.{is_instance}
use Rattle.common.specs.declared.faults.Fault.{Fault}
use Rattle.common.specs.declared.faults.Fault.TheVariants.{Memory, Refused}
use Rattle.common.specs.declared.faults.Kind.{Kind}
use Rattle.common.specs.declared.faults.Kind.TheVariants as kind
use Rattle.hol_laws.specs.RenamingLaws.{length_map}
use Rattle.hol_type.specs.declared.table.TypeId.{TypeId}
use Rattle.hol_type.specs.Refusals.{Refuses, RefusesType}
use Rattle.hol_type.specs.Tables.{tree_at, types_at}
use Rattle.hol_term.specs.Refusals.{RefusesTerm, RefusesTyped}
use Rattle.hol_defs.specs.Refusals.{FitsGeneric, FitsArity, RefusesConstant, RefusesOperator}
use Rattle.article_spec.specs.Results.{◌>>◌, Fails}
use Rattle.hol_spec.specs.Measures.{Measure}
use Rattle.article_spec.specs.Conditions.{demand, in_limits, type_in_limits, term_in_limits, arity_fits, generic_fits}
use Rattle.stack_machine.specs.Refusals.{application_fits, constant_fits, operator_fits}
use Rattle.stack_machine.proofs.Obeyed.{condition_fails}

at_most : (n m : ℕ) → n ≤ m → nat_le n m ≡ true
at_most n m h = grind (arith, common_steps, h)

more_than : (n m : ℕ) → m < n → nat_le n m ≡ false
more_than n m h = grind (arith, common_steps, h)

pub type_within : (t : HolType) → TypeWithin t → type_in_limits t ≡ Ok tt
type_within t h = rw (at_most (type_size t) greatest_size h.size, at_most (type_depth t) greatest_depth h.depth) refl

pub term_within : (t : Term) → TermWithin t → term_in_limits t ≡ Ok tt
term_within t h = rw (at_most (term_size t) greatest_size h.size, at_most (term_depth t) greatest_depth h.depth) refl

-- the limits on one thing without parameters, of a size and a depth
abbrev measured : ℕ → ℕ → List Measure
measured size depth = record { size = size; depth = depth; parameters = 0 } ∷ []

limits_fail : (fault : Fault) (size depth : ℕ) → Refuses fault size depth → Fails fault (in_limits (measured size depth))
limits_fail Memory size depth h = tt
limits_fail (Refused kind.TooLarge) size depth h = rw (more_than size greatest_size h) refl
limits_fail (Refused kind.TooDeep) size depth h = rw (at_most size greatest_size h.0, more_than depth greatest_depth h.1) refl
limits_fail (Refused k) size depth h = absurd h

pub type_fails : (fault : Fault) (t : HolType) → RefusesType fault t → Fails fault (type_in_limits t)
type_fails fault t h = limits_fail fault (type_size t) (type_depth t) h

pub term_fails : (fault : Fault) (t : Term) → RefusesTerm fault t → Fails fault (term_in_limits t)
term_fails fault t h = limits_fail fault (term_size t) (term_depth t) h

-- a condition that is met comes before another
then_fails : {E : Type 0} (fault : Fault) (a : Result (Unit {0}) Kind) (b : Result E Kind) → a ≡ Ok tt → Fails fault b → Fails fault (a >> b)
then_fails fault a b e h = rw e h

is_typed : (t : Term) → IsTerm t → demand (is_some (type_of t)) kind.TypeMismatch ≡ Ok tt
is_typed t h = of (type_of t) h
  where
    of : (o : Option HolType) → IsSome o → demand (is_some o) kind.TypeMismatch ≡ Ok tt
    of None h = absurd (cc)
    of (Some a) h = refl

pub application_within : (t : Term) → IsTerm t → TermWithin t → application_fits t ≡ Ok tt
application_within t h w = rw (is_typed t h) (term_within t w)

pub application_fails : (fault : Fault) (t : Term) → RefusesTyped fault t → Fails fault (application_fits t)
application_fails Memory t h = tt
application_fails (Refused kind.TypeMismatch) t h = rw h refl
application_fails (Refused kind.TooLarge) t h = then_fails (Refused kind.TooLarge) _ _ (is_typed t h.0) (term_fails (Refused kind.TooLarge) t h.1)
application_fails (Refused kind.TooDeep) t h = then_fails (Refused kind.TooDeep) _ _ (is_typed t h.0) (term_fails (Refused kind.TooDeep) t h.1)
application_fails (Refused k) t h = absurd (h.1)

-- how many arguments an operator takes
same_number : (n m : ℕ) → n ≡ m → nat_eq n m ≡ true
same_number n m e = grind (arith, common_steps, e)

other_number : (n m : ℕ) → (n ≡ m → ⊥) → nat_eq n m ≡ false
other_number n m f = by (nat_eq n m) refl
  where
    by : (b : Bool) → nat_eq n m ≡ b → nat_eq n m ≡ false
    by true e = absurd (f (grind (arith, common_steps, e)))
    by false e = e

pub arity_within : (o : Option ℕ) (count : ℕ) → FitsArity o count → arity_fits o count ≡ Ok tt
arity_within None count h = refl
arity_within (Some arity) count h = rw (same_number count arity h) refl

pub arity_fails : (fault : Fault) (o : Option ℕ) (count : ℕ) → RefusesOperator fault o count → Fails fault (arity_fits o count)
arity_fails Memory o count h = tt
arity_fails (Refused kind.BadArity) None count h = absurd (h tt)
arity_fails (Refused kind.BadArity) (Some arity) count h = rw (other_number count arity h) refl
arity_fails (Refused k) o count h = absurd h

not_true : (b : Bool) → (b ≡ true → ⊥) → b ≡ false
not_true true f = absurd (f refl)
not_true false f = refl

pub generic_within : (o : Option HolType) (a : HolType) → FitsGeneric o a → generic_fits o a ≡ Ok tt
generic_within None a h = refl
generic_within (Some generic) a h = rw h refl

pub generic_fails : (fault : Fault) (o : Option HolType) (a : HolType) → RefusesConstant fault o a → Fails fault (generic_fits o a)
generic_fails Memory o a h = tt
generic_fails (Refused kind.BadConstType) None a h = absurd (h tt)
generic_fails (Refused kind.BadConstType) (Some generic) a h = rw (not_true (is_instance generic a) h) refl
generic_fails (Refused k) o a h = absurd h

-- there are as many types as numbers
pub types_count : (trees : List HolType) (ids : List TypeId) → length ids ≡ length (types_at trees ids)
types_count trees ids = sym (length_map (λ (id : TypeId). tree_at trees id.0) ids)

-- an operator's number of arguments is judged first, and then its type
module _ (symbols : List Symbol) (n : Name) (ts : List HolType) where
  pub operator_within : FitsArity (operator_arity symbols n) (length ts) → TypeWithin (operator n (types_of ts)) → operator_fits symbols n ts ≡ Ok tt
  operator_within h w = rw (arity_within (operator_arity symbols n) (length ts) h) (type_within (operator n (types_of ts)) w)

  pub operator_unused : (fault : Fault) → RefusesOperator fault (operator_arity symbols n) (length ts) → Fails fault (operator_fits symbols n ts)
  operator_unused fault h = condition_fails fault (arity_fits (operator_arity symbols n) (length ts)) (type_in_limits (operator n (types_of ts)))
      (arity_fails fault (operator_arity symbols n) (length ts) h)

  pub operator_unmade : (fault : Fault) → FitsArity (operator_arity symbols n) (length ts) → RefusesType fault (operator n (types_of ts))
      → Fails fault (operator_fits symbols n ts)
  operator_unmade fault h r = then_fails fault (arity_fits (operator_arity symbols n) (length ts)) (type_in_limits (operator n (types_of ts)))
      (arity_within (operator_arity symbols n) (length ts) h) (type_fails fault (operator n (types_of ts)) r)

-- a constant's generic type is judged first, and then its limits
module _ (symbols : List Symbol) (n : Name) (a : HolType) where
  pub constant_within : FitsGeneric (generic_type symbols n) a → TermWithin (constant n a) → constant_fits symbols n a ≡ Ok tt
  constant_within h w = rw (generic_within (generic_type symbols n) a h) (term_within (constant n a) w)

  pub constant_unused : (fault : Fault) → RefusesConstant fault (generic_type symbols n) a → Fails fault (constant_fits symbols n a)
  constant_unused fault h = condition_fails fault (generic_fits (generic_type symbols n) a) (term_in_limits (constant n a))
      (generic_fails fault (generic_type symbols n) a h)

  pub constant_unmade : (fault : Fault) → FitsGeneric (generic_type symbols n) a → RefusesTerm fault (constant n a) → Fails fault (constant_fits symbols n a)
  constant_unmade fault h r = then_fails fault (generic_fits (generic_type symbols n) a) (term_in_limits (constant n a))
      (generic_within (generic_type symbols n) a h) (term_fails fault (constant n a) r)

-- what is settled takes no symbol
pub no_operator : (symbols : List Symbol) (n : Name) (k : ℕ) → is_some (operator_arity symbols n) ≡ true → new_operator symbols n k ≡ []
no_operator symbols n k h = rw h refl

pub no_constant : (symbols : List Symbol) (n : Name) → is_some (generic_type symbols n) ≡ true → new_constant symbols n ≡ []
no_constant symbols n h = rw h refl

-- an abstraction of a term is a term
pub abstraction_typed : (v : Variable) (t : Term) → IsTerm t → IsTerm (lam v.1 (close v t))
abstraction_typed v t h = rw (type_of-close v t) (mapped (type_of t) h)
  where
    mapped : (o : Option HolType) → IsSome o → IsSome (option_map (function v.1) o)
    mapped None h = absurd (cc)
    mapped (Some a) h = refl
