-- What is shown of binding and substitution, as statements; the crate `hol_laws` proves them.
use Rattle.std.specs.Prelude.{◌≡◌, ◌≤◌, List, [], ◌∷◌, length, Some}
use Rattle.std.specs.Option.{option_map}
use Rattle.hol_spec.specs.Types.{HolType}
use Rattle.hol_spec.specs.Primitives.{function}
use Rattle.hol_spec.specs.Substitution.{TypePairs, substitute}
use Rattle.hol_spec.specs.Terms.{Term, lam, Variable, type_under, type_of, HasType, IsTerm}
use Rattle.hol_spec.specs.TermBinding.{close, put, loose}
use Rattle.hol_spec.specs.TermSubstitution.{TermPairs, sub, AreFitting}

-- The law of closing: to put a term for the variable of a binder that closed a free variable is to substitute it for that variable.
abbrev pub PutClose : Type 0
PutClose = (v : Variable) (u t : Term) → IsTerm u → put u (close v t) ≡ sub [] ((v, u) ∷ []) t

-- The law of abstraction: the abstraction that binds a free variable of a term is a function from its type to the term's.
abbrev pub TypeOfAbstraction : Type 0
TypeOfAbstraction = (v : Variable) (t : Term) → type_of (lam v.1 (close v t)) ≡ option_map (function v.1) (type_of t)

-- The law of instances: the body of an abstraction with an argument of its binder's type put for the variable has the body's type.
abbrev pub TypeOfInstance : Type 0
TypeOfInstance = (a b : HolType) (u body : Term) → HasType u a → type_under (a ∷ []) body ≡ Some b → HasType (put u body) b

-- Substitution of terms of their variables' types keeps the type, with the types put.
abbrev pub TypeOfSubstitution : Type 0
TypeOfSubstitution = (types : TypePairs) (terms : TermPairs) (t : Term) (a : HolType) → AreFitting terms → HasType t a → HasType (sub types terms t)
    (substitute types a)

-- The law of loose numbers: a typed term has no number that passes its binders.
abbrev pub LooseTyped : Type 0
LooseTyped = (binders : List HolType) (t : Term) (a : HolType) → type_under binders t ≡ Some a → loose t ≤ length binders
