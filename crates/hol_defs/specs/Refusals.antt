-- When the use of a symbol is refused.
-- Source: HOL Light's kernel, `mk_const` and `mk_type`; OpenTheory article file format, version 6, `constTerm` and `opType`.
use Rattle.std.specs.Prelude.{◌≡◌, ℕ, Option, None, Some, true}
use Rattle.hol_spec.specs.Types.{HolType}
use Rattle.hol_spec.specs.Substitution.{is_instance}
use Rattle.common.specs.declared.faults.Fault.{Fault}
use Rattle.common.specs.declared.faults.Fault.TheVariants.{Refused, Memory}
use Rattle.common.specs.declared.faults.Kind.TheVariants.{BadArity, BadConstType}

-- a constant of this generic type, if it has one, may stand at the type
abbrev pub FitsGeneric : Option HolType → HolType → Type 0
FitsGeneric None t = Unit {0}
FitsGeneric (Some generic) t = is_instance generic t ≡ true

-- an operator that takes so many arguments, if that is settled, may be given this number
abbrev pub FitsArity : Option ℕ → ℕ → Type 0
FitsArity None count = Unit {0}
FitsArity (Some arity) count = count ≡ arity

-- a fault of the use of a constant: the type is no instance of its generic type, or memory ran out
abbrev pub RefusesConstant : Fault → Option HolType → HolType → Type 0
RefusesConstant (Refused BadConstType) generic t = FitsGeneric generic t → ⊥
RefusesConstant (Refused _) generic t = ⊥
RefusesConstant Memory generic t = Unit {0}

-- a fault of the use of an operator: it takes another number of arguments, or memory ran out
abbrev pub RefusesOperator : Fault → Option ℕ → ℕ → Type 0
RefusesOperator (Refused BadArity) arity count = FitsArity arity count → ⊥
RefusesOperator (Refused _) arity count = ⊥
RefusesOperator Memory arity count = Unit {0}
