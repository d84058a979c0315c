-- The conditions of the commands: each is met, or is refused with its kind.
-- Source: the OpenTheory article file format, versions 5 and 6, "Commands". The limits are this machine's own.
use Rattle.std.specs.Prelude.{ℕ, List, [], ◌∷◌, Bool, true, false, Option, None, Some, Result, Ok, Err, nat_le, nat_eq}
use Rattle.std.specs.Option.{ok_or}
use Rattle.std.specs.List.{list_all}
use Rattle.hol_spec.specs.Types.{HolType, type_eq}
use Rattle.hol_spec.specs.Substitution.{is_instance}
use Rattle.hol_spec.specs.Primitives.{bool}
use Rattle.hol_spec.specs.Terms.{Term, type_of}
use Rattle.hol_spec.specs.Sequents.{Sequent, within}
use Rattle.hol_spec.specs.Limits.{greatest_size, greatest_depth, greatest_parameter_count}
use Rattle.common.specs.declared.faults.Kind.{Kind}
use Rattle.common.specs.declared.faults.Kind.TheVariants.{NotBool, TypeMismatch, NotEquation, BadArity, BadConstType, NotTheSequent, TooLarge, TooDeep, TooManyParams}
use Rattle.hol_spec.specs.Equations.{Equation, equation_parts}
use Rattle.hol_spec.specs.Measures.{Measure, type_measure, term_measure, sequent_measure}
use Rattle.article_spec.specs.Results.{◌>>◌}

-- a condition that is refused where it fails
abbrev pub demand : Bool → Kind → Result (Unit {0}) Kind
demand true kind = Ok tt
demand false kind = Err kind

-- the limits on all that a command makes: every size is judged before any depth, and every depth before any number of parameters
abbrev pub in_limits : List Measure → Result (Unit {0}) Kind
in_limits made = do
  demand (list_all (λ m. nat_le m.size greatest_size) made) TooLarge
  demand (list_all (λ m. nat_le m.depth greatest_depth) made) TooDeep
  demand (list_all (λ m. nat_le m.parameters greatest_parameter_count) made) TooManyParams

-- the limits on one thing
abbrev pub type_in_limits : HolType → Result (Unit {0}) Kind
type_in_limits t = in_limits (type_measure t ∷ [])

abbrev pub term_in_limits : Term → Result (Unit {0}) Kind
term_in_limits t = in_limits (term_measure t ∷ [])

abbrev pub sequent_in_limits : Sequent → Result (Unit {0}) Kind
sequent_in_limits s = in_limits (sequent_measure s ∷ [])

-- an operator of this arity, if it has one, is given so many arguments
abbrev pub arity_fits : Option ℕ → ℕ → Result (Unit {0}) Kind
arity_fits None count = Ok tt
arity_fits (Some arity) count = demand (nat_eq count arity) BadArity

-- a constant of this generic type, if it has one, stands at an instance of it
abbrev pub generic_fits : Option HolType → HolType → Result (Unit {0}) Kind
generic_fits None t = Ok tt
generic_fits (Some generic) t = demand (is_instance generic t) BadConstType

-- the type that a term has: every term on the stack has one, so this is never refused
abbrev pub typed : Term → Result HolType Kind
typed t = ok_or (type_of t) TypeMismatch

-- whether a term is of this type
abbrev pub has_type : Option HolType → HolType → Bool
has_type None a = false
has_type (Some b) a = type_eq b a

abbrev pub is_of_type : HolType → Term → Bool
is_of_type a t = has_type (type_of t) a

abbrev pub all_bool : List Term → Result (Unit {0}) Kind
all_bool ts = demand (list_all (is_of_type bool) ts) NotBool

-- the conclusion is an equation
abbrev pub equation_of : Sequent → Result Equation Kind
equation_of s = ok_or (equation_parts s.conclusion) NotEquation

-- a sequent says no more than a theorem
abbrev pub follows : Sequent → Sequent → Result (Unit {0}) Kind
follows one s = demand (within one s) NotTheSequent
