-- The conditions of what is made, as answers: each kind in its turn.
-- Source: OpenTheory article file format, versions 5 and 6, "Commands". The limits are this machine's own.
use Rattle.std.specs.Prelude.{List, length, is_some, Result}
use Rattle.hol_spec.specs.Names.{Name}
use Rattle.hol_spec.specs.Types.{HolType, types_of}
use Rattle.hol_spec.specs.Terms.{Term, type_of}
use Rattle.hol_spec.specs.Symbols.{Symbol, generic_type, operator_arity}
use Rattle.common.specs.declared.faults.Kind.{Kind}
use Rattle.common.specs.declared.faults.Kind.TheVariants.{TypeMismatch}
use Rattle.article_spec.specs.Results.{◌>>◌}
use Rattle.article_spec.specs.Conditions.{demand, type_in_limits, term_in_limits, arity_fits, generic_fits}

-- an application: the types fit, and it is within the limits
abbrev pub application_fits : Term → Result (Unit {0}) Kind
application_fits t = do
  demand (is_some (type_of t)) TypeMismatch
  term_in_limits t

-- a constant: its type is an instance of its generic type, and it is within the limits
abbrev pub constant_fits : List Symbol → Name → HolType → Result (Unit {0}) Kind
constant_fits symbols n a = do
  generic_fits (generic_type symbols n) a
  term_in_limits (Term.constant n a)

-- an operator: it takes so many arguments, and the type is within the limits
abbrev pub operator_fits : List Symbol → Name → List HolType → Result (Unit {0}) Kind
operator_fits symbols n arguments = do
  arity_fits (operator_arity symbols n) (length arguments)
  type_in_limits (HolType.operator n (types_of arguments))
