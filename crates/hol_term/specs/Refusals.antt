-- When a call that would make a term is refused.
-- Source: HOL Light's kernel, `mk_comb`; the limits are this bridge's own.
use Rattle.std.specs.Prelude.{◌≡◌, None}
use Rattle.hol_spec.specs.Limits.{term_size, term_depth}
use Rattle.hol_spec.specs.Terms.{Term, type_of, IsTerm}
use Rattle.common.specs.declared.faults.Fault.{Fault}
use Rattle.common.specs.declared.faults.Fault.TheVariants.{Refused, Memory}
use Rattle.common.specs.declared.faults.Kind.TheVariants.{TypeMismatch}
use Rattle.hol_type.specs.Refusals.{Refuses}

-- a fault of a call that would make this term: it passes the limit that is named, or memory ran out
abbrev pub RefusesTerm : Fault → Term → Type 0
RefusesTerm fault t = Refuses fault (term_size t) (term_depth t)

-- a fault of a call that would make this tree, if it has a type: it has none, or it is a term that passes the limit that is named, or memory ran out
abbrev pub RefusesTyped : Fault → Term → Type 0
RefusesTyped (Refused TypeMismatch) t = type_of t ≡ None
RefusesTyped (Refused kind) t = IsTerm t × RefusesTerm (Refused kind) t
RefusesTyped Memory t = Unit {0}
