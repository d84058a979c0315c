-- Answers in a row: the first refusal is the answer of all.
use Rattle.std.specs.Prelude.{◌≡◌, Result, Ok, Err}
use Rattle.common.specs.declared.faults.Kind.{Kind}
use Rattle.common.specs.declared.faults.Fault.{Fault}
use Rattle.common.specs.declared.faults.Fault.TheVariants.{Memory, Refused}

infixl 10 ◌>>=◌
abbrev pub ◌>>=◌ : {A B E : Type 0} → Result A E → (A → Result B E) → Result B E
(Ok x) >>= f = f x
(Err e) >>= f = Err e

infixl 10 ◌>>◌
abbrev pub ◌>>◌ : {A B E : Type 0} → Result A E → Result B E → Result B E
(Ok x) >> r = r
(Err e) >> r = Err e

-- A fault of a call that answers as this result says: it is the result's refusal, or want of memory.
abbrev pub Fails : {A : Type 0} → Fault → Result A Kind → Type 0
Fails Memory r = Unit {0}
Fails (Refused kind) r = r ≡ Err kind
