-- What is so of a fault that is passed on.
use Rattle.std.proofs.Common.{Result, Ok, Err}
use Rattle.std.specs.Prelude.{IfErr}
use Rattle.std.specs.Result.{IsErrAnd}

pub if_err : {T E : Type 0} {P Q : E → Type 0} (r : Result T E) → ((e : E) → P e → Q e) → IsErrAnd r P → IfErr r Q
if_err (Ok v) f h = tt
if_err (Err e) f h = f e h
