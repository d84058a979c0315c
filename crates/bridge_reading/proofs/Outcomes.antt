-- What is said of a result's cases.
use Rattle.std.proofs.Common.{◌≡◌, false, Result, Ok, Err, OnOk, IfErr, sym, subst}
use Rattle.std.specs.Result.{IsErrAnd, is_err}

-- What holds on success holds where there is no error.
pub without_error : {T E P : Type 0} (r : Result T E) → false ≡ is_err r → OnOk r P → P
without_error (Ok x) e p = p
without_error (Err e) f p = absurd (cc)

-- The error that was handed on is the one that came.
pub handed_on : {T E : Type 0} (r : Result T E) (x : E) (Q : E → Type 0) → IsErrAnd r (λ e. e ≡ x) → Q x → IfErr r Q
handed_on (Ok y) x Q h q = tt
handed_on (Err e) x Q h q = subst Q (sym h) q
