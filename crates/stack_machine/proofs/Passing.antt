-- What is said of an answer, handed on.
use Rattle.std.proofs.Common.{◌≡◌, sym, subst, Result, Ok, Err, IfOk, IfErr, OnOk, OnErr}
use Rattle.std.specs.Result.{IsErrAnd}

-- the error that was handed on is the one that came
pub handed_on : {T E : Type 0} (r : Result T E) (x : E) (Q : E → Type 0) → IsErrAnd r (λ e. e ≡ x) → Q x → IfErr r Q
handed_on (Ok y) x Q h q = tt
handed_on (Err e) x Q h q = subst Q (sym h) q

pub IfOk-map : {T E : Type 0} (r : Result T E) (P Q : T → Type 0) → IfOk r P → ((x : T) → P x → Q x) → IfOk r Q
IfOk-map (Ok x) P Q h f = f x h
IfOk-map (Err e) P Q h f = tt

pub both : {T E : Type 0} (r : Result T E) (P Q : T → Type 0) → IfOk r P → IfOk r Q → IfOk r (λ x. P x × Q x)
both (Ok x) P Q h k = (h, k)
both (Err e) P Q h k = tt

-- what is known of every answer is known where there is one
pub OnOk-IfOk : {T E : Type 0} (r : Result T E) (P : T → Type 0) (Q : Type 0) → IfOk r P → ((x : T) → P x → Q) → OnOk r Q
OnOk-IfOk (Ok x) P Q h f = f x h
OnOk-IfOk (Err e) P Q h f = tt

pub OnOk-map : {T E : Type 0} (r : Result T E) (P Q : Type 0) → OnOk r P → (P → Q) → OnOk r Q
OnOk-map (Ok x) P Q h f = f h
OnOk-map (Err e) P Q h f = tt

pub IfErr-map : {T E : Type 0} (r : Result T E) (P Q : E → Type 0) → IfErr r P → ((e : E) → P e → Q e) → IfErr r Q
IfErr-map (Ok x) P Q h f = tt
IfErr-map (Err e) P Q h f = f e h

pub OnErr-map : {T E : Type 0} (r : Result T E) (P Q : Type 0) → OnErr r P → (P → Q) → OnErr r Q
OnErr-map (Ok x) P Q h f = tt
OnErr-map (Err e) P Q h f = f h

pub OnErr-map2 : {T E : Type 0} (r : Result T E) (P Q R : Type 0) → OnErr r P → OnErr r Q → (P → Q → R) → OnErr r R
OnErr-map2 (Ok x) P Q R h k f = tt
OnErr-map2 (Err e) P Q R h k f = f h k

pub always : {T E : Type 0} {P : Type 0} (r : Result T E) → P → OnErr r P
always (Ok x) p = tt
always (Err e) p = p
