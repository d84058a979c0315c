-- What holds of an answer, by what holds where it is given and where it is not.
use Rattle.std.proofs.Common.{Result, Ok, Err, IfOk, IfErr, OnOk, OnErr}

-- what follows from either case
pub OnOk-OnErr : {A E P Q R : Type 0} (r : Result A E) → OnOk r P → OnErr r Q → (P → R) → (Q → R) → R
OnOk-OnErr (Ok a) p q f g = f p
OnOk-OnErr (Err e) p q f g = g q

-- two facts of one case are one
pub OnOk-both : {A E : Type 0} (P Q : Type 0) (r : Result A E) → OnOk r P → OnOk r Q → OnOk r (P × Q)
OnOk-both P Q (Ok a) p q = (p, q)
OnOk-both P Q (Err e) p q = tt

pub OnErr-both : {A E : Type 0} (P Q : Type 0) (r : Result A E) → OnErr r P → OnErr r Q → OnErr r (P × Q)
OnErr-both P Q (Ok a) p q = tt
OnErr-both P Q (Err e) p q = (p, q)

-- what follows from one case, in that case
pub OnErr-more : {A E P Q : Type 0} (r : Result A E) → OnErr r P → (P → Q) → OnErr r Q
OnErr-more (Ok a) p f = tt
OnErr-more (Err e) p f = f p

pub OnOk-more : {A E P Q : Type 0} (r : Result A E) → OnOk r P → (P → Q) → OnOk r Q
OnOk-more (Ok a) p f = f p
OnOk-more (Err e) p f = tt

-- a fact that does not speak of what is answered, as one that does
pub OnOk-IfOk : {A E P : Type 0} {Q : A → Type 0} (r : Result A E) → OnOk r P → (P → (a : A) → Q a) → IfOk r Q
OnOk-IfOk (Ok a) p f = f p a
OnOk-IfOk (Err e) p f = tt

-- what follows from a fact of what is answered
pub IfOk-more : {A E : Type 0} {P Q : A → Type 0} (r : Result A E) → IfOk r P → ((a : A) → P a → Q a) → IfOk r Q
IfOk-more (Ok a) p f = f a p
IfOk-more (Err e) p f = tt

pub IfErr-more : {A E : Type 0} {P Q : E → Type 0} (r : Result A E) → IfErr r P → ((e : E) → P e → Q e) → IfErr r Q
IfErr-more (Ok a) p f = tt
IfErr-more (Err e) p f = f e p
