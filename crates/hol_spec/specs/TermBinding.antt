-- Binding in terms: lifting loose numbers, putting terms for bound variables, and closing a term over a free variable. Types have no bound numbers and stay.
-- Source: de Bruijn, "Lambda calculus notation with nameless dummies" (1972); McBride and McKinna, "I am not a number: I am a free variable" (2004).
use Rattle.std.specs.Prelude.{ℕ, suc, ◌+◌, ◌-◌, nat_lt, nat_eq, max, if◌then◌else◌, List, length, reverse, slice_get}
use Rattle.std.specs.Option.{option_map_or}
use Rattle.hol_spec.specs.Terms.{Term, free, bound, constant, app, lam, Variable, variable_eq}

-- A number under c binders, where the loose ones rise by k.
abbrev pub raised : ℕ → ℕ → ℕ → ℕ
raised c k n = if nat_lt n c then n else n + k

-- A part under c binders of a term whose loose numbers rise by k.
abbrev pub lift_at : ℕ → ℕ → Term → Term
lift_at c k (free n t) = free n t
lift_at c k (bound n) = bound (raised c k n)
lift_at c k (constant n t) = constant n t
lift_at c k (app f x) = app (lift_at c k f) (lift_at c k x)
lift_at c k (lam t b) = lam t (lift_at (suc c) k b)

-- The term whose loose numbers rise by k.
abbrev pub lift : ℕ → Term → Term
lift k t = lift_at 0 k t

-- What stands for the number n where a, lifted by d, is put for the number d and the greater ones are lowered.
abbrev pub put_bound : ℕ → Term → ℕ → Term
put_bound d a n = if nat_lt n d then bound n else (if nat_eq n d then lift d a else bound (n - 1))

-- A part under d binders of a term with a put for its innermost loose number.
abbrev pub put_at : ℕ → Term → Term → Term
put_at d a (free n t) = free n t
put_at d a (bound n) = put_bound d a n
put_at d a (constant n t) = constant n t
put_at d a (app f x) = app (put_at d a f) (put_at d a x)
put_at d a (lam t b) = lam t (put_at (suc d) a b)

-- The body of a binder with a put for its variable.
abbrev pub put : Term → Term → Term
put a t = put_at 0 a t

-- What stands for the number n under d binders where arguments are put for the innermost loose numbers at once:
-- they stand in the order of an application, so the last is put for the innermost.
abbrev pub put_all_bound : ℕ → List Term → ℕ → Term
put_all_bound d args n =
    if nat_lt n d then bound n else option_map_or (lift d) (slice_get (reverse args) (n - d)) (bound (n - length args))

-- A part under d binders of a term with arguments put for its innermost loose numbers.
abbrev pub put_all_at : ℕ → List Term → Term → Term
put_all_at d args (free n t) = free n t
put_all_at d args (bound n) = put_all_bound d args n
put_all_at d args (constant n t) = constant n t
put_all_at d args (app f x) = app (put_all_at d args f) (put_all_at d args x)
put_all_at d args (lam t b) = lam t (put_all_at (suc d) args b)

-- The body of as many binders as there are arguments, with each put for its variable.
abbrev pub put_all : List Term → Term → Term
put_all args t = put_all_at 0 args t

-- A part under d binders of a term in which the free variable v becomes the variable of a new binder: the loose numbers rise by one.
abbrev pub close_at : ℕ → Variable → Term → Term
close_at d v (free n t) = if variable_eq (n, t) v then bound d else free n t
close_at d v (bound n) = bound (raised d 1 n)
close_at d v (constant n t) = constant n t
close_at d v (app f x) = app (close_at d v f) (close_at d v x)
close_at d v (lam t b) = lam t (close_at (suc d) v b)

-- The body of the new binder that binds the free variable v of a term.
abbrev pub close : Variable → Term → Term
close v t = close_at 0 v t

-- How many binders round a term leave it no loose number.
abbrev pub loose : Term → ℕ
loose (free n t) = 0
loose (bound n) = suc n
loose (constant n t) = 0
loose (app f x) = max (loose f) (loose x)
loose (lam t b) = loose b - 1
