-- Worked examples: what closing, putting and substituting make of small terms.
use Rattle.std.proofs.Common.{◌≡◌, refl, [], ◌∷◌, codes}
use Rattle.hol_spec.specs.Names.{Name}
use Rattle.hol_spec.specs.Types.{HolType, variable}
use Rattle.hol_spec.specs.Primitives.{bool}
use Rattle.hol_spec.specs.Terms.{free, bound, app, lam}
use Rattle.hol_spec.specs.TermBinding.{lift, put, put_all, close, loose}
use Rattle.hol_spec.specs.TermSubstitution.{sub}

abbrev x : Name
x = codes "x" ∷ []

abbrev y : Name
y = codes "y" ∷ []

abbrev a : HolType
a = variable (codes "a" ∷ [])

-- The abstraction over x of type bool binds that variable, and not the one of the same name and another type.
close_one : lam bool (close (x, bool) (app (free x a) (free x bool))) ≡ lam bool (app (free x a) (bound 0))
close_one = refl

-- Under a binder the new variable's number is one more, and a loose number rises.
close_under : close (x, bool) (lam a (app (app (bound 0) (bound 1)) (free x bool))) ≡ lam a (app (app (bound 0) (bound 2)) (bound 1))
close_under = refl

-- A loose number counts from outside the binder.
loose_one : loose (lam a (app (bound 0) (bound 1))) ≡ 1
loose_one = refl

lift_loose : lift 2 (lam a (app (bound 0) (bound 1))) ≡ lam a (app (bound 0) (bound 3))
lift_loose = refl

-- What is put under a binder is lifted, so that the binder does not capture it; the greater number is lowered.
put_lifted : put (bound 4) (lam a (app (app (bound 0) (bound 1)) (bound 2))) ≡ lam a (app (app (bound 0) (bound 5)) (bound 1))
put_lifted = refl

-- The last argument is put for the innermost variable.
put_in_order : put_all (free x a ∷ free y a ∷ []) (app (bound 0) (bound 1)) ≡ app (free y a) (free x a)
put_in_order = refl

-- Both terms are put at once, and none is put into the other.
sub_at_once : sub [] (((x, a), free y a) ∷ ((y, a), free x a) ∷ []) (app (free x a) (free y a)) ≡ app (free y a) (free x a)
sub_at_once = refl

-- A variable is looked up with its new type.
sub_types_first : sub ((codes "a" ∷ [], bool) ∷ []) (((x, bool), free y bool) ∷ []) (app (free x a) (free x bool)) ≡ app (free y bool) (free y bool)
sub_types_first = refl

-- A variable that is put in stays free.
sub_no_capture : sub [] (((x, a), free y a) ∷ []) (lam a (close (y, a) (app (free x a) (free y a)))) ≡ lam a (app (free y a) (bound 0))
sub_no_capture = refl
