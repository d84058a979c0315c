-- Laws of terms: the tests of equality decide it, terms can be told apart as values, and what the makers of terms make is well typed.
use base.Stored.{Coded, coded×, Gv, gnum, gcons}
use Rattle.std.proofs.Common.{◌≡◌, List, [], ◌∷◌, true, Some, refl, ap}
use Rattle.std.specs.Bool.{Decides}
use Rattle.std.proofs.lemmas.Bool.Decides.{Decides-eqb}
use Rattle.hol_spec.specs.NameEquality.{name_eq}
use Rattle.hol_laws.specs.NameEqualityLaws.{name_eq-Decides}
use Rattle.hol_laws.specs.TypeLaws.{coded_name, type_eq-Decides, both-Decides, coded_type}
use Rattle.hol_spec.specs.Types.{HolType, type_eq}
use Rattle.hol_spec.specs.Primitives.{bool, function, equality_name, equality_type}
use Rattle.hol_spec.specs.Terms.{Term, free, bound, constant, app, lam, term_eq, Variable, variable_eq, type_under, HasType, equation}

pub variable_eq-Decides : (v w : Variable) → Decides (variable_eq v w) (v ≡ w)
variable_eq-Decides v w = both-Decides (name_eq v.0 w.0) (type_eq v.1 w.1) (name_eq-Decides v.0 w.0) (type_eq-Decides v.1 w.1) (λ p q i. (p i, q i))
    (λ h. (ap (λ (x : Variable). x.0) h, ap (λ (x : Variable). x.1) h))

pub term_eq-Decides : (t u : Term) → Decides (term_eq t u) (t ≡ u)
term_eq-Decides (free m t) (free n u) = both-Decides (name_eq m n) (type_eq t u) (name_eq-Decides m n) (type_eq-Decides t u) (λ p q. cc) (λ h. (cc, cc))
term_eq-Decides (bound j) (bound k) = (λ h. ap bound ((Decides-eqb j k).0 h), λ h. (Decides-eqb j k).1 (cc))
term_eq-Decides (constant m t) (constant n u) = both-Decides (name_eq m n) (type_eq t u) (name_eq-Decides m n) (type_eq-Decides t u) (λ p q. cc) (λ h. (cc, cc))
term_eq-Decides (app f x) (app g y) = both-Decides (term_eq f g) (term_eq x y) (term_eq-Decides f g) (term_eq-Decides x y) (λ p q. cc) (λ h. (cc, cc))
term_eq-Decides (lam t b) (lam u c) = both-Decides (type_eq t u) (term_eq b c) (type_eq-Decides t u) (term_eq-Decides b c) (λ p q. cc) (λ h. (cc, cc))
term_eq-Decides t u = (λ h. cc, λ h. cc)

pub term_code : Term → Gv
term_code (free n t) = gcons (gnum 0) (gcons (coded_name.code n) (coded_type.code t))
term_code (bound k) = gcons (gnum 1) (gnum k)
term_code (constant n t) = gcons (gnum 2) (gcons (coded_name.code n) (coded_type.code t))
term_code (app f x) = gcons (gnum 3) (gcons (term_code f) (term_code x))
term_code (lam t b) = gcons (gnum 4) (gcons (coded_type.code t) (term_code b))

pub term_inj : (t u : Term) → term_code t ≡ term_code u → t ≡ u
unfolding term_code
term_inj (free m t) (free n u) e = let f : m ≡ n = coded_name.inj m n (cc) in let g : t ≡ u = coded_type.inj t u (cc) in cc
term_inj (bound j) (bound k) e = cc
term_inj (constant m t) (constant n u) e = let f : m ≡ n = coded_name.inj m n (cc) in let g : t ≡ u = coded_type.inj t u (cc) in cc
term_inj (app f x) (app g y) e = let h : f ≡ g = term_inj f g (cc) in let i : x ≡ y = term_inj x y (cc) in cc
term_inj (lam t b) (lam u c) e = let f : t ≡ u = coded_type.inj t u (cc) in let g : b ≡ c = term_inj b c (cc) in cc
term_inj t u e = cc

-- The code of a term, for a model whose value has terms in it.
abbrev pub coded_term : Coded Term
coded_term = record { code = term_code; inj = term_inj }

abbrev pub coded_variable : Coded Variable
coded_variable = coded× coded_name coded_type

-- A type is one with itself.
pub type_eq-refl : (a : HolType) → type_eq a a ≡ true
type_eq-refl a = (type_eq-Decides a a).1 refl

-- A function applied to an argument of its argument's type has its result's type, under any binders.
pub type_under-app : (binders : List HolType) (f x : Term) (a b : HolType) → type_under binders f ≡ Some (function a b) → type_under binders x ≡ Some a
    → type_under binders (app f x) ≡ Some b
type_under-app binders f x a b p q = rw (p, q, type_eq-refl a) refl

-- An abstraction is a function from its binder's type to its body's.
pub type_under-lam : (binders : List HolType) (a : HolType) (t : Term) (b : HolType) → type_under (a ∷ binders) t ≡ Some b
    → type_under binders (lam a t) ≡ Some (function a b)
type_under-lam binders a t b p = rw p refl

-- An equation between two terms of one type is of type `bool`.
pub type_of-equation : (a : HolType) (t u : Term) → HasType t a → HasType u a → HasType (equation a t u) bool
type_of-equation a t u p q =
    type_under-app [] (app (constant equality_name (equality_type a)) t) u a bool
    (type_under-app [] (constant equality_name (equality_type a)) t a (function a bool) refl p) q
