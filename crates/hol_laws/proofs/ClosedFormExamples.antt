-- Sequents that are alike, and sequents that aren't.
use Rattle.std.proofs.Common.{◌≡◌, ℕ, List, [], ◌∷◌, refl, ap, arith}
use Rattle.hol_spec.specs.Names.{Name}
use Rattle.hol_spec.specs.Types.{variable}
use Rattle.hol_spec.specs.Primitives.{bool, function}
use Rattle.hol_spec.specs.Terms.{Term, free, constant}
use Rattle.hol_spec.specs.Sequents.{Sequent}
use Rattle.hol_spec.specs.ClosedForm.{ClosedTerm, ClosedSequent}
use Rattle.hol_spec.specs.Renamings.{AreAlike}
use Rattle.hol_laws.specs.ClosedFormLaws.{alike-closed, closed-alike}

-- names of one component that is one number
abbrev own_name : ℕ → Name
own_name i = (i ∷ []) ∷ []

abbrev at_bool : ℕ → Term
at_bool i = free (own_name i) bool

abbrev at_variable : ℕ → Term
at_variable i = free (own_name 0) (variable (own_name i))

abbrev at_function : ℕ → ℕ → Term
at_function i j = constant (own_name 0) (function (variable (own_name i)) (variable (own_name j)))

abbrev sequent : List Term → Term → Sequent
sequent hs c = record { hypotheses = hs; conclusion = c }

-- `{x : bool} |- y : a` and `{z : bool} |- z : b`: the two z are two variables
pub one_name : AreAlike (sequent (at_bool 1 ∷ []) (free (own_name 2) (variable (own_name 3))))
    (sequent (at_bool 4 ∷ []) (free (own_name 4) (variable (own_name 5))))
one_name = closed-alike _ _ refl

-- names exchanged: `{x, y} |- x` and `{y, x} |- y`
pub exchanged : AreAlike (sequent (at_bool 1 ∷ at_bool 2 ∷ []) (at_bool 1)) (sequent (at_bool 2 ∷ at_bool 1 ∷ []) (at_bool 2))
exchanged = closed-alike _ _ refl

number_of : ClosedTerm → ℕ
number_of (ClosedTerm.parameter i) = i
number_of t = 0

-- two variables that become one, `{x} |- y` and `{z} |- z`, are a renaming that isn't one to one
pub merged : AreAlike (sequent (at_bool 1 ∷ []) (at_bool 2)) (sequent (at_bool 3 ∷ []) (at_bool 3)) → ⊥
unfolding number_of
merged a = let e : 1 ≡ 0 = ap (λ (c : ClosedSequent). number_of c.conclusion) (alike-closed _ _ a) in absurd (omega (arith, e))

-- nor is one variable two: `{z} |- z` and `{x} |- y`
pub parted : AreAlike (sequent (at_bool 3 ∷ []) (at_bool 3)) (sequent (at_bool 1 ∷ []) (at_bool 2)) → ⊥
unfolding number_of
parted a = let e : 0 ≡ 1 = ap (λ (c : ClosedSequent). number_of c.conclusion) (alike-closed _ _ a) in absurd (omega (arith, e))

-- the same hypotheses in another order: `{x, y} |- x` and `{y, x} |- x`
pub out_of_order : AreAlike (sequent (at_bool 1 ∷ at_bool 2 ∷ []) (at_bool 1)) (sequent (at_bool 2 ∷ at_bool 1 ∷ []) (at_bool 1)) → ⊥
unfolding number_of
out_of_order a = let e : 0 ≡ 1 = ap (λ (c : ClosedSequent). number_of c.conclusion) (alike-closed _ _ a) in absurd (omega (arith, e))

-- two type variables that become one: `{x : a} |- x : b` and `{x : a} |- x : a`
pub types_merged : AreAlike (sequent (at_variable 1 ∷ []) (at_variable 2)) (sequent (at_variable 1 ∷ []) (at_variable 1)) → ⊥
unfolding number_of
types_merged a = let e : 1 ≡ 0 = ap (λ (c : ClosedSequent). number_of c.conclusion) (alike-closed _ _ a) in absurd (omega (arith, e))

-- a type variable of a constant's type, where no free variable tells: `|- c : a -> b` and `|- c : a -> a`
pub types_merged_inside : AreAlike (sequent [] (at_function 1 2)) (sequent [] (at_function 1 1)) → ⊥
types_merged_inside a = let e : 2 ≡ 1 = ap (λ (c : ClosedSequent). c.type_variable_count) (alike-closed _ _ a) in absurd (omega (arith, e))
