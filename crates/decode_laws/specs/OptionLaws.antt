-- What follows where something is joined, tried or tested and is there.
use Rattle.std.specs.Prelude.{◌≡◌, Bool, true, false, Option, None, Some}
use Rattle.std.proofs.Common.{refl, sym, ap, ◌⊎◌, inl, inr}
use Rattle.decode_spec.specs.Options.{bind, both, or_else, provided}

pub some-injective : {A : Type 0} {x y : A} → ◌≡◌ {A = Option A} (Some x) (Some y) → x ≡ y
some-injective e = cc

pub bind-is : {A B : Type 0} (o : Option A) (f : A → Option B) (y : B) → bind o f ≡ Some y → (x : A) × (o ≡ Some x) × (f x ≡ Some y)
bind-is None f y e = absurd (cc)
bind-is (Some x) f y e = (x, refl, e)

pub both-is : {A B C : Type 0} (f : A → B → C) (o : Option A) (p : Option B) (z : C) → both f o p ≡ Some z
    → (x : A) × (y : B) × (o ≡ Some x) × (p ≡ Some y) × (z ≡ f x y)
both-is f None p z e = absurd (cc)
both-is f (Some x) None z e = absurd (cc)
both-is f (Some x) (Some y) z e = (x, y, refl, refl, sym (some-injective e))

pub or_else-is : {A : Type 0} (o p : Option A) (x : A) → or_else o p ≡ Some x → (o ≡ Some x) ⊎ (p ≡ Some x)
or_else-is None p x e = inr e
or_else-is (Some y) p x e = inl e

pub or_else-first : {A : Type 0} (o p : Option A) (x : A) → o ≡ Some x → or_else o p ≡ Some x
or_else-first o p x e = ap (λ w. or_else w p) e

pub or_else-second : {A : Type 0} (o p : Option A) (x : A) → ((y : A) → o ≡ Some y → y ≡ x) → p ≡ Some x → or_else o p ≡ Some x
or_else-second None p x f e = e
or_else-second (Some y) p x f e = ap Some (f y refl)

pub provided-is : {A : Type 0} (b : Bool) (o : Option A) (x : A) → provided b o ≡ Some x → (b ≡ true) × (o ≡ Some x)
provided-is true o x e = (refl, e)
provided-is false o x e = absurd (cc)

pub provided-true : {A : Type 0} (b : Bool) (o : Option A) → b ≡ true → provided b o ≡ o
provided-true b o e = ap (λ w. provided w o) e

-- a thing is there or lacking
pub Some-or_None : {A : Type 0} (o : Option A) → ((x : A) × (o ≡ Some x)) ⊎ (o ≡ None)
Some-or_None None = inr refl
Some-or_None (Some x) = inl (x, refl)
