-- Stacks: what is known of them, and what is put on them.
use Rattle.std.proofs.Common.{◌≡◌, ℕ, zero, suc, refl, sym, ap, subst, ◌∙◌, List, [], ◌∷◌, ◌++◌, drop}
use Rattle.std.proofs.lemmas.List.{map-append}
use Rattle.std.proofs.Math.Path.{ap₂}
use Rattle.article_spec.specs.State as state
use Rattle.stack_machine.specs.declared.object.Object.{Object}
use Rattle.stack_machine.specs.Stored.{Stored, object_view, objects_view, AreKnown, Grows}
use Rattle.stack_machine.specs.StoredLaws.{object_view-Grows, AreKnown-Grows}

-- what is known of a stack is known of its parts
pub known-drop : (m : Stored) (n : ℕ) (xs : List Object) → AreKnown m xs → AreKnown m (drop n xs)
known-drop m zero [] k = tt
known-drop m zero (x ∷ xs) k = k
known-drop m (suc n) [] k = tt
known-drop m (suc n) (x ∷ xs) k = known-drop m n xs k.1

pub known-append : (m : Stored) (xs ys : List Object) → AreKnown m xs → AreKnown m ys → AreKnown m (xs ++ ys)
known-append m [] ys h k = k
known-append m (x ∷ xs) ys h k = (h.0, known-append m xs ys h.1 k)

-- a stack stays
pub objects_view-Grows : {a b : Stored} → Grows a b → (xs : List Object) → AreKnown a xs → objects_view a xs ≡ objects_view b xs
objects_view-Grows h [] k = refl
objects_view-Grows h (x ∷ xs) k = ap₂ (λ y ys. y ∷ ys) (object_view-Grows h x k.0) (objects_view-Grows h xs k.1)

-- objects in place of so many on top
module _ {a b : Stored} (h : Grows a b) (stack new ys : List Object) (n : ℕ) (k : AreKnown a stack) (e : new ≡ ys ++ drop n stack) where
  pub placed-view : (vs : List state.Object) → objects_view b ys ≡ vs → objects_view b new ≡ vs ++ objects_view a (drop n stack)
  placed-view vs v = ap (objects_view b) e ∙ map-append (object_view b) ys (drop n stack) ∙ ap₂ (λ us ws. us ++ ws) v
      (sym (objects_view-Grows h (drop n stack) (known-drop a n stack k)))

  pub placed-known : AreKnown b ys → AreKnown b new
  placed-known l = subst (AreKnown b) (sym e) (known-append b ys (drop n stack) l (AreKnown-Grows h (drop n stack) (known-drop a n stack k)))
