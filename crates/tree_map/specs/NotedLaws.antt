-- What is noted among pairs, and what a search for a key finds of it.
use Rattle.std.proofs.Common.{◌≡◌, ℕ, zero, suc, refl, sym, ap, ◌∙◌, List, [], ◌∷◌, Some, None, Bool, true, false, inl, inr, ◌⊎◌}
use Rattle.std.specs.Prelude.{slice_get, if◌then◌else◌}
use Rattle.std.specs.Map.{lookup}
use Rattle.std.proofs.Math.Path.{ap₂}
use Rattle.std.proofs.lemmas.Option.{same_Some}
use Rattle.tree_map.specs.Noted.{IsNoted}

module _ {K V : Type 0} where
  -- what is noted among pairs with one more in front is noted behind it, or it is the pair
  pub IsNoted-cons : (e : K × V) (es : List (K × V)) (p : K) (r : V) → IsNoted (e ∷ es) p r → ((e.0 ≡ p) × (e.1 ≡ r)) ⊎ IsNoted es p r
  IsNoted-cons e es p r h = go h.0 h.1
    where
      go : (i : ℕ) → slice_get (e ∷ es) i ≡ Some (p, r) → ((e.0 ≡ p) × (e.1 ≡ r)) ⊎ IsNoted es p r
      go zero q = let s : e ≡ (p, r) = same_Some e (p, r) q in inl (ap (λ (x : K × V). x.0) s, ap (λ (x : K × V). x.1) s)
      go (suc i) q = inr (i, q)

  -- a pair in front is noted
  pub IsNoted-front : (e : K × V) (es : List (K × V)) (p : K) (r : V) → (e.0 ≡ p) × (e.1 ≡ r) → IsNoted (e ∷ es) p r
  IsNoted-front e es p r h = (0, ap Some (ap₂ (λ x y. (x, y)) h.0 h.1))

  -- what is behind a pair is noted
  pub IsNoted-behind : (e : K × V) (es : List (K × V)) (p : K) (r : V) → IsNoted es p r → IsNoted (e ∷ es) p r
  IsNoted-behind e es p r h = (suc h.0, h.1)

  -- nothing is noted among no pairs
  pub IsNoted-none : (es : List (K × V)) → es ≡ [] → (p : K) (r : V) → IsNoted es p r → ⊥
  IsNoted-none [] e p r h = go h.0 h.1
    where
      go : (i : ℕ) → slice_get {X = K × V} [] i ≡ Some (p, r) → ⊥
      go i q = cc
  IsNoted-none (x ∷ es) e p r h = absurd (cc)

-- keys with a test that is exact
module _ {K V : Type 0} (eq : K → K → Bool) (exact : (x y : K) → eq x y ≡ true → x ≡ y) (own : (x : K) → eq x x ≡ true) (p : K) where
  -- the value of the first pair of a key is noted
  pub lookup-noted : (es : List (K × V)) (r : V) → lookup (eq p) es ≡ Some r → IsNoted es p r
  lookup-noted [] r h = absurd (cc)
  lookup-noted (e ∷ es) r h = go (λ w. lookup-noted es r w) (eq p e.0) refl h
    where
      go : (lookup (eq p) es ≡ Some r → IsNoted es p r) → (b : Bool) → eq p e.0 ≡ b → (if b then Some e.1 else lookup (eq p) es) ≡ Some r → IsNoted (e ∷ es) p r
      go on true q w = IsNoted-front e es p r (sym (exact p e.0 q), same_Some e.1 r w)
      go on false q w = IsNoted-behind e es p r (on w)

  -- where no pair has a key, nothing is noted for it
  pub lookup-absent : (es : List (K × V)) → lookup (eq p) es ≡ None → (r : V) → IsNoted es p r → ⊥
  lookup-absent [] h r n = IsNoted-none [] refl p r n
  lookup-absent (e ∷ es) h r n = go (λ w. lookup-absent es w r) (eq p e.0) refl h (IsNoted-cons e es p r n)
    where
      go : (lookup (eq p) es ≡ None → IsNoted es p r → ⊥) → (b : Bool) → eq p e.0 ≡ b → (if b then Some e.1 else lookup (eq p) es) ≡ None
          → ((e.0 ≡ p) × (e.1 ≡ r)) ⊎ IsNoted es p r → ⊥
      go on true q w n = cc
      go on false q w (inl a) = let k : true ≡ false = sym (own p) ∙ ap (eq p) (sym a.0) ∙ q in cc
      go on false q w (inr a) = on w a
