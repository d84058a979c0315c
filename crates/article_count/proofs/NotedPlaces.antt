-- What is noted after a note more.
use Rattle.std.proofs.Common.{◌≡◌, ◌⊎◌, inl, inr, ℕ, Bool, true, false, cond, Some, refl, sym, ap, ◌∙◌}
use Rattle.std.specs.Cmp.{Equal-is}
use Rattle.std.specs.Ordering.{is_eq, nat_cmp}
use Rattle.std.proofs.lemmas.Map.Lookups.{exact_pairs, exact_unsigned}
use Rattle.std.proofs.lemmas.Option.{same_Some}
use Rattle.article_count.specs.declared.memo.Memo.{Memo}
use Rattle.article_count.specs.declared.memo.Place.{Place}
use Rattle.article_count.specs.Noted.{key_cmp, noted_at, IsNoted}

-- keys that are equal in their order are of one place
key-place : (p q : Place) → is_eq (key_cmp (p.id.0, p.depth) (q.id.0, q.depth)) ≡ true → p ≡ q
key-place p q e =
    let same = exact_pairs nat_cmp nat_cmp exact_unsigned exact_unsigned (p.id.0, p.depth) (q.id.0, q.depth)
    ((Equal-is (key_cmp (p.id.0, p.depth) (q.id.0, q.depth))).0 e) in
    λ i. record { id = record { 0 = (same i).0 }; depth = (same i).1 }

pub place-noted : (old new : Memo) (place : Place) (number : ℕ)
    → ((key : ℕ × ℕ) → noted_at new key ≡ cond (is_eq (key_cmp (place.id.0, place.depth) key)) (Some number) (noted_at old key))
    → (p : Place) (n : ℕ) → IsNoted new p n → IsNoted old p n ⊎ ((p ≡ place) × (n ≡ number))
place-noted old new place number updates p n at = go (is_eq (key_cmp (place.id.0, place.depth) (p.id.0, p.depth))) refl
  where
    go : (b : Bool) → is_eq (key_cmp (place.id.0, place.depth) (p.id.0, p.depth)) ≡ b → IsNoted old p n ⊎ ((p ≡ place) × (n ≡ number))
    go true e =
        let value = sym at ∙ updates (p.id.0, p.depth) ∙ ap (λ b. cond b (Some number) (noted_at old (p.id.0, p.depth))) e in
        inr (sym (key-place place p e), same_Some n number value)
    go false e = inl (sym (updates (p.id.0, p.depth) ∙ ap (λ b. cond b (Some number) (noted_at old (p.id.0, p.depth))) e) ∙ at)
