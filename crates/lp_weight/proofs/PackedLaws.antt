-- Codes and entries where amounts are put behind the large ones.
use Rattle.std.proofs.Common.{◌≡◌, ℕ, zero, suc, ◌≤◌, refl, sym, ap, ◌∙◌, subst, arith, List, [], ◌∷◌, ◌++◌, length, map, Some, inl, inr, ◌⊎◌, ⊎_elim}
use Rattle.std.specs.Prelude.{slice_get}
use Rattle.std.proofs.Math.Path.{ap₂}
use Rattle.std.proofs.lemmas.List.{map-append}
use Rattle.lp_weight.specs.declared.column.Entry.{Entry}
use Rattle.lp_weight.specs.declared.column.Spread.{Spread}
use Rattle.common.specs.Amounts.{IsCode, IsGrown}
use Rattle.common.specs.AmountLaws.{amount_of-more}
use Rattle.lp_weight.specs.Packed.{front_in, spread_in, AreEntries}

-- the spread of an entry stays
spread_in-more : (large more : List ℕ) (entry : Entry) → IsCode (length large) entry.front → IsCode (length large) entry.inner → spread_in (large ++ more) entry
    ≡ spread_in large entry
spread_in-more large more entry front inner =
    ap₂ (λ (a b : ℕ). record { front = front_in entry.rest a; inner = b }) (amount_of-more large more entry.front front)
    (amount_of-more large more entry.inner inner)

-- the spreads of entries stay
map-spread_in : (large more : List ℕ) (entries : List Entry) → AreEntries (length large) entries → map (spread_in (large ++ more)) entries
    ≡ map (spread_in large) entries
map-spread_in large more [] h = refl
map-spread_in large more (e ∷ es) h =
    ap₂ (λ (a : Spread) (b : List Spread). a ∷ b) (spread_in-more large more e (h.front 0 e refl) (h.inner 0 e refl))
    (map-spread_in large more es (record { front = λ i. h.front (suc i); inner = λ i. h.inner (suc i) }))

-- entries stay where the large amounts grow
pub entries-grown : (old new : ℕ) (entries : List Entry) → old ≤ new → AreEntries old entries → AreEntries new entries
entries-grown old new entries l h = record { front = λ i e w. omega (arith, l, h.front i e w); inner = λ i e w. omega (arith, l, h.inner i e w) }

-- an entry of entries with one more is one of them, or that one
last-or : (xs : List Entry) (s : Entry) (i : ℕ) (x : Entry) → slice_get (xs ++ s ∷ []) i ≡ Some x → (slice_get xs i ≡ Some x) ⊎ (x ≡ s)
last-or [] s zero x h = inr (cc)
last-or [] s (suc i) x h = inl h
last-or (y ∷ xs) s zero x h = inl h
last-or (y ∷ xs) s (suc i) x h = last-or xs s i x h

-- entries with one more
pub entries-more : (count : ℕ) (entries : List Entry) (entry : Entry) → AreEntries count entries → IsCode count entry.front → IsCode count entry.inner
    → AreEntries count (entries ++ entry ∷ [])
entries-more count entries entry h front inner = record {
  front = λ i e w. ⊎_elim (λ old. h.front i e old) (λ new. subst (λ (k : Entry). IsCode count k.front) (sym new) front) (last-or entries entry i e w);
  inner = λ i e w. ⊎_elim (λ old. h.inner i e old) (λ new. subst (λ (k : Entry). IsCode count k.inner) (sym new) inner) (last-or entries entry i e w);
}

-- the spreads of entries with one more
pub spreads-more : (old new : List ℕ) (entries : List Entry) (entry : Entry) (spread : Spread) → IsGrown old new → AreEntries (length old) entries
    → spread_in new entry ≡ spread → map (spread_in new) (entries ++ entry ∷ []) ≡ map (spread_in old) entries ++ spread ∷ []
spreads-more old new entries entry spread g h is =
    map-append (spread_in new) entries (entry ∷ [])
    ∙ ap₂ (λ (a : List Spread) (b : Spread). a ++ b ∷ []) (ap (λ w. map (spread_in w) entries) g.1 ∙ map-spread_in old g.0 entries h) is
