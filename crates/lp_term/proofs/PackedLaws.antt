-- Measures and entries where sizes are put behind the large ones, and where some are given up.
use Rattle.std.proofs.Common.{◌≡◌, ℕ, zero, suc, ◌+◌, ◌-◌, ◌≤◌, ◌<◌, ◌^◌, refl, sym, ap, ◌∙◌, subst, arith, List, [], ◌∷◌, ◌++◌, length, map, take, Some, ⊎_elim}
use Rattle.std.specs.Prelude.{slice_get}
use Rattle.std.proofs.Math.Path.{ap₂}
use Rattle.std.proofs.lemmas.List.{map-append, length-take, length-take-le, take-map}
use Rattle.std.proofs.lemmas.Option.{slice_get_within}
use Rattle.common.specs.Amounts.{IsCode, IsGrown}
use Rattle.common.specs.AmountLaws.{amount_of-more, amount_of-take}
use Rattle.lp_binding_laws.specs.LookUps.{slice_get-one_more, slice_get-of_take}
use Rattle.lp_term.specs.declared.measures.Entry.{Entry}
use Rattle.lp_term.specs.declared.measures.Measures.{Measures}
use Rattle.lp_term.specs.Packed.{measures_in, AreEntries, IsLargeFrom}

-- the measures of coded entries are those that they are by another list with the same amounts
map-same : (a b : List ℕ) (entries : List Entry) → ((i : ℕ) (e : Entry) → slice_get entries i ≡ Some e → measures_in a e ≡ measures_in b e)
    → map (measures_in a) entries ≡ map (measures_in b) entries
map-same a b [] h = refl
map-same a b (e ∷ es) h = ap₂ (λ (m : Measures) (ms : List Measures). m ∷ ms) (h 0 e refl) (map-same a b es (λ i. h (suc i)))

-- the measures of entries stay where the large sizes grow
pub measures-grown : (old new : List ℕ) (entries : List Entry) → IsGrown old new → AreEntries (length old) entries → map (measures_in new) entries
    ≡ map (measures_in old) entries
measures-grown old new entries g h =
    ap (λ w. map (measures_in w) entries) g.1
    ∙ map-same (old ++ g.0) old entries
    (λ i e w. ap (λ (s : ℕ). record { size = s; depth = e.depth; loose = e.loose }) (amount_of-more old g.0 e.size (h.coded i e w)))

-- entries stay where the large sizes grow
pub entries-grown : (old new : ℕ) (entries : List Entry) → old ≤ new → AreEntries old entries → AreEntries new entries
entries-grown old new entries l h = record { coded = λ i e w. omega (arith, l, h.coded i e w); ordered = h.ordered }

-- entries with one more
pub entries-more : (old new : ℕ) (entries : List Entry) (entry : Entry) → old ≤ new → AreEntries old entries → IsCode new entry.size
    → (2 ^ 31 ≤ entry.size → entry.size ≡ 2 ^ 31 + old) → AreEntries new (entries ++ entry ∷ [])
entries-more old new entries entry l h code next = record {
  coded = λ i e w. ⊎_elim (λ held. omega (arith, l, h.coded i e held)) (λ last. subst (λ (k : Entry). IsCode new k.size) last.1 code)
      (slice_get-one_more entries entry e i w);
  ordered = λ i j e f less at held large. ⊎_elim
      (λ there. ⊎_elim (λ here. h.ordered i j e f less here there large) (λ last. absurd (omega (arith, less, last.0, slice_get_within entries j f there)))
      (slice_get-one_more entries entry e i at))
      (λ last. ⊎_elim (λ here. below e f last.1 (h.coded i e here) large) (λ both. absurd (omega (arith, less, last.0, both.0)))
      (slice_get-one_more entries entry e i at))
      (slice_get-one_more entries entry f j held);
}
  where
    below : (e f : Entry) → entry ≡ f → IsCode old e.size → 2 ^ 31 ≤ f.size → e.size < f.size
    below e f same held large =
        let s : entry.size ≡ f.size = ap (λ (k : Entry). k.size) same in
        omega (arith, held, s, next (omega (arith, s, large)))

-- the measures of entries with one more
pub measures-more : (old new : List ℕ) (entries : List Entry) (entry : Entry) (m : Measures) → IsGrown old new → AreEntries (length old) entries
    → measures_in new entry ≡ m → map (measures_in new) (entries ++ entry ∷ []) ≡ map (measures_in old) entries ++ m ∷ []
measures-more old new entries entry m g h is =
    map-append (measures_in new) entries (entry ∷ [])
    ∙ ap₂ (λ (a : List Measures) (b : Measures). a ++ b ∷ []) (measures-grown old new entries g h) is

-- the first entries are entries
pub entries-take : (count len : ℕ) (entries : List Entry) → AreEntries count entries → AreEntries count (take len entries)
entries-take count len entries h = record {
  coded = λ i e w. h.coded i e (slice_get-of_take len entries i e w);
  ordered = λ i j e f less at held. h.ordered i j e f less (slice_get-of_take len entries i e at) (slice_get-of_take len entries j f held);
}

-- the first entries have codes below that of a large size behind them
module _ (count len code : ℕ) (entries : List Entry) (h : AreEntries count entries) (l : IsLargeFrom entries len code) where
  below-code : (i : ℕ) (e : Entry) → slice_get (take len entries) i ≡ Some e → e.size < code
  below-code i e at =
      let within = slice_get_within (take len entries) i e at in
      let front : i < l.place = omega (arith, within, length-take len entries, l.behind) in
      omega (arith, l.is, h.ordered i l.place e l.entry front (slice_get-of_take len entries i e at) l.at (omega (arith, l.is, l.large)))

  pub code-within : code < 2 ^ 31 + count
  code-within = omega (arith, l.is, h.coded l.place l.entry l.at)

  pub codes-cut : (i : ℕ) (e : Entry) → slice_get (take len entries) i ≡ Some e → IsCode (code - 2 ^ 31) e.size
  codes-cut i e at = omega (arith, l.large, below-code i e at)

-- the first entries, and what they measure, where the large sizes behind them are given up
module _ (large : List ℕ) (len code : ℕ) (entries : List Entry) (h : AreEntries (length large) entries) (l : IsLargeFrom entries len code) where
  pub entries-cut : AreEntries (length (take (code - 2 ^ 31) large)) (take len entries)
  entries-cut =
      let k : length (take (code - 2 ^ 31) large) ≡ code - 2 ^ 31
      = length-take-le (code - 2 ^ 31) large (omega (arith, l.large, code-within (length large) len code entries h l)) in
      record {
        coded = λ i e at. rw k (codes-cut (length large) len code entries h l i e at);
        ordered = (entries-take (length large) len entries h).ordered;
      }

  pub measures-cut : map (measures_in (take (code - 2 ^ 31) large)) (take len entries) ≡ take len (map (measures_in large) entries)
  measures-cut =
      map-same (take (code - 2 ^ 31) large) large (take len entries)
      (λ i e at. ap (λ (s : ℕ). record { size = s; depth = e.depth; loose = e.loose })
      (amount_of-take large (code - 2 ^ 31) e.size (codes-cut (length large) len code entries h l i e at)))
      ∙ sym (take-map (measures_in large) len entries)
