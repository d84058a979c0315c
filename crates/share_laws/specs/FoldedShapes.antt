-- A folded module is shaped where the module is: so it is well typed, and each of its declarations passes within 64 times the square of
-- its weight.
use Rattle.std.proofs.Common.{◌≡◌, ◌≤◌, ℕ, zero, suc, ◌+◌, ◌-◌, inl, inr, refl, sym, ap, subst, ◌∙◌, append_assoc, Bool, true, false, List, [], ◌∷◌, ◌++◌, length, map, Option, Some, None, arith}
use Rattle.std.specs.Prelude.{if◌then◌else◌, nat_le, slice_get, option_map, take, drop}
use Rattle.std.specs.Option.{is_some, unwrap_or}
use Rattle.std.specs.List.{filter, flat_map}
use Rattle.std.proofs.lemmas.Bool.{and_parts}
use Rattle.std.proofs.lemmas.List.{length-append, take-append-drop, append-nil}
use Rattle.lp_spec.specs.Trees.{Tree}
use Rattle.lp_spec.specs.Modules.{Declaration, types}
use Rattle.lp_spec.specs.Lemmas.{lemmas}
use Rattle.lp_spec.specs.Typing.{WellTyped}
use Rattle.lp_binding_laws.specs.LookUps.{slice_get-append, slice_get-last, slice_get-one_more}
use Rattle.lp_spec.specs.Shaped.{IsShaped}
use Rattle.lp_check_laws.specs.ShapedPasses.{AreShaped, shaped-WellTyped}
use Rattle.lp_check_laws.specs.PricedModules.{IsPriced, shaped-priced}
use Rattle.share_spec.specs.Abbreviations.{abbreviation}
use Rattle.share_spec.specs.MovedTrees.{moved_declaration}
use Rattle.share_spec.specs.Folded.{is_shared, firsts, parts_in, places, Entry, kept, abbreviated, abbreviations, entries, entries_of, place_in, declarations, folded}
use Rattle.share_laws.specs.AbbreviationLaws.{is_some-Some, abbreviation-IsShaped}
use Rattle.share_laws.specs.MovedLaws.{IsMoved}
use Rattle.share_laws.specs.MovedShapes.{shaped-moved}

-- nothing stands past the end of a list
slice_get-past : {X : Type 0} (xs : List X) (i : ℕ) → length xs ≤ i → slice_get xs i ≡ None
slice_get-past [] i h = refl
slice_get-past (x ∷ xs) zero h = absurd (omega (arith, h))
slice_get-past (x ∷ xs) (suc i) h = slice_get-past xs i (omega (arith, h))

slice_get-None : {X : Type 0} (xs : List X) (i : ℕ) → slice_get xs i ≡ None → length xs ≤ i
slice_get-None [] i e = omega arith
slice_get-None (x ∷ xs) zero e = absurd (cc)
slice_get-None (x ∷ xs) (suc i) e = omega (arith, slice_get-None xs i e)

-- Declarations that are kept, and what they and the abbreviations so far became, before further entries: each is at its place, and the
-- places after them are told by the entries.
pub record IsPlaced (g : ℕ → ℕ) (before after : List Declaration) (es : List Entry) : Type 0 where
  pub low : (i : ℕ) (d : Declaration) → slice_get before i ≡ Some d → slice_get after (g i) ≡ Some (moved_declaration g d)
  pub high : (i : ℕ) → g (length before + i) ≡ length after + place_in es i

module _ (g : ℕ → ℕ) where
  pub IsPlaced-IsMoved : (before after : List Declaration) (es : List Entry) → IsPlaced g before after es → IsMoved g before after
  IsPlaced-IsMoved before after es h = record { each = λ i. go i (slice_get before i) refl }
    where
      go : (i : ℕ) (o : Option Declaration) → slice_get before i ≡ o → slice_get after (g i) ≡ option_map (moved_declaration g) o
      go i (Some d) e = h.low i d e
      go i None e =
          let past = slice_get-None before i e in
          let is : i ≡ length before + (i - length before) = omega (arith, past) in
          let at : g i ≡ length after + place_in es (i - length before) = ap g is ∙ h.high (i - length before) in
          slice_get-past after (g i) (omega (arith, at))

  pub IsPlaced-kept : (before after : List Declaration) (d : Declaration) (es : List Entry) → IsPlaced g before after (kept d ∷ es)
      → IsPlaced g (before ++ d ∷ []) (after ++ moved_declaration g d ∷ []) es
  IsPlaced-kept before after d es h = record {
    low = λ i x e. elim (slice_get-one_more before d x i e) [
      | inl a ↦ slice_get-append after (moved_declaration g d ∷ []) (g i) (moved_declaration g x) (h.low i x a)
      | inr a ↦
          let n : length before + 0 ≡ i = omega (arith, a.0) in
          let at : g i ≡ length after = ap g (sym n) ∙ h.high 0 ∙ omega arith in
          ap (slice_get (after ++ moved_declaration g d ∷ [])) at ∙ slice_get-last after (moved_declaration g d) ∙ ap (λ y. Some (moved_declaration g y)) a.1
    ];
    high = λ i.
        let n : length (before ++ d ∷ []) + i ≡ length before + suc i = omega (arith, length-append before (d ∷ [])) in
        ap g n ∙ h.high (suc i) ∙ omega (arith, length-append after (moved_declaration g d ∷ []));
  }

  pub IsPlaced-abbreviated : (before after : List Declaration) (t a : Tree) (x : Declaration) (es : List Entry) → IsPlaced g before after (abbreviated t a ∷ es)
      → IsPlaced g before (after ++ x ∷ []) es
  IsPlaced-abbreviated before after t a x es h = record {
    low = λ i d e. slice_get-append after (x ∷ []) (g i) (moved_declaration g d) (h.low i d e);
    high = λ i. h.high i ∙ omega (arith, length-append after (x ∷ []));
  }

-- at first each is at the place that the entries tell
pub IsPlaced-first : (es : List Entry) → IsPlaced (place_in es) [] [] es
IsPlaced-first es = record {
  low = λ i d e. absurd (cc);
  high = λ i. let n : length {A = Declaration} [] + i ≡ i = omega arith in ap (place_in es) n ∙ omega arith;
}

-- entries after declarations: each declaration is shaped over those before it, and each tree can be abbreviated over them
abbrev pub AreEntries : List Declaration → List Entry → Type 0
AreEntries before [] = Unit {0}
AreEntries before (kept d ∷ es) = IsShaped before d × AreEntries (before ++ d ∷ []) es
AreEntries before (abbreviated t a ∷ es) = (abbreviation before t ≡ Some a) × AreEntries before es

-- What entries become is shaped
pub entries-AreShaped : (g : ℕ → ℕ) (before after : List Declaration) (es : List Entry) (k : ℕ) → IsPlaced g before after es → AreEntries before es
    → AreShaped after (declarations g k es)
entries-AreShaped g before after [] k p h = tt
entries-AreShaped g before after (kept d ∷ es) k p h = (
  shaped-moved g before after (IsPlaced-IsMoved g before after (kept d ∷ es) p) d h.0,
  entries-AreShaped g (before ++ d ∷ []) (after ++ moved_declaration g d ∷ []) es k (IsPlaced-kept g before after d es p) h.1,
)
entries-AreShaped g before after (abbreviated t a ∷ es) k p h = (
  shaped-moved g before after (IsPlaced-IsMoved g before after (abbreviated t a ∷ es) p) _ (abbreviation-IsShaped before _ t a h.0),
  entries-AreShaped g before (after ++ _ ∷ []) es (suc k) (IsPlaced-abbreviated g before after t a _ es p) h.1,
)

-- the entries of a module are such entries
unwrapped : (o : Option Tree) → is_some o ≡ true → o ≡ Some (unwrap_or o types)
unwrapped o e = let s = is_some-Some o e in s.1 ∙ ap (λ w. Some (unwrap_or w types)) (sym s.1)

abbreviations-AreEntries : (before : List Declaration) (all ts : List Tree) (es : List Entry) → AreEntries before es
    → AreEntries before (abbreviations before (filter (is_shared before all) ts) ++ es)
abbreviations-AreEntries before all [] es h = h
abbreviations-AreEntries before all (t ∷ ts) es h = go (is_shared before all t) refl (abbreviations-AreEntries before all ts es h)
  where
    go : (b : Bool) → is_shared before all t ≡ b → AreEntries before (abbreviations before (filter (is_shared before all) ts) ++ es)
        → AreEntries before (abbreviations before (if b then t ∷ filter (is_shared before all) ts else filter (is_shared before all) ts) ++ es)
    go true e k = (unwrapped (abbreviation before t) (and_parts (is_some (abbreviation before t)) (nat_le 2 (places t all)) e).0, k)
    go false e k = k

after-AreEntries : (before : List Declaration) (all met : List Tree) (ds : List Declaration) → AreShaped before ds
    → AreEntries before (entries before all met ds)
after-AreEntries before all met [] h = tt
after-AreEntries before all met (d ∷ ds) h =
    abbreviations-AreEntries before all (firsts met (parts_in d)) (kept d ∷ entries (before ++ d ∷ []) all (met ++ parts_in d) ds)
    (h.0, after-AreEntries (before ++ d ∷ []) all (met ++ parts_in d) ds h.1)

first-AreEntries : (before ds : List Declaration) (es : List Entry) → AreShaped before ds → AreEntries (before ++ ds) es → AreEntries before (map kept ds ++ es)
first-AreEntries before [] es h k = subst (λ w. AreEntries w es) (append-nil before) k
first-AreEntries before (d ∷ ds) es h k =
    (h.0, first-AreEntries (before ++ d ∷ []) ds es h.1 (subst (λ w. AreEntries w es) (sym (append_assoc before (d ∷ []) ds)) k))

AreShaped-front : (before ds es : List Declaration) → AreShaped before (ds ++ es) → AreShaped before ds × AreShaped (before ++ ds) es
AreShaped-front before [] es h = (tt, subst (λ w. AreShaped w es) (sym (append-nil before)) h)
AreShaped-front before (d ∷ ds) es h = let k = AreShaped-front (before ++ d ∷ []) ds es h.1 in
    ((h.0, k.0), subst (λ w. AreShaped w es) (append_assoc before (d ∷ []) ds) k.1)

pub entries_of-AreEntries : (m : List Declaration) → AreShaped [] m → AreEntries [] (entries_of m)
entries_of-AreEntries m h =
    let n = length lemmas in
    let k = AreShaped-front [] (take n m) (drop n m) (subst (AreShaped []) (sym (take-append-drop n m)) h) in
    first-AreEntries [] (take n m) (entries (take n m) (flat_map parts_in (drop n m)) [] (drop n m)) k.0
    (after-AreEntries (take n m) (flat_map parts_in (drop n m)) [] (drop n m) k.1)

-- A folded module is shaped, so well typed, and checks within 64 times the squares of its weights
pub folded-AreShaped : (m : List Declaration) → AreShaped [] m → AreShaped [] (folded m)
folded-AreShaped m h = let es = entries_of m in entries-AreShaped (place_in es) [] [] es 0 (IsPlaced-first es) (entries_of-AreEntries m h)

pub folded-WellTyped : (m : List Declaration) → AreShaped [] m → WellTyped (folded m)
folded-WellTyped m h = shaped-WellTyped (folded m) (folded-AreShaped m h)

pub folded-priced : (m : List Declaration) → AreShaped [] m → (i : ℕ) (d : Declaration) → slice_get (folded m) i ≡ Some d → IsPriced (folded m) i d
folded-priced m h = shaped-priced (folded m) (folded-AreShaped m h)
