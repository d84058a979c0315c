-- An abbreviation weighs little more than the declaration in which its tree first occurs.
use Rattle.std.proofs.Common.{◌≡◌, ◌≤◌, ℕ, suc, ◌+◌, ◌*◌, refl, sym, ap, subst, ◌∙◌, append_assoc, Bool, true, false, List, [], ◌∷◌, ◌++◌, length, map, Option, Some, None, arith}
use Rattle.std.specs.Prelude.{if◌then◌else◌, option_map, take, drop}
use Rattle.std.specs.List.{AllByRecursion, filter, flat_map}
use Rattle.std.specs.Option.{option_map_or}
use Rattle.std.proofs.Math.Path.{ap₂}
use Rattle.std.proofs.lemmas.List.{append-nil, take-append-drop}
use Rattle.std.proofs.lemmas.Option.{slice_get_within}
use Rattle.lp_spec.specs.Trees.{Tree, SortType, SortKind, Var, Sym, App, Lam, Pi, put_var, put_at, put_all, put_all_at, size}
use Rattle.lp_spec.specs.Modules.{Declaration, types, symbol_type}
use Rattle.lp_spec.specs.Lemmas.{lemmas}
use Rattle.lp_spec.specs.Weight.{spread_after, spread, symbol_spread, spreads, tree_weight, weight}
use Rattle.lp_binding_laws.specs.Arguments.{put-put_all}
use Rattle.lp_spec.specs.Shaped.{IsConstant, type_variable, constant, at_type}
use Rattle.lp_check_laws.specs.ShapedPasses.{AreShaped}
use Rattle.lp_check_laws.specs.PricedModules.{weight-more}
use Rattle.lp_check_laws.specs.Sizes.{put_all-nil}
use Rattle.lp_check_laws.specs.Found.{term-simple}
use Rattle.lp_check_laws.specs.TermPrice.{size-positive, constant-spreads, spread-type, AreSmall, type-size}
use Rattle.share_spec.specs.MovedTrees.{moved, moved_declaration}
use Rattle.share_spec.specs.Folded.{parts, parts_in, is_shared, is_in, firsts, Entry, kept, abbreviated, abbreviations, entries, entries_of, place_in, declarations, folded}
use Rattle.share_spec.specs.FoldedStands.{IsAbbreviated, of_type, of_term}
use Rattle.share_laws.specs.AbbreviationLaws.{abbreviation-IsAbbreviated}
use Rattle.share_laws.specs.MovedLaws.{size-moved, IsMoved}
use Rattle.share_laws.specs.MovedSteps.{spreads-moved}
use Rattle.share_laws.specs.FoldedShapes.{IsPlaced, IsPlaced-IsMoved, IsPlaced-kept, IsPlaced-abbreviated, IsPlaced-first, AreEntries, entries_of-AreEntries, folded-AreShaped}

-- what is put in makes no tree smaller
size-put_at : (d : ℕ) (x t : Tree) → size t ≤ size (put_at d x t)
size-put_at d x SortType = omega arith
size-put_at d x SortKind = omega arith
size-put_at d x (Var n) = size-positive (put_var d x n)
size-put_at d x (Sym s) = omega arith
size-put_at d x (App f y) = omega (arith, size-put_at d x f, size-put_at d x y)
size-put_at d x (Lam a b) = omega (arith, size-put_at d x a, size-put_at (suc d) x b)
size-put_at d x (Pi a b) = omega (arith, size-put_at d x a, size-put_at (suc d) x b)

-- fewer arguments spread a type no further than as many steps more
all_less : (before args : List Tree) (t : Tree) → size (put_all before t) ≤ spread_after before args t + length args
all_less before [] t = omega arith
all_less before (u ∷ us) (Pi a b) =
    omega (arith, all_less (before ++ u ∷ []) us b, size-put_at 0 u (put_all_at 1 before b), ap size (put-put_all u before b))
all_less before (u ∷ us) SortType = omega arith
all_less before (u ∷ us) SortKind = omega arith
all_less before (u ∷ us) (Var n) = omega arith
all_less before (u ∷ us) (Sym s) = omega arith
all_less before (u ∷ us) (App f x) = omega arith
all_less before (u ∷ us) (Lam a b) = omega arith

spread-fewer : (before us vs : List Tree) (t : Tree) → spread_after before us t ≤ spread_after before (us ++ vs) t + length vs
spread-fewer before [] vs t = all_less before vs t
spread-fewer before (u ∷ us) vs (Pi a b) = omega (arith, spread-fewer (before ++ u ∷ []) us vs b)
spread-fewer before (u ∷ us) vs SortType = omega arith
spread-fewer before (u ∷ us) vs SortKind = omega arith
spread-fewer before (u ∷ us) vs (Var n) = omega arith
spread-fewer before (u ∷ us) vs (Sym s) = omega arith
spread-fewer before (u ∷ us) vs (App f x) = omega arith
spread-fewer before (u ∷ us) vs (Lam a b) = omega arith

module _ (m : List Declaration) where
  symbol-fewer : (us vs : List Tree) (o : Option Tree) → option_map_or (spread us) o 0 ≤ option_map_or (spread (us ++ vs)) o 0 + length vs
  symbol-fewer us vs None = omega arith
  symbol-fewer us vs (Some t) = spread-fewer [] us vs t

  spreads-fewer : (us vs : List Tree) (t : Tree) → spreads m us t ≤ spreads m (us ++ vs) t + length vs
  spreads-fewer us vs SortType = omega arith
  spreads-fewer us vs SortKind = omega arith
  spreads-fewer us vs (Var n) = omega arith
  spreads-fewer us vs (Sym s) = symbol-fewer us vs (symbol_type m s)
  spreads-fewer us vs (App f x) = omega (arith, spreads-fewer (x ∷ us) vs f)
  spreads-fewer us vs (Lam a b) = omega arith
  spreads-fewer us vs (Pi a b) = omega arith

  abbrev Light : ℕ → List Tree → Type 0
  Light w ts = AllByRecursion (λ (t : Tree). tree_weight m t ≤ w) ts

  Light-append : (w : ℕ) (xs ys : List Tree) → Light w xs → Light w ys → Light w (xs ++ ys)
  Light-append w [] ys h k = k
  Light-append w (x ∷ xs) ys h k = (h.0, Light-append w xs ys h.1 k)

  -- a part weighs no more than the tree
  parts-Light : (w : ℕ) (t : Tree) → tree_weight m t ≤ w → Light w (parts t)
  parts-Light w (App f x) h =
      Light-append w (parts f ++ parts x) (App f x ∷ [])
      (Light-append w (parts f) (parts x) (parts-Light w f (omega (arith, h, spreads-fewer [] (x ∷ []) f))) (parts-Light w x (omega (arith, h)))) (h, tt)
  parts-Light w (Lam a b) h = Light-append w (parts a ++ parts b) (Lam a b ∷ [])
      (Light-append w (parts a) (parts b) (parts-Light w a (omega (arith, h))) (parts-Light w b (omega (arith, h)))) (h, tt)
  parts-Light w (Pi a b) h = Light-append w (parts a ++ parts b) (Pi a b ∷ [])
      (Light-append w (parts a) (parts b) (parts-Light w a (omega (arith, h))) (parts-Light w b (omega (arith, h)))) (h, tt)
  parts-Light w SortType h = (h, tt)
  parts-Light w SortKind h = (h, tt)
  parts-Light w (Var n) h = (h, tt)
  parts-Light w (Sym s) h = (h, tt)

  firsts-Light : (w : ℕ) (met ts : List Tree) → Light w ts → Light w (firsts met ts)
  firsts-Light w met [] h = tt
  firsts-Light w met (t ∷ ts) h = go (is_in t met) (firsts-Light w met ts h.1) (firsts-Light w (met ++ t ∷ []) ts h.1)
    where
      go : (b : Bool) → Light w (firsts met ts) → Light w (firsts (met ++ t ∷ []) ts) → Light w (if b then firsts met ts else t ∷ firsts (met ++ t ∷ []) ts)
      go true x y = x
      go false x y = (h.0, y)

  parts_in-Light : (w : ℕ) (d : Declaration) → weight m d ≤ w → Light w (parts_in d)
  parts_in-Light w d h = Light-append w (parts d.ty) (option_map_or parts d.body []) (parts-Light w d.ty (omega (arith, h))) (body d.body (omega (arith, h)))
    where
      body : (o : Option Tree) → option_map_or (tree_weight m) o 0 ≤ w → Light w (option_map_or parts o [])
      body None h = tt
      body (Some t) h = parts-Light w t h

  -- a simple type spreads no further than it is large
  constant-small : {G : List Tree} {t A : Tree} → IsConstant m G t A → spreads m [] t + 1 ≤ size t + size A
  constant-small (type_variable e) = omega arith
  constant-small (constant {s = s} {A = A} e k) =
      let w : symbol_spread m s [] ≡ spread [] A = ap (λ o. option_map_or (spread []) o 0) e in
      omega (arith, w, ap size (put_all-nil A))
  constant-small (at_type {f = f} {a = a} {A = A} {B = B} hf ha e) =
      omega (
        arith,
        constant-small hf,
        constant-small ha,
        constant-spreads m (a ∷ []) hf,
        spread-type m a [] hf e,
        ap size (put_all-nil (Pi types A)),
        ap size (put_all-nil B),
      )

  -- what an abbreviation adds to the weight of its tree
  abbreviated-Light : (t A : Tree) → IsAbbreviated m t A → tree_weight m A ≤ 4 * tree_weight m t + 4
  abbreviated-Light t _ (of_type s) = omega arith
  abbreviated-Light t _ (of_term {a = a} s) =
      let le : size t ≤ size t = omega arith in
      let small : AreSmall m (size t) [] = record { each = λ n B at. absurd (let l = slice_get_within [] n B at in omega arith) } in
      let k = type-size m s small le in
      let c = constant-small (term-simple m s) in
      omega (arith, k, c)

-- the same of entries: what is kept weighs at most so much, and so does each tree that is abbreviated
abbrev AreLight : ℕ → List Declaration → List Entry → Type 0
AreLight w before [] = Unit {0}
AreLight w before (kept d ∷ es) = (weight before d ≤ w) × AreLight w (before ++ d ∷ []) es
AreLight w before (abbreviated t a ∷ es) = (tree_weight before t ≤ w) × AreLight w before es

abbreviations-AreLight : (w : ℕ) (before : List Declaration) (all ts : List Tree) (es : List Entry) → Light before w ts → AreLight w before es
    → AreLight w before (abbreviations before (filter (is_shared before all) ts) ++ es)
abbreviations-AreLight w before all [] es h k = k
abbreviations-AreLight w before all (t ∷ ts) es h k = go (is_shared before all t) (abbreviations-AreLight w before all ts es h.1 k)
  where
    go : (b : Bool) → AreLight w before (abbreviations before (filter (is_shared before all) ts) ++ es)
        → AreLight w before (abbreviations before (if b then t ∷ filter (is_shared before all) ts else filter (is_shared before all) ts) ++ es)
    go true x = (h.0, x)
    go false x = x

-- declarations after these, each of that weight over those before it
abbrev AreWeighed : ℕ → List Declaration → List Declaration → Type 0
AreWeighed w before [] = Unit {0}
AreWeighed w before (d ∷ ds) = (weight before d ≤ w) × AreWeighed w (before ++ d ∷ []) ds

entries-AreLight : (w : ℕ) (before : List Declaration) (all met : List Tree) (ds : List Declaration) → AreWeighed w before ds
    → AreLight w before (entries before all met ds)
entries-AreLight w before all met [] h = tt
entries-AreLight w before all met (d ∷ ds) h =
    abbreviations-AreLight w before all (firsts met (parts_in d)) (kept d ∷ entries (before ++ d ∷ []) all (met ++ parts_in d) ds)
    (firsts-Light before w met (parts_in d) (parts_in-Light before w d h.0)) (h.0, entries-AreLight w (before ++ d ∷ []) all (met ++ parts_in d) ds h.1)

first-AreLight : (w : ℕ) (before ds : List Declaration) (es : List Entry) → AreWeighed w before ds → AreLight w (before ++ ds) es
    → AreLight w before (map kept ds ++ es)
first-AreLight w before [] es h k = subst (λ l. AreLight w l es) (append-nil before) k
first-AreLight w before (d ∷ ds) es h k =
    (h.0, first-AreLight w (before ++ d ∷ []) ds es h.1 (subst (λ l. AreLight w l es) (sym (append_assoc before (d ∷ []) ds)) k))

AreWeighed-front : (w : ℕ) (before ds es : List Declaration) → AreWeighed w before (ds ++ es) → AreWeighed w before ds × AreWeighed w (before ++ ds) es
AreWeighed-front w before [] es h = (tt, subst (λ l. AreWeighed w l es) (sym (append-nil before)) h)
AreWeighed-front w before (d ∷ ds) es h = let k = AreWeighed-front w (before ++ d ∷ []) ds es h.1 in
    ((h.0, k.0), subst (λ l. AreWeighed w l es) (append_assoc before (d ∷ []) ds) k.1)

entries_of-AreLight : (w : ℕ) (m : List Declaration) → AreWeighed w [] m → AreLight w [] (entries_of m)
entries_of-AreLight w m h =
    let n = length lemmas in
    let k = AreWeighed-front w [] (take n m) (drop n m) (subst (AreWeighed w []) (sym (take-append-drop n m)) h) in
    first-AreLight w [] (take n m) (entries (take n m) (flat_map parts_in (drop n m)) [] (drop n m)) k.0
    (entries-AreLight w (take n m) (flat_map parts_in (drop n m)) [] (drop n m) k.1)

-- What they become weighs at most five times that and four
module _ (g : ℕ → ℕ) (w : ℕ) where
  moved-tree_weight : (m n : List Declaration) → IsMoved g m n → (t : Tree) → tree_weight n (moved g t) ≡ tree_weight m t
  moved-tree_weight m n h t = ap₂ (λ a b. a + b) (size-moved g t) (spreads-moved g m n h [] t)

  moved-weight : (m n : List Declaration) → IsMoved g m n → (d : Declaration) → weight n (moved_declaration g d) ≡ weight m d
  moved-weight m n h d = ap₂ (λ a b. a + b) (moved-tree_weight m n h d.ty) (body d.body)
    where
      body : (o : Option Tree) → option_map_or (tree_weight n) (option_map (moved g) o) 0 ≡ option_map_or (tree_weight m) o 0
      body None = refl
      body (Some t) = moved-tree_weight m n h t

  declarations-AreWeighed : (before after : List Declaration) (es : List Entry) (k : ℕ) → IsPlaced g before after es → AreEntries before es
      → AreLight w before es → AreWeighed (5 * w + 4) after (declarations g k es)
  declarations-AreWeighed before after [] k p h l = tt
  declarations-AreWeighed before after (kept d ∷ es) k p h l =
      let s = IsPlaced-IsMoved g before after (kept d ∷ es) p in (
        omega (arith, moved-weight before after s d, l.0),
        declarations-AreWeighed (before ++ d ∷ []) (after ++ moved_declaration g d ∷ []) es k (IsPlaced-kept g before after d es p) h.1 l.1,
      )
  declarations-AreWeighed before after (abbreviated t a ∷ es) k p h l =
      let s = IsPlaced-IsMoved g before after (abbreviated t a ∷ es) p in
      let b = abbreviated-Light before t a (abbreviation-IsAbbreviated before t a h.0) in (
        omega (arith, moved-tree_weight before after s t, moved-tree_weight before after s a, l.0, b),
        declarations-AreWeighed before (after ++ _ ∷ []) es (suc k) (IsPlaced-abbreviated g before after t a _ es p) h.1 l.1,
      )

-- weights over all declarations, and over those before
weighed-before : (w : ℕ) (m before ds : List Declaration) → m ≡ before ++ ds → AreShaped before ds → AllByRecursion (λ d. weight m d ≤ w) ds
    → AreWeighed w before ds
weighed-before w m before [] e s h = tt
weighed-before w m before (d ∷ ds) e s h =
    let same : weight m d ≡ weight before d = ap (λ l. weight l d) e ∙ weight-more before (d ∷ ds) d s.0 in
    (omega (arith, same, h.0), weighed-before w m (before ++ d ∷ []) ds (e ∙ sym (append_assoc before (d ∷ []) ds)) s.1 h.1)

weighed-all : (w : ℕ) (m before ds : List Declaration) → m ≡ before ++ ds → AreShaped before ds → AreWeighed w before ds
    → AllByRecursion (λ d. weight m d ≤ w) ds
weighed-all w m before [] e s h = tt
weighed-all w m before (d ∷ ds) e s h =
    let same : weight m d ≡ weight before d = ap (λ l. weight l d) e ∙ weight-more before (d ∷ ds) d s.0 in
    (omega (arith, same, h.0), weighed-all w m (before ++ d ∷ []) ds (e ∙ sym (append_assoc before (d ∷ []) ds)) s.1 h.1)

-- No declaration of a folded module weighs more than five times what the heaviest of the module weighs, and four
pub folded-weights : (w : ℕ) (m : List Declaration) → AreShaped [] m → AllByRecursion (λ d. weight m d ≤ w) m
    → AllByRecursion (λ d. weight (folded m) d ≤ 5 * w + 4) (folded m)
folded-weights w m s h =
    let es = entries_of m in
    weighed-all (5 * w + 4) (folded m) [] (folded m) refl (folded-AreShaped m s)
    (declarations-AreWeighed (place_in es) w [] [] es 0 (IsPlaced-first es) (entries_of-AreEntries m s)
    (entries_of-AreLight w m (weighed-before w m [] m refl s h)))
