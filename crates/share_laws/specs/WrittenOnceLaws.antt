-- No tree that is shared is written out more than once in a folded module.
use Rattle.std.proofs.Common.{◌≡◌, ◌<◌, ◌≤◌, ℕ, zero, suc, ◌+◌, inl, inr, refl, sym, ap, subst, ◌∙◌, append_assoc, Bool, true, false, List, [], ◌∷◌, ◌++◌, length, length-append, Option, Some, None, arith}
use Rattle.std.specs.Prelude.{option_map, ◌&&◌, nat_le, ◌||◌, ◌⊎◌, ◌-◌, nat_eq, nat_lt, if◌then◌else◌, position, codes}
use Rattle.std.specs.List.{list_any, filter, flat_map}
use Rattle.std.specs.Option.{is_some, option_map_or}
use Rattle.std.proofs.Math.Path.{ap₂}
use Rattle.std.proofs.lemmas.Grind.{common_steps}
use Rattle.std.proofs.lemmas.Bool.{and_parts, and_from}
use Rattle.std.proofs.lemmas.List.{append-nil}
use Rattle.lp_spec.specs.declared.form.Form.{Form}
use Rattle.lp_spec.specs.declared.form.Form.TheVariants.{Symbol, Def, Thm}
use Rattle.lp_spec.specs.Trees.{Tree, SortType, SortKind, Var, Sym, App, Lam, Pi, tree_eq, size}
use Rattle.lp_spec.specs.Modules.{Declaration, signature}
use Rattle.lp_spec.specs.Lemmas.{lemmas}
use Rattle.lp_spec.specs.ModuleOrder.{symbols, IsBodyOver, MayFollow, AreDeclared, IsModule}
use Rattle.lp_check_laws.specs.EarlierDeclarations.{IsModule-IsSelfContained}
use Rattle.share_spec.specs.Abbreviations.{abbreviation}
use Rattle.share_laws.specs.AbbreviationLaws.{nat_le-true}
use Rattle.share_laws.specs.AbbreviationsKept.{abbreviation-kept}
use Rattle.lp_spec.specs.Numerals.{numeral}
use Rattle.lp_spec.specs.ShortNames.{short, short_body, is_tree}
use Rattle.lp_binding_laws.specs.TreeEquality.{tree_eq-refl, tree_eq-true}
use Rattle.share_laws.specs.FoldedModules.{abbreviation_name-short}
use Rattle.share_spec.specs.MovedTrees.{moved_symbol, moved, moved_declaration}
use Rattle.share_spec.specs.Folded.{parts, parts_in, places, is_shared, is_in, firsts, Entry, kept, abbreviated, abbreviations, entries, entries_of, place_in, declarations}
use Rattle.share_spec.specs.WrittenOnce.{unless_short, written_out, written_in, all_written, WrittenOnce}

-- places in lists
pub places-append : (t : Tree) (xs ys : List Tree) → places t (xs ++ ys) ≡ places t xs + places t ys
places-append t [] ys = omega arith
places-append t (x ∷ xs) ys = go (tree_eq t x) (places-append t xs ys)
  where
    go : (b : Bool) → places t (xs ++ ys) ≡ places t xs + places t ys
        → (if b then suc (places t (xs ++ ys)) else places t (xs ++ ys)) ≡ (if b then suc (places t xs) else places t xs) + places t ys
    go true e = omega (arith, e)
    go false e = e

one-place : (t u : Tree) → places t (u ∷ []) ≤ 1
one-place t u = go (tree_eq t u)
  where
    go : (b : Bool) → (if b then suc 0 else 0) ≤ 1
    go true = omega arith
    go false = omega arith

no-place : (t u : Tree) → tree_eq t u ≡ false → places t (u ∷ []) ≡ 0
no-place t u e = ap (λ (b : Bool). if b then suc 0 else 0) e

-- what is in no list is at no place
pub in-places : (t : Tree) (us : List Tree) → is_in t us ≡ false → places t us ≡ 0
in-places t [] e = refl
in-places t (u ∷ us) e = go (tree_eq t u) refl e (λ i. in-places t us i)
  where
    go : (b : Bool) → tree_eq t u ≡ b → (b || is_in t us) ≡ false → (is_in t us ≡ false → places t us ≡ 0) → (if b then suc (places t us) else places t us) ≡ 0
    go true i j k = absurd (cc)
    go false i j k = k j

-- a place in three lists
three : (t : Tree) (xs ys : List Tree) (u : Tree) → places t (xs ++ ys ++ u ∷ []) ≡ places t xs + (places t ys + places t (u ∷ []))
three t xs ys u = omega (arith, places-append t (xs ++ ys) (u ∷ []), places-append t xs ys)

-- a tree that is larger isn't a part, and a tree is a part of itself at one place
smaller : (t u : Tree) → size u < size t → tree_eq t u ≡ false
smaller t u h = go (tree_eq t u) refl
  where
    go : (b : Bool) → tree_eq t u ≡ b → b ≡ false
    go true e = absurd (let s = ap size (tree_eq-true t u e) in omega (arith, h, s))
    go false e = refl

positive : (t : Tree) → 1 ≤ size t
positive SortType = omega arith
positive SortKind = omega arith
positive (Var n) = omega arith
positive (Sym s) = omega arith
positive (App f x) = omega arith
positive (Lam a b) = omega arith
positive (Pi a b) = omega arith

pub larger-places : (t u : Tree) → size u < size t → places t (parts u) ≡ 0
larger-places t (App f x) h = three t (parts f) (parts x) (App f x) ∙ omega
    (arith, larger-places t f (omega (arith, h)), larger-places t x (omega (arith, h)), no-place t (App f x) (smaller t (App f x) h))
larger-places t (Lam a b) h = three t (parts a) (parts b) (Lam a b) ∙ omega
    (arith, larger-places t a (omega (arith, h)), larger-places t b (omega (arith, h)), no-place t (Lam a b) (smaller t (Lam a b) h))
larger-places t (Pi a b) h = three t (parts a) (parts b) (Pi a b) ∙ omega
    (arith, larger-places t a (omega (arith, h)), larger-places t b (omega (arith, h)), no-place t (Pi a b) (smaller t (Pi a b) h))
larger-places t SortType h = no-place t SortType (smaller t SortType h)
larger-places t SortKind h = no-place t SortKind (smaller t SortKind h)
larger-places t (Var n) h = no-place t (Var n) (smaller t (Var n) h)
larger-places t (Sym s) h = no-place t (Sym s) (smaller t (Sym s) h)

own-places : (t : Tree) → places t (parts t) ≤ 1
own-places (App f x) = subst (λ n. n ≤ 1) (sym (three (App f x) (parts f) (parts x) (App f x)))
    (omega (arith, larger-places (App f x) f (omega (arith, positive x)), larger-places (App f x) x (omega (arith, positive f)), one-place (App f x) (App f x)))
own-places (Lam a b) = subst (λ n. n ≤ 1) (sym (three (Lam a b) (parts a) (parts b) (Lam a b)))
    (omega (arith, larger-places (Lam a b) a (omega (arith, positive b)), larger-places (Lam a b) b (omega (arith, positive a)), one-place (Lam a b) (Lam a b)))
own-places (Pi a b) = subst (λ n. n ≤ 1) (sym (three (Pi a b) (parts a) (parts b) (Pi a b)))
    (omega (arith, larger-places (Pi a b) a (omega (arith, positive b)), larger-places (Pi a b) b (omega (arith, positive a)), one-place (Pi a b) (Pi a b)))
own-places SortType = one-place SortType SortType
own-places SortKind = one-place SortKind SortKind
own-places (Var n) = one-place (Var n) (Var n)
own-places (Sym s) = one-place (Sym s) (Sym s)

-- no more is written out than there is
module _ (m : List Declaration) (t : Tree) where
  no_more : (o : Option ℕ) (xs ys : List Tree) → places t xs ≤ places t ys → places t (unless_short o xs) ≤ places t ys
  no_more None xs ys h = h
  no_more (Some s) xs ys h = omega arith

  no_more-parts : (o : Option ℕ) (xs ys vs ws : List Tree) (u : Tree) → places t xs ≤ places t vs → places t ys ≤ places t ws
      → places t (unless_short o (xs ++ ys ++ u ∷ [])) ≤ places t (vs ++ ws ++ u ∷ [])
  no_more-parts o xs ys vs ws u h k = no_more o (xs ++ ys ++ u ∷ []) (vs ++ ws ++ u ∷ []) (omega (arith, three t xs ys u, three t vs ws u, h, k))

  written_out-parts : (u : Tree) → places t (written_out m u) ≤ places t (parts u)
  written_out-parts (App f x) = no_more-parts (short m (App f x)) (written_out m f) (written_out m x) (parts f) (parts x) (App f x) (written_out-parts f)
      (written_out-parts x)
  written_out-parts (Lam a b) = no_more-parts (short m (Lam a b)) (written_out m a) (written_out m b) (parts a) (parts b) (Lam a b) (written_out-parts a)
      (written_out-parts b)
  written_out-parts (Pi a b) = no_more-parts (short m (Pi a b)) (written_out m a) (written_out m b) (parts a) (parts b) (Pi a b) (written_out-parts a)
      (written_out-parts b)
  written_out-parts SortType = no_more (short m SortType) (SortType ∷ []) (SortType ∷ []) (omega arith)
  written_out-parts SortKind = no_more (short m SortKind) (SortKind ∷ []) (SortKind ∷ []) (omega arith)
  written_out-parts (Var n) = no_more (short m (Var n)) (Var n ∷ []) (Var n ∷ []) (omega arith)
  written_out-parts (Sym s) = no_more (short m (Sym s)) (Sym s ∷ []) (Sym s ∷ []) (omega arith)

  -- a tree for which a name is short isn't written out at all
  module _ (h : is_some (short m t) ≡ true) where
    apart-short : (u : Tree) → short m u ≡ None → tree_eq t u ≡ false
    apart-short u e = go (tree_eq t u) refl
      where
        go : (b : Bool) → tree_eq t u ≡ b → b ≡ false
        go true i = absurd (let k = ap (λ w. is_some (short m w)) (tree_eq-true t u i) in let j = ap is_some e in cc)
        go false i = refl

    none_out : (o : Option ℕ) (xs ys : List Tree) (u : Tree) → short m u ≡ o → places t xs ≡ 0 → places t ys ≡ 0
        → places t (unless_short o (xs ++ ys ++ u ∷ [])) ≡ 0
    none_out (Some s) xs ys u e h k = refl
    none_out None xs ys u e h k = three t xs ys u ∙ omega (arith, h, k, no-place t u (apart-short u e))

    none_alone : (o : Option ℕ) (u : Tree) → short m u ≡ o → places t (unless_short o (u ∷ [])) ≡ 0
    none_alone (Some s) u e = refl
    none_alone None u e = no-place t u (apart-short u e)

    written_out-short : (u : Tree) → places t (written_out m u) ≡ 0
    written_out-short (App f x) = none_out (short m (App f x)) (written_out m f) (written_out m x) (App f x) refl (written_out-short f) (written_out-short x)
    written_out-short (Lam a b) = none_out (short m (Lam a b)) (written_out m a) (written_out m b) (Lam a b) refl (written_out-short a) (written_out-short b)
    written_out-short (Pi a b) = none_out (short m (Pi a b)) (written_out m a) (written_out m b) (Pi a b) refl (written_out-short a) (written_out-short b)
    written_out-short SortType = none_alone (short m SortType) SortType refl
    written_out-short SortKind = none_alone (short m SortKind) SortKind refl
    written_out-short (Var n) = none_alone (short m (Var n)) (Var n) refl
    written_out-short (Sym s) = none_alone (short m (Sym s)) (Sym s) refl

  -- what is written of a declaration, where the tree is written at no place of its type and its body
  no_place_in : (d : Declaration) → places t (written_out m d.ty) ≡ 0 → places t (option_map_or (written_out m) d.body []) ≡ 0 → places t (written_in m d) ≡ 0
  no_place_in d h k = places-append t (if is_some (short_body d) then [] else written_out m d.ty) (option_map_or (written_out m) d.body []) ∙ omega
      (arith, go (is_some (short_body d)), k)
    where
      go : (b : Bool) → places t (if b then [] else written_out m d.ty) ≡ 0
      go true = refl
      go false = h

-- Other numbers
place_in-injective : (es : List Entry) (i j : ℕ) → place_in es i ≡ place_in es j → i ≡ j
place_in-injective [] i j e = e
place_in-injective (kept d ∷ es) zero zero e = refl
place_in-injective (kept d ∷ es) zero (suc j) e = absurd (cc)
place_in-injective (kept d ∷ es) (suc i) zero e = absurd (cc)
place_in-injective (kept d ∷ es) (suc i) (suc j) e = ap suc (place_in-injective es i j (omega (arith, e)))
place_in-injective (abbreviated t a ∷ es) i j e = place_in-injective es i j (omega (arith, e))

module _ (g : ℕ → ℕ) (apart : (i j : ℕ) → g i ≡ g j → i ≡ j) where
  symbol-injective : (r s : ℕ) → moved_symbol g r ≡ moved_symbol g s → r ≡ s
  symbol-injective r s e = go (nat_lt r (length signature)) (nat_lt s (length signature)) refl refl e
    where
      go : (b c : Bool) → nat_lt r (length signature) ≡ b → nat_lt s (length signature) ≡ c
          → (if b then r else length signature + g (r - length signature)) ≡ (if c then s else length signature + g (s - length signature)) → r ≡ s
      go true true i j k = k
      go true false i j k = absurd (let low : r < length signature = grind (arith, common_steps, i) in omega (arith, low, k))
      go false true i j k = absurd (let low : s < length signature = grind (arith, common_steps, j) in omega (arith, low, k))
      go false false i j k =
          let hr : length signature ≤ r = grind (arith, common_steps, i) in
          let hs : length signature ≤ s = grind (arith, common_steps, j) in
          let same : g (r - length signature) ≡ g (s - length signature) = omega (arith, k) in
          omega (arith, apart (r - length signature) (s - length signature) same, hr, hs)

  moved-tree_eq : (t u : Tree) → tree_eq (moved g t) (moved g u) ≡ true → tree_eq t u ≡ true
  moved-tree_eq SortType SortType e = refl
  moved-tree_eq SortKind SortKind e = refl
  moved-tree_eq (Var n) (Var m) e = e
  moved-tree_eq (Sym r) (Sym s) e =
      let same : moved_symbol g r ≡ moved_symbol g s = grind (arith, common_steps, e) in
      subst (λ k. nat_eq r k ≡ true) (symbol-injective r s same) (tree_eq-refl (Sym r))
  moved-tree_eq (App f x) (App k y) e = let p = and_parts (tree_eq (moved g f) (moved g k)) (tree_eq (moved g x) (moved g y)) e in and_from (tree_eq f k)
      (tree_eq x y) (moved-tree_eq f k p.0) (moved-tree_eq x y p.1)
  moved-tree_eq (Lam f x) (Lam k y) e = let p = and_parts (tree_eq (moved g f) (moved g k)) (tree_eq (moved g x) (moved g y)) e in and_from (tree_eq f k)
      (tree_eq x y) (moved-tree_eq f k p.0) (moved-tree_eq x y p.1)
  moved-tree_eq (Pi f x) (Pi k y) e = let p = and_parts (tree_eq (moved g f) (moved g k)) (tree_eq (moved g x) (moved g y)) e in and_from (tree_eq f k)
      (tree_eq x y) (moved-tree_eq f k p.0) (moved-tree_eq x y p.1)
  moved-tree_eq _ _ e = absurd (cc)

  moved-place : (t u : Tree) → places (moved g t) (moved g u ∷ []) ≤ places t (u ∷ [])
  moved-place t u = go (tree_eq (moved g t) (moved g u)) (tree_eq t u) (moved-tree_eq t u)
    where
      go : (b c : Bool) → (b ≡ true → c ≡ true) → (if b then suc 0 else 0) ≤ (if c then suc 0 else 0)
      go true true h = omega arith
      go true false h = absurd (let k = h refl in cc)
      go false c h = omega arith

  moved-places : (t u : Tree) → places (moved g t) (parts (moved g u)) ≤ places t (parts u)
  moved-places t (App f x) = omega (
    arith,
    three (moved g t) (parts (moved g f)) (parts (moved g x)) (moved g (App f x)),
    three t (parts f) (parts x) (App f x),
    moved-places t f,
    moved-places t x,
    moved-place t (App f x),
  )
  moved-places t (Lam f x) = omega (
    arith,
    three (moved g t) (parts (moved g f)) (parts (moved g x)) (moved g (Lam f x)),
    three t (parts f) (parts x) (Lam f x),
    moved-places t f,
    moved-places t x,
    moved-place t (Lam f x),
  )
  moved-places t (Pi f x) = omega (
    arith,
    three (moved g t) (parts (moved g f)) (parts (moved g x)) (moved g (Pi f x)),
    three t (parts f) (parts x) (Pi f x),
    moved-places t f,
    moved-places t x,
    moved-place t (Pi f x),
  )
  moved-places t SortType = moved-place t SortType
  moved-places t SortKind = moved-place t SortKind
  moved-places t (Var n) = moved-place t (Var n)
  moved-places t (Sym s) = moved-place t (Sym s)

-- ORDER: the parts of each tree of a list are among the trees before it and itself
pub is_in-append : (t : Tree) (xs ys : List Tree) → is_in t (xs ++ ys) ≡ (is_in t xs || is_in t ys)
is_in-append t [] ys = refl
is_in-append t (x ∷ xs) ys = go (tree_eq t x) (is_in-append t xs ys)
  where
    go : (b : Bool) → is_in t (xs ++ ys) ≡ (is_in t xs || is_in t ys) → (b || is_in t (xs ++ ys)) ≡ ((b || is_in t xs) || is_in t ys)
    go true e = refl
    go false e = e

pub in-left : (t : Tree) (xs ys : List Tree) → is_in t xs ≡ true → is_in t (xs ++ ys) ≡ true
in-left t xs ys e = is_in-append t xs ys ∙ ap (λ b. b || is_in t ys) e

pub in-right : (t : Tree) (xs ys : List Tree) → is_in t ys ≡ true → is_in t (xs ++ ys) ≡ true
in-right t xs ys e = is_in-append t xs ys ∙ go (is_in t xs) (is_in t ys) e
  where
    go : (b c : Bool) → c ≡ true → (b || c) ≡ true
    go true c e = refl
    go false c e = e

pub in-either : (t : Tree) (xs ys : List Tree) → is_in t (xs ++ ys) ≡ true → (is_in t xs ≡ true) ⊎ (is_in t ys ≡ true)
in-either t xs ys e = go (is_in t xs) refl (sym (is_in-append t xs ys) ∙ e)
  where
    go : (b : Bool) → is_in t xs ≡ b → (b || is_in t ys) ≡ true → (is_in t xs ≡ true) ⊎ (is_in t ys ≡ true)
    go true i j = inl i
    go false i j = inr j

pub in-one : (t u : Tree) → is_in t (u ∷ []) ≡ true → tree_eq t u ≡ true
in-one t u e = go (tree_eq t u) e
  where
    go : (b : Bool) → (b || false) ≡ true → b ≡ true
    go true e = refl
    go false e = e

one-in : (t u : Tree) → tree_eq t u ≡ true → is_in t (u ∷ []) ≡ true
one-in t u e = ap (λ b. b || false) e

-- a list is within another
abbrev IsWithin : List Tree → List Tree → Type 0
IsWithin xs ys = (x : Tree) → is_in x xs ≡ true → is_in x ys ≡ true

abbrev AreOrdered : List Tree → List Tree → Type 0
AreOrdered met [] = Unit {0}
AreOrdered met (u ∷ us) = IsWithin (parts u) (met ++ u ∷ []) × AreOrdered (met ++ u ∷ []) us

AreOrdered-append : (met xs ys : List Tree) → AreOrdered met xs → AreOrdered (met ++ xs) ys → AreOrdered met (xs ++ ys)
AreOrdered-append met [] ys h k = subst (λ l. AreOrdered l ys) (append-nil met) k
AreOrdered-append met (x ∷ xs) ys h k = (h.0, AreOrdered-append (met ++ x ∷ []) xs ys h.1 (subst (λ l. AreOrdered l ys) (sym (append_assoc met (x ∷ []) xs)) k))

ordered_node : (met xs ys : List Tree) (u : Tree) → parts u ≡ xs ++ ys ++ u ∷ [] → AreOrdered met xs → AreOrdered (met ++ xs) ys
    → AreOrdered met (xs ++ ys ++ u ∷ [])
ordered_node met xs ys u e h k =
    AreOrdered-append met (xs ++ ys) (u ∷ []) (AreOrdered-append met xs ys h k) (
      (λ x i. subst (λ l. is_in x l ≡ true) (sym (append_assoc met (xs ++ ys) (u ∷ [])))
          (in-right x met (xs ++ ys ++ u ∷ []) (subst (λ l. is_in x l ≡ true) e i))),
      tt,
    )

parts-AreOrdered : (met : List Tree) (t : Tree) → AreOrdered met (parts t)
parts-AreOrdered met (App f x) = ordered_node met (parts f) (parts x) (App f x) refl (parts-AreOrdered met f) (parts-AreOrdered (met ++ parts f) x)
parts-AreOrdered met (Lam f x) = ordered_node met (parts f) (parts x) (Lam f x) refl (parts-AreOrdered met f) (parts-AreOrdered (met ++ parts f) x)
parts-AreOrdered met (Pi f x) = ordered_node met (parts f) (parts x) (Pi f x) refl (parts-AreOrdered met f) (parts-AreOrdered (met ++ parts f) x)
parts-AreOrdered met SortType = ((λ x i. in-right x met (SortType ∷ []) i), tt)
parts-AreOrdered met SortKind = ((λ x i. in-right x met (SortKind ∷ []) i), tt)
parts-AreOrdered met (Var n) = ((λ x i. in-right x met (Var n ∷ []) i), tt)
parts-AreOrdered met (Sym s) = ((λ x i. in-right x met (Sym s ∷ []) i), tt)

body-AreOrdered : (met : List Tree) (o : Option Tree) → AreOrdered met (option_map_or parts o [])
body-AreOrdered met None = tt
body-AreOrdered met (Some t) = parts-AreOrdered met t

parts_in-AreOrdered : (met : List Tree) (d : Declaration) → AreOrdered met (parts_in d)
parts_in-AreOrdered met d = AreOrdered-append met (parts d.ty) (option_map_or parts d.body []) (parts-AreOrdered met d.ty)
    (body-AreOrdered (met ++ parts d.ty) d.body)

-- A name stays short with further declarations
position-any : {X : Type 0} (p : X → Bool) (xs : List X) → is_some (position p xs) ≡ list_any p xs
position-any p [] = refl
position-any p (x ∷ xs) = go (p x) (position p xs) refl refl (position-any p xs)
  where
    go : (b : Bool) (o : Option ℕ) → p x ≡ b → position p xs ≡ o → is_some (position p xs) ≡ list_any p xs → is_some (position p (x ∷ xs)) ≡ list_any p (x ∷ xs)
    go true o i j k = let here : position p (x ∷ xs) ≡ Some 0 = grind (arith, common_steps) in ap is_some here ∙ sym (ap (λ b. b || list_any p xs) i)
    go false None i j k = let none : position p (x ∷ xs) ≡ None =
        grind (arith, common_steps) in ap is_some none ∙ sym (ap is_some j) ∙ k ∙ sym (ap (λ b. b || list_any p xs) i)
    go false (Some n) i j k = let later : position p (x ∷ xs) ≡ Some (suc n) =
        grind (arith, common_steps) in ap is_some later ∙ sym (ap is_some j) ∙ k ∙ sym (ap (λ b. b || list_any p xs) i)

any-append : {X : Type 0} (p : X → Bool) (xs ys : List X) → list_any p (xs ++ ys) ≡ (list_any p xs || list_any p ys)
any-append p [] ys = refl
any-append p (x ∷ xs) ys = go (p x) (any-append p xs ys)
  where
    go : (b : Bool) → list_any p (xs ++ ys) ≡ (list_any p xs || list_any p ys) → (b || list_any p (xs ++ ys)) ≡ ((b || list_any p xs) || list_any p ys)
    go true e = refl
    go false e = e

short-append : (m : List Declaration) (d : Declaration) (t : Tree) → is_some (short (m ++ d ∷ []) t) ≡ (is_some (short m t) || is_tree (short_body d) t)
short-append m d t =
    let p : Declaration → Bool = λ x. is_tree (short_body x) t in
    position-any p (signature ++ m ++ d ∷ []) ∙ ap (list_any p) (sym (append_assoc signature m (d ∷ []))) ∙ any-append p (signature ++ m) (d ∷ [])
    ∙ ap₂ (λ a b. a || b) (sym (position-any p (signature ++ m))) (go (p d))
  where
    go : (b : Bool) → (b || false) ≡ b
    go true = refl
    go false = refl

short-more : (m : List Declaration) (d : Declaration) (t : Tree) → is_some (short m t) ≡ true → is_some (short (m ++ d ∷ []) t) ≡ true
short-more m d t e = short-append m d t ∙ ap (λ b. b || is_tree (short_body d) t) e

short-last : (m : List Declaration) (d : Declaration) (t : Tree) → short_body d ≡ Some t → is_some (short (m ++ d ∷ []) t) ≡ true
short-last m d t e = short-append m d t ∙ ap (λ o. is_some (short m t) || is_tree o t) e ∙ ap (λ b. is_some (short m t) || b) (tree_eq-refl t) ∙ go
    (is_some (short m t))
  where
    go : (b : Bool) → (b || true) ≡ true
    go true = refl
    go false = refl

-- The walk
module _ (g : ℕ → ℕ) (apart : (i j : ℕ) → g i ≡ g j → i ≡ j) (t : Tree) where
  -- at how many places the tree is written out in what entries become
  abbrev written_places : List Declaration → ℕ → List Entry → ℕ
  written_places after k es = places (moved g t) (all_written after (declarations g k es))

  abbrev AtMostOnce : List Entry → Type 0
  AtMostOnce es = (after : List Declaration) (k : ℕ) → written_places after k es ≤ 1

  all_written-next : (after : List Declaration) (d : Declaration) (ds : List Declaration)
      → places (moved g t) (all_written after (d ∷ ds)) ≡ places (moved g t) (written_in after d) + places (moved g t) (all_written (after ++ d ∷ []) ds)
  all_written-next after d ds = places-append (moved g t) (written_in after d) (all_written (after ++ d ∷ []) ds)

  short_in : (after : List Declaration) → is_some (short after (moved g t)) ≡ true → (o : Option Tree)
      → places (moved g t) (option_map_or (written_out after) o []) ≡ 0
  short_in after h None = refl
  short_in after h (Some u) = written_out-short after (moved g t) h u

  -- once it has a name it isn't written out
  named-zero : (es : List Entry) (after : List Declaration) (k : ℕ) → is_some (short after (moved g t)) ≡ true → written_places after k es ≡ 0
  named-zero [] after k h = refl
  named-zero (kept d ∷ es) after k h =
      let x = moved_declaration g d in
      all_written-next after x (declarations g k es)
      ∙ omega (
        arith,
        no_place_in after (moved g t) x (written_out-short after (moved g t) h x.ty) (short_in after h x.body),
        named-zero es (after ++ x ∷ []) k (short-more after x (moved g t) h),
      )
  named-zero (abbreviated u a ∷ es) after k h =
      let x : Declaration = record { name = codes "X" ++ numeral k; form = Def; ty = moved g a; body = Some (moved g u) } in
      all_written-next after x (declarations g (suc k) es)
      ∙ omega (
        arith,
        no_place_in after (moved g t) x (written_out-short after (moved g t) h x.ty) (written_out-short after (moved g t) h (moved g u)),
        named-zero es (after ++ x ∷ []) (suc k) (short-more after x (moved g t) h),
      )

  -- an abbreviation of another tree, of which it is no part
  abbreviated_in : (after : List Declaration) (k : ℕ) (u a : Tree)
      → written_places after k (abbreviated u a ∷ []) ≤ places (moved g t) (written_out after (moved g u))
  abbreviated_in after k u a =
      let x : Declaration = record { name = codes "X" ++ numeral k; form = Def; ty = moved g a; body = Some (moved g u) } in
      let s : short_body x ≡ Some (moved g u) = ap (λ (b : Bool). if b then Some (moved g u) else None) (abbreviation_name-short k) in
      omega (
        arith,
        all_written-next after x [],
        places-append (moved g t) (if is_some (short_body x) then [] else written_out after x.ty)
            (written_out after (moved g u)),
        ap (λ o. places (moved g t) (if is_some o then [] else written_out after x.ty)) s,
      )

  abbreviated-next : (after : List Declaration) (k : ℕ) (u a : Tree) (es : List Entry) (n : ℕ) → places (moved g t) (written_out after (moved g u)) ≤ n
      → ((x : Declaration) → short_body x ≡ Some (moved g u) → written_places (after ++ x ∷ []) (suc k) es + n ≤ 1)
      → written_places after k (abbreviated u a ∷ es) ≤ 1
  abbreviated-next after k u a es n h f =
      let x : Declaration = record { name = codes "X" ++ numeral k; form = Def; ty = moved g a; body = Some (moved g u) } in
      let s : short_body x ≡ Some (moved g u) = ap (λ (b : Bool). if b then Some (moved g u) else None) (abbreviation_name-short k) in
      omega (arith, all_written-next after x (declarations g (suc k) es), all_written-next after x [], abbreviated_in after k u a, h, f x s)

  no_part : (after : List Declaration) (u : Tree) → is_in t (parts u) ≡ false → places (moved g t) (written_out after (moved g u)) ≡ 0
  no_part after u e = omega (arith, written_out-parts after (moved g t) (moved g u), moved-places g apart t u, in-places t (parts u) e)

  not-true : (b : Bool) → (b ≡ true → ⊥) → b ≡ false
  not-true true h = absurd (h refl)
  not-true false h = refl

  -- a tree that was not met is no part of a further one that is met next
  new_part : (met old : List Tree) (u : Tree) → IsWithin (parts u) (old ++ u ∷ []) → IsWithin old met → is_in t met ≡ false → tree_eq t u ≡ false
      → is_in t (parts u) ≡ false
  new_part met old u o w e f =
      not-true (is_in t (parts u)) (λ i. elim (in-either t old (u ∷ []) (o t i)) [
        | inl j ↦ let k = w t j in absurd (cc)
        | inr j ↦ let k = in-one t u j in absurd (cc)
      ])

  within-more : (met old : List Tree) (u : Tree) → IsWithin old met → IsWithin (old ++ u ∷ []) (met ++ u ∷ [])
  within-more met old u w x e = elim (in-either x old (u ∷ []) e) [
    | inl j ↦ in-left x met (u ∷ []) (w x j)
    | inr j ↦ in-right x met (u ∷ []) j
  ]

  within-met : (met old : List Tree) (u : Tree) → IsWithin old met → is_in u met ≡ true → IsWithin (old ++ u ∷ []) met
  within-met met old u w h x e = elim (in-either x old (u ∷ []) e) [
    | inl j ↦ w x j
    | inr j ↦ subst (λ y. is_in y met ≡ true) (sym (tree_eq-true x u (in-one x u j))) h
  ]

  not_met-more : (met : List Tree) (u : Tree) → is_in t met ≡ false → tree_eq t u ≡ false → is_in t (met ++ u ∷ []) ≡ false
  not_met-more met u e f = is_in-append t met (u ∷ []) ∙ ap (λ b. b || (tree_eq t u || false)) e ∙ ap (λ b. b || false) f

  module _ (before : List Declaration) (sh : Tree → Bool) (rest : List Entry) where
    -- the entries that come of these trees
    abbrev here : List Tree → List Tree → List Entry
    here met us = abbreviations before (filter sh (firsts met us)) ++ rest

    -- those of one that isn't met
    abbrev fresh : Bool → List Tree → Tree → List Tree → List Entry
    fresh b met u us = abbreviations before (if b then u ∷ filter sh (firsts (met ++ u ∷ []) us) else filter sh (firsts (met ++ u ∷ []) us)) ++ rest

    abbrev next_of : Bool → List Tree → Tree → List Tree → List Entry
    next_of b met u us = abbreviations before (filter sh (if b then firsts met us else u ∷ firsts (met ++ u ∷ []) us)) ++ rest

    fresh-AtMostOnce : (b : Bool) (met : List Tree) (u : Tree) (us : List Tree) → is_in t (parts u) ≡ false → AtMostOnce (here (met ++ u ∷ []) us)
        → AtMostOnce (fresh b met u us)
    fresh-AtMostOnce false met u us e h after k = h after k
    fresh-AtMostOnce true met u us e h after k =
        abbreviated-next after k u _ (here (met ++ u ∷ []) us) 0 (omega (arith, no_part after u e)) (λ x s. omega (arith, h (after ++ x ∷ []) (suc k)))

    -- trees among which it isn't
    absent-AtMostOnce : AtMostOnce rest → (met old us : List Tree) → AreOrdered old us → IsWithin old met → is_in t met ≡ false → is_in t us ≡ false
        → AtMostOnce (here met us)
    absent-AtMostOnce r met old [] o w e f = r
    absent-AtMostOnce r met old (u ∷ us) o w e f = go (tree_eq t u) (is_in u met) refl refl f
        (λ h k. absent-AtMostOnce r met (old ++ u ∷ []) us o.1 (within-met met old u w h) e k)
        (λ h k. absent-AtMostOnce r (met ++ u ∷ []) (old ++ u ∷ []) us o.1 (within-more met old u w) (not_met-more met u e h) k)
      where
        go : (b c : Bool) → tree_eq t u ≡ b → is_in u met ≡ c → (b || is_in t us) ≡ false → (is_in u met ≡ true → is_in t us ≡ false → AtMostOnce (here met us))
            → (tree_eq t u ≡ false → is_in t us ≡ false → AtMostOnce (here (met ++ u ∷ []) us)) → AtMostOnce (next_of c met u us)
        go true c i j k p q = absurd (cc)
        go false true i j k p q = p j k
        go false false i j k p q = fresh-AtMostOnce (sh u) met u us (new_part met old u o.0 w e i) (q i k)

    -- trees among which it is, where it is to be abbreviated
    present-AtMostOnce : sh t ≡ true → (met old us : List Tree) → AreOrdered old us → IsWithin old met → is_in t met ≡ false → is_in t us ≡ true
        → AtMostOnce (here met us)
    present-AtMostOnce s met old [] o w e f = absurd (cc)
    present-AtMostOnce s met old (u ∷ us) o w e f = go (tree_eq t u) (is_in u met) refl refl f
        (λ h k. present-AtMostOnce s met (old ++ u ∷ []) us o.1 (within-met met old u w h) e k)
        (λ h k. present-AtMostOnce s (met ++ u ∷ []) (old ++ u ∷ []) us o.1 (within-more met old u w) (not_met-more met u e h) k)
      where
        own : (b : Bool) → sh u ≡ b → t ≡ u → AtMostOnce (fresh b met u us)
        own false i same after k = absurd (let l = ap sh same in cc)
        own true i same after k =
            abbreviated-next after k u _ (here (met ++ u ∷ []) us) 1
            (subst (λ y. places (moved g t) (written_out after (moved g y)) ≤ 1) same
            (omega (arith, written_out-parts after (moved g t) (moved g t), moved-places g apart t t, own-places t)))
            (λ x i. omega (
              arith,
              named-zero (here (met ++ u ∷ []) us) (after ++ x ∷ []) (suc k) (short-last after x (moved g t) (i ∙ ap (λ y. Some (moved g y)) (sym same))),
            ))

        go : (b c : Bool) → tree_eq t u ≡ b → is_in u met ≡ c → (b || is_in t us) ≡ true → (is_in u met ≡ true → is_in t us ≡ true → AtMostOnce (here met us))
            → (tree_eq t u ≡ false → is_in t us ≡ true → AtMostOnce (here (met ++ u ∷ []) us)) → AtMostOnce (next_of c met u us)
        go true true i j k p q = absurd (let same = ap (λ y. is_in y met) (tree_eq-true t u i) in cc)
        go true false i j k p q = own (sh u) refl (tree_eq-true t u i)
        go false true i j k p q = p j k
        go false false i j k p q = fresh-AtMostOnce (sh u) met u us (new_part met old u o.0 w e i) (q i k)

  -- a declaration in which it isn't
  parts_in-parts : (d : Declaration) → is_in t (parts_in d) ≡ false → (is_in t (parts d.ty) ≡ false) × (is_in t (option_map_or parts d.body []) ≡ false)
  parts_in-parts d e = (
    not-true (is_in t (parts d.ty)) (λ i. let k = in-left t (parts d.ty) (option_map_or parts d.body []) i in absurd (cc)),
    not-true (is_in t (option_map_or parts d.body [])) (λ i. let k = in-right t (parts d.ty) (option_map_or parts d.body []) i in absurd (cc)),
  )

  body_absent : (after : List Declaration) (o : Option Tree) → is_in t (option_map_or parts o []) ≡ false
      → places (moved g t) (option_map_or (written_out after) (option_map (moved g) o) []) ≡ 0
  body_absent after None e = refl
  body_absent after (Some u) e = no_part after u e

  kept-AtMostOnce : (d : Declaration) (es : List Entry) → is_in t (parts_in d) ≡ false → AtMostOnce es → AtMostOnce (kept d ∷ es)
  kept-AtMostOnce d es e h after k =
      let x = moved_declaration g d in
      let p = parts_in-parts d e in
      omega (
        arith,
        all_written-next after x (declarations g k es),
        no_place_in after (moved g t) x (no_part after d.ty p.0) (body_absent after d.body p.1),
        h (after ++ x ∷ []) k,
      )

  not_in-parts : (xs ys : List Tree) → is_in t (xs ++ ys) ≡ false → (is_in t xs ≡ false) × (is_in t ys ≡ false)
  not_in-parts xs ys e = (
    not-true (is_in t xs) (λ i. let k = in-left t xs ys i in absurd (cc)),
    not-true (is_in t ys) (λ i. let k = in-right t xs ys i in absurd (cc)),
  )

  -- declarations in which it first occurs in one after some
  entries-AtMostOnce : (before : List Declaration) (all met : List Tree) (front : List Declaration) (d : Declaration) (back : List Declaration)
      → is_in t met ≡ false → is_in t (flat_map parts_in front) ≡ false → is_in t (parts_in d) ≡ true → is_shared (before ++ front) all t ≡ true
      → AtMostOnce (entries before all met (front ++ d ∷ back))
  entries-AtMostOnce before all met [] d back e f h s =
      present-AtMostOnce before (is_shared before all) (kept d ∷ entries (before ++ d ∷ []) all (met ++ parts_in d) back)
      (subst (λ w. is_shared w all t ≡ true) (append-nil before) s)
      met met (parts_in d) (parts_in-AreOrdered met d) (λ x i. i) e h
  entries-AtMostOnce before all met (c ∷ front) d back e f h s =
      let p = not_in-parts (parts_in c) (flat_map parts_in front) (f) in
      let n : is_in t (met ++ parts_in c) ≡ false = is_in-append t met (parts_in c) ∙ ap (λ b. b || is_in t (parts_in c)) e ∙ p.0 in
      absent-AtMostOnce before (is_shared before all) (kept c ∷ entries (before ++ c ∷ []) all (met ++ parts_in c) (front ++ d ∷ back))
      (kept-AtMostOnce c (entries (before ++ c ∷ []) all (met ++ parts_in c) (front ++ d ∷ back)) p.0
      (entries-AtMostOnce (before ++ c ∷ []) all (met ++ parts_in c) front d back n p.1 h
      (subst (λ w. is_shared w all t ≡ true) (sym (append_assoc before (c ∷ []) front)) s)))
      met met (parts_in c) (parts_in-AreOrdered met c) (λ x i. i) e p.0

-- a tree first occurs in one of these declarations
record IsFirstIn (rest : List Declaration) (t : Tree) : Type 0 where
  front : List Declaration
  d : Declaration
  back : List Declaration
  is : rest ≡ front ++ d ∷ back
  new : is_in t (flat_map parts_in front) ≡ false
  here : is_in t (parts_in d) ≡ true

first_in : (rest : List Declaration) (t : Tree) → is_in t (flat_map parts_in rest) ≡ true → IsFirstIn rest t
first_in [] t h = absurd (cc)
first_in (d ∷ ds) t h = go (is_in t (parts_in d)) refl (sym (is_in-append t (parts_in d) (flat_map parts_in ds)) ∙ h) (λ e. first_in ds t e)
  where
    go : (b : Bool) → is_in t (parts_in d) ≡ b → (is_in t (parts_in d) || is_in t (flat_map parts_in ds)) ≡ true
        → (is_in t (flat_map parts_in ds) ≡ true → IsFirstIn ds t) → IsFirstIn (d ∷ ds) t
    go true e i k = record { front = []; d = d; back = ds; is = refl; new = refl; here = e }
    go false e i k =
        let j : is_in t (flat_map parts_in ds) ≡ true = sym (ap (λ b. b || is_in t (flat_map parts_in ds)) e) ∙ i in
        let f = k j in
        record {
          front = d ∷ f.front;
          d = f.d;
          back = f.back;
          is = ap (λ l. d ∷ l) f.is;
          new = is_in-append t (parts_in d) (flat_map parts_in f.front) ∙ ap (λ b. b || is_in t (flat_map parts_in f.front)) e ∙ f.new;
          here = f.here;
        }

-- parts have no more symbols
of-parts : (t u : Tree) (xs ys : List Tree) → (is_in t xs ≡ true → symbols t ≤ symbols u) → (is_in t ys ≡ true → symbols t ≤ symbols u)
    → is_in t (xs ++ ys ++ u ∷ []) ≡ true → symbols t ≤ symbols u
of-parts t u xs ys p q h = node (in-either t (xs ++ ys) (u ∷ []) h)
  where
    two : (is_in t xs ≡ true) ⊎ (is_in t ys ≡ true) → symbols t ≤ symbols u
    two (inl i) = p i
    two (inr i) = q i

    node : (is_in t (xs ++ ys) ≡ true) ⊎ (is_in t (u ∷ []) ≡ true) → symbols t ≤ symbols u
    node (inl e) = two (in-either t xs ys e)
    node (inr e) = subst (λ y. symbols y ≤ symbols u) (sym (tree_eq-true t u (in-one t u e))) (omega arith)

part-symbols : (t u : Tree) → is_in t (parts u) ≡ true → symbols t ≤ symbols u
part-symbols t (App f x) h = of-parts t (App f x) (parts f) (parts x) (λ i. omega (arith, part-symbols t f i)) (λ i. omega (arith, part-symbols t x i)) h
part-symbols t (Lam a b) h = of-parts t (Lam a b) (parts a) (parts b) (λ i. omega (arith, part-symbols t a i)) (λ i. omega (arith, part-symbols t b i)) h
part-symbols t (Pi a b) h = of-parts t (Pi a b) (parts a) (parts b) (λ i. omega (arith, part-symbols t a i)) (λ i. omega (arith, part-symbols t b i)) h
part-symbols t SortType h = of-parts t SortType [] [] (λ i. absurd (cc)) (λ i. absurd (cc)) h
part-symbols t SortKind h = of-parts t SortKind [] [] (λ i. absurd (cc)) (λ i. absurd (cc)) h
part-symbols t (Var n) h = of-parts t (Var n) [] [] (λ i. absurd (cc)) (λ i. absurd (cc)) h
part-symbols t (Sym s) h = of-parts t (Sym s) [] [] (λ i. absurd (cc)) (λ i. absurd (cc)) h

body-symbols : (n : ℕ) (f : Form) (body : Option Tree) (t : Tree) → IsBodyOver n f body → is_in t (option_map_or parts body []) ≡ true → symbols t ≤ n
body-symbols n f None t o h = absurd (cc)
body-symbols n Symbol (Some u) t o h = absurd (cc)
body-symbols n Def (Some u) t o h = omega (arith, part-symbols t u h, o.known)
body-symbols n Thm (Some u) t o h = omega (arith, part-symbols t u h, o.known)

pub declaration-symbols : (before : List Declaration) (d : Declaration) (t : Tree) → MayFollow before d → is_in t (parts_in d) ≡ true
    → symbols t ≤ length before
declaration-symbols before d t f h = go (in-either t (parts d.ty) (option_map_or parts d.body []) h)
  where
    go : (is_in t (parts d.ty) ≡ true) ⊎ (is_in t (option_map_or parts d.body []) ≡ true) → symbols t ≤ length before
    go (inl i) = omega (arith, part-symbols t d.ty i, f.ty.known)
    go (inr i) = body-symbols (length before) d.form d.body t f.body i

pub declared-front : (before xs ys : List Declaration) → AreDeclared before (xs ++ ys) → AreDeclared before xs × AreDeclared (before ++ xs) ys
declared-front before [] ys a = (tt, subst (λ l. AreDeclared l ys) (sym (append-nil before)) a)
declared-front before (x ∷ xs) ys a =
    let r = declared-front (before ++ x ∷ []) xs ys a.1 in
    ((a.0, r.0), subst (λ l. AreDeclared l ys) (append_assoc before (x ∷ []) xs) r.1)

-- what stands at two places stands there
two-in : (t : Tree) (us : List Tree) → 2 ≤ places t us → is_in t us ≡ true
two-in t us h = go (is_in t us) refl
  where
    go : (b : Bool) → is_in t us ≡ b → b ≡ true
    go true e = refl
    go false e = absurd (let z = in-places t us e in omega (arith, h, z))

-- No shared tree is written out twice
pub written_once : WrittenOnce
written_once rest t a h =
    let s = and_parts (is_some (abbreviation (lemmas ++ rest) t)) (nat_le 2 (places t (flat_map parts_in rest))) h in
    let f = first_in rest t (two-in t (flat_map parts_in rest) (nat_le-true 2 (places t (flat_map parts_in rest)) s.1)) in
    let before = lemmas ++ f.front in
    let more = f.d ∷ f.back in
    let is : lemmas ++ rest ≡ before ++ more = ap (λ l. lemmas ++ l) f.is ∙ sym (append_assoc lemmas f.front more) in
    let both = declared-front signature before more (subst IsModule is a) in
    let under = declaration-symbols (signature ++ before) f.d t both.1.0 f.here in
    let own = (IsModule-IsSelfContained before both.0).types in
    let same : abbreviation (lemmas ++ rest) t ≡ abbreviation before t =
    ap (λ l. abbreviation l t) is ∙ abbreviation-kept before more (omega (arith, length-append signature before)) own t under in
    let shared : is_shared before (flat_map parts_in rest) t ≡ true = ap (λ o. is_some o && nat_le 2 (places t (flat_map parts_in rest))) (sym same) ∙ h in
    let es = entries_of (lemmas ++ rest) in
    subst (λ w. places (moved (place_in es) t) (all_written lemmas (declarations (place_in es) 0 (entries lemmas (flat_map parts_in rest) [] w))) ≤ 1)
    (sym f.is)
    (entries-AtMostOnce (place_in es) (place_in-injective es) t lemmas (flat_map parts_in rest) [] f.front f.d f.back refl f.new f.here shared lemmas 0)
