-- Which items are wanted: those that give what is wanted from the first, and what each wanted one needs. One pass from the last item to the first
-- tells, since an item needs only earlier ones.
use Rattle.std.proofs.Common.{◌≡◌, List, [], ◌∷◌, ◌++◌, Bool, true, false, cond, ◌||◌, inl, inr, refl, sym, ap, subst, ◌∙◌, ℕ, suc, ◌+◌, ◌<◌, ◌≤◌, length, arith, append_assoc}
use Rattle.std.specs.Prelude.{◌==◌}
use Rattle.std.specs.Cmp.{unsigned_Decides}
use Rattle.std.specs.List.{list_any, AllByRecursion}
use Rattle.hol_laws.specs.NameEqualityLaws.{name_eq-Decides}
use Rattle.hol_spec.specs.Lists.{IsIn}
use Rattle.hol_laws.specs.Members.{IsIn-left, IsIn-right, All-at, All-weaker}
use Rattle.translate_spec.specs.Items.{Item}
use Rattle.translate_laws.specs.ItemConditions.{IsContent}
use Rattle.translate_spec.specs.Reach.{Key, operator_key, constant_key, number_key, needs, gives, key_eq, is_wanted, wanted_after, wanted_from, keep_of}
use Rattle.translate_laws.specs.KeptModules.{AreNumbered}
use Rattle.std.proofs.lemmas.Bool.{ne_eqb}
use Rattle.translate_laws.specs.MadeModules.{IsNew}

-- all that is wanted, the items with the latest first
abbrev pub all_wanted : List Key → List Item → List Key
all_wanted wanted [] = wanted
all_wanted wanted (x ∷ earlier) = all_wanted (wanted_after wanted x) earlier

-- equal keys pass the test
key_self : (k : Key) → key_eq k k ≡ true
key_self (operator_key n j) = rw ((name_eq-Decides n n).1 refl) ((unsigned_Decides j j).1 refl)
key_self (constant_key n) = (name_eq-Decides n n).1 refl
key_self (number_key i) = (unsigned_Decides i i).1 refl

wanted-in : (wanted : List Key) (k : Key) → IsIn wanted k → list_any (key_eq k) wanted ≡ true
wanted-in [] k h = absurd h
wanted-in (w ∷ ws) k (inl e) = ap (λ j. key_eq k j || list_any (key_eq k) ws) (sym e) ∙ ap (λ b. b || list_any (key_eq k) ws) (key_self k)
wanted-in (w ∷ ws) k (inr i) = go (key_eq k w) (wanted-in ws k i)
  where
    go : (b : Bool) → list_any (key_eq k) ws ≡ true → (b || list_any (key_eq k) ws) ≡ true
    go true h = refl
    go false h = h

-- what is wanted stays wanted
wanted_after-IsIn : (wanted : List Key) (x : Item) (k : Key) → IsIn wanted k → IsIn (wanted_after wanted x) k
wanted_after-IsIn wanted x k h = go (is_wanted wanted x)
  where
    go : (b : Bool) → IsIn (cond b (wanted ++ needs x.content) wanted) k
    go true = IsIn-left wanted (needs x.content) k h
    go false = h

all-still : (wanted : List Key) (xs : List Item) (k : Key) → IsIn wanted k → IsIn (all_wanted wanted xs) k
all-still wanted [] k h = h
all-still wanted (x ∷ xs) k h = all-still (wanted_after wanted x) xs k (wanted_after-IsIn wanted x k h)

-- what an item that was wanted when it was looked at needs is wanted in the end
pub needs-wanted : (wanted : List Key) (x : Item) (earlier : List Item) → is_wanted wanted x ≡ true → (k : Key) → IsIn (needs x.content) k
    → IsIn (all_wanted wanted (x ∷ earlier)) k
needs-wanted wanted x earlier h k i =
    all-still (wanted_after wanted x) earlier k
    (subst (λ b. IsIn (cond b (wanted ++ needs x.content) wanted) k) (sym h) (IsIn-right wanted (needs x.content) k i))

-- The law of wanted items: what gives a key that a wanted item needs is wanted in the end
pub needed-is_wanted : (wanted : List Key) (x y : Item) (earlier : List Item) → is_wanted wanted x ≡ true → IsIn (needs x.content) (gives y)
    → is_wanted (all_wanted wanted (x ∷ earlier)) y ≡ true
needed-is_wanted wanted x y earlier h i = wanted-in (all_wanted wanted (x ∷ earlier)) (gives y) (needs-wanted wanted x earlier h (gives y) i)

-- items numbered in order of making
abbrev pub NumberedFrom : ℕ → List Item → Type 0
NumberedFrom i [] = Unit {0}
NumberedFrom i (x ∷ xs) = (x.symbol ≡ i) × NumberedFrom (suc i) xs

pub at-least : (i : ℕ) (xs : List Item) → NumberedFrom i xs → AllByRecursion (λ (x : Item). i ≤ x.symbol) xs
at-least i [] h = tt
at-least i (x ∷ xs) h =
    (omega (arith, h.0), All-weaker (λ (y : Item). suc i ≤ y.symbol) (λ (y : Item). i ≤ y.symbol) (λ y k. omega (arith, k)) xs (at-least (suc i) xs h.1))

numbered-last : (i : ℕ) (xs : List Item) (x : Item) → NumberedFrom i xs → x.symbol ≡ i + length xs → NumberedFrom i (xs ++ x ∷ [])
numbered-last i [] x h e = (e ∙ (let z : i + 0 ≡ i = omega arith in z), tt {0})
numbered-last i (y ∷ ys) x h e = (h.0, numbered-last (suc i) ys x h.1 (e ∙ (let z : i + suc (length ys) ≡ suc i + length ys = omega arith in z)))

pub below : (i : ℕ) (xs : List Item) → NumberedFrom i xs → AllByRecursion (λ (x : Item). x.symbol < i + length xs) xs
below i [] h = tt
below i (x ∷ xs) h = (
  omega (arith, h.0),
  All-weaker (λ (y : Item). y.symbol < suc i + length xs) (λ (y : Item). y.symbol < i + suc (length xs)) (λ y k. omega (arith, k)) xs (below (suc i) xs h.1),
)

-- items in order of making, each new and asking for nothing but what was made before it
abbrev pub AreMadeInOrder : List Item → List Item → Type 0
AreMadeInOrder before [] = Unit {0}
AreMadeInOrder before (x ∷ xs) = (x.symbol ≡ length before) × IsNew before x.content × IsContent before x.content × AreMadeInOrder (before ++ x ∷ []) xs

module _ (roots : List Key) where
  wanted_from-still : (xs ys : List Item) (k : Key) → IsIn (wanted_from roots ys) k → IsIn (wanted_from roots (xs ++ ys)) k
  wanted_from-still [] ys k h = h
  wanted_from-still (x ∷ xs) ys k h = wanted_after-IsIn (wanted_from roots (xs ++ ys)) x k (wanted_from-still xs ys k h)

  choose : (b : Bool) (x y : Bool) → b ≡ true → cond b x y ≡ x
  choose b x y e = ap (λ c. cond c x y) e

  choose_other : (b : Bool) (x y : Bool) → b ≡ false → cond b x y ≡ y
  choose_other b x y e = ap (λ c. cond c x y) e

  -- the flag of an item with others before it
  pub keep-at : (before xs : List Item) (x : Item) → AllByRecursion (λ (z : Item). z.symbol < x.symbol) before → keep_of roots (before ++ x ∷ xs) x.symbol
      ≡ is_wanted (wanted_from roots xs) x
  keep-at [] xs x h = choose (x.symbol == x.symbol) (is_wanted (wanted_from roots xs) x) (keep_of roots xs x.symbol)
      ((unsigned_Decides x.symbol x.symbol).1 refl)
  keep-at (z ∷ zs) xs x h =
      choose_other (x.symbol == z.symbol) (is_wanted (wanted_from roots (zs ++ x ∷ xs)) z) (keep_of roots (zs ++ x ∷ xs) x.symbol)
      (ne_eqb x.symbol z.symbol (λ e. omega (arith, h.0, e)))
      ∙ keep-at zs xs x h.1

  -- what is wanted of those before is kept
  pub keep-wanted : (i : ℕ) (before rest : List Item) (y : Item) → NumberedFrom i before → IsIn before y → IsIn (wanted_from roots rest) (gives y)
      → keep_of roots (before ++ rest) y.symbol ≡ true
  keep-wanted i [] rest y n k w = absurd k
  keep-wanted i (z ∷ zs) rest y n (inl e) w =
      ap (λ (u : Item). keep_of roots (z ∷ zs ++ rest) u.symbol) e
      ∙ choose (z.symbol == z.symbol) (is_wanted (wanted_from roots (zs ++ rest)) z) (keep_of roots (zs ++ rest) z.symbol)
      ((unsigned_Decides z.symbol z.symbol).1 refl)
      ∙ wanted-in (wanted_from roots (zs ++ rest)) (gives z) (wanted_from-still zs rest (gives z) (subst (λ u. IsIn (wanted_from roots rest) (gives u)) e w))
  keep-wanted i (z ∷ zs) rest y n (inr k) w =
      let later : suc i ≤ y.symbol = All-at (λ (u : Item). suc i ≤ u.symbol) zs y (at-least (suc i) zs n.1) k in
      choose_other (y.symbol == z.symbol) (is_wanted (wanted_from roots (zs ++ rest)) z) (keep_of roots (zs ++ rest) y.symbol)
      (ne_eqb y.symbol z.symbol (λ e. omega (arith, later, n.0, e)))
      ∙ keep-wanted (suc i) zs rest y n.1 k w

  pub made-numbered : (before xs : List Item) → NumberedFrom 0 before → AreMadeInOrder before xs → AreNumbered (keep_of roots (before ++ xs)) before xs
  made-numbered before [] n h = tt
  made-numbered before (x ∷ xs) n h =
      let place : x.symbol ≡ 0 + length before = h.0 ∙ (let z : length before ≡ 0 + length before = omega arith in z) in
      let low : AllByRecursion (λ (z : Item). z.symbol < x.symbol) before =
      subst (λ k. AllByRecursion (λ (z : Item). z.symbol < k) before) (sym place) (below 0 before n) in (
        h.0,
        h.1,
        h.2,
        λ kept y i k. keep-wanted 0 before (x ∷ xs) y n i
            (subst (λ b. IsIn (cond b (wanted_from roots xs ++ needs x.content) (wanted_from roots xs)) (gives y)) (sym (sym (keep-at before xs x low) ∙ kept))
            (IsIn-right (wanted_from roots xs) (needs x.content) (gives y) k)),
        subst (λ l. AreNumbered (keep_of roots l) (before ++ x ∷ []) xs) (append_assoc before (x ∷ []) xs)
            (made-numbered (before ++ x ∷ []) xs (numbered-last 0 before x n place) h.3),
      )
