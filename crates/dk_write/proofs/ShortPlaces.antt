-- The first symbol whose name is short for a tree, among the first declarations.
use Rattle.std.proofs.Common.{◌≡◌, ℕ, zero, suc, ◌+◌, ◌<◌, ◌≤◌, Bool, true, false, cond, refl, sym, ap, ◌∙◌, arith, List, [], ◌∷◌, ◌++◌, length, take, position, Option, Some, None}
use Rattle.std.specs.Prelude.{option_map}
use Rattle.std.proofs.lemmas.Option.{same_Some}
use Rattle.lp_spec.specs.Trees.{Tree, SortType, SortKind, Var, Sym, App, Lam, Pi, size}
use Rattle.lp_spec.specs.Modules.{Declaration, signature}
use Rattle.lp_spec.specs.ShortNames.{short_body, is_tree, short, by_name, shortened}

-- a tree for which a name is short is written by that name
pub shortened-short : (m : List Declaration) (t : Tree) (s : ℕ) → short m t ≡ Some s → shortened m t ≡ Sym s
shortened-short m SortType s e = ap (λ o. by_name o SortType) e
shortened-short m SortKind s e = ap (λ o. by_name o SortKind) e
shortened-short m (Var n) s e = ap (λ o. by_name o (Var n)) e
shortened-short m (Sym r) s e = ap (λ o. by_name o (Sym r)) e
shortened-short m (App f x) s e = ap (λ o. by_name o (App (shortened m f) (shortened m x))) e
shortened-short m (Lam a b) s e = ap (λ o. by_name o (Lam (shortened m a) (shortened m b))) e
shortened-short m (Pi a b) s e = ap (λ o. by_name o (Pi (shortened m a) (shortened m b))) e

module _ {X : Type 0} (p : X → Bool) where
  position-cons : (x : X) (xs : List X) (b : Bool) → p x ≡ b → position p (x ∷ xs) ≡ cond b (Some 0) (option_map suc (position p xs))
  position-cons x xs true h = grind (arith, h)
  position-cons x xs false h = grind (arith, h)

  none_later : (o : Option ℕ) → option_map suc o ≡ None → o ≡ None
  none_later None e = refl
  none_later (Some n) e = absurd (cc)

  -- where the test passes nowhere, it passes nowhere in a front
  take-None : (n : ℕ) (xs : List X) → position p xs ≡ None → position p (take n xs) ≡ None
  take-None zero xs e = refl
  take-None (suc n) [] e = refl
  take-None (suc n) (x ∷ xs) e = go (p x) refl (take-None n xs)
    where
      go : (b : Bool) → p x ≡ b → (position p xs ≡ None → position p (take n xs) ≡ None) → position p (x ∷ take n xs) ≡ None
      go true h k = absurd (let c = position-cons x xs true h in cc)
      go false h k = position-cons x (take n xs) false h ∙ ap (option_map suc) (k (none_later (position p xs) (sym (position-cons x xs false h) ∙ e)))

  some_later : (o : Option ℕ) (s : ℕ) → option_map suc o ≡ Some s → (k : ℕ) × (o ≡ Some k) × (s ≡ suc k)
  some_later None s e = absurd (cc)
  some_later (Some k) s e = (k, refl, sym (same_Some (suc k) s e))

  -- the first place is that of a front, if it is one of the front
  take-Some : (n : ℕ) (xs : List X) (s : ℕ) → position p xs ≡ Some s → s < n → position p (take n xs) ≡ Some s
  take-Some zero xs s e l = absurd (omega (arith, l))
  take-Some (suc n) [] s e l = absurd (cc)
  take-Some (suc n) (x ∷ xs) s e l = go (p x) refl (take-Some n xs)
    where
      go : (b : Bool) → p x ≡ b → ((k : ℕ) → position p xs ≡ Some k → k < n → position p (take n xs) ≡ Some k) → position p (x ∷ take n xs) ≡ Some s
      go true h k = position-cons x (take n xs) true h ∙ sym (position-cons x xs true h) ∙ e
      go false h k =
          let r = some_later (position p xs) s (sym (position-cons x xs false h) ∙ e) in
          position-cons x (take n xs) false h ∙ ap (option_map suc) (k r.0 r.1 (omega (arith, l, r.2))) ∙ ap Some (sym r.2)

  take-past : (n : ℕ) (xs : List X) (s : ℕ) → position p xs ≡ Some s → n ≤ s → position p (take n xs) ≡ None
  take-past zero xs s e l = refl
  take-past (suc n) [] s e l = refl
  take-past (suc n) (x ∷ xs) s e l = go (p x) refl (take-past n xs)
    where
      go : (b : Bool) → p x ≡ b → ((k : ℕ) → position p xs ≡ Some k → n ≤ k → position p (take n xs) ≡ None) → position p (x ∷ take n xs) ≡ None
      go true h k = absurd (let z = same_Some 0 s (sym (position-cons x xs true h) ∙ e) in omega (arith, l, z))
      go false h k =
          let r = some_later (position p xs) s (sym (position-cons x xs false h) ∙ e) in
          position-cons x (take n xs) false h ∙ ap (option_map suc) (k r.0 r.1 (omega (arith, l, r.2)))

take-front : {X : Type 0} (xs ys : List X) (n : ℕ) → take (length xs + n) (xs ++ ys) ≡ xs ++ take n ys
take-front {X = X} [] ys n = let e : length {A = X} [] + n ≡ n = omega arith in ap (λ i. take i ys) e
take-front {X = X} (x ∷ xs) ys n = let e : length (x ∷ xs) + n ≡ suc (length xs + n) =
    omega arith in ap (λ i. take i (x ∷ (xs ++ ys))) e ∙ ap (λ l. x ∷ l) (take-front xs ys n)

module _ (m : List Declaration) (n : ℕ) (t : Tree) where
  abbrev test : Declaration → Bool
  test d = is_tree (short_body d) t

  front : position test (take (18 + n) (signature ++ m)) ≡ short (take n m) t
  front = ap (position test) (take-front signature m n)

  pub short-None : short m t ≡ None → short (take n m) t ≡ None
  short-None e = sym front ∙ take-None test (18 + n) (signature ++ m) e

  pub short-Some : (s : ℕ) → short m t ≡ Some s → s < 18 + n → short (take n m) t ≡ Some s
  short-Some s e l = sym front ∙ take-Some test (18 + n) (signature ++ m) s e l

  pub short-past : (s : ℕ) → short m t ≡ Some s → 18 + n ≤ s → short (take n m) t ≡ None
  short-past s e l = sym front ∙ take-past test (18 + n) (signature ++ m) s e l

pub size-positive : (t : Tree) → 1 ≤ size t
size-positive SortType = omega arith
size-positive SortKind = omega arith
size-positive (Var n) = omega arith
size-positive (Sym s) = omega arith
size-positive (App f x) = omega arith
size-positive (Lam a b) = omega arith
size-positive (Pi a b) = omega arith
