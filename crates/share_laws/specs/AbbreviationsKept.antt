-- What can be abbreviated over declarations over which a tree is, can be over more, with the same type, and the other way round.
use Rattle.std.proofs.Common.{◌≡◌, ◌<◌, ◌≤◌, ℕ, zero, suc, ◌-◌, refl, sym, ap, subst, ◌∙◌, append_assoc, Bool, true, false, List, [], ◌∷◌, ◌++◌, length, length-append, Option, Some, None, arith}
use Rattle.std.specs.Prelude.{◌&&◌, nat_lt, nat_eq, slice_get, if◌then◌else◌, option_map, option_and_then, max}
use Rattle.std.specs.Option.{is_some}
use Rattle.std.proofs.Math.Path.{ap₂}
use Rattle.std.proofs.lemmas.Option.{same_Some}
use Rattle.lp_spec.specs.Trees.{Tree, SortType, SortKind, Var, Sym, App, Lam, Pi, lift_at, lift, put_var, put_at, put, tree_eq}
use Rattle.lp_spec.specs.Modules.{Declaration, signature, symbol_type, types, term_of, arr_of, arr_symbol, term_symbol}
use Rattle.lp_spec.specs.ModuleOrder.{symbols}
use Rattle.share_spec.specs.Abbreviations.{provided, or_else, is_solid, type_of_terms, at_a_type, constant_type, is_simple, simple_part, value_type, function_type, term_type, type_of_abbreviation, written_type, abbreviation}
use Rattle.share_laws.specs.AbbreviationLaws.{and_then-Some, provided-Some}

-- symbols of what is lifted and put in
symbols-lift_at : (c k : ℕ) (t : Tree) → symbols (lift_at c k t) ≡ symbols t
symbols-lift_at c k SortType = refl
symbols-lift_at c k SortKind = refl
symbols-lift_at c k (Var n) = refl
symbols-lift_at c k (Sym s) = refl
symbols-lift_at c k (App f x) = ap₂ (λ a b. max a b) (symbols-lift_at c k f) (symbols-lift_at c k x)
symbols-lift_at c k (Lam a b) = ap₂ (λ m n. max m n) (symbols-lift_at c k a) (symbols-lift_at (suc c) k b)
symbols-lift_at c k (Pi a b) = ap₂ (λ m n. max m n) (symbols-lift_at c k a) (symbols-lift_at (suc c) k b)

symbols-put_var : (d : ℕ) (x : Tree) (n : ℕ) → symbols (put_var d x n) ≤ symbols x
symbols-put_var d x n = go (nat_lt n d) (nat_eq n d)
  where
    go : (b c : Bool) → symbols (if b then Var n else if c then lift d x else Var (n - 1)) ≤ symbols x
    go true c = omega arith
    go false true = omega (arith, symbols-lift_at 0 d x)
    go false false = omega arith

symbols-put_at : (d : ℕ) (x t : Tree) → symbols (put_at d x t) ≤ max (symbols x) (symbols t)
symbols-put_at d x SortType = omega arith
symbols-put_at d x SortKind = omega arith
symbols-put_at d x (Var n) = omega (arith, symbols-put_var d x n)
symbols-put_at d x (Sym s) = omega arith
symbols-put_at d x (App f y) = omega (arith, symbols-put_at d x f, symbols-put_at d x y)
symbols-put_at d x (Lam a b) = omega (arith, symbols-put_at d x a, symbols-put_at (suc d) x b)
symbols-put_at d x (Pi a b) = omega (arith, symbols-put_at d x a, symbols-put_at (suc d) x b)

type_of_terms-below : (n : ℕ) (t a : Tree) → symbols t ≤ n → type_of_terms t ≡ Some a → symbols a ≤ n
type_of_terms-below n (App f x) a h e = let p = provided-Some (tree_eq f (Sym term_symbol)) x a e in subst (λ y. symbols y ≤ n) p.1 (omega (arith, h))
type_of_terms-below n SortType a h e = absurd (cc)
type_of_terms-below n SortKind a h e = absurd (cc)
type_of_terms-below n (Var k) a h e = absurd (cc)
type_of_terms-below n (Sym s) a h e = absurd (cc)
type_of_terms-below n (Lam t b) a h e = absurd (cc)
type_of_terms-below n (Pi t b) a h e = absurd (cc)

value_type-below : (n : ℕ) (t c b : Tree) → symbols t ≤ n → value_type t c ≡ Some b → symbols b ≤ n
value_type-below n (App (App f a) x) c b h e = let p =
    provided-Some (tree_eq f (Sym arr_symbol) && tree_eq a c) x b e in subst (λ y. symbols y ≤ n) p.1 (omega (arith, h))
value_type-below n _ c b h e = absurd (cc)

at_a_type-below : (n : ℕ) (o : Option Tree) (a B : Tree) → ((t : Tree) → o ≡ Some t → symbols t ≤ n) → symbols a ≤ n → at_a_type o a ≡ Some B → symbols B ≤ n
at_a_type-below n (Some (Pi t b)) a B h k e =
    let p = provided-Some (tree_eq t types) (put a b) B e in
    let l = h (Pi t b) refl in
    subst (λ y. symbols y ≤ n) p.1 (omega (arith, symbols-put_at 0 a b, l, k))
at_a_type-below n None a B h k e = absurd (cc)
at_a_type-below n (Some _) a B h k e = absurd (cc)

-- over these declarations, which more may follow
module _ (before more : List Declaration) (two : 2 ≤ length (signature ++ before))
    (order : (s : ℕ) (A : Tree) → symbol_type before s ≡ Some A → symbols A ≤ length (signature ++ before)) where
  abbrev n : ℕ
  n = length (signature ++ before)

  abbrev m : List Declaration
  m = before ++ more

  abbrev IsBelow : Tree → Type 0
  IsBelow t = symbols t ≤ n

  abbrev AreBelow : List Tree → Type 0
  AreBelow [] = Unit {0}
  AreBelow (A ∷ G) = IsBelow A × AreBelow G

  entry-below : (G : List Tree) (k : ℕ) (A : Tree) → AreBelow G → slice_get G k ≡ Some A → IsBelow A
  entry-below [] k A h e = absurd (cc)
  entry-below (B ∷ G) zero A h e = subst IsBelow (same_Some _ _ e) h.0
  entry-below (B ∷ G) (suc k) A h e = entry-below G k A h.1 e

  front : (xs ys : List Declaration) (i : ℕ) → i < length xs → slice_get (xs ++ ys) i ≡ slice_get xs i
  front [] ys i h = absurd (omega arith)
  front (x ∷ xs) ys zero h = refl
  front (x ∷ xs) ys (suc i) h = front xs ys i (omega (arith, h))

  symbol_type-kept : (s : ℕ) → s < n → symbol_type m s ≡ symbol_type before s
  symbol_type-kept s h = ap (λ l. option_map (λ (d : Declaration). d.ty) (slice_get l s)) (sym (append_assoc signature before more)) ∙ ap
      (option_map (λ (d : Declaration). d.ty)) (front (signature ++ before) more s h)

  constant-kept : (G : List Tree) (t : Tree) → IsBelow t → constant_type m G t ≡ constant_type before G t
  constant-kept G (Var k) h = refl
  constant-kept G (Sym s) h = ap (option_and_then (λ t. provided (is_solid t) t)) (symbol_type-kept s (omega (arith, h)))
  constant-kept G (App f a) h =
      ap₂ (λ o p. option_and_then (λ t. if tree_eq t types then at_a_type o a else None) p) (constant-kept G f (omega (arith, h)))
      (constant-kept G a (omega (arith, h)))
  constant-kept G SortType h = refl
  constant-kept G SortKind h = refl
  constant-kept G (Lam a b) h = refl
  constant-kept G (Pi a b) h = refl

  simple-kept : (G : List Tree) (a : Tree) → IsBelow a → is_simple m G a ≡ is_simple before G a
  simple-kept G a h = ap (λ o. is_some (option_and_then (λ t. provided (tree_eq t types) t) o)) (constant-kept G a h)

  constant-below : (G : List Tree) (t A : Tree) → IsBelow t → constant_type before G t ≡ Some A → IsBelow A
  constant-below G (Var k) A h e =
      let b = and_then-Some (λ t. provided (tree_eq t types) types) (slice_get G k) A e in
      let p = provided-Some (tree_eq b.0 types) types A b.2 in
      subst IsBelow p.1 (omega (arith, two))
  constant-below G (Sym s) A h e =
      let b = and_then-Some (λ t. provided (is_solid t) t) (symbol_type before s) A e in
      let p = provided-Some (is_solid b.0) b.0 A b.2 in
      subst IsBelow p.1 (order s b.0 b.1)
  constant-below G (App f a) A h e =
      let b = and_then-Some (λ t. if tree_eq t types then at_a_type (constant_type before G f) a else None) (constant_type before G a) A e in
      by_test (tree_eq b.0 types) b.2 (λ t i. constant-below G f t (omega (arith, h)) i)
    where
      by_test : (c : Bool) → (if c then at_a_type (constant_type before G f) a else None) ≡ Some A
          → ((t : Tree) → constant_type before G f ≡ Some t → IsBelow t) → IsBelow A
      by_test true i k = at_a_type-below n (constant_type before G f) a A k (omega (arith, h)) i
      by_test false i k = absurd (cc)
  constant-below G SortType A h e = absurd (cc)
  constant-below G SortKind A h e = absurd (cc)
  constant-below G (Lam a b) A h e = absurd (cc)
  constant-below G (Pi a b) A h e = absurd (cc)

  part_of : (o : Option Tree) (G : List Tree) → ((a : Tree) → o ≡ Some a → IsBelow a) → option_and_then (λ a. provided (is_simple m G a) a) o
      ≡ option_and_then (λ a. provided (is_simple before G a) a) o
  part_of None G h = refl
  part_of (Some a) G h = ap (λ b. provided b a) (simple-kept G a (h a refl))

  part-kept : (G : List Tree) (t : Tree) → IsBelow t → simple_part m G t ≡ simple_part before G t
  part-kept G t h = part_of (type_of_terms t) G (λ a e. type_of_terms-below n t a h e)

  part-below : (G : List Tree) (t a : Tree) → IsBelow t → simple_part before G t ≡ Some a → IsBelow a
  part-below G t a h e =
      let b = and_then-Some (λ c. provided (is_simple before G c) c) (type_of_terms t) a e in
      let p = provided-Some (is_simple before G b.0) b.0 a b.2 in
      subst IsBelow p.1 (type_of_terms-below n t b.0 h b.1)

  then_part : (o : Option Tree) (G : List Tree) → ((A : Tree) → o ≡ Some A → IsBelow A)
      → option_and_then (simple_part m G) o ≡ option_and_then (simple_part before G) o
  then_part None G h = refl
  then_part (Some A) G h = part-kept G A (h A refl)

  constant_part-kept : (G : List Tree) (t : Tree) → IsBelow t
      → option_and_then (simple_part m G) (constant_type m G t) ≡ option_and_then (simple_part before G) (constant_type before G t)
  constant_part-kept G t h = ap (option_and_then (simple_part m G)) (constant-kept G t h) ∙ then_part (constant_type before G t) G
      (λ A e. constant-below G t A h e)

  constant_part-below : (G : List Tree) (t a : Tree) → IsBelow t → option_and_then (simple_part before G) (constant_type before G t) ≡ Some a → IsBelow a
  constant_part-below G t a h e = let b = and_then-Some (simple_part before G) (constant_type before G t) a e in part-below G b.0 a
      (constant-below G t b.0 h b.1) b.2

  -- the type of a term is below
  term-below : (G : List Tree) (t a : Tree) → AreBelow G → IsBelow t → term_type before G t ≡ Some a → IsBelow a
  term-below G (Var k) a g h e =
      let b = and_then-Some (λ t. simple_part before G (lift (suc k) t)) (slice_get G k) a e in
      let l = entry-below G k b.0 g b.1 in
      part-below G (lift (suc k) b.0) a (omega (arith, l, symbols-lift_at 0 (suc k) b.0)) b.2
  term-below G (Sym s) a g h e = constant_part-below G (Sym s) a h e
  term-below G (App f x) a g h e = go (option_and_then (simple_part before G) (constant_type before G (App f x))) refl e
      (λ t i. term-below G f t g (omega (arith, h)) i)
    where
      go : (o : Option Tree) → option_and_then (simple_part before G) (constant_type before G (App f x)) ≡ o
          → or_else o (option_and_then (λ t. option_and_then (value_type t) (term_type before G x)) (term_type before G f)) ≡ Some a
          → ((t : Tree) → term_type before G f ≡ Some t → IsBelow t) → IsBelow a
      go (Some b) i j k = constant_part-below G (App f x) a h (i ∙ j)
      go None i j k =
          let b = and_then-Some (λ t. option_and_then (value_type t) (term_type before G x)) (term_type before G f) a j in
          let c = and_then-Some (value_type b.0) (term_type before G x) a b.2 in
          value_type-below n b.0 c.0 a (k b.0 b.1) c.2
  term-below G (Lam d t) r g h e =
      let b = and_then-Some (λ a. option_and_then (function_type before G a) (term_type before (term_of a ∷ G) t)) (simple_part before G d) r e in
      let l = part-below G d b.0 (omega (arith, h)) b.1 in
      let c = and_then-Some (function_type before G b.0) (term_type before (term_of b.0 ∷ G) t) r b.2 in
      let k = term-below (term_of b.0 ∷ G) t c.0 (omega (arith, l, two, order_term), g) (omega (arith, h)) c.1 in
      let v = put b.0 c.0 in
      let f = provided-Some (tree_eq (lift 1 v) c.0 && is_simple before G v) (arr_of b.0 v) r c.2 in
      subst IsBelow f.1 (omega (arith, l, k, symbols-put_at 0 b.0 c.0, order_term))
    where
      order_term : 5 ≤ n
      order_term = omega (arith, length-append signature before)
  term-below G SortType a g h e = absurd (cc)
  term-below G SortKind a g h e = absurd (cc)
  term-below G (Pi c b) a g h e = absurd (cc)

  -- The type of a term is the same
  variable-kept : (o : Option Tree) (G : List Tree) (k : ℕ) → ((A : Tree) → o ≡ Some A → IsBelow A) → option_and_then (λ t. simple_part m G (lift (suc k) t)) o
      ≡ option_and_then (λ t. simple_part before G (lift (suc k) t)) o
  variable-kept None G k h = refl
  variable-kept (Some A) G k h = let l = h A refl in part-kept G (lift (suc k) A) (omega (arith, l, symbols-lift_at 0 (suc k) A))

  function-kept : (o : Option Tree) (G : List Tree) (a : Tree) → IsBelow a → ((c : Tree) → o ≡ Some c → IsBelow c)
      → option_and_then (function_type m G a) o ≡ option_and_then (function_type before G a) o
  function-kept None G a l h = refl
  function-kept (Some c) G a l h =
      let k = h c refl in
      ap (λ b. provided (tree_eq (lift 1 (put a c)) c && b) (arr_of a (put a c))) (simple-kept G (put a c) (omega (arith, l, k, symbols-put_at 0 a c)))

  five : 5 ≤ n
  five = omega (arith, length-append signature before)

  term-kept : (G : List Tree) (t : Tree) → AreBelow G → IsBelow t → term_type m G t ≡ term_type before G t
  term-kept G (Var k) g h = variable-kept (slice_get G k) G k (λ A e. entry-below G k A g e)
  term-kept G (Sym s) g h = constant_part-kept G (Sym s) h
  term-kept G (App f x) g h =
      let i = term-kept G f g (omega (arith, h)) in
      let j = term-kept G x g (omega (arith, h)) in
      ap₂ or_else (constant_part-kept G (App f x) h) (ap₂ (λ p q. option_and_then (λ t. option_and_then (value_type t) p) q) j i)
  term-kept G (Lam d t) g h = ap (option_and_then (λ a. option_and_then (function_type m G a) (term_type m (term_of a ∷ G) t)))
      (part-kept G d (omega (arith, h))) ∙ under (simple_part before G d) (λ a e. part-below G d a (omega (arith, h)) e)
      (λ a l. term-kept (term_of a ∷ G) t (omega (arith, l, five), g) (omega (arith, h)))
    where
      under : (o : Option Tree) → ((a : Tree) → o ≡ Some a → IsBelow a)
          → ((a : Tree) → IsBelow a → term_type m (term_of a ∷ G) t ≡ term_type before (term_of a ∷ G) t)
          → option_and_then (λ a. option_and_then (function_type m G a) (term_type m (term_of a ∷ G) t)) o
          ≡ option_and_then (λ a. option_and_then (function_type before G a) (term_type before (term_of a ∷ G) t)) o
      under None l k = refl
      under (Some a) l k =
          let b = l a refl in
          ap (option_and_then (function_type m G a)) (k a b)
          ∙ function-kept (term_type before (term_of a ∷ G) t) G a b (λ c e. term-below (term_of a ∷ G) t c (omega (arith, b, five), g) (omega (arith, h)) e)
  term-kept G SortType g h = refl
  term-kept G SortKind g h = refl
  term-kept G (Pi c b) g h = refl

  -- What can be abbreviated over these declarations can be over more, and the other way round.
  of_abbreviation-kept : (t : Tree) → IsBelow t → type_of_abbreviation m t ≡ type_of_abbreviation before t
  of_abbreviation-kept t h = ap₂ (λ b o. if b then Some types else option_map term_of o) (simple-kept [] t h) (term-kept [] t tt h)

  pub abbreviation-kept : (t : Tree) → symbols t ≤ length (signature ++ before) → abbreviation m t ≡ abbreviation before t
  abbreviation-kept (App f x) h = ap written_type (of_abbreviation-kept (App f x) h)
  abbreviation-kept (Lam a b) h = ap written_type (of_abbreviation-kept (Lam a b) h)
  abbreviation-kept SortType h = refl
  abbreviation-kept SortKind h = refl
  abbreviation-kept (Var n) h = refl
  abbreviation-kept (Sym s) h = refl
  abbreviation-kept (Pi a b) h = refl
