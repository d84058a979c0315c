-- What the types of trees are in contexts of terms of simple types.
use Rattle.std.proofs.Common.{◌≡◌, ◌<◌, ◌≤◌, ℕ, zero, suc, refl, sym, ap, subst, ◌∙◌, Bool, true, false, List, [], ◌∷◌, Option, None, Some, arith}
use Rattle.std.specs.Prelude.{◌&&◌, if◌then◌else◌, slice_get, option_map, option_and_then}
use Rattle.std.specs.Option.{is_some}
use Rattle.std.proofs.Math.Path.{ap₂}
use Rattle.std.proofs.lemmas.Bool.{and_parts}
use Rattle.std.proofs.lemmas.Option.{same_Some}
use Rattle.lp_spec.specs.Trees.{Tree, SortType, SortKind, Var, Sym, App, Lam, Pi, lift_at, lift, put_at, put, loose, tree_eq}
use Rattle.lp_spec.specs.Modules.{Declaration, types, arr_of, term_of, arr_symbol}
use Rattle.lp_binding_laws.specs.TreeEquality.{tree_eq-refl, tree_eq-true}
use Rattle.share_spec.specs.Abbreviations.{provided, or_else, type_of_terms, at_a_type, constant_type, is_simple, simple_part, value_type, function_type, term_type}
use Rattle.share_laws.specs.AbbreviationLaws.{and_then-Some, provided-Some}
use Rattle.share.specs.Typings.{context, entry, constant_part, IsContext}

module _ (m : List Declaration) where
  -- a context of terms adds no constants
  no_types : (c : Tree) (n : ℕ) → option_and_then (λ t. provided (tree_eq t types) types) (slice_get (context c) n) ≡ None
  no_types (Pi a c) zero = refl
  no_types (Pi a c) (suc n) = no_types c n
  no_types SortType n = refl
  no_types SortKind n = refl
  no_types (Var k) n = refl
  no_types (Sym k) n = refl
  no_types (App f x) n = refl
  no_types (Lam f x) n = refl

  pub constant-plain : (c t : Tree) → constant_type m (context c) t ≡ constant_type m [] t
  constant-plain c (Var n) = no_types c n
  constant-plain c (Sym s) = refl
  constant-plain c (App f a) = ap₂ (λ o p. option_and_then (λ t. if tree_eq t types then at_a_type o a else None) p) (constant-plain c f) (constant-plain c a)
  constant-plain c SortType = refl
  constant-plain c SortKind = refl
  constant-plain c (Lam a b) = refl
  constant-plain c (Pi a b) = refl

  pub simple-plain : (c t : Tree) → is_simple m (context c) t ≡ is_simple m [] t
  simple-plain c t = ap (λ o. is_some (option_and_then (λ t. provided (tree_eq t types) t) o)) (constant-plain c t)

  pub part-plain : (c t : Tree) → simple_part m (context c) t ≡ simple_part m [] t
  part-plain c t = go (type_of_terms t)
    where
      go : (o : Option Tree) → option_and_then (λ a. provided (is_simple m (context c) a) a) o ≡ option_and_then (λ a. provided (is_simple m [] a) a) o
      go None = refl
      go (Some a) = ap (λ b. provided b a) (simple-plain c a)

  then_part-plain : (c : Tree) (o : Option Tree) → option_and_then (simple_part m (context c)) o ≡ option_and_then (simple_part m []) o
  then_part-plain c None = refl
  then_part-plain c (Some A) = part-plain c A

  pub constant_part-plain : (c t : Tree) → option_and_then (simple_part m (context c)) (constant_type m (context c) t) ≡ constant_part m t
  constant_part-plain c t = ap (option_and_then (simple_part m (context c))) (constant-plain c t) ∙ then_part-plain c (constant_type m [] t)

  -- a constant has no variables
  constant-lift : (t A : Tree) (d k : ℕ) → constant_type m [] t ≡ Some A → lift_at d k t ≡ t
  constant-lift (Var n) A d k e = absurd (cc)
  constant-lift (Sym s) A d k e = refl
  constant-lift (App f a) A d k e =
      let b = and_then-Some (λ t. if tree_eq t types then at_a_type (constant_type m [] f) a else None) (constant_type m [] a) A e in
      let g = function_of (tree_eq b.0 types) b.2 in
      ap₂ App (constant-lift f g.0 d k g.1) (constant-lift a b.0 d k b.1)
    where
      at : (o : Option Tree) → at_a_type o a ≡ Some A → (B : Tree) × (o ≡ Some B)
      at (Some B) i = (B, refl)
      at None i = absurd (cc)

      function_of : (c : Bool) → (if c then at_a_type (constant_type m [] f) a else None) ≡ Some A → (B : Tree) × (constant_type m [] f ≡ Some B)
      function_of true i = at (constant_type m [] f) i
      function_of false i = absurd (cc)
  constant-lift SortType A d k e = refl
  constant-lift SortKind A d k e = refl
  constant-lift (Lam a b) A d k e = absurd (cc)
  constant-lift (Pi a b) A d k e = absurd (cc)

  constant-put : (t A x : Tree) (d : ℕ) → constant_type m [] t ≡ Some A → put_at d x t ≡ t
  constant-put (Var n) A x d e = absurd (cc)
  constant-put (Sym s) A x d e = refl
  constant-put (App f a) A x d e =
      let b = and_then-Some (λ t. if tree_eq t types then at_a_type (constant_type m [] f) a else None) (constant_type m [] a) A e in
      let g = function_of (tree_eq b.0 types) b.2 in
      ap₂ App (constant-put f g.0 x d g.1) (constant-put a b.0 x d b.1)
    where
      at : (o : Option Tree) → at_a_type o a ≡ Some A → (B : Tree) × (o ≡ Some B)
      at (Some B) i = (B, refl)
      at None i = absurd (cc)

      function_of : (c : Bool) → (if c then at_a_type (constant_type m [] f) a else None) ≡ Some A → (B : Tree) × (constant_type m [] f ≡ Some B)
      function_of true i = at (constant_type m [] f) i
      function_of false i = absurd (cc)
  constant-put SortType A x d e = refl
  constant-put SortKind A x d e = refl
  constant-put (Lam a b) A x d e = absurd (cc)
  constant-put (Pi a b) A x d e = absurd (cc)

  simple-constant : (a : Tree) → is_simple m [] a ≡ true → constant_type m [] a ≡ Some types
  simple-constant a e = go (constant_type m [] a) refl e
    where
      go : (o : Option Tree) → constant_type m [] a ≡ o → is_some (option_and_then (λ t. provided (tree_eq t types) t) o) ≡ true → constant_type m [] a
          ≡ Some types
      go None i h = absurd (cc)
      go (Some t) i h = i ∙ ap Some (at (tree_eq t types) refl h)
        where
          at : (b : Bool) → tree_eq t types ≡ b → is_some (provided b t) ≡ true → t ≡ types
          at true j k = tree_eq-true t types j
          at false j k = absurd (cc)

  constant-simple : (a : Tree) → constant_type m [] a ≡ Some types → is_simple m [] a ≡ true
  constant-simple a e = ap (λ o. is_some (option_and_then (λ t. provided (tree_eq t types) t) o)) e

  pub simple-lift : (a : Tree) (k : ℕ) → is_simple m [] a ≡ true → lift k a ≡ a
  simple-lift a k e = constant-lift a types 0 k (simple-constant a e)

  pub simple-put : (a x : Tree) → is_simple m [] a ≡ true → put x a ≡ a
  simple-put a x e = constant-put a types x 0 (simple-constant a e)

  pub simple_part-simple : (t a : Tree) → simple_part m [] t ≡ Some a → is_simple m [] a ≡ true
  simple_part-simple t a e =
      let b = and_then-Some (λ c. provided (is_simple m [] c) c) (type_of_terms t) a e in
      let p = provided-Some (is_simple m [] b.0) b.0 a b.2 in
      subst (λ c. is_simple m [] c ≡ true) p.1 p.0

  -- functions between simple types are one, and of one
  pub arr-simple : (a b : Tree) → is_simple m [] a ≡ true → is_simple m [] b ≡ true → is_simple m [] (arr_of a b) ≡ true
  arr-simple a b e f =
      let p = simple-constant a e in
      let q = simple-constant b f in
      constant-simple (arr_of a b)
      (ap (λ o. option_and_then (λ t. if tree_eq t types then at_a_type (constant_type m [] (App (Sym arr_symbol) a)) b else None) o) q
      ∙ ap (λ o. at_a_type (option_and_then (λ t. if tree_eq t types then at_a_type (constant_type m [] (Sym arr_symbol)) a else None) o) b) p)

  value-simple : (a b : Tree) → is_simple m [] (arr_of a b) ≡ true → is_simple m [] b ≡ true
  value-simple a b e =
      let c = and_then-Some (λ t. if tree_eq t types then at_a_type (constant_type m [] (App (Sym arr_symbol) a)) b else None) (constant_type m [] b) types
      (simple-constant (arr_of a b) e) in
      constant-simple b (c.1 ∙ ap Some (at c.0 (tree_eq c.0 types) refl c.2))
    where
      at : (t : Tree) (d : Bool) → tree_eq t types ≡ d → (if d then at_a_type (constant_type m [] (App (Sym arr_symbol) a)) b else None) ≡ Some types → t
          ≡ types
      at t true i j = tree_eq-true t types i
      at t false i j = absurd (cc)

  value_type-arr : (t c b : Tree) → value_type t c ≡ Some b → t ≡ arr_of c b
  value_type-arr (App (App f a) x) c b e =
      let p = provided-Some (tree_eq f (Sym arr_symbol) && tree_eq a c) x b e in
      let q = and_parts (tree_eq f (Sym arr_symbol)) (tree_eq a c) p.0 in
      ap (λ g. App (App g a) x) (tree_eq-true f (Sym arr_symbol) q.0) ∙ ap (λ g. arr_of g x) (tree_eq-true a c q.1) ∙ ap (arr_of c) p.1
  value_type-arr _ c b e = absurd (cc)

  -- The type of a variable
  pub term-variable : (c : Tree) (n : ℕ) → IsContext m c → term_type m (context c) (Var n) ≡ entry c n
  term-variable c n h = go c n (suc n) h
    where
      lifted : (a : Tree) (k : ℕ) → is_simple m [] a ≡ true → simple_part m (context c) (lift k (term_of a)) ≡ Some a
      lifted a k e = ap (simple_part m (context c)) (ap term_of (simple-lift a k e)) ∙ ap (λ b. provided b a) (simple-plain c a ∙ e)

      go : (d : Tree) (n k : ℕ) → IsContext m d → option_and_then (λ t. simple_part m (context c) (lift k t)) (slice_get (context d) n) ≡ entry d n
      go (Pi a d) zero k h = lifted a k h.0
      go (Pi a d) (suc n) k h = go d n k h.1
      go SortType n k h = refl
      go SortKind n k h = refl
      go (Var i) n k h = refl
      go (Sym i) n k h = refl
      go (App f x) n k h = refl
      go (Lam f x) n k h = refl

  entry-simple : (c a : Tree) (n : ℕ) → IsContext m c → entry c n ≡ Some a → is_simple m [] a ≡ true
  entry-simple (Pi b c) a zero h e = subst (λ t. is_simple m [] t ≡ true) (same_Some _ _ e) h.0
  entry-simple (Pi b c) a (suc n) h e = entry-simple c a n h.1 e
  entry-simple SortType a n h e = absurd (cc)
  entry-simple SortKind a n h e = absurd (cc)
  entry-simple (Var i) a n h e = absurd (cc)
  entry-simple (Sym i) a n h e = absurd (cc)
  entry-simple (App f x) a n h e = absurd (cc)
  entry-simple (Lam f x) a n h e = absurd (cc)

  constant_part-simple : (t a : Tree) → constant_part m t ≡ Some a → is_simple m [] a ≡ true
  constant_part-simple t a e = let b = and_then-Some (simple_part m []) (constant_type m [] t) a e in simple_part-simple b.0 a b.2

  -- The type of a term is simple
  pub term-simple : (c t a : Tree) → IsContext m c → term_type m (context c) t ≡ Some a → is_simple m [] a ≡ true
  term-simple c (Var n) a h e = entry-simple c a n h (sym (term-variable c n h) ∙ e)
  term-simple c (Sym s) a h e = constant_part-simple (Sym s) a (sym (constant_part-plain c (Sym s)) ∙ e)
  term-simple c (App f x) a h e = go (constant_part m (App f x)) refl
      (sym (ap (λ o. or_else o (option_and_then (λ t. option_and_then (value_type t) (term_type m (context c) x)) (term_type m (context c) f)))
      (constant_part-plain c (App f x))) ∙ e) (λ t i. term-simple c f t h i)
    where
      go : (o : Option Tree) → constant_part m (App f x) ≡ o
          → or_else o (option_and_then (λ t. option_and_then (value_type t) (term_type m (context c) x)) (term_type m (context c) f)) ≡ Some a
          → ((t : Tree) → term_type m (context c) f ≡ Some t → is_simple m [] t ≡ true) → is_simple m [] a ≡ true
      go (Some b) i j k = constant_part-simple (App f x) a (i ∙ j)
      go None i j k =
          let p = and_then-Some (λ t. option_and_then (value_type t) (term_type m (context c) x)) (term_type m (context c) f) a j in
          let q = and_then-Some (value_type p.0) (term_type m (context c) x) a p.2 in
          value-simple q.0 a (subst (λ t. is_simple m [] t ≡ true) (value_type-arr p.0 q.0 a q.2) (k p.0 p.1))
  term-simple c (Lam d t) a h e =
      let p = and_then-Some (λ b. option_and_then (function_type m (context c) b) (term_type m (term_of b ∷ context c) t)) (simple_part m (context c) d) a e in
      let q = and_then-Some (function_type m (context c) p.0) (term_type m (term_of p.0 ∷ context c) t) a p.2 in
      let v = put p.0 q.0 in
      let r = provided-Some (tree_eq (lift 1 v) q.0 && is_simple m (context c) v) (arr_of p.0 v) a q.2 in
      let s = and_parts (tree_eq (lift 1 v) q.0) (is_simple m (context c) v) r.0 in
      subst (λ b. is_simple m [] b ≡ true) r.1 (arr-simple p.0 v (simple_part-simple d p.0 (sym (part-plain c d) ∙ p.1)) (sym (simple-plain c v) ∙ s.1))
  term-simple c SortType a h e = absurd (cc)
  term-simple c SortKind a h e = absurd (cc)
  term-simple c (Pi d b) a h e = absurd (cc)

  -- The type of an application
  pub term-application : (c f x : Tree) → term_type m (context c) (App f x)
      ≡ or_else (constant_part m (App f x)) (option_and_then (λ t. option_and_then (value_type t) (term_type m (context c) x)) (term_type m (context c) f))
  term-application c f x = ap (λ o. or_else o (option_and_then (λ t. option_and_then (value_type t) (term_type m (context c) x)) (term_type m (context c) f)))
      (constant_part-plain c (App f x))

  -- The type of an abstraction
  function-arr : (c a v : Tree) → is_simple m [] v ≡ true → function_type m (context c) a v ≡ Some (arr_of a v)
  function-arr c a v e =
      let p = simple-put v a e in
      ap (λ b. provided (tree_eq (lift 1 b) v && is_simple m (context c) b) (arr_of a b)) p
      ∙ ap₂ (λ s t. provided (tree_eq s v && t) (arr_of a v)) (simple-lift v 1 e) (simple-plain c v ∙ e)
      ∙ ap (λ b. provided (b && true) (arr_of a v)) (tree_eq-refl v)

  pub term-abstraction : (c d t : Tree) → IsContext m c → term_type m (context c) (Lam d t)
      ≡ option_and_then (λ a. option_map (arr_of a) (term_type m (context (Pi a c)) t)) (simple_part m [] d)
  term-abstraction c d t h = ap (λ o. option_and_then (λ a. option_and_then (function_type m (context c) a) (term_type m (term_of a ∷ context c) t)) o)
      (part-plain c d) ∙ go (simple_part m [] d) refl
    where
      under : (a : Tree) → is_simple m [] a ≡ true → (o : Option Tree) → term_type m (context (Pi a c)) t ≡ o
          → option_and_then (function_type m (context c) a) o ≡ option_map (arr_of a) o
      under a s None i = refl
      under a s (Some v) i = function-arr c a v (term-simple (Pi a c) t v (s, h) i)

      go : (o : Option Tree) → simple_part m [] d ≡ o
          → option_and_then (λ a. option_and_then (function_type m (context c) a) (term_type m (term_of a ∷ context c) t)) o
          ≡ option_and_then (λ a. option_map (arr_of a) (term_type m (context (Pi a c)) t)) o
      go None i = refl
      go (Some a) i = under a (simple_part-simple d a i) (term_type m (context (Pi a c)) t) refl

  -- A closed tree is in each context of the type that it has in none
  abbrev Agree : ℕ → Tree → Tree → Type 0
  Agree k c d = (n : ℕ) → n < k → entry c n ≡ entry d n

  agree-under : (k : ℕ) (a c d : Tree) → Agree k c d → Agree (suc k) (Pi a c) (Pi a d)
  agree-under k a c d h zero l = refl
  agree-under k a c d h (suc n) l = h n (omega (arith, l))

  term-agrees : (k : ℕ) (c d t : Tree) → IsContext m c → IsContext m d → Agree k c d → loose t ≤ k → term_type m (context c) t ≡ term_type m (context d) t
  term-agrees k c d (Var n) g h a l = term-variable c n g ∙ a n (omega (arith, l)) ∙ sym (term-variable d n h)
  term-agrees k c d (Sym s) g h a l = constant_part-plain c (Sym s) ∙ sym (constant_part-plain d (Sym s))
  term-agrees k c d (App f x) g h a l =
      term-application c f x
      ∙ ap₂ (λ p q. or_else (constant_part m (App f x)) (option_and_then (λ t. option_and_then (value_type t) q) p))
      (term-agrees k c d f g h a (omega (arith, l))) (term-agrees k c d x g h a (omega (arith, l)))
      ∙ sym (term-application d f x)
  term-agrees k c d (Lam e t) g h a l =
      term-abstraction c e t g ∙ go (simple_part m [] e) refl
      (λ b s. term-agrees (suc k) (Pi b c) (Pi b d) t (s, g) (s, h) (agree-under k b c d a) (omega (arith, l))) ∙ sym (term-abstraction d e t h)
    where
      go : (o : Option Tree) → simple_part m [] e ≡ o
          → ((b : Tree) → is_simple m [] b ≡ true → term_type m (context (Pi b c)) t ≡ term_type m (context (Pi b d)) t)
          → option_and_then (λ b. option_map (arr_of b) (term_type m (context (Pi b c)) t)) o
          ≡ option_and_then (λ b. option_map (arr_of b) (term_type m (context (Pi b d)) t)) o
      go None i same = refl
      go (Some b) i same = ap (option_map (arr_of b)) (same b (simple_part-simple e b i))
  term-agrees k c d SortType g h a l = refl
  term-agrees k c d SortKind g h a l = refl
  term-agrees k c d (Pi e t) g h a l = refl

  pub term-closed : (c t : Tree) → IsContext m c → loose t ≤ 0 → term_type m [] t ≡ term_type m (context c) t
  term-closed c t h l = term-agrees 0 SortType c t tt h (λ n k. absurd (omega (arith, k))) l
