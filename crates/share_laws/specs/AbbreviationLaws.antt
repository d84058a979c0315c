-- What can be abbreviated is a simple type or a term of one, by the shapes of trees: so an abbreviation is shaped, and checks.
use Rattle.std.proofs.Common.{◌≡◌, ◌≤◌, ℕ, zero, suc, refl, sym, ap, subst, ◌∙◌, Bool, true, false, List, [], ◌∷◌, inl, inr, Option, Some, None, arith}
use Rattle.std.specs.Prelude.{nat_le, ◌&&◌, slice_get, if◌then◌else◌, option_map, option_and_then}
use Rattle.std.specs.Option.{is_some}
use Rattle.std.proofs.lemmas.Bool.{and_parts}
use Rattle.std.proofs.lemmas.Option.{same_Some}
use Rattle.lp_spec.specs.declared.form.Form.TheVariants.{Def}
use Rattle.lp_spec.specs.Trees.{Tree, SortType, SortKind, Var, Sym, App, Lam, Pi, lift, put, tree_eq, size, depth}
use Rattle.lp_spec.specs.Reading.{max_depth}
use Rattle.std.proofs.lemmas.Grind.{common_steps}
use Rattle.lp_spec.specs.Modules.{Declaration, symbol_type, types, arr_symbol, term_symbol, arr_of, term_of}
use Rattle.lp_binding_laws.specs.TreeEquality.{tree_eq-true}
use Rattle.lp_spec.specs.Shaped.{Solid, IsConstant, type_variable, constant, at_type, IsSimple, IsTerm, of_entry, of_constant, of_function, of_binder, of_types, of_terms, IsProof, call, at_a_type as at_a_type_of, defined, by_type, IsShaped}
use Rattle.lp_check_laws.specs.Found.{term-simple}
use Rattle.lp_check_laws.specs.TermPrice.{size-positive}
use Rattle.share_spec.specs.FoldedStands.{IsAbbreviated, of_type, of_term}
use Rattle.share_spec.specs.Abbreviations.{provided, or_else, is_solid, type_of_terms, at_a_type, constant_type, is_simple, simple_part, value_type, function_type, term_type, type_of_abbreviation, written_type, abbreviation}

-- how a result that is there came about
pub and_then-Some : {X Y : Type 0} (f : X → Option Y) (o : Option X) (y : Y) → option_and_then f o ≡ Some y → (x : X) × (o ≡ Some x) × (f x ≡ Some y)
and_then-Some f None y e = absurd (cc)
and_then-Some f (Some x) y e = (x, refl, e)

pub provided-Some : (b : Bool) (t u : Tree) → provided b t ≡ Some u → (b ≡ true) × (t ≡ u)
provided-Some true t u e = (refl, same_Some _ _ e)
provided-Some false t u e = absurd (cc)

map-Some : {X Y : Type 0} (f : X → Y) (o : Option X) (y : Y) → option_map f o ≡ Some y → (x : X) × (o ≡ Some x) × (f x ≡ y)
map-Some f None y e = absurd (cc)
map-Some f (Some x) y e = (x, refl, cc)

if-Some : {Y : Type 0} (b : Bool) (o : Option Y) (y : Y) → (if b then o else None) ≡ Some y → (b ≡ true) × (o ≡ Some y)
if-Some true o y e = (refl, e)
if-Some false o y e = absurd (cc)

pub is_some-Some : {X : Type 0} (o : Option X) → is_some o ≡ true → (x : X) × (o ≡ Some x)
is_some-Some None e = absurd (cc)
is_some-Some (Some x) e = (x, refl)

pub nat_le-true : (a b : ℕ) → nat_le a b ≡ true → a ≤ b
nat_le-true a b e = grind (arith, common_steps, e)

is_solid-Solid : (t : Tree) → is_solid t ≡ true → Solid t
is_solid-Solid SortType e = tt
is_solid-Solid SortKind e = tt
is_solid-Solid (Var n) e = absurd (cc)
is_solid-Solid (Sym s) e = tt
is_solid-Solid (App f x) e = tt
is_solid-Solid (Lam a b) e = tt
is_solid-Solid (Pi a b) e = is_solid-Solid b e

at_a_type-Some : (o : Option Tree) (a B : Tree) → at_a_type o a ≡ Some B → (b : Tree) × (o ≡ Some (Pi types b)) × (put a b ≡ B)
at_a_type-Some (Some (Pi t b)) a B e = let p = provided-Some (tree_eq t types) (put a b) B e in (b, ap (λ u. Some (Pi u b)) (tree_eq-true t types p.0), p.1)
at_a_type-Some None a B e = absurd (cc)
at_a_type-Some (Some _) a B e = absurd (cc)

type_of_terms-Some : (t a : Tree) → type_of_terms t ≡ Some a → t ≡ term_of a
type_of_terms-Some (App f x) a e = let p = provided-Some (tree_eq f (Sym term_symbol)) x a e in ap (λ g. App g x) (tree_eq-true f (Sym term_symbol) p.0) ∙ ap
    term_of p.1
type_of_terms-Some SortType a e = absurd (cc)
type_of_terms-Some SortKind a e = absurd (cc)
type_of_terms-Some (Var n) a e = absurd (cc)
type_of_terms-Some (Sym s) a e = absurd (cc)
type_of_terms-Some (Lam t b) a e = absurd (cc)
type_of_terms-Some (Pi t b) a e = absurd (cc)

value_type-Some : (t c b : Tree) → value_type t c ≡ Some b → t ≡ arr_of c b
value_type-Some (App (App f a) x) c b e =
    let p = provided-Some (tree_eq f (Sym arr_symbol) && tree_eq a c) x b e in
    let q = and_parts (tree_eq f (Sym arr_symbol)) (tree_eq a c) p.0 in
    ap (λ g. App (App g a) x) (tree_eq-true f (Sym arr_symbol) q.0) ∙ ap (λ g. arr_of g x) (tree_eq-true a c q.1) ∙ ap (arr_of c) p.1
value_type-Some _ c b e = absurd (cc)

module _ (m : List Declaration) where
  pub constant_type-IsConstant : (G : List Tree) (t A : Tree) → constant_type m G t ≡ Some A → IsConstant m G t A
  constant_type-IsConstant G (Var n) A e =
      let b = and_then-Some (λ t. provided (tree_eq t types) types) (slice_get G n) A e in
      let p = provided-Some (tree_eq b.0 types) types A b.2 in
      subst (IsConstant m G (Var n)) p.1 (type_variable (b.1 ∙ ap Some (tree_eq-true b.0 types p.0)))
  constant_type-IsConstant G (Sym s) A e =
      let b = and_then-Some (λ t. provided (is_solid t) t) (symbol_type m s) A e in
      let p = provided-Some (is_solid b.0) b.0 A b.2 in
      subst (IsConstant m G (Sym s)) p.1 (constant b.1 (is_solid-Solid b.0 p.0))
  constant_type-IsConstant G (App f a) A e =
      let b = and_then-Some (λ t. if tree_eq t types then at_a_type (constant_type m G f) a else None) (constant_type m G a) A e in
      let c = if-Some (tree_eq b.0 types) (at_a_type (constant_type m G f) a) A b.2 in
      let d = at_a_type-Some (constant_type m G f) a A c.1 in
      at_type (constant_type-IsConstant G f (Pi types d.0) d.1) (constant_type-IsConstant G a types (b.1 ∙ ap Some (tree_eq-true b.0 types c.0))) d.2
  constant_type-IsConstant G SortType A e = absurd (cc)
  constant_type-IsConstant G SortKind A e = absurd (cc)
  constant_type-IsConstant G (Lam t b) A e = absurd (cc)
  constant_type-IsConstant G (Pi t b) A e = absurd (cc)

  pub is_simple-IsSimple : (G : List Tree) (a : Tree) → is_simple m G a ≡ true → IsSimple m G a
  is_simple-IsSimple G a e =
      let s = is_some-Some (option_and_then (λ t. provided (tree_eq t types) t) (constant_type m G a)) e in
      let b = and_then-Some (λ t. provided (tree_eq t types) t) (constant_type m G a) s.0 s.1 in
      let p = provided-Some (tree_eq b.0 types) b.0 s.0 b.2 in
      constant_type-IsConstant G a types (b.1 ∙ ap Some (tree_eq-true b.0 types p.0))

  simple_part-Some : (G : List Tree) (t a : Tree) → simple_part m G t ≡ Some a → (t ≡ term_of a) × IsSimple m G a
  simple_part-Some G t a e =
      let b = and_then-Some (λ c. provided (is_simple m G c) c) (type_of_terms t) a e in
      let p = provided-Some (is_simple m G b.0) b.0 a b.2 in
      (type_of_terms-Some t b.0 b.1 ∙ ap term_of p.1, subst (IsSimple m G) p.1 (is_simple-IsSimple G b.0 p.0))

  lift-type_of_terms : (n : ℕ) (t a : Tree) → lift n t ≡ term_of a → (b : Tree) × (t ≡ term_of b) × (lift n b ≡ a)
  lift-type_of_terms n (App (Sym (suc (suc (suc (suc zero))))) b) a e = (b, refl, cc)
  lift-type_of_terms n (App (Sym zero) b) a e = absurd (cc)
  lift-type_of_terms n (App (Sym (suc zero)) b) a e = absurd (cc)
  lift-type_of_terms n (App (Sym (suc (suc zero))) b) a e = absurd (cc)
  lift-type_of_terms n (App (Sym (suc (suc (suc zero)))) b) a e = absurd (cc)
  lift-type_of_terms n (App (Sym (suc (suc (suc (suc (suc s)))))) b) a e = absurd (cc)
  lift-type_of_terms n (App SortType b) a e = absurd (cc)
  lift-type_of_terms n (App SortKind b) a e = absurd (cc)
  lift-type_of_terms n (App (Var k) b) a e = absurd (cc)
  lift-type_of_terms n (App (App f x) b) a e = absurd (cc)
  lift-type_of_terms n (App (Lam f x) b) a e = absurd (cc)
  lift-type_of_terms n (App (Pi f x) b) a e = absurd (cc)
  lift-type_of_terms n SortType a e = absurd (cc)
  lift-type_of_terms n SortKind a e = absurd (cc)
  lift-type_of_terms n (Var k) a e = absurd (cc)
  lift-type_of_terms n (Sym s) a e = absurd (cc)
  lift-type_of_terms n (Lam f x) a e = absurd (cc)
  lift-type_of_terms n (Pi f x) a e = absurd (cc)

  constant_term : (G : List Tree) (t a : Tree) → option_and_then (simple_part m G) (constant_type m G t) ≡ Some a → IsTerm m G t a
  constant_term G t a e =
      let b = and_then-Some (simple_part m G) (constant_type m G t) a e in
      let p = simple_part-Some G b.0 a b.2 in
      of_constant (constant_type-IsConstant G t (term_of a) (b.1 ∙ ap Some p.0)) p.1

  -- What has a type of terms is a term of it
  pub term_type-IsTerm : (G : List Tree) (t a : Tree) → term_type m G t ≡ Some a → IsTerm m G t a
  term_type-IsTerm G (Var n) a e =
      let b = and_then-Some (λ t. simple_part m G (lift (suc n) t)) (slice_get G n) a e in
      let p = simple_part-Some G (lift (suc n) b.0) a b.2 in
      let l = lift-type_of_terms (suc n) b.0 a p.0 in
      of_entry (b.1 ∙ ap Some l.1) l.2 p.1
  term_type-IsTerm G (Sym s) a e = constant_term G (Sym s) a e
  term_type-IsTerm G (App f x) a e = go (λ c. term_type-IsTerm G f c) (λ c. term_type-IsTerm G x c)
      (option_and_then (simple_part m G) (constant_type m G (App f x))) refl e
    where
      go : ((c : Tree) → term_type m G f ≡ Some c → IsTerm m G f c) → ((c : Tree) → term_type m G x ≡ Some c → IsTerm m G x c) → (o : Option Tree)
          → option_and_then (simple_part m G) (constant_type m G (App f x)) ≡ o
          → or_else o (option_and_then (λ t. option_and_then (value_type t) (term_type m G x)) (term_type m G f)) ≡ Some a → IsTerm m G (App f x) a
      go h k (Some b) i j = constant_term G (App f x) a (i ∙ j)
      go h k None i j =
          let b = and_then-Some (λ t. option_and_then (value_type t) (term_type m G x)) (term_type m G f) a j in
          let c = and_then-Some (value_type b.0) (term_type m G x) a b.2 in
          of_function (h (arr_of c.0 a) (b.1 ∙ ap Some (value_type-Some b.0 c.0 a c.2))) (k c.0 c.1)
  term_type-IsTerm G (Lam d t) r e =
      let b = and_then-Some (λ a. option_and_then (function_type m G a) (term_type m (term_of a ∷ G) t)) (simple_part m G d) r e in
      let p = simple_part-Some G d b.0 b.1 in
      let c = and_then-Some (function_type m G b.0) (term_type m (term_of b.0 ∷ G) t) r b.2 in
      let v = put b.0 c.0 in
      let f = provided-Some (tree_eq (lift 1 v) c.0 && is_simple m G v) (arr_of b.0 v) r c.2 in
      let q = and_parts (tree_eq (lift 1 v) c.0) (is_simple m G v) f.0 in
      let body : IsTerm m (term_of b.0 ∷ G) t (lift 1 v) =
      subst (IsTerm m (term_of b.0 ∷ G) t) (sym (tree_eq-true (lift 1 v) c.0 q.0)) (term_type-IsTerm (term_of b.0 ∷ G) t c.0 c.1) in
      subst (λ h. IsTerm m G (Lam h t) r) (sym p.0) (subst (IsTerm m G (Lam (term_of b.0) t)) f.1 (of_binder p.1 (is_simple-IsSimple G v q.1) body))
  term_type-IsTerm G SortType a e = absurd (cc)
  term_type-IsTerm G SortKind a e = absurd (cc)
  term_type-IsTerm G (Pi t b) a e = absurd (cc)

  -- a constant at types, in no context, is a call
  constant-IsProof : {t A : Tree} → IsConstant m [] t A → IsProof m true [] t A
  constant-IsProof (type_variable e) = absurd (cc)
  constant-IsProof (constant e s) = call e s
  constant-IsProof (at_type f a e) = at_a_type_of (constant-IsProof f) a e

  -- the definition of a tree of two parts or more
  abbreviation_of-IsShaped : (name : List ℕ) (t A : Tree) → 3 ≤ size t → type_of_abbreviation m t ≡ Some A
      → IsShaped m (record { name = name; form = Def; ty = A; body = Some t })
  abbreviation_of-IsShaped name t A big e = go (is_simple m [] t) refl e
    where
      go : (b : Bool) → is_simple m [] t ≡ b → (if b then Some types else option_map term_of (term_type m [] t)) ≡ Some A
          → IsShaped m (record { name = name; form = Def; ty = A; body = Some t })
      go true i j = subst (λ B. IsShaped m (record { name = name; form = Def; ty = B; body = Some t })) (same_Some _ _ j)
          (record { ty = of_types; body = inr (by_type (constant-IsProof (is_simple-IsSimple [] t i)), big) })
      go false i j =
          let b = map-Some term_of (term_type m [] t) A j in
          let h = term_type-IsTerm [] t b.0 b.1 in
          subst (λ B. IsShaped m (record { name = name; form = Def; ty = B; body = Some t })) b.2
          (record { ty = of_terms (term-simple m h); body = inl (defined h) })

  written_type-Some : (o : Option Tree) (A : Tree) → written_type o ≡ Some A → (o ≡ Some A) × (depth A ≤ max_depth)
  written_type-Some o A e =
      let b = and_then-Some (λ a. provided (nat_le (depth a) max_depth) a) o A e in
      let p = provided-Some (nat_le (depth b.0) max_depth) b.0 A b.2 in
      (b.1 ∙ ap Some p.1, subst (λ t. depth t ≤ max_depth) p.1 (nat_le-true (depth b.0) max_depth p.0))

  -- what can be abbreviated has two parts or more, and a type that can be written
  pub abbreviation-Some : (t A : Tree) → abbreviation m t ≡ Some A → (3 ≤ size t) × (type_of_abbreviation m t ≡ Some A) × (depth A ≤ max_depth)
  abbreviation-Some (App f x) A e = let w = written_type-Some (type_of_abbreviation m (App f x)) A e in
      (omega (arith, size-positive f, size-positive x), w.0, w.1)
  abbreviation-Some (Lam a b) A e = let w = written_type-Some (type_of_abbreviation m (Lam a b)) A e in
      (omega (arith, size-positive a, size-positive b), w.0, w.1)
  abbreviation-Some SortType A e = absurd (cc)
  abbreviation-Some SortKind A e = absurd (cc)
  abbreviation-Some (Var n) A e = absurd (cc)
  abbreviation-Some (Sym s) A e = absurd (cc)
  abbreviation-Some (Pi a b) A e = absurd (cc)

  -- An abbreviation is shaped
  pub abbreviation-IsShaped : (name : List ℕ) (t A : Tree) → abbreviation m t ≡ Some A → IsShaped m (record { name = name; form = Def; ty = A; body = Some t })
  abbreviation-IsShaped name t A e = let w = abbreviation-Some t A e in abbreviation_of-IsShaped name t A w.0 w.1

  -- and abbreviates a simple type or a term of one
  pub abbreviation-IsAbbreviated : (t A : Tree) → abbreviation m t ≡ Some A → IsAbbreviated m t A
  abbreviation-IsAbbreviated t A e = go (is_simple m [] t) refl (abbreviation-Some t A e).1
    where
      go : (b : Bool) → is_simple m [] t ≡ b → (if b then Some types else option_map term_of (term_type m [] t)) ≡ Some A → IsAbbreviated m t A
      go true i j = subst (IsAbbreviated m t) (same_Some _ _ j) (of_type (is_simple-IsSimple [] t i))
      go false i j = let b = map-Some term_of (term_type m [] t) A j in subst (IsAbbreviated m t) b.2 (of_term (term_type-IsTerm [] t b.0 b.1))
