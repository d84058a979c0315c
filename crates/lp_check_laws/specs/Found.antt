-- What the rules find of simple types, and how they convert types of terms with unfolded arrows: answers, each with a bound on its price.
use Rattle.std.proofs.Common.{◌≡◌, refl, sym, ap, ◌∙◌, subst, ℕ, suc, ◌+◌, ◌*◌, ◌≤◌, arith, Bool, true, false, List, ◌∷◌, None}
use Rattle.std.specs.Prelude.{if◌then◌else◌, option_map}
use Rattle.std.proofs.Math.Path.{subst₂}
use Rattle.lp_spec.specs.Trees.{Tree, SortType, Var, Sym, App, Pi, lift, put, size, tree_eq}
use Rattle.lp_binding_laws.specs.TreeEquality.{tree_eq-refl}
use Rattle.lp_spec.specs.Substitution.{ren, ups, sub, cons}
use Rattle.lp_binding_laws.specs.Composition.{put_is}
use Rattle.lp_binding_laws.specs.SubstitutionLaws.{ren_closed, ren-put, sub-lift, lift_one}
use Rattle.lp_binding_laws.specs.Binding.{put-lift}
use Rattle.lp_spec.specs.Modules.{Declaration, types, arr_of, term_of}
use Rattle.lp_typing_laws.specs.ConversionLaws.{IsClosed}
use Rattle.lp_spec.specs.HeadSteps.{head_step}
use Rattle.lp_spec.specs.Check.{Question, Infer, Meet, Convert, Found, Say, Ask, found_if, recheck, convert_by, plan, Ends, said, asked}
use Rattle.lp_spec.specs.Shaped.{IsConstant, type_variable, constant, at_type, IsSimple, IsTerm, of_entry, of_constant, of_function, of_binder, Unfolded, folded, arrow}
use Rattle.lp_check_laws.specs.Sizes.{size-lift}

module _ (m : List Declaration) where
  -- the question finds the tree for at most so many steps, its own included
  pub record Finds (q : Question) (t : Tree) (most : ℕ) : Type 0 where
    pub steps : ℕ
    pub ends : Ends m true (plan m true q) (Found t) steps
    pub within : suc steps ≤ most

  pub Finds-more : {q : Question} {t : Tree} {n k : ℕ} → n ≤ k → Finds q t n → Finds q t k
  Finds-more le h = record { steps = h.steps; ends = h.ends; within = omega (arith, h.within, le) }

  -- a tree meets itself, and converts to itself
  pub meet_same : (G : List Tree) (t : Tree) → Finds (Meet G t t) t 1
  meet_same G t = record {
    steps = 0;
    ends = subst (λ b. Ends m true (if b then Say (Found t) else recheck true G t (Ask (Convert t t) (λ _. Say (Found t)))) (Found t) 0) (sym (tree_eq-refl t))
        said;
    within = omega arith;
  }

  pub convert_same : (t : Tree) → Finds (Convert t t) t 1
  convert_same t = record {
    steps = 0;
    ends = subst (λ b. Ends m true (if b then Say (Found t) else convert_by t t (head_step m t) (head_step m t)) (Found t) 0) (sym (tree_eq-refl t)) said;
    within = omega arith;
  }

  -- an application of a function whose type is a product
  pub find_application : {G : List Tree} {f x A B X : Tree} {k l o : ℕ} → Finds (Infer G f) (Pi A B) k → Finds (Infer G x) X l → Finds (Meet G A X) A o
      → Finds (Infer G (App f x)) (put x B) (1 + k + l + o)
  find_application f x h = record { steps = _; ends = asked f.ends (asked x.ends (asked h.ends said)); within = omega (arith, f.within, x.within, h.within) }

  -- simple types, and constants at them
  pub find_constant : {G : List Tree} {t A : Tree} → IsConstant m G t A → Finds (Infer G t) A (2 * size t)
  find_constant {G = G} (type_variable {n = n} e) =
      record { steps = 0; ends = subst (λ o. Ends m true (found_if (option_map (lift (suc n)) o)) (Found types) 0) (sym e) said; within = omega arith }
  find_constant (constant {A = A} e s) = record { steps = 0; ends = subst (λ o. Ends m true (found_if o) (Found A) 0) (sym e) said; within = omega arith }
  find_constant {G = G} (at_type {f = f} {a = a} hf ha e) =
      let h = find_application (find_constant hf) (find_constant ha) (meet_same G types) in
      subst (λ t. Finds (Infer G (App f a)) t (2 * size (App f a))) e (Finds-more (omega arith) h)

  -- the parts of a simple type of functions are simple types
  pub arrow-parts : {G : List Tree} {a b : Tree} → IsSimple m G (arr_of a b) → IsSimple m G a × IsSimple m G b
  arrow-parts (at_type (at_type hf ha e) hb k) = (ha, hb)

  -- a term's type is simple
  pub term-simple : {G : List Tree} {t a : Tree} → IsTerm m G t a → IsSimple m G a
  term-simple (of_entry at e s) = s
  term-simple (of_constant h s) = s
  term-simple (of_function f x) = (arrow-parts (term-simple f)).1
  term-simple (of_binder a b t) = at_type (at_type (constant refl tt) a refl) b refl

  -- the type of terms of a simple type
  pub find_terms : {G : List Tree} {a : Tree} → IsSimple m G a → Finds (Infer G (term_of a)) SortType (2 * size a + 3)
  find_terms {G = G} {a = a} h =
      let symbol : Finds (Infer G (Sym 4)) (Pi types SortType) 1 = record { steps = 0; ends = said; within = omega arith } in
      Finds-more (omega arith) (find_application symbol (find_constant h) (meet_same G types))

module _ (m : List Declaration) (closed : IsClosed m) where
  -- a simple type under a further entry
  constant-weaken : {G : List Tree} {C t A : Tree} → IsConstant m G t A → IsConstant m (C ∷ G) (ren suc t) (ren suc A)
  constant-weaken (type_variable e) = type_variable e
  constant-weaken {G = G} {C = C} (constant {s = s} {A = A} e k) =
      subst (IsConstant m (C ∷ G) (Sym s)) (sym (ren_closed suc A (closed.types s A e))) (constant e k)
  constant-weaken (at_type {a = a} {A = A} hf ha e) = at_type (constant-weaken hf) (constant-weaken ha) (sym (ren-put suc a A) ∙ ap (ren suc) e)

  pub simple-weaken : {G : List Tree} {C a : Tree} → IsSimple m G a → IsSimple m (C ∷ G) (lift 1 a)
  simple-weaken {G = G} {C = C} {a = a} h = subst (IsSimple m (C ∷ G)) (sym (lift_one a)) (constant-weaken h)

  -- the type of functions of terms
  pub find_functions : {G : List Tree} {a b : Tree} → IsSimple m G a → IsSimple m G b
      → Finds m (Infer G (Pi (term_of a) (lift 1 (term_of b)))) SortType (2 * size a + 2 * size b + 7)
  find_functions {b = b} ha hb =
      let p = find_terms m ha in
      let q = find_terms m (simple-weaken {C = term_of _} hb) in
      record { steps = _; ends = asked p.ends (asked q.ends said); within = omega (arith, p.within, q.within, size-lift 1 b) }

  -- lifting keeps the size of what is unfolded, and so does unfolding, but for the products
  pub unfolded-size : {a S : Tree} → Unfolded a S → size S ≤ size a + 2
  unfolded-size folded = omega arith
  unfolded-size (arrow {b = b} h) = let k = unfolded-size h in omega (arith, k, size-lift 1 b)

  unfolded-sub : (s : ℕ → Tree) {a S : Tree} → Unfolded a S → Unfolded (sub s a) (sub s S)
  unfolded-sub s folded = folded
  unfolded-sub s (arrow {b = b} {S = S} h) = arrow (subst (λ w. Unfolded w (sub (ups s) S)) (sub-lift s b) (unfolded-sub (ups s) h))

  -- an argument put into the type of what a function gives
  pub unfolded-put : (x : Tree) {b S : Tree} → Unfolded (lift 1 b) S → Unfolded b (put x S)
  unfolded-put x {b = b} {S = S} h = subst₂ Unfolded (sym (put_is x (lift 1 b)) ∙ put-lift x b) (sym (put_is x S)) (unfolded-sub (cons x Var) h)

  -- the type of terms converts to itself with arrows unfolded
  pub convert_unfolded : {a S : Tree} → Unfolded a S → Finds m (Convert (term_of a) S) (term_of a) (3 * size S)
  convert_unfolded (folded {a = a}) = Finds-more m (omega arith) (convert_same m (term_of a))
  convert_unfolded (arrow {a = a} {b = b} {S = S} h) = go (tree_eq E F) refl (convert_unfolded h)
    where
      E : Tree
      E = Pi (term_of a) (lift 1 (term_of b))

      F : Tree
      F = Pi (term_of a) S

      go : (q : Bool) → tree_eq E F ≡ q → Finds m (Convert (term_of (lift 1 b)) S) (term_of (lift 1 b)) (3 * size S)
          → Finds m (Convert (term_of (arr_of a b)) F) (term_of (arr_of a b)) (3 * size F)
      go true e k = record {
        steps = _;
        ends =
            asked (subst (λ q. Ends m true (if q then Say (Found E) else convert_by E F None None) (Found E) 0) (sym e) said) said;
        within = omega arith;
      }
      go false e k =
          let d = convert_same m (term_of a) in
          record {
            steps = _;
            ends = asked
                (subst (λ q. Ends m true (if q then Say (Found E) else convert_by E F None None) (Found E) (suc (d.steps + suc (k.steps + 0)))) (sym e)
                (asked d.ends (asked k.ends said))) said;
            within = omega (arith, k.within, d.within);
          }

  -- where a term is expected, what is found of a term meets it
  pub meet_unfolded : {G : List Tree} {a S : Tree} → IsSimple m G a → Unfolded a S → Finds m (Meet G (term_of a) S) (term_of a) (5 * size a + 10)
  meet_unfolded {G = G} {a = a} {S = S} ha h = go (tree_eq (term_of a) S) refl
    where
      go : (q : Bool) → tree_eq (term_of a) S ≡ q → Finds m (Meet G (term_of a) S) (term_of a) (5 * size a + 10)
      go true e = record {
        steps = 0;
        ends =
            subst (λ q. Ends m true
            (if q then Say (Found (term_of a)) else recheck true G (term_of a) (Ask (Convert (term_of a) S) (λ _. Say (Found (term_of a))))) (Found (term_of a))
            0) (sym e) said;
        within = omega arith;
      }
      go false e =
          let p = find_terms m ha in
          let c = convert_unfolded h in
          record {
            steps = _;
            ends = subst
                (λ q. Ends m true (if q then Say (Found (term_of a)) else recheck true G (term_of a)
                (Ask (Convert (term_of a) S) (λ _. Say (Found (term_of a))))) (Found (term_of a)) (suc (p.steps + suc (c.steps + 0)))) (sym e)
                (asked p.ends (asked c.ends said));
            within = omega (arith, p.within, c.within, unfolded-size h);
          }
