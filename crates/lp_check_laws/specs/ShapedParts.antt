-- Shapes of type definitions: the symbols of parts at a type, a predicate on it, a term of it and a proof that the predicate holds of it; the
-- operator and the two constants that stand for them, and the two laws.
use Rattle.std.proofs.Common.{◌≡◌, length, refl, ap, ℕ, zero, suc, arith, true, false, List, [], ◌∷◌, Some, None}
use Rattle.lp_spec.specs.Trees.{Tree, SortType, SortKind, Var, Sym, App, Lam, Pi, lift, put, put_all, loose}
use Rattle.lp_binding_laws.specs.Composition.{lift_zero, put-lift_at}
use Rattle.lp_binding_laws.specs.Binding.{put-lift}
use Rattle.lp_spec.specs.Lemmas.{sym_lemma}
use Rattle.lp_spec.specs.Modules.{Declaration, signature, symbol_type, applied, products, types, bools, arr_of, term_of, eq_of, proof_of, fun_ext_symbol, two_functions, pointwise_equal, sub_symbol, sub_abs_symbol, sub_rep_symbol, sub_abs_rep_symbol, sub_rep_abs_symbol, part_domains, part_arguments, abstraction_undoes, part_holds}
use Rattle.lp_spec.specs.HeadSteps.{head_step}
use Rattle.lp_check_laws.specs.LawSpreads.{spreads-same}
use Rattle.lp_spec.specs.Shaped.{Solid, constant, IsSimple, IsTerm, of_entry, of_function, of_binder, IsProof, call, at_a_term, two_abstractions, pointwise, Close, close_same, close_step, close_arrow, close_application, IsLast, last_call, last_defined, IsLaw, at_close_abstractions, law_last, at_close_equation, IsCallDefinition, by_type, by_term}
use Rattle.lp_check_laws.specs.ShapedCalls.{a_type, a_term, a_proof, shaped-call, shaped-equation}

-- what becomes another tree by a head step is no type of functions
pub no-arrow : (m : List Declaration) (n S : Tree) → head_step m n ≡ Some S → head_step m (term_of n) ≡ None
no-arrow m SortType S e = refl
no-arrow m SortKind S e = refl
no-arrow m (Var n) S e = refl
no-arrow m (Sym s) S e = refl
no-arrow m (Lam a b) S e = refl
no-arrow m (Pi a b) S e = refl
no-arrow m (App SortType x) S e = refl
no-arrow m (App SortKind x) S e = refl
no-arrow m (App (Var n) x) S e = refl
no-arrow m (App (Sym s) x) S e = refl
no-arrow m (App (Lam a b) x) S e = refl
no-arrow m (App (Pi a b) x) S e = refl
no-arrow m (App (App SortType y) x) S e = refl
no-arrow m (App (App SortKind y) x) S e = refl
no-arrow m (App (App (Var n) y) x) S e = refl
no-arrow m (App (App (App f z) y) x) S e = refl
no-arrow m (App (App (Lam a b) y) x) S e = refl
no-arrow m (App (App (Pi a b) y) x) S e = refl
no-arrow m (App (App (Sym zero) y) x) S e = refl
no-arrow m (App (App (Sym (suc zero)) y) x) S e = refl
no-arrow m (App (App (Sym (suc (suc zero))) y) x) S e = refl
no-arrow m (App (App (Sym (suc (suc (suc zero)))) y) x) S e = absurd (let no : None ≡ Some S = e in cc)
no-arrow m (App (App (Sym (suc (suc (suc (suc s))))) y) x) S e = refl

-- the arguments of a symbol of parts
pub record IsPartAt (m : List Declaration) (G : List Tree) (C F W H : Tree) : Type 0 where
  pub ty : IsSimple m G C
  pub predicate : IsTerm m G F (arr_of C bools)
  pub witness : IsTerm m G W C
  pub proof : IsProof m false G H (proof_of (App F W))

abbrev pub part_of : ℕ → Tree → Tree → Tree → Tree → Tree
part_of s C F W H = applied (Sym s) (C ∷ F ∷ W ∷ H ∷ [])

module _ (m : List Declaration) {G : List Tree} (C F W H : Tree) (p : IsPartAt m G C F W H) where
  part_call : (s : ℕ) (t : Tree) → symbol_type m s ≡ Some (products part_domains t) → Solid (products part_domains t) → loose (products part_domains t) ≡ 0
      → IsProof m true G (part_of s C F W H) (put_all (C ∷ F ∷ W ∷ H ∷ []) t)
  part_call s t e solid c =
      shaped-call m G part_domains (C ∷ F ∷ W ∷ H ∷ []) s t e solid c
      (a_type p.ty, (a_term (simp lift_zero p.predicate), (a_term (simp lift_zero p.witness), (a_proof (simp lift_zero p.proof), tt {0}))))

  -- the five symbols
  pub sub-call : IsProof m true G (part_of sub_symbol C F W H) types
  sub-call = part_call sub_symbol types refl tt refl

  pub sub_abs-call : IsProof m true G (part_of sub_abs_symbol C F W H) (term_of (arr_of C (part_of sub_symbol C F W H)))
  sub_abs-call = let c = part_call sub_abs_symbol (term_of (arr_of (Var 3) (applied (Sym sub_symbol) part_arguments))) refl tt refl in simp lift_zero at c

  pub sub_rep-call : IsProof m true G (part_of sub_rep_symbol C F W H) (term_of (arr_of (part_of sub_symbol C F W H) C))
  sub_rep-call = let c = part_call sub_rep_symbol (term_of (arr_of (applied (Sym sub_symbol) part_arguments) (Var 3))) refl tt refl in simp lift_zero at c

  -- at a term of the part, and at one of the type
  abbrev undone : Tree → Tree
  undone x = proof_of (eq_of (part_of sub_symbol C F W H) (App (part_of sub_abs_symbol C F W H) (App (part_of sub_rep_symbol C F W H) x)) x)

  abbrev holding : Tree → Tree
  holding x = proof_of (eq_of bools (eq_of C (App (part_of sub_rep_symbol C F W H) (App (part_of sub_abs_symbol C F W H) x)) x) (App F x))

  abbrev lifted_part : ℕ → Tree
  lifted_part s = part_of s (lift 1 C) (lift 1 F) (lift 1 W) (lift 1 H)

  sub_abs_rep-call : IsProof m true G (part_of sub_abs_rep_symbol C F W H)
      (Pi (term_of (part_of sub_symbol C F W H))
      (proof_of (eq_of (lifted_part sub_symbol) (App (lifted_part sub_abs_symbol) (App (lifted_part sub_rep_symbol) (Var 0))) (Var 0))))
  sub_abs_rep-call = let c = part_call sub_abs_rep_symbol abstraction_undoes refl tt refl in simp lift_zero at c

  sub_rep_abs-call : IsProof m true G (part_of sub_rep_abs_symbol C F W H)
      (Pi (term_of C)
      (proof_of (eq_of bools (eq_of (lift 1 C) (App (lifted_part sub_rep_symbol) (App (lifted_part sub_abs_symbol) (Var 0))) (Var 0))
      (App (lift 1 F) (Var 0)))))
  sub_rep_abs-call = let c = part_call sub_rep_abs_symbol part_holds refl tt refl in simp lift_zero at c

  put-part : (s : ℕ) (x : Tree) → put x (lifted_part s) ≡ part_of s C F W H
  put-part s x i = part_of s (put-lift x C i) (put-lift x F i) (put-lift x W i) (put-lift x H i)

  -- the last call of the first law, at a term of a type that becomes the part
  first-last : (n x : Tree) → IsTerm m G x n → head_step m n ≡ Some (part_of sub_symbol C F W H)
      → IsLast m G (App (part_of sub_abs_rep_symbol C F W H) x) (undone x)
  first-last n x hx step =
      let le = spreads-same m sub_symbol sub_abs_rep_symbol part_domains (C ∷ F ∷ W ∷ H ∷ []) x abstraction_undoes refl refl refl in
      let x0 : put x (Var 0) ≡ x = lift_zero x in
      last_defined sub_abs_rep-call hx step refl (no-arrow m n (part_of sub_symbol C F W H) step) refl sub-call le.0 le.1
      (λ i. proof_of (eq_of (put-part sub_symbol x i) (App (put-part sub_abs_symbol x i) (App (put-part sub_rep_symbol x i) (x0 i))) (x0 i)))

  -- and of the second
  second-last : (x : Tree) → IsTerm m G x C → IsLast m G (App (part_of sub_rep_abs_symbol C F W H) x) (holding x)
  second-last x hx =
      let x0 : put x (Var 0) ≡ x = lift_zero x in
      last_call (at_a_term sub_rep_abs-call hx
      (λ i. proof_of
      (eq_of bools (eq_of (put-lift x C i) (App (put-part sub_rep_symbol x i) (App (put-part sub_abs_symbol x i) (x0 i))) (x0 i))
      (App (put-lift x F i) (x0 i)))))

-- The definitions of a type definition: its operator, and its constants, whose types have the operator where the part is found
module _ (m : List Declaration) {G : List Tree} (C F W H : Tree) (p : IsPartAt m G C F W H) where
  pub operator-definition : IsCallDefinition m G (part_of sub_symbol C F W H) types
  operator-definition = by_type (sub-call m C F W H p)

  module _ (N : Tree) (step : head_step m (lift 1 N) ≡ Some (lift 1 (part_of sub_symbol C F W H))) where
    terms-close : Close m 3 (lift 1 (term_of N)) (lift 1 (term_of (part_of sub_symbol C F W H)))
    terms-close = close_application (no-arrow m (lift 1 N) _ step) refl close_same (close_step step close_same)

  pub abstraction-definition : (N : Tree) → head_step m (lift 1 N) ≡ Some (lift 1 (part_of sub_symbol C F W H))
      → IsCallDefinition m G (part_of sub_abs_symbol C F W H) (term_of (arr_of C N))
  abstraction-definition N step = by_term (sub_abs-call m C F W H p) (close_arrow close_same (terms-close N step))

  pub representation-definition : (N : Tree) → head_step m N ≡ Some (part_of sub_symbol C F W H)
      → IsCallDefinition m G (part_of sub_rep_symbol C F W H) (term_of (arr_of N C))
  representation-definition N step =
      by_term (sub_rep-call m C F W H p) (close_arrow (close_application (no-arrow m N _ step) refl close_same (close_step step close_same)) close_same)

-- extensionality of two abstractions, before the proof
module _ (m : List Declaration) {G : List Tree} {a b t u : Tree} (ha : IsSimple m G a) (hb : IsSimple m G b) (ht : IsTerm m (term_of a ∷ G) t (lift 1 b))
    (hu : IsTerm m (term_of a ∷ G) u (lift 1 b)) where
  extensional : IsProof m true G (two_abstractions a b t u)
      (Pi (pointwise a b t u) (proof_of (eq_of (arr_of (lift 1 a) (lift 1 b)) (lift 1 (Lam (term_of a) t)) (lift 1 (Lam (term_of a) u)))))
  extensional =
      let f = Lam (term_of a) t in
      let g = Lam (term_of a) u in
      let c = shaped-call m G two_functions (a ∷ b ∷ f ∷ g ∷ []) fun_ext_symbol (Pi pointwise_equal (proof_of (eq_of (arr_of (Var 4) (Var 3)) (Var 2) (Var 1))))
      refl tt refl
      (a_type ha, (a_type hb, (a_term (simp lift_zero (of_binder ha hb ht)), (a_term (simp lift_zero (of_binder ha hb hu)), tt {0})))) in
      simp lift_zero at c

  -- the equation that extensionality proves
  concluded : (h : Tree)
      → put h (proof_of (eq_of (arr_of (lift 1 a) (lift 1 b)) (lift 1 (Lam (term_of a) t)) (lift 1 (Lam (term_of a) u))))
      ≡ proof_of (eq_of (arr_of a b) (Lam (term_of a) t) (Lam (term_of a) u))
  concluded h i = proof_of (eq_of (arr_of (put-lift h a i) (put-lift h b i)) (put-lift h (Lam (term_of a) t) i) (put-lift h (Lam (term_of a) u) i))

-- The first law: abs undoes rep at each term of the new type, where the type and both constants become those of the part by head steps
pub first_law-shaped : (m : List Declaration) {G : List Tree} (N C F W H A R : Tree) → IsSimple m G N → IsSimple m (term_of N ∷ G) (lift 1 N)
    → IsPartAt m (term_of N ∷ G) C F W H
    → IsTerm m (term_of N ∷ G) A (arr_of C (lift 1 N)) → IsTerm m (term_of N ∷ G) R (arr_of (lift 1 N) C) → head_step m (lift 1 N)
    ≡ Some (part_of sub_symbol C F W H)
    → ((y : Tree) → head_step m (App A y) ≡ Some (App (part_of sub_abs_symbol C F W H) y))
    → ((y : Tree) → head_step m (App R y) ≡ Some (App (part_of sub_rep_symbol C F W H) y))
    → IsLaw m G (App (two_abstractions N N (App A (App R (Var 0))) (Var 0)) (Lam (term_of N) (App (part_of sub_abs_rep_symbol C F W H) (Var 0))))
    (proof_of (eq_of (arr_of N N) (Lam (term_of N) (App A (App R (Var 0)))) (Lam (term_of N) (Var 0))))
first_law-shaped m {G = G} N C F W H A R hN hN' p hA hR stepN stepA stepR =
    let D = term_of N ∷ G in
    let x : IsTerm m D (Var 0) (lift 1 N) = of_entry refl refl hN' in
    let t : IsTerm m D (App A (App R (Var 0))) (lift 1 N) = of_function hA (of_function hR x) in
    let h = Lam (term_of N) (App (part_of sub_abs_rep_symbol C F W H) (Var 0)) in
    at_close_abstractions (extensional m hN hN t x) hN hN t x (first-last m C F W H p (lift 1 N) (Var 0) x stepN)
    (close_application refl refl close_same
    (close_application refl refl
    (close_application refl refl (close_application refl refl close_same (close_step stepN close_same))
    (close_step (ap Some (put-lift_at (App A (App R (Var 0)))))
    (close_step (stepA (App R (Var 0))) (close_application refl refl close_same (close_step (stepR (Var 0)) close_same)))))
    (close_step refl close_same)))
    (concluded m hN hN t x h)

-- The second law: rep undoes abs exactly where the predicate holds
pub second_law-shaped : (m : List Declaration) {G : List Tree} (B N C F W H A R : Tree) → IsSimple m G B → lift 1 B ≡ C → IsPartAt m (term_of B ∷ G) C F W H
    → IsTerm m (term_of B ∷ G) A (arr_of C N) → IsTerm m (term_of B ∷ G) R (arr_of N C)
    → ((y : Tree) → head_step m (App A y) ≡ Some (App (part_of sub_abs_symbol C F W H) y))
    → ((y : Tree) → head_step m (App R y) ≡ Some (App (part_of sub_rep_symbol C F W H) y))
    → IsLaw m G (App (two_abstractions B bools (eq_of C (App R (App A (Var 0))) (Var 0)) (App F (Var 0)))
    (Lam (term_of B) (App (part_of sub_rep_abs_symbol C F W H) (Var 0))))
    (proof_of (eq_of (arr_of B bools) (Lam (term_of B) (eq_of C (App R (App A (Var 0))) (Var 0))) (Lam (term_of B) (App F (Var 0)))))
second_law-shaped m {G = G} B N C F W H A R hB same p hA hR stepA stepR =
    let D = term_of B ∷ G in
    let x : IsTerm m D (Var 0) C = of_entry refl same p.ty in
    let t : IsTerm m D (eq_of C (App R (App A (Var 0))) (Var 0)) bools = shaped-equation m p.ty (of_function hR (of_function hA x)) x in
    let u : IsTerm m D (App F (Var 0)) bools = of_function p.predicate x in
    let bool : IsSimple m G bools = constant refl tt in
    let h = Lam (term_of B) (App (part_of sub_rep_abs_symbol C F W H) (Var 0)) in
    at_close_abstractions (extensional m hB bool t u) hB bool t u (second-last m C F W H p (Var 0) x)
    (close_application refl refl close_same
    (close_application refl refl
    (close_application refl refl close_same
    (close_step (ap Some (put-lift_at (eq_of C (App R (App A (Var 0))) (Var 0))))
    (close_application refl refl
    (close_application refl refl close_same
    (close_step (stepR (App A (Var 0))) (close_application refl refl close_same (close_step (stepA (Var 0)) close_same))))
    close_same)))
    (close_step (ap Some (put-lift_at (App F (Var 0)))) close_same)))
    (concluded m hB bool t u h)

-- In version 5: abs undoes rep at a term of the new type
pub first_law_free-shaped : (m : List Declaration) {G : List Tree} (N C F W H x : Tree) → IsPartAt m G C F W H → IsTerm m G x N
    → head_step m N ≡ Some (part_of sub_symbol C F W H)
    → IsLaw m G (App (part_of sub_abs_rep_symbol C F W H) x)
    (proof_of (eq_of (part_of sub_symbol C F W H) (App (part_of sub_abs_symbol C F W H) (App (part_of sub_rep_symbol C F W H) x)) x))
first_law_free-shaped m N C F W H x p hx stepN = law_last (omega arith) (first-last m C F W H p N x hx stepN)

pub first_law_free-close : (m : List Declaration) (N C F W H A R x : Tree) → head_step m N ≡ Some (part_of sub_symbol C F W H)
    → ((y : Tree) → head_step m (App A y) ≡ Some (App (part_of sub_abs_symbol C F W H) y))
    → ((y : Tree) → head_step m (App R y) ≡ Some (App (part_of sub_rep_symbol C F W H) y))
    → Close m 3 (proof_of (eq_of N (App A (App R x)) x))
    (proof_of (eq_of (part_of sub_symbol C F W H) (App (part_of sub_abs_symbol C F W H) (App (part_of sub_rep_symbol C F W H) x)) x))
first_law_free-close m N C F W H A R x stepN stepA stepR =
    close_application refl refl close_same
    (close_application refl refl
    (close_application refl refl
    (close_application refl refl close_same (close_step stepN close_same))
    (close_step (stepA (App R x)) (close_application refl refl close_same (close_step (stepR x) close_same))))
    close_same)

-- and rep undoes abs at a term of the old type where the predicate holds of it, turned round
pub second_law_free-shaped : (m : List Declaration) {G : List Tree} (N C F W H A R x : Tree) → IsPartAt m G C F W H → IsTerm m G x C → IsTerm m G A (arr_of C N)
    → IsTerm m G R (arr_of N C)
    → ((y : Tree) → head_step m (App A y) ≡ Some (App (part_of sub_abs_symbol C F W H) y))
    → ((y : Tree) → head_step m (App R y) ≡ Some (App (part_of sub_rep_symbol C F W H) y))
    → symbol_type m (length signature) ≡ Some sym_lemma.ty
    → IsLaw m G (applied (Sym (length signature)) (bools ∷ eq_of C (App R (App A x)) x ∷ App F x ∷ App (part_of sub_rep_abs_symbol C F W H) x ∷ []))
    (proof_of (eq_of bools (App F x) (eq_of C (App R (App A x)) x)))
second_law_free-shaped m {G = G} N C F W H A R x p hx hA hR stepA stepR lemma =
    let l = eq_of C (App R (App A x)) x in
    let r = App F x in
    let hl : IsTerm m G l bools = shaped-equation m p.ty (of_function hR (of_function hA hx)) hx in
    let hr : IsTerm m G r bools = of_function p.predicate hx in
    let h = App (part_of sub_rep_abs_symbol C F W H) x in
    let c = shaped-call m G (types ∷ term_of (Var 0) ∷ term_of (Var 1) ∷ []) (bools ∷ l ∷ r ∷ []) (length signature)
    (Pi (proof_of (eq_of (Var 2) (Var 1) (Var 0))) (proof_of (eq_of (Var 3) (Var 1) (Var 2)))) lemma tt refl
    (a_type (constant refl tt), (a_term hl, (a_term hr, tt {0}))) in
    at_close_equation (simp lift_zero at c) hl hr (omega arith) (omega arith) (second-last m C F W H p x hx)
    (close_application refl refl close_same
    (close_application refl refl
    (close_application refl refl close_same
    (close_application refl refl
    (close_application refl refl close_same (close_step (stepR (App A x)) (close_application refl refl close_same (close_step (stepA x) close_same))))
    close_same))
    close_same))
    (λ i. proof_of (eq_of bools (put-lift h r i) (put-lift h l i)))
