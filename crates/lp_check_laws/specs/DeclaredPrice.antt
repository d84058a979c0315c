-- Declared types, and the conversion of types that are near: answers, each with a bound on its price.
use Rattle.std.proofs.Common.{◌≡◌, refl, sym, ap, subst, ℕ, suc, ◌+◌, ◌*◌, ◌≤◌, arith, Bool, true, false, List, []}
use Rattle.std.specs.Prelude.{if◌then◌else◌}
use Rattle.std.proofs.Math.Path.{subst₂}
use Rattle.lp_spec.specs.Trees.{Tree, SortType, Sym, App, Pi, size, tree_eq}
use Rattle.lp_spec.specs.Modules.{Declaration, bools, arr_of, term_of, eq_of, proof_of, eq_symbol, proof_symbol}
use Rattle.lp_binding_laws.specs.Composition.{lift_zero}
use Rattle.lp_spec.specs.Weight.{spreads}
use Rattle.lp_typing_laws.specs.ConversionLaws.{IsClosed}
use Rattle.lp_spec.specs.HeadSteps.{head_step}
use Rattle.lp_spec.specs.Check.{Infer, Convert, Found, Say, convert_by, Ends, said, asked}
use Rattle.lp_spec.specs.Shaped.{IsConstant, constant, at_type, IsSimple, IsDeclared, of_types, of_terms, of_proofs, of_products, Unfolded, folded, Near, near_same, near_head, near_arrows, near_application, near_product}
use Rattle.lp_check_laws.specs.Found.{Finds, Finds-more, find_application, find_constant, find_terms, meet_same, convert_same, convert_unfolded, unfolded-size}
use Rattle.lp_check_laws.specs.TermPrice.{size-positive, AreSmall, small-entry, FindsTerm, find-apply}
use Rattle.lp_check_laws.specs.SizedTerms.{sized, find-term}

module _ (m : List Declaration) (closed : IsClosed m) where
  -- an equation of terms
  pub find-equation : {G : List Tree} {a x y : Tree} {k l : ℕ} → IsSimple m G a → FindsTerm m closed G x a k → FindsTerm m closed G y a l
      → FindsTerm m closed G (eq_of a x y) bools (k + l + 23 * size a + 81)
  find-equation {G = G} {a = a} ha hx hy =
      let bool : IsSimple m G bools = constant refl tt in
      let predicates : IsSimple m G (arr_of a bools) = at_type (at_type (constant refl tt) ha refl) bool refl in
      let equality : IsConstant m G (App (Sym eq_symbol) a) (term_of (arr_of a (arr_of a bools))) =
      at_type (constant refl tt) ha (ap (λ w. term_of (arr_of w (arr_of w bools))) (lift_zero a)) in
      let half = find-apply m closed ha predicates folded (find_constant m equality) hx in
      let whole = find-apply m closed ha bool half.unfolded half.finds hy in
      record { found = whole.found; unfolded = whole.unfolded; finds = Finds-more m (omega arith) whole.finds }

  -- what is unfolded of `term bool` is itself
  bool-unfolded : {S : Tree} → Unfolded bools S → S ≡ term_of bools
  bool-unfolded folded = refl

  -- the type of the proofs of a proposition
  pub find-proofs : {G : List Tree} {p : Tree} {k : ℕ} → FindsTerm m closed G p bools k → Finds m (Infer G (proof_of p)) SortType (k + 3)
  find-proofs {G = G} {p = p} {k = k} h =
      let symbol : Finds m (Infer G (Sym proof_symbol)) (Pi (term_of bools) SortType) 1 = record { steps = 0; ends = said; within = omega arith } in
      let found = subst (λ S. Finds m (Infer G p) S k) (bool-unfolded h.unfolded) h.finds in
      Finds-more m (omega arith) (find_application m symbol found (meet_same m G (term_of bools)))

  -- a declared type
  pub find-declared : {G : List Tree} {A : Tree} (w e : ℕ) → IsDeclared m G A → AreSmall m e G → size A ≤ e → size A + spreads m [] A + e ≤ suc w
      → Finds m (Infer G A) SortType (7 * suc w * size A)
  find-declared w e of_types g le less = record { steps = 0; ends = said; within = omega arith }
  find-declared w e (of_terms h) g le less = Finds-more m (omega arith) (find_terms m h)
  find-declared w e (of_proofs h) g le less = Finds-more m (omega arith)
      (find-proofs (find-term m closed w (sized m closed (suc w) e h g (omega (arith, le)) (omega (arith, less)))))
  find-declared w e (of_products {a = a} ha hb) g le less =
      let p = find-declared w e ha g (omega (arith, le)) (omega (arith, less)) in
      let q = find-declared w e hb (small-entry m {A = a} (omega (arith, le)) g) (omega (arith, le)) (omega (arith, less)) in
      record { steps = _; ends = asked p.ends (asked q.ends said); within = omega (arith, p.within, q.within) }

  -- a conversion costs no more than that of two trees that differ
  pub by-steps : (E F : Tree) {n : ℕ} → Ends m true (convert_by E F (head_step m E) (head_step m F)) (Found E) n → Finds m (Convert E F) E (suc n)
  by-steps E F {n = n} h = go (tree_eq E F) refl
    where
      go : (q : Bool) → tree_eq E F ≡ q → Finds m (Convert E F) E (suc n)
      go true e = record {
        steps = 0;
        ends =
            subst (λ q. Ends m true (if q then Say (Found E) else convert_by E F (head_step m E) (head_step m F)) (Found E) 0) (sym e) said;
        within =
            omega arith;
      }
      go false e = record {
        steps = n;
        ends =
            subst (λ q. Ends m true (if q then Say (Found E) else convert_by E F (head_step m E) (head_step m F)) (Found E) n) (sym e) h;
        within = omega arith;
      }

  -- near trees convert within three steps a node
  pub convert-near : {E F : Tree} → Near m E F → Finds m (Convert E F) E (3 * size E)
  convert-near {E = E} near_same = Finds-more m (omega (arith, size-positive E)) (convert_same m E)
  convert-near {E = E} {F = F} (near_head e) =
      let h = convert_same m F in
      Finds-more m (omega (arith, size-positive E, h.within))
      (by-steps E F (subst (λ o. Ends m true (convert_by E F o (head_step m F)) (Found E) (suc (h.steps + 0))) (sym e) (asked h.ends said)))
  convert-near (near_arrows h) = Finds-more m (omega (arith, unfolded-size m closed h)) (convert_unfolded m closed h)
  convert-near (near_application {f = f} {g = g} {x = x} {y = y} p q hf hx) =
      let k = convert-near hf in
      let l = convert-near hx in
      Finds-more m (omega (arith, k.within, l.within))
      (by-steps (App f x) (App g y)
      (subst₂ (λ o u. Ends m true (convert_by (App f x) (App g y) o u) (Found (App f x)) (suc (k.steps + suc (l.steps + 0)))) (sym p) (sym q)
      (asked k.ends (asked l.ends said))))
  convert-near (near_product {a = a} {b = b} {c = c} {d = d} ha hb) =
      let k = convert-near ha in
      let l = convert-near hb in
      Finds-more m (omega (arith, k.within, l.within)) (by-steps (Pi a b) (Pi c d) {n = suc (k.steps + suc (l.steps + 0))} (asked k.ends (asked l.ends said)))
