-- The price of laws: within 64 times the square of the weight too.
use Rattle.std.proofs.Common.{◌≡◌, refl, sym, ap, subst, ℕ, zero, suc, ◌+◌, ◌*◌, ◌≤◌, arith, true, List, [], ◌∷◌, Some}
use Rattle.std.specs.Prelude.{◌-◌}
use Rattle.std.proofs.Math.Path.{subst₂}
use Rattle.lp_spec.specs.Trees.{Tree, SortType, Sym, App, Lam, Pi, lift, size}
use Rattle.lp_spec.specs.Modules.{Declaration, types, bools, arr_of, term_of, eq_of, proof_of}
use Rattle.lp_spec.specs.Weight.{spread, spreads, tree_weight}
use Rattle.lp_typing_laws.specs.ConversionLaws.{IsClosed}
use Rattle.lp_spec.specs.HeadSteps.{head_step}
use Rattle.lp_spec.specs.Check.{Infer, Convert, Found, Say, unless_kind, convert_by, Ends, said, asked}
use Rattle.lp_spec.specs.Shaped.{constant, two_abstractions, pointwise, Unfolded, folded, arrow, Close, close_same, close_step, close_arrow, close_application, close_product, IsLast, last_call, last_defined, IsLaw, at_close_abstractions, law_last, at_close_equation, law_under, IsCallDefinition, by_type, by_term, call_under}
use Rattle.lp_check_laws.specs.Sizes.{size-lift, put_all-nil}
use Rattle.lp_check_laws.specs.Found.{Finds, Finds-more, find_application, find_terms, meet_same, convert_same}
use Rattle.lp_check_laws.specs.TermPrice.{size-positive, AreSmall, small-entry}
use Rattle.lp_check_laws.specs.SizedTerms.{sized, find-term}
use Rattle.lp_check_laws.specs.DeclaredPrice.{find-equation, find-proofs, find-declared, by-steps}
use Rattle.lp_check_laws.specs.ProofPrice.{cost, priced, find-meet, find-pointwise, call-spread}

-- a product of what is no greater is no greater
times : (k a b : ℕ) → a ≤ b → k * a ≤ k * b
times k zero b h = omega arith
times k (suc a) zero h = absurd (omega (arith, h))
times k (suc a) (suc b) h = let l = times k a b (omega (arith, h)) in omega (arith, l)

law-cost : (w a b t u : ℕ) → 7 * suc w * (t + u + 2) + 16 * a + 37 * b + 130 ≤ cost w * (13 + a + b + t + u)
law-cost w a b t u = omega arith

law-paid : (w f h a E F sf sl sh d pf ph pe pc : ℕ) → pf + cost w * (E + d) ≤ cost w * (f + sf) → ph + cost w * F ≤ 2 * (cost w * (h + sh)) → pe ≤ cost w * E
    → pc + 5 ≤ 3 + 6 * F → cost w * sh ≤ cost w * sl
    → (1 + pf + (1 + (2 * a + 3) + ph) + (1 + pe + (2 + pc))) + cost w * d ≤ 2 * (cost w * ((1 + f + (1 + (1 + 1 + a) + h)) + (sf + sl)))
law-paid w f h a E F sf sl sh d pf ph pe pc x y z c s = omega (arith, x, y, z, c, s)

equation-cost : (w l r : ℕ) → (7 * suc w * l + 7 * suc w * r + 23 * 1 + 81 + 3) + 1 ≤ cost w * (7 + l + r)
equation-cost w l r = omega arith

equation-paid : (w f h E F sf sh d pf ph pe pc : ℕ) → pf + cost w * (E + d) ≤ cost w * (f + sf) → ph + cost w * F ≤ 2 * (cost w * (h + sh))
    → pe + 1 ≤ cost w * E → pc + 5 ≤ 3 + 6 * F
    → (1 + pf + ph + (1 + pe + pc)) + cost w * d ≤ 2 * (cost w * ((1 + f + h) + (sf + sh)))
equation-paid w f h E F sf sh d pf ph pe pc x y z c = omega (arith, x, y, z, c)

squares : (x s y : ℕ) → 3 ≤ y → 7 * ((x + s + y) + (x + s + y)) * x + 2 * ((7 * ((x + s + y) + (x + s + y)) + 40) * y) + 1 ≤ 64 * ((x + s + y) * (x + s + y))
squares x s y big = let y' = y - 3 in let is : y ≡ 3 + y' =
    omega (arith, big) in subst
    (λ n. 7 * ((x + s + n) + (x + s + n)) * x + 2 * ((7 * ((x + s + n) + (x + s + n)) + 40) * n) + 1 ≤ 64 * ((x + s + n) * (x + s + n))) (sym is) (above x s y')
  where
    above : (x s z : ℕ)
        → 7 * ((x + s + (3 + z)) + (x + s + (3 + z))) * x + 2 * ((7 * ((x + s + (3 + z)) + (x + s + (3 + z))) + 40) * (3 + z)) + 1 ≤ 64 *
        ((x + s + (3 + z)) * (x + s + (3 + z)))
    above x s z = omega arith

module _ (m : List Declaration) (closed : IsClosed m) where
  -- close trees convert within five steps a node of the second, and one a step that is left
  pub record Converts (n : ℕ) (E F : Tree) : Type 0 where
    pub most : ℕ
    pub finds : Finds m (Convert E F) E most
    pub within : most + 5 ≤ n + 6 * size F

  pub convert-close : {n : ℕ} {E F : Tree} → Close m n E F → Converts n E F
  convert-close {E = E} close_same = record { most = 1; finds = convert_same m E; within = omega (arith, size-positive E) }
  convert-close {E = E} {F = F} (close_step {H = H} e h) =
      let k = convert-close h in
      record {
        most = suc k.most;
        finds = Finds-more m (omega (arith, k.finds.within))
            (by-steps m closed E F
            (subst (λ o. Ends m true (convert_by E F o (head_step m F)) (Found E) (suc (k.finds.steps + 0))) (sym e) (asked k.finds.ends said)));
        within = omega (arith, k.within);
      }
  convert-close (close_application {f = f} {g = g} {x = x} {y = y} p q hf hx) =
      let k = convert-close hf in
      let l = convert-close hx in
      record {
        most = 1 + k.most + l.most;
        finds = Finds-more m (omega (arith, k.finds.within, l.finds.within))
            (by-steps m closed (App f x) (App g y)
            (subst₂ (λ o u. Ends m true (convert_by (App f x) (App g y) o u) (Found (App f x)) (suc (k.finds.steps + suc (l.finds.steps + 0)))) (sym p)
            (sym q) (asked k.finds.ends (asked l.finds.ends said))));
        within = omega (arith, k.within, l.within);
      }
  convert-close (close_product {a = a} {b = b} {c = c} {d = d} ha hb) =
      let k = convert-close ha in
      let l = convert-close hb in
      record {
        most = 1 + k.most + l.most;
        finds = Finds-more m (omega (arith, k.finds.within, l.finds.within))
            (by-steps m closed (Pi a b) (Pi c d) {n = suc (k.finds.steps + suc (l.finds.steps + 0))} (asked k.finds.ends (asked l.finds.ends said)));
        within = omega (arith, k.within, l.within);
      }
  convert-close (close_arrow {a = a} {b = b} {c = c} {d = d} ha hb) =
      let k = convert-close ha in
      let l = convert-close hb in
      let E = Pi (term_of a) (lift 1 (term_of b)) in
      let F = Pi (term_of c) (lift 1 (term_of d)) in
      let parts : Finds m (Convert E F) E (1 + k.most + l.most) =
      Finds-more m (omega (arith, k.finds.within, l.finds.within))
      (by-steps m closed E F {n = suc (k.finds.steps + suc (l.finds.steps + 0))} (asked k.finds.ends (asked l.finds.ends said))) in
      let half : Finds m (Convert E (term_of (arr_of c d))) E (2 + k.most + l.most) =
      Finds-more m (omega (arith, parts.within)) (by-steps m closed E (term_of (arr_of c d)) {n = suc (parts.steps + 0)} (asked parts.ends said)) in
      record {
        most = 3 + k.most + l.most;
        finds = Finds-more m (omega (arith, half.within))
            (by-steps m closed (term_of (arr_of a b)) (term_of (arr_of c d)) {n = suc (half.steps + 0)} (asked half.ends said));
        within = omega (arith, k.within, l.within, size-lift 1 d);
      }

  -- the type of a term of a defined type is found as it stands
  found-folded : {n S T : Tree} → Unfolded n S → head_step m n ≡ Some T → S ≡ term_of n
  found-folded folded e = refl
  found-folded (arrow h) e = absurd (cc)

  -- what a law's last call is found, within twice the price of its weight
  pub record Last (w : ℕ) (G : List Tree) (h F : Tree) : Type 0 where
    pub most : ℕ
    pub finds : Finds m (Infer G h) F most
    pub paid : most + cost w * size F ≤ 2 * (cost w * (size h + spreads m [] h))

  find-last : (w e : ℕ) {G : List Tree} {h F : Tree} → IsLast m G h F → AreSmall m e G → size h ≤ e → size h + spreads m [] h + e ≤ suc w → Last w G h F
  find-last w e {h = h} {F = F} (last_call k) g le less =
      let p = priced m closed w e k [] g le less in
      let s = ap (λ t. cost w * size t) (put_all-nil F) in
      record { most = p.most; finds = p.finds; paid = omega (arith, p.paid, s) }
  find-last w e {G = G} (last_defined {f = f} {x = x} {n = n} {S = S} {A = A} {F = F} k hx d z y v q ss sp r) g le less =
      let p = priced m closed w e k (x ∷ []) g (omega (arith, le)) (omega (arith, less)) in
      let s = priced m closed w e q [] g (omega (arith, le, ss)) (omega (arith, less, ss, sp)) in
      let o = find-term m closed w (sized m closed (suc w) e hx g (omega (arith, le)) (omega (arith, less))) in
      let same : o.found ≡ term_of n = found-folded o.unfolded d in
      let spread_E = ap (λ i. cost w * i) (call-spread m closed x [] k r) in
      let spread_F = ap (λ t. cost w * size t) (put_all-nil F) in
      let symbol : Finds m (Infer G (Sym 4)) (Pi types SortType) 1 = record { steps = 0; ends = said; within = omega arith } in
      let sorted : Finds m (Infer G (term_of S)) SortType (1 + 1 + s.most + 1) = find_application m symbol s.finds (meet_same m G types) in
      let sort : Finds m (Infer G (term_of S)) SortType (3 + s.most) = Finds-more m (omega arith) sorted in
      let c = convert_same m (Sym 4) in
      let l = convert_same m S in
      let one : Finds m (Convert S n) S 2 = Finds-more m (omega (arith, l.within))
      (by-steps m closed S n (subst₂ (λ a b. Ends m true (convert_by S n a b) (Found S) (suc (l.steps + 0))) (sym z) (sym d) (asked l.ends said))) in
      let two : Finds m (Convert (term_of S) (term_of n)) (term_of S) 5 =
      Finds-more m (omega (arith, one.within, c.within))
      (by-steps m closed (term_of S) (term_of n)
      (subst₂ (λ a b. Ends m true (convert_by (term_of S) (term_of n) a b) (Found (term_of S)) (suc (c.steps + suc (one.steps + 0)))) (sym v) (sym y)
      (asked c.ends (asked one.ends said)))) in
      let meet = find-meet m closed sort two in
      let argument : Finds m (Infer G x) (term_of n) (7 * suc w * size x) = subst (λ t. Finds m (Infer G x) t (7 * suc w * size x)) same o.finds in
      let sizes : cost w * size S ≤ cost w * size f = times (cost w) (size S) (size f) ss in
      let wide : cost w * spreads m [] S ≤ cost w * spreads m (x ∷ []) f = times (cost w) (spreads m [] S) (spreads m (x ∷ []) f) sp in
      record {
        most = 1 + p.most + 7 * suc w * size x + (1 + (3 + s.most) + 5);
        finds = subst (λ t. Finds m (Infer G (App f x)) t (1 + p.most + 7 * suc w * size x + (1 + (3 + s.most) + 5))) r
            (find_application m p.finds argument meet);
        paid = omega (arith, p.paid, s.paid, spread_E, spread_F, sizes, wide, size-positive x);
      }

  -- A law's type is found, within twice the price of its weight, with what its conversion costs.
  pub record Law (w : ℕ) (G : List Tree) (t A : Tree) : Type 0 where
    pub most : ℕ
    pub finds : Finds m (Infer G t) A most
    pub paid : most + cost w * size A ≤ 2 * (cost w * (size t + spreads m [] t))

  law-unless-kind : {G : List Tree} {t A rest : Tree} {n : ℕ} → IsLaw m G t A → Ends m true (Say (Found rest)) (Found rest) n
      → Ends m true (unless_kind A (Say (Found rest))) (Found rest) n
  law-unless-kind (at_close_abstractions f ha hb ht hu h c q) e = e
  law-unless-kind (law_last big h) e = e
  law-unless-kind (at_close_equation f hl hr ss sp h c q) e = e
  law-unless-kind (law_under ha h) e = e

  last-unless-kind : {n : ℕ} {E F rest : Tree} {k : ℕ} → Close m n (proof_of E) F → Ends m true (Say (Found rest)) (Found rest) k
      → Ends m true (unless_kind F (Say (Found rest))) (Found rest) k
  last-unless-kind close_same e = e
  last-unless-kind (close_step d h) e = absurd (cc)
  last-unless-kind (close_application p q f x) e = e

  pub find-law : (w e : ℕ) {G : List Tree} {t A : Tree} → IsLaw m G t A → AreSmall m e G → size t ≤ e → size t + spreads m [] t + e ≤ suc w → Law w G t A
  find-law w e {G = G} (at_close_abstractions {a = a} {b = b} {t = t} {u = u} {h = h} {F = F} {B = B} {A = A} hf ha hb ht hu hh c q) g le less =
      let L = Lam (term_of a) h in
      let f = two_abstractions a b t u in
      let E = pointwise a b t u in
      let p = priced m closed w e hf (L ∷ []) g (omega (arith, le)) (omega (arith, less)) in
      let k = find-last w e hh (small-entry m {A = term_of a} (omega (arith, le)) g) (omega (arith, le)) (omega (arith, less)) in
      let d = find_terms m ha in
      let r = find-pointwise m closed w e ha hb ht hu g (omega (arith, le)) (omega (arith, le)) (omega (arith, less)) (omega (arith, less)) in
      let body = convert-close c in
      let first = convert_same m (term_of a) in
      let near : Finds m (Convert E (Pi (term_of a) F)) E (2 + body.most) =
      Finds-more m (omega (arith, body.finds.within, first.within))
      (by-steps m closed E (Pi (term_of a) F) {n = suc (first.steps + suc (body.finds.steps + 0))} (asked first.ends (asked body.finds.ends said))) in
      let v = find-meet m closed r near in
      let s = ap (λ n. cost w * n) (call-spread m closed L [] hf q) in
      let z = ap (λ t. size t) (put_all-nil (proof_of B)) in
      let l : Finds m (Infer G L) (Pi (term_of a) F) (1 + (2 * size a + 3) + k.most) =
      record { steps = _; ends = asked d.ends (asked k.finds.ends (last-unless-kind c said)); within = omega (arith, d.within, k.finds.within) } in
      let T = size (Lam (term_of a) t) in
      let U = size (Lam (term_of a) u) in
      let is : size E ≡ 13 + size a + size b + T + U = omega (arith, size-lift 1 b, size-lift 1 (Lam (term_of a) t), size-lift 1 (Lam (term_of a) u)) in
      let meets : 7 * suc w * (T + U + 2) + 16 * size a + 37 * size b + 130 ≤ cost w * size E =
      subst (λ n. 7 * suc w * (T + U + 2) + 16 * size a + 37 * size b + 130 ≤ cost w * n) (sym is) (law-cost w (size a) (size b) T U) in
      let most = 1 + p.most + (1 + (2 * size a + 3) + k.most) + (1 + (7 * suc w * (T + U + 2) + 16 * size a + 37 * size b + 130) + (2 + body.most)) in
      let found : most + cost w * spread [] (proof_of B) ≤ 2 * (cost w * (size (App f L) + spreads m [] (App f L))) =
      law-paid w (size f) (size h) (size a) (size E) (size F) (spreads m (L ∷ []) f) (spreads m [] L) (spreads m [] h) (spread [] (proof_of B)) p.most k.most
      (7 * suc w * (T + U + 2) + 16 * size a + 37 * size b + 130) body.most
      (subst (λ n. p.most + n ≤ cost w * (size f + spreads m (L ∷ []) f)) s p.paid) k.paid meets body.within
      (times (cost w) (spreads m [] h) (spreads m [] L) (omega arith)) in
      record {
        most = most;
        finds = subst (λ t. Finds m (Infer G (App f L)) t most) q (find_application m p.finds l v);
        paid =
            subst (λ n. most + cost w * n ≤ 2 * (cost w * (size (App f L) + spreads m [] (App f L)))) z found;
      }
  find-law w e (law_last big h) g le less = let k = find-last w e h g le less in record { most = k.most; finds = k.finds; paid = k.paid }
  find-law w e {G = G} (at_close_equation {f = f} {h = h} {l = l} {r = r} {A = A} {F = F} {B = B} hf hl hr ss sp hh c q) g le less =
      let E = proof_of (eq_of bools l r) in
      let p = priced m closed w e hf (h ∷ []) g (omega (arith, le)) (omega (arith, less)) in
      let k = find-last w e hh g (omega (arith, le)) (omega (arith, less)) in
      let i = find-term m closed w (sized m closed (suc w) e hl g (omega (arith, le, ss)) (omega (arith, less, ss, sp))) in
      let j = find-term m closed w (sized m closed (suc w) e hr g (omega (arith, le, ss)) (omega (arith, less, ss, sp))) in
      let o = find-proofs m closed (find-equation m closed (constant refl tt) i j) in
      let body = convert-close c in
      let v = find-meet m closed o body.finds in
      let s = ap (λ n. cost w * n) (call-spread m closed h [] hf q) in
      let z = ap (λ t. size t) (put_all-nil (proof_of B)) in
      let price = 7 * suc w * size l + 7 * suc w * size r + 23 * 1 + 81 + 3 in
      let is : size E ≡ 7 + size l + size r = omega arith in
      let meets : price + 1 ≤ cost w * size E = subst (λ n. price + 1 ≤ cost w * n) (sym is) (equation-cost w (size l) (size r)) in
      let most = 1 + p.most + k.most + (1 + price + body.most) in
      let found : most + cost w * spread [] (proof_of B) ≤ 2 * (cost w * (size (App f h) + spreads m [] (App f h))) =
      equation-paid w (size f) (size h) (size E) (size F) (spreads m (h ∷ []) f) (spreads m [] h) (spread [] (proof_of B)) p.most k.most price body.most
      (subst (λ n. p.most + n ≤ cost w * (size f + spreads m (h ∷ []) f)) s p.paid) k.paid meets body.within in
      record {
        most = most;
        finds = subst (λ t. Finds m (Infer G (App f h)) t most) q (find_application m p.finds k.finds v);
        paid =
            subst (λ n. most + cost w * n ≤ 2 * (cost w * (size (App f h) + spreads m [] (App f h)))) z found;
      }
  find-law w e (law_under {a = a} ha h) g le less =
      let d = find-declared m closed w e ha g (omega (arith, le)) (omega (arith, less)) in
      let k = find-law w e h (small-entry m {A = a} (omega (arith, le)) g) (omega (arith, le)) (omega (arith, less)) in
      record {
        most = 1 + 7 * suc w * size a + k.most;
        finds = record { steps = _; ends = asked d.ends (asked k.finds.ends (law-unless-kind h said)); within = omega (arith, d.within, k.finds.within) };
        paid = omega (arith, k.paid, size-positive a);
      }

  -- the sum, within the square of the weight
  pub in-all : (w : ℕ) (A t : Tree) → suc w ≡ (tree_weight m A + tree_weight m t) + (tree_weight m A + tree_weight m t) → 3 ≤ tree_weight m t
      → 7 * suc w * size A + 2 * (cost w * (size t + spreads m [] t)) + 1 ≤ 64 * ((tree_weight m A + tree_weight m t) * (tree_weight m A + tree_weight m t))
  in-all w A t e big =
      subst (λ n. 7 * n * size A + 2 * ((7 * n + 40) * (size t + spreads m [] t)) + 1 ≤ 64 *
      ((tree_weight m A + tree_weight m t) * (tree_weight m A + tree_weight m t))) (sym e)
      (squares (size A) (spreads m [] A) (size t + spreads m [] t) big)

  -- what is found of a definition by a call, and what its conversion costs
  pub record Defines (w : ℕ) (G : List Tree) (t A : Tree) : Type 0 where
    pub found : Tree
    pub most : ℕ
    pub finds : Finds m (Infer G t) found most
    pub near : ℕ
    pub converts : Finds m (Convert A found) A near
    pub plain : {rest : Tree} {n : ℕ} → Ends m true (Say (Found rest)) (Found rest) n → Ends m true (unless_kind found (Say (Found rest))) (Found rest) n
    pub paid : most + near ≤ 2 * (cost w * (size t + spreads m [] t))

  pub find-call-definition : (w e : ℕ) {G : List Tree} {t A : Tree} → IsCallDefinition m G t A → AreSmall m e G → size t ≤ e
      → size t + spreads m [] t + e ≤ suc w → Defines w G t A
  find-call-definition w e {t = t} (by_type h) g le less =
      let p = priced m closed w e h [] g le less in
      record {
        found = types;
        most = p.most;
        finds = p.finds;
        near = 1;
        converts = convert_same m types;
        plain = λ e. e;
        paid =
            omega (arith, p.paid, size-positive t);
      }
  find-call-definition w e {t = t} (by_term {d = d} h c) g le less =
      let p = priced m closed w e h [] g le less in
      let k = convert-close c in
      let s = ap (λ t. cost w * size t) (put_all-nil (term_of d)) in
      record {
        found = term_of d;
        most = p.most;
        finds = p.finds;
        near = k.most;
        converts = k.finds;
        plain = λ e. e;
        paid =
            omega (arith, p.paid, k.within, s, size-positive t);
      }
  find-call-definition w e {G = G} (call_under h) g le less =
      let k = find-call-definition w e h (small-entry m {A = types} (omega (arith, le)) g) (omega (arith, le)) (omega (arith, less)) in
      let first = convert_same m types in
      let sort : Finds m (Infer G types) SortType 1 = record { steps = 0; ends = said; within = omega arith } in
      record {
        found = Pi types k.found;
        most = 2 + k.most;
        finds = record { steps = _; ends = asked sort.ends (asked k.finds.ends (k.plain said)); within = omega (arith, sort.within, k.finds.within) };
        near = 2 + k.near;
        converts = Finds-more m (omega (arith, k.converts.within, first.within))
            (by-steps m closed (Pi types _) (Pi types k.found) {n = suc (first.steps + suc (k.converts.steps + 0))}
            (asked first.ends (asked k.converts.ends said)));
        plain = λ e. e;
        paid = omega (arith, k.paid);
      }

  -- a law's body has some size
  pub law-size : {G : List Tree} {t A : Tree} → IsLaw m G t A → 3 ≤ size t
  law-size (at_close_abstractions {a = a} {h = h} f ha hb ht hu k c q) = omega (arith, size-positive h)
  law-size (law_last big h) = big
  law-size (at_close_equation {f = f} {h = h} hf hl hr ss sp hh c q) = omega (arith, size-positive f, size-positive h)
  law-size (law_under {a = a} {t = t} ha h) = omega (arith, law-size h)
