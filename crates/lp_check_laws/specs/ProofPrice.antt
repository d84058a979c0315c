-- A proof's type is found at a price of what it weighs times what it weighs with the context.
use Rattle.std.proofs.Common.{◌≡◌, refl, sym, ap, ◌∙◌, subst, ℕ, suc, ◌+◌, ◌*◌, ◌≤◌, arith, Bool, true, false, List, [], ◌∷◌, Some}
use Rattle.std.specs.Prelude.{if◌then◌else◌, option_map}
use Rattle.std.specs.Option.{option_map_or}
use Rattle.std.proofs.Math.Path.{ap₂}
use Rattle.lp_spec.specs.Trees.{Tree, SortType, App, Lam, Pi, lift, put, size, tree_eq}
use Rattle.lp_binding_laws.specs.Composition.{put-lift_at}
use Rattle.lp_spec.specs.Modules.{Declaration, types, term_of, eq_of, proof_of, refl_of}
use Rattle.lp_spec.specs.Weight.{spread, symbol_spread, spreads}
use Rattle.lp_typing_laws.specs.ConversionLaws.{IsClosed}
use Rattle.lp_spec.specs.Check.{Infer, Meet, Convert, Found, Say, Ask, found_if, unless_kind, recheck, Ends, said, asked}
use Rattle.lp_spec.specs.Shaped.{Solid, IsSimple, IsTerm, of_binder, Near, near_same, near_head, near_application, near_product, folded, two_abstractions, pointwise, IsProof, call, at_a_type, at_a_term, at_a_proof, at_a_definition, at_abstractions, called, hypothesis, under_binder}
use Rattle.lp_check_laws.specs.Sizes.{size-lift, put_all-nil}
use Rattle.lp_check_laws.specs.Found.{Finds, find_application, find_constant, find_terms, meet_same, meet_unfolded, simple-weaken, term-simple}
use Rattle.lp_check_laws.specs.TermPrice.{solid-put, spread-product, AreSmall, small-entry, find-apply}
use Rattle.lp_check_laws.specs.SizedTerms.{by_entry, sized, sized-weaken, find-term}
use Rattle.lp_check_laws.specs.DeclaredPrice.{find-equation, find-proofs, find-declared, convert-near}

-- the steps for each node of a proof and of what its symbols spread
abbrev pub cost : ℕ → ℕ
cost w = 7 * suc w + 40

-- what it costs to meet an equation with a defined constant on its left
definition-cost : (w a c t : ℕ) → 2 + (2 * c + 7 * suc w * t + 23 * a + 81 + 3) + 3 * (6 + a + c + t) ≤ cost w * (6 + a + c + t)
definition-cost w a c t = omega arith

-- what it costs to meet the equation of two abstractions at a variable
abstractions-cost : (w a b t u : ℕ) → 2 + (7 * suc w * (t + u + 2) + 16 * a + 37 * b + 130) + 3 * (13 + a + b + t + u) ≤ cost w * (13 + a + b + t + u)
abstractions-cost w a b t u = omega arith

-- what it costs to find the type of an abstraction over a term
abstraction-cost : (w a h st sh p : ℕ) → p ≤ cost w * (h + sh) → 1 + (2 * a + 3) + p ≤ cost w * ((1 + (1 + 1 + a) + h) + (st + sh))
abstraction-cost w a h st sh p le = omega (arith, le)

module _ (m : List Declaration) (closed : IsClosed m) where
  -- a type that was found meets a type that has a sort and converts to it
  pub find-meet : {G : List Tree} {E F : Tree} {k l : ℕ} → Finds m (Infer G E) SortType k → Finds m (Convert E F) E l → Finds m (Meet G E F) E (1 + k + l)
  find-meet {G = G} {E = E} {F = F} {k = k} {l = l} h c = go (tree_eq E F) refl
    where
      go : (q : Bool) → tree_eq E F ≡ q → Finds m (Meet G E F) E (1 + k + l)
      go true e = record {
        steps = 0;
        ends =
            subst (λ q. Ends m true (if q then Say (Found E) else recheck true G E (Ask (Convert E F) (λ _. Say (Found E)))) (Found E) 0) (sym e) said;
        within =
            omega arith;
      }
      go false e = record {
        steps = suc (h.steps + suc (c.steps + 0));
        ends = subst
            (λ q. Ends m true (if q then Say (Found E) else recheck true G E (Ask (Convert E F) (λ _. Say (Found E)))) (Found E)
            (suc (h.steps + suc (c.steps + 0)))) (sym e) (asked h.ends (asked c.ends said));
        within = omega (arith, h.within, c.within);
      }

  -- what remains of a call's type is solid
  pub call-solid : {G : List Tree} {t A : Tree} → IsProof m true G t A → Solid A
  call-solid (call e s) = s
  call-solid (at_a_type {a = a} {A = A} f h e) = subst Solid e (solid-put 0 a A (call-solid f))
  call-solid (at_a_term {x = x} {A = A} f h e) = subst Solid e (solid-put 0 x A (call-solid f))
  call-solid (at_a_proof {h = h} {A = A} f k e) = subst Solid e (solid-put 0 h A (call-solid f))
  call-solid (at_a_definition {a = a} {t = t} {A = A} f c h d k e) = subst Solid e (solid-put 0 (refl_of a t) A (call-solid f))
  call-solid (at_abstractions {a = a} {h = h} {A = A} f ha hb ht hu k e) = subst Solid e (solid-put 0 (Lam (term_of a) h) A (call-solid f))

  -- how far a call's type spreads at an argument and further ones
  pub call-spread : {G : List Tree} {f E A B : Tree} (x : Tree) (args : List Tree) → IsProof m true G f (Pi E A) → put x A ≡ B
      → spread (x ∷ args) (Pi E A) ≡ size E + spread args B
  call-spread {E = E} {A = A} x args hf e = spread-product x args E A (call-solid hf) ∙ ap₂ (λ n k. n + k) (ap size (put_all-nil E)) (ap (spread args) e)

  -- a proof's type is no sort
  proof-unless-kind : {G : List Tree} {t A rest : Tree} {n : ℕ} → IsProof m false G t A → Ends m true (Say (Found rest)) (Found rest) n
      → Ends m true (unless_kind A (Say (Found rest))) (Found rest) n
  proof-unless-kind (called h) e = e
  proof-unless-kind {rest = rest} {n = n} (hypothesis at q) e = subst (λ A. Ends m true (unless_kind A (Say (Found rest))) (Found rest) n) q e
  proof-unless-kind (under_binder ha h) e = e

  -- what a call still owes for its further arguments; any other proof owes nothing
  abbrev pub due : Bool → List Tree → Tree → ℕ
  due true args A = spread args A
  due false args A = 0

  -- the type is found, at a price that the weight of the tree at these arguments covers
  pub record IsPriced (k : ℕ) (b : Bool) (G : List Tree) (t A : Tree) (args : List Tree) : Type 0 where
    pub most : ℕ
    pub finds : Finds m (Infer G t) A most
    pub paid : most + k * due b args A ≤ k * (size t + spreads m args t)

  -- `x : term a -> proof (eq b ((x : term a => t) x) ((x : term a => u) x))` is a type, near `x : term a -> proof (eq b t u)`
  pub pointwise-near : (a b t u : Tree) → Near m (pointwise a b t u) (Pi (term_of a) (proof_of (eq_of (lift 1 b) t u)))
  pointwise-near a b t u =
      near_product near_same
      (near_application refl refl near_same
      (near_application refl refl (near_application refl refl near_same (near_head (ap Some (put-lift_at t)))) (near_head (ap Some (put-lift_at u)))))

  pub find-pointwise : (w e : ℕ) {G : List Tree} {a b t u : Tree} → IsSimple m G a → IsSimple m G b → IsTerm m (term_of a ∷ G) t (lift 1 b)
      → IsTerm m (term_of a ∷ G) u (lift 1 b) → AreSmall m e G
      → size (Lam (term_of a) t) ≤ e → size (Lam (term_of a) u) ≤ e
      → size (Lam (term_of a) t) + spreads m [] (Lam (term_of a) t) + e ≤ suc w → size (Lam (term_of a) u) + spreads m [] (Lam (term_of a) u) + e ≤ suc w
      → Finds m (Infer G (pointwise a b t u)) SortType (7 * suc w * (size (Lam (term_of a) t) + size (Lam (term_of a) u) + 2) + 16 * size a + 37 * size b + 130)
  find-pointwise w e {G = G} {a = a} {b = b} {t = t} {u = u} ha hb ht hu g lt lu wt wu =
      let a' = simple-weaken m closed {C = term_of a} ha in
      let b' = simple-weaken m closed {C = term_of a} hb in
      let f = find-term m closed w (sized-weaken m closed {C = term_of a} (sized m closed (suc w) e (of_binder ha hb ht) g lt wt)) in
      let k = find-term m closed w (sized-weaken m closed {C = term_of a} (sized m closed (suc w) e (of_binder ha hb hu) g lu wu)) in
      let x = find-term m closed w (by_entry {n = 0} {b = a} refl refl a') in
      let p = find-proofs m closed (find-equation m closed b' (find-apply m closed a' b' f.unfolded f.finds x) (find-apply m closed a' b' k.unfolded k.finds x))
      in
      let q = find_terms m ha in
      record {
        steps = _;
        ends = asked q.ends (asked p.ends said);
        within = omega (
          arith,
          q.within,
          p.within,
          size-lift 1 a,
          size-lift 1 b,
          ap (λ n. w * n) (size-lift 1 (Lam (term_of a) t)),
          ap (λ n. w * n) (size-lift 1 (Lam (term_of a) u)),
          size-lift 1 (Lam (term_of a) t),
          size-lift 1 (Lam (term_of a) u),
        );
      }

  -- what is paid at an argument: for the function, for the argument, and for the meeting of the expected type
  paid-at : (k f x E sf sx d pf px pm : ℕ) → pf + k * (E + d) ≤ k * (f + sf) → px ≤ k * (x + sx) → 1 + pm ≤ k * E
      → (1 + pf + px + pm) + k * d ≤ k * ((1 + f + x) + (sf + sx))
  paid-at k f x E sf sx d pf px pm a b c = omega (arith, a, b, c)

  -- The price of a proof.
  pub priced : (w e : ℕ) {b : Bool} {G : List Tree} {t A : Tree} → IsProof m b G t A → (args : List Tree) → AreSmall m e G → size t ≤ e
      → size t + spreads m args t + e ≤ suc w → IsPriced (cost w) b G t A args
  priced w e {G = G} (call {s = s} {A = A} at k) args g le less =
      let is : symbol_spread m s args ≡ spread args A = ap (λ o. option_map_or (spread args) o 0) at in
      record {
        most = 1;
        finds = record { steps = 0; ends = subst (λ o. Ends m true (found_if o) (Found A) 0) (sym at) said; within = omega arith };
        paid = let all = ap (λ n. cost w * n) is in omega (arith, all);
      }
  priced w e {G = G} (at_a_type {f = f} {a = a} {A = A} {B = B} hf ha q) args g le less =
      let p = priced w e hf (a ∷ args) g (omega (arith, le)) (omega (arith, less)) in
      let s = ap (λ n. cost w * n) (call-spread a args hf q) in
      record {
        most = 1 + p.most + 2 * size a + 1;
        finds = subst (λ t. Finds m (Infer G (App f a)) t (1 + p.most + 2 * size a + 1)) q
            (find_application m p.finds (find_constant m ha) (meet_same m G types));
        paid = omega (arith, p.paid, s);
      }
  priced w e {G = G} (at_a_term {f = f} {x = x} {a = a} {A = A} {B = B} hf hx q) args g le less =
      let p = priced w e hf (x ∷ args) g (omega (arith, le)) (omega (arith, less)) in
      let k = find-term m closed w (sized m closed (suc w) e hx g (omega (arith, le)) (omega (arith, less))) in
      let u = meet_unfolded m closed (term-simple m hx) k.unfolded in
      let s = ap (λ n. cost w * n) (call-spread x args hf q) in
      record {
        most = 1 + p.most + 7 * suc w * size x + (5 * size a + 10);
        finds = subst (λ t. Finds m (Infer G (App f x)) t (1 + p.most + 7 * suc w * size x + (5 * size a + 10))) q (find_application m p.finds k.finds u);
        paid = omega (arith, p.paid, s);
      }
  priced w e {G = G} (at_a_proof {f = f} {h = h} {E = E} {A = A} {B = B} hf hh q) args g le less =
      let p = priced w e hf (h ∷ args) g (omega (arith, le)) (omega (arith, less)) in
      let k = priced w e hh [] g (omega (arith, le)) (omega (arith, less)) in
      let s = ap (λ n. cost w * n) (call-spread h args hf q) in
      record {
        most = 1 + p.most + k.most + 1;
        finds = subst (λ t. Finds m (Infer G (App f h)) t (1 + p.most + k.most + 1)) q (find_application m p.finds k.finds (meet_same m G E));
        paid = omega (arith, p.paid, k.paid, s);
      }
  priced w e {G = G} (at_a_definition {f = f} {a = a} {c = c} {t = t} {A = A} {B = B} hf hc ht d hh q) args g le less =
      let x = refl_of a t in
      let E = proof_of (eq_of a c t) in
      let p = priced w e hf (x ∷ args) g (omega (arith, le)) (omega (arith, less)) in
      let k = priced w e hh [] g (omega (arith, le)) (omega (arith, less)) in
      let o = find-term m closed w (sized m closed (suc w) e ht g (omega (arith, le)) (omega (arith, less))) in
      let r = find-proofs m closed (find-equation m closed (term-simple m ht) (record { found = term_of a; unfolded = folded; finds = find_constant m hc }) o)
      in
      let near : Near m E (proof_of (eq_of a t t)) =
      near_application refl refl near_same (near_application refl refl (near_application refl refl near_same (near_head d)) near_same) in
      let u = find-meet r (convert-near m closed near) in
      let s = ap (λ n. cost w * n) (call-spread x args hf q) in
      let is : size E ≡ 6 + size a + size c + size t = omega arith in
      let more : 2 + (2 * size c + 7 * suc w * size t + 23 * size a + 81 + 3) + 3 * size E ≤ cost w * size E =
      subst (λ n. 2 + (2 * size c + 7 * suc w * size t + 23 * size a + 81 + 3) + 3 * n ≤ cost w * n) (sym is) (definition-cost w (size a) (size c) (size t))
      in
      let most = 1 + p.most + k.most + (1 + (2 * size c + 7 * suc w * size t + 23 * size a + 81 + 3) + 3 * size E) in
      record {
        most = most;
        finds = subst (λ t. Finds m (Infer G (App f x)) t most) q (find_application m p.finds k.finds u);
        paid = paid-at (cost w) (size f) (size x) (size E) (spreads m (x ∷ args) f) (spreads m [] x) (spread args B) p.most k.most
            (1 + (2 * size c + 7 * suc w * size t + 23 * size a + 81 + 3) + 3 * size E)
            (subst (λ n. p.most + n ≤ cost w * (size f + spreads m (x ∷ args) f)) s p.paid) (omega (arith, k.paid)) (omega (arith, more));
      }
  priced w e {G = G} (at_abstractions {a = a} {b = b} {t = t} {u = u} {h = h} {A = A} {B = B} hf ha hb ht hu hh q) args g le less =
      let L = Lam (term_of a) h in
      let f = two_abstractions a b t u in
      let E = pointwise a b t u in
      let p = priced w e hf (L ∷ args) g (omega (arith, le)) (omega (arith, less)) in
      let k = priced w e hh [] (small-entry m {A = term_of a} (omega (arith, le)) g) (omega (arith, le)) (omega (arith, less)) in
      let d = find_terms m ha in
      let r = find-pointwise w e ha hb ht hu g (omega (arith, le)) (omega (arith, le)) (omega (arith, less)) (omega (arith, less)) in
      let v = find-meet r (convert-near m closed (pointwise-near a b t u)) in
      let s = ap (λ n. cost w * n) (call-spread L args hf q) in
      let l : Finds m (Infer G L) (Pi (term_of a) (proof_of (eq_of (lift 1 b) t u))) (1 + (2 * size a + 3) + k.most) =
      record { steps = _; ends = asked d.ends (asked k.finds.ends said); within = omega (arith, d.within, k.finds.within) } in
      let T = size (Lam (term_of a) t) in
      let U = size (Lam (term_of a) u) in
      let is : size E ≡ 13 + size a + size b + T + U = omega (arith, size-lift 1 b, size-lift 1 (Lam (term_of a) t), size-lift 1 (Lam (term_of a) u)) in
      let more : 2 + (7 * suc w * (T + U + 2) + 16 * size a + 37 * size b + 130) + 3 * size E ≤ cost w * size E =
      subst (λ n. 2 + (7 * suc w * (T + U + 2) + 16 * size a + 37 * size b + 130) + 3 * n ≤ cost w * n) (sym is) (abstractions-cost w (size a) (size b) T U)
      in
      let own = abstraction-cost w (size a) (size h) (spreads m [] (term_of a)) (spreads m [] h) k.most (omega (arith, k.paid)) in
      let most = 1 + p.most + (1 + (2 * size a + 3) + k.most) + (1 + (7 * suc w * (T + U + 2) + 16 * size a + 37 * size b + 130) + 3 * size E) in
      record {
        most = most;
        finds = subst (λ t. Finds m (Infer G (App f L)) t most) q (find_application m p.finds l v);
        paid = paid-at (cost w) (size f) (size L) (size E) (spreads m (L ∷ args) f) (spreads m [] L) (spread args B) p.most (1 + (2 * size a + 3) + k.most)
            (1 + (7 * suc w * (T + U + 2) + 16 * size a + 37 * size b + 130) + 3 * size E)
            (subst (λ n. p.most + n ≤ cost w * (size f + spreads m (L ∷ args) f)) s p.paid) own (omega (arith, more));
      }
  priced w e (called h) args g le less =
      let p = priced w e h args g le less in
      record { most = p.most; finds = p.finds; paid = omega (arith, p.paid) }
  priced w e (hypothesis {n = n} {p = p} {A = A} at q) args g le less = record {
    most = 1;
    finds = record {
      steps = 0;
      ends = subst (λ o. Ends m true (found_if (option_map (lift (suc n)) o)) (Found A) 0) (sym at)
          (subst (λ x. Ends m true (Say (Found x)) (Found A) 0) (sym q) said);
      within = omega arith;
    };
    paid = omega arith;
  }
  priced w e (under_binder {a = a} ha hh) args g le less =
      let d = find-declared m closed w e ha g (omega (arith, le)) (omega (arith, less)) in
      let k = priced w e hh [] (small-entry m {A = a} (omega (arith, le)) g) (omega (arith, le)) (omega (arith, less)) in
      record {
        most = 1 + 7 * suc w * size a + k.most;
        finds = record { steps = _; ends = asked d.ends (asked k.finds.ends (proof-unless-kind hh said)); within = omega (arith, d.within, k.finds.within) };
        paid = omega (arith, k.paid);
      }
