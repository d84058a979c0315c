-- A declaration that is shaped is so where its symbols have other numbers.
use Rattle.std.proofs.Common.{◌≡◌, inl, inr, ℕ, sym, ap, subst, ◌∙◌, Bool, true, false, List, [], ◌∷◌, map, Option, Some, None, arith}
use Rattle.std.specs.Prelude.{slice_get, option_map}
use Rattle.std.proofs.Math.Path.{ap₂, subst₂}
use Rattle.std.proofs.lemmas.Option.{slice_get-map}
use Rattle.lp_spec.specs.declared.form.Form.{Form}
use Rattle.lp_spec.specs.declared.form.Form.TheVariants.{Symbol, Def, Thm}
use Rattle.lp_spec.specs.Trees.{Tree, SortType, SortKind, Var, Sym, App, Lam, Pi, lift, put}
use Rattle.lp_spec.specs.Modules.{Declaration, symbol_type, types, term_of, eq_of, proof_of, refl_of}
use Rattle.lp_spec.specs.Shaped.{Solid, IsConstant, type_variable, constant, at_type, IsTerm, of_entry, of_constant, of_function, of_binder, IsDeclared, of_types, of_terms, of_proofs, of_products, Unfolded, folded, arrow, Near, near_same, near_head, near_arrows, near_application, near_product, two_abstractions, pointwise, IsProof, call, at_a_type, at_a_term, at_a_proof, at_a_definition, at_abstractions, called, hypothesis, under_binder, IsDefinition, defined, under_type, Close, close_same, close_step, close_arrow, close_application, close_product, IsLast, last_call, last_defined, IsLaw, at_close_abstractions, law_last, at_close_equation, law_under, IsCallDefinition, by_type, by_term, call_under, IsBodyShaped, IsShaped}
use Rattle.share_spec.specs.MovedTrees.{moved_symbol, moved, moved_declaration}
use Rattle.share_laws.specs.MovedLaws.{moved-lift, moved-put, size-moved, IsMoved, moved-symbol_type}
use Rattle.share_laws.specs.MovedSteps.{head_step-Some, head_step-None, spreads-moved}

abbrev body_of : Tree → Tree
body_of (Pi c d) = d
body_of t = t

module _ (g : ℕ → ℕ) where
  solid-moved : (t : Tree) → Solid t → Solid (moved g t)
  solid-moved SortType h = tt
  solid-moved SortKind h = tt
  solid-moved (Var n) h = absurd h
  solid-moved (Sym s) h = tt
  solid-moved (App f x) h = tt
  solid-moved (Lam a b) h = tt
  solid-moved (Pi a b) h = solid-moved b h

  entry-moved : (G : List Tree) (n : ℕ) (A : Tree) → slice_get G n ≡ Some A → slice_get (map (moved g) G) n ≡ Some (moved g A)
  entry-moved G n A e = slice_get-map (moved g) G n ∙ ap (option_map (moved g)) e

  lift-to : (k : ℕ) (t u : Tree) → lift k t ≡ u → lift k (moved g t) ≡ moved g u
  lift-to k t u e = sym (moved-lift g k t) ∙ ap (moved g) e

  put-to : (a t u : Tree) → put a t ≡ u → put (moved g a) (moved g t) ≡ moved g u
  put-to a t u e = sym (moved-put g a t) ∙ ap (moved g) e

  pub unfolded-moved : {a S : Tree} → Unfolded a S → Unfolded (moved g a) (moved g S)
  unfolded-moved folded = folded
  unfolded-moved (arrow {b = b} {S = S} h) = arrow (subst (λ t. Unfolded t (moved g S)) (moved-lift g 1 b) (unfolded-moved h))

  pointwise-moved : (a b t u : Tree) → moved g (pointwise a b t u) ≡ pointwise (moved g a) (moved g b) (moved g t) (moved g u)
  pointwise-moved a b t u = ap (Pi (term_of (moved g a))) (equation-moved a b t u)
    where
      equation-moved : (a b t u : Tree)
          → moved g (proof_of (eq_of (lift 1 b) (App (lift 1 (Lam (term_of a) t)) (Var 0)) (App (lift 1 (Lam (term_of a) u)) (Var 0))))
          ≡ proof_of (eq_of (lift 1 (moved g b)) (App (lift 1 (Lam (term_of (moved g a)) (moved g t))) (Var 0))
          (App (lift 1 (Lam (term_of (moved g a)) (moved g u))) (Var 0)))
      equation-moved a b t u =
          ap (λ x. proof_of (eq_of x (App (moved g (lift 1 (Lam (term_of a) t))) (Var 0)) (App (moved g (lift 1 (Lam (term_of a) u))) (Var 0))))
          (moved-lift g 1 b)
          ∙ ap₂ (λ x y. proof_of (eq_of (lift 1 (moved g b)) (App x (Var 0)) (App y (Var 0)))) (moved-lift g 1 (Lam (term_of a) t))
          (moved-lift g 1 (Lam (term_of a) u))

module _ (g : ℕ → ℕ) (m n : List Declaration) (h : IsMoved g m n) where
  type-at : (s : ℕ) (A : Tree) → symbol_type m s ≡ Some A → symbol_type n (moved_symbol g s) ≡ Some (moved g A)
  type-at s A e = moved-symbol_type g m n h s ∙ ap (option_map (moved g)) e

  pub constant-moved : {G : List Tree} {t A : Tree} → IsConstant m G t A → IsConstant n (map (moved g) G) (moved g t) (moved g A)
  constant-moved {G = G} (type_variable e) = type_variable (entry-moved g G _ types e)
  constant-moved (constant {s = k} {A = A} e s) = constant (type-at k A e) (solid-moved g A s)
  constant-moved (at_type {a = a} {A = A} {B = B} f x e) = at_type (constant-moved f) (constant-moved x) (put-to g a A B e)

  pub term-moved : {G : List Tree} {t a : Tree} → IsTerm m G t a → IsTerm n (map (moved g) G) (moved g t) (moved g a)
  term-moved {G = G} (of_entry {a = a} {b = b} e q s) = of_entry (entry-moved g G _ (term_of b) e) (lift-to g _ b a q) (constant-moved s)
  term-moved (of_constant c s) = of_constant (constant-moved c) (constant-moved s)
  term-moved (of_function f x) = of_function (term-moved f) (term-moved x)
  term-moved {G = G} (of_binder {t = t} {a = a} {b = b} ha hb ht) =
      of_binder (constant-moved ha) (constant-moved hb)
      (subst (IsTerm n (term_of (moved g a) ∷ map (moved g) G) (moved g t)) (moved-lift g 1 b) (term-moved ht))

  pub declared-moved : {G : List Tree} {A : Tree} → IsDeclared m G A → IsDeclared n (map (moved g) G) (moved g A)
  declared-moved of_types = of_types
  declared-moved (of_terms a) = of_terms (constant-moved a)
  declared-moved (of_proofs p) = of_proofs (term-moved p)
  declared-moved (of_products a b) = of_products (declared-moved a) (declared-moved b)

  near-moved : {t u : Tree} → Near m t u → Near n (moved g t) (moved g u)
  near-moved near_same = near_same
  near-moved (near_head {t = t} {u = u} e) = near_head (head_step-Some g m n h t u e)
  near-moved (near_arrows u) = near_arrows (unfolded-moved g u)
  near-moved (near_application {f = f} {g = k} {x = x} {y = y} d e a b) =
      near_application (head_step-None g m n h (App f x) d) (head_step-None g m n h (App k y) e) (near-moved a) (near-moved b)
  near-moved (near_product a b) = near_product (near-moved a) (near-moved b)

  pub proof-moved : {is_call : Bool} {G : List Tree} {t A : Tree} → IsProof m is_call G t A → IsProof n is_call (map (moved g) G) (moved g t) (moved g A)
  proof-moved (call {s = k} {A = A} e s) = call (type-at k A e) (solid-moved g A s)
  proof-moved (at_a_type {a = a} {A = A} {B = B} f x e) = at_a_type (proof-moved f) (constant-moved x) (put-to g a A B e)
  proof-moved (at_a_term {x = x} {A = A} {B = B} f k e) = at_a_term (proof-moved f) (term-moved k) (put-to g x A B e)
  proof-moved (at_a_proof {h = x} {A = A} {B = B} f k e) = at_a_proof (proof-moved f) (proof-moved k) (put-to g x A B e)
  proof-moved (at_a_definition {a = a} {c = c} {t = t} {A = A} {B = B} f k s e r q) =
      at_a_definition (proof-moved f) (constant-moved k) (term-moved s) (head_step-Some g m n h c t e) (proof-moved r) (put-to g (refl_of a t) A B q)
  proof-moved {G = G} (at_abstractions {a = a} {b = b} {t = t} {u = u} {h = x} {A = A} {B = B} f ha hb ht hu hx e) =
      let G' = term_of (moved g a) ∷ map (moved g) G in
      at_abstractions
      (subst (λ p. IsProof n true (map (moved g) G) (two_abstractions (moved g a) (moved g b) (moved g t) (moved g u)) (Pi p (moved g A)))
      (pointwise-moved g a b t u) (proof-moved f))
      (constant-moved ha) (constant-moved hb)
      (subst (IsTerm n G' (moved g t)) (moved-lift g 1 b) (term-moved ht))
      (subst (IsTerm n G' (moved g u)) (moved-lift g 1 b) (term-moved hu))
      (subst (λ c. IsProof n false G' (moved g x) (proof_of (eq_of c (moved g t) (moved g u)))) (moved-lift g 1 b) (proof-moved hx))
      (put-to g (Lam (term_of a) x) A B e)
  proof-moved (called k) = called (proof-moved k)
  proof-moved {G = G} (hypothesis {p = p} {A = A} e q) = hypothesis (entry-moved g G _ (proof_of p) e) (lift-to g _ (proof_of p) A q)
  proof-moved (under_binder a k) = under_binder (declared-moved a) (proof-moved k)

  definition-moved : {G : List Tree} {t A : Tree} → IsDefinition m G t A → IsDefinition n (map (moved g) G) (moved g t) (moved g A)
  definition-moved (defined k) = defined (term-moved k)
  definition-moved (under_type k) = under_type (definition-moved k)

  close-moved : {k : ℕ} {t u : Tree} → Close m k t u → Close n k (moved g t) (moved g u)
  close-moved close_same = close_same
  close-moved (close_step {E = E} {H = H} e c) = close_step (head_step-Some g m n h E H e) (close-moved c)
  close-moved (close_arrow {a = a} {b = b} {c = c} {d = d} x y) =
      close_arrow (close-moved x) (subst₂ (Close n 3) (moved-lift g 1 (term_of b)) (moved-lift g 1 (term_of d)) (close-moved y))
  close-moved (close_application {f = f} {g = k} {x = x} {y = y} d e a b) =
      close_application (head_step-None g m n h (App f x) d) (head_step-None g m n h (App k y) e) (close-moved a) (close-moved b)
  close-moved (close_product a b) = close_product (close-moved a) (close-moved b)

  last-moved : {G : List Tree} {t F : Tree} → IsLast m G t F → IsLast n (map (moved g) G) (moved g t) (moved g F)
  last-moved (last_call k) = last_call (proof-moved k)
  last-moved (last_defined {f = f} {x = x} {n = c} {S = S} {A = A} {F = F} k t d z y v s le sp e) =
      last_defined (proof-moved k) (term-moved t) (head_step-Some g m n h c S d) (head_step-None g m n h S z) (head_step-None g m n h (term_of c) y)
      (head_step-None g m n h (term_of S) v) (proof-moved s)
      (omega (arith, size-moved g S, size-moved g f, le)) (omega (arith, spreads-moved g m n h [] S, spreads-moved g m n h (x ∷ []) f, sp)) (put-to g x A F e)

  law-moved : {G : List Tree} {t F : Tree} → IsLaw m G t F → IsLaw n (map (moved g) G) (moved g t) (moved g F)
  law-moved {G = G} (at_close_abstractions {a = a} {b = b} {t = t} {u = u} {h = x} {F = F} {B = B} {A = A} f ha hb ht hu hx c e) =
      let G' = term_of (moved g a) ∷ map (moved g) G in
      at_close_abstractions
      (subst (λ p. IsProof n true (map (moved g) G) (two_abstractions (moved g a) (moved g b) (moved g t) (moved g u)) (Pi p (moved g A)))
      (pointwise-moved g a b t u) (proof-moved f))
      (constant-moved ha) (constant-moved hb)
      (subst (IsTerm n G' (moved g t)) (moved-lift g 1 b) (term-moved ht))
      (subst (IsTerm n G' (moved g u)) (moved-lift g 1 b) (term-moved hu))
      (last-moved hx)
      (subst (λ p. Close n 3 p (moved g F)) (ap body_of (pointwise-moved g a b t u)) (close-moved c))
      (put-to g (Lam (term_of a) x) A (proof_of B) e)
  law-moved (law_last {h = x} big k) = law_last (omega (arith, size-moved g x, big)) (last-moved k)
  law-moved (at_close_equation {f = f} {h = x} {l = l} {r = r} {A = A} {B = B} k hl hr le sp hx c e) =
      at_close_equation (proof-moved k) (term-moved hl) (term-moved hr) (omega (arith, size-moved g l, size-moved g r, size-moved g f, le))
      (omega (arith, spreads-moved g m n h [] l, spreads-moved g m n h [] r, spreads-moved g m n h (x ∷ []) f, sp)) (last-moved hx) (close-moved c)
      (put-to g x A (proof_of B) e)
  law-moved (law_under a k) = law_under (declared-moved a) (law-moved k)

  call-moved : {G : List Tree} {t A : Tree} → IsCallDefinition m G t A → IsCallDefinition n (map (moved g) G) (moved g t) (moved g A)
  call-moved (by_type k) = by_type (proof-moved k)
  call-moved (by_term k c) = by_term (proof-moved k) (close-moved c)
  call-moved (call_under k) = call_under (call-moved k)

  body-moved : (f : Form) (body : Option Tree) (A : Tree) → IsBodyShaped m f body A → IsBodyShaped n f (option_map (moved g) body) (moved g A)
  body-moved Symbol body A k = ap (option_map (moved g)) k
  body-moved Def None A k = absurd k
  body-moved Def (Some t) A (inl k) = inl (definition-moved k)
  body-moved Def (Some t) A (inr k) = inr (call-moved k.0, omega (arith, size-moved g t, k.1))
  body-moved Thm None A k = absurd k
  body-moved Thm (Some t) A (inl k) = inl (record { found = moved g k.found; proof = proof-moved k.proof; near = near-moved k.near })
  body-moved Thm (Some t) A (inr k) = inr (record { found = moved g k.found; law = law-moved k.law; close = close-moved k.close })

  -- A moved declaration is shaped where the declaration is
  pub shaped-moved : (d : Declaration) → IsShaped m d → IsShaped n (moved_declaration g d)
  shaped-moved d k = record { ty = declared-moved k.ty; body = body-moved d.form d.body d.ty k.body }
