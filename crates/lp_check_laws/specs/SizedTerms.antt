-- Terms whose types of functions are bounded: what is found of them, at a price of their size times the bound.
use Rattle.std.proofs.Common.{◌≡◌, sym, ap, ◌∙◌, subst, ℕ, zero, suc, ◌+◌, ◌*◌, ◌≤◌, arith, true, List, [], ◌∷◌, Some}
use Rattle.std.specs.Prelude.{slice_get, option_map}
use Rattle.std.proofs.Math.Path.{subst₂}
use Rattle.std.proofs.lemmas.Option.{same_Some}
use Rattle.lp_spec.specs.Trees.{Tree, Var, Sym, App, Lam, lift, size}
use Rattle.lp_spec.specs.Substitution.{up, ren}
use Rattle.lp_binding_laws.specs.Composition.{ren_ren, ren_id, suc_lift}
use Rattle.lp_binding_laws.specs.SubstitutionLaws.{ren_closed, ren-put, ren-lift, lift_one}
use Rattle.lp_spec.specs.Modules.{Declaration, types, arr_of, term_of}
use Rattle.lp_spec.specs.Weight.{spreads}
use Rattle.lp_typing_laws.specs.ConversionLaws.{IsClosed}
use Rattle.lp_spec.specs.Check.{Found, Say, found_if, Ends, said, asked}
use Rattle.lp_spec.specs.Shaped.{IsConstant, type_variable, constant, at_type, IsSimple, IsTerm, of_entry, of_constant, of_function, of_binder, folded, arrow}
use Rattle.lp_check_laws.specs.Sizes.{size-ren}
use Rattle.lp_check_laws.specs.Found.{Finds-more, find_constant, find_terms, term-simple, arrow-parts}
use Rattle.lp_check_laws.specs.TermPrice.{size-positive, term-spreads, AreSmall, small-entry, type-size, FindsTerm, find-apply, unless-kind}

-- a term in which no type of functions is greater than w
pub data IsSized (m : List Declaration) (w : ℕ) : List Tree → Tree → Tree → Type 0 where
  by_entry : {G : List Tree} {n : ℕ} {a b : Tree} → slice_get G n ≡ Some (term_of b) → lift (suc n) b ≡ a → IsSimple m G a → IsSized m w G (Var n) a
  by_constant : {G : List Tree} {t a : Tree} → IsConstant m G t (term_of a) → IsSimple m G a → IsSized m w G t a
  by_function : {G : List Tree} {f x a b : Tree} → size (arr_of a b) ≤ w → IsSimple m G a → IsSimple m G b → IsSized m w G f (arr_of a b) → IsSized m w G x a
      → IsSized m w G (App f x) b
  by_binder : {G : List Tree} {t a b : Tree} → IsSimple m G a → IsSimple m G b → IsSized m w (term_of a ∷ G) t (lift 1 b)
      → IsSized m w G (Lam (term_of a) t) (arr_of a b)

-- the renaming takes the entries of a context to those of one with an entry more
pub data Weakens : (ℕ → ℕ) → List Tree → List Tree → Type 0 where
  outside : {G : List Tree} {C : Tree} → Weakens suc G (C ∷ G)
  inside : {r : ℕ → ℕ} {G D : List Tree} {A : Tree} → Weakens r G D → Weakens (up r) (A ∷ G) (ren r A ∷ D)

-- an entry's place after it
pub record Moved (r : ℕ → ℕ) (D : List Tree) (n : ℕ) (A : Tree) : Type 0 where
  pub by : ℕ → ℕ
  pub at : slice_get D (r n) ≡ Some (ren by A)
  pub is : lift (suc (r n)) (ren by A) ≡ ren r (lift (suc n) A)

pub moved : {r : ℕ → ℕ} {G D : List Tree} → Weakens r G D → (n : ℕ) (A : Tree) → slice_get G n ≡ Some A → Moved r D n A
moved outside n A e = record { by = λ n. n; at = e ∙ ap Some (sym (ren_id A)); is = ap (lift (suc (suc n))) (ren_id A) ∙ sym (suc_lift (suc n) A) }
moved (inside {r = r} {A = B} w) zero A e = record { by = r; at = ap (λ t. Some (ren r t)) (same_Some _ _ e); is = sym (ren-lift r A) }
moved (inside {r = r} w) (suc n) A e =
    let h = moved w n A e in
    record {
      by = h.by;
      at = h.at;
      is = sym (suc_lift (suc (r n)) (ren h.by A)) ∙ ap (ren suc) h.is ∙ ren_ren suc r (lift (suc n) A) ∙ sym (ren_ren (up r) suc (lift (suc n) A))
          ∙ ap (ren (up r)) (suc_lift (suc n) A);
    }

module _ (m : List Declaration) (closed : IsClosed m) where
  pub constant-ren : {r : ℕ → ℕ} {G D : List Tree} {t A : Tree} → Weakens r G D → IsConstant m G t A → IsConstant m D (ren r t) (ren r A)
  constant-ren v (type_variable {n = n} e) = type_variable (moved v n types e).at
  constant-ren {r = r} {D = D} v (constant {s = s} {A = A} e k) = subst (IsConstant m D (Sym s)) (sym (ren_closed r A (closed.types s A e))) (constant e k)
  constant-ren {r = r} v (at_type {a = a} {A = A} f h e) = at_type (constant-ren v f) (constant-ren v h) (sym (ren-put r a A) ∙ ap (ren r) e)

  pub sized-ren : {w : ℕ} {r : ℕ → ℕ} {G D : List Tree} {t a : Tree} → Weakens r G D → IsSized m w G t a → IsSized m w D (ren r t) (ren r a)
  sized-ren {r = r} v (by_entry {n = n} {b = b} e q s) =
      let h = moved v n (term_of b) e in
      by_entry h.at (term-part h.is ∙ ap (ren r) q) (constant-ren v s)
    where
      argument : Tree → Tree
      argument (App f x) = x
      argument t = t

      term-part : {x y : Tree} → term_of x ≡ term_of y → x ≡ y
      term-part e = cc
  sized-ren v (by_constant h s) = by_constant (constant-ren v h) (constant-ren v s)
  sized-ren {r = r} v (by_function {a = a} {b = b} le ha hb f x) =
      by_function (omega (arith, le, size-ren r a, size-ren r b)) (constant-ren v ha) (constant-ren v hb) (sized-ren v f) (sized-ren v x)
  sized-ren {w = w} {r = r} {D = D} v (by_binder {t = t} {a = a} {b = b} ha hb h) =
      by_binder (constant-ren v ha) (constant-ren v hb)
      (subst (IsSized m w (term_of (ren r a) ∷ D) (ren (up r) t)) (ren-lift r b) (sized-ren {r = up r} (inside v) h))

  -- a term as a part of an entry more
  pub sized-weaken : {w : ℕ} {G : List Tree} {C t a : Tree} → IsSized m w G t a → IsSized m w (C ∷ G) (lift 1 t) (lift 1 a)
  sized-weaken {w = w} {G = G} {C = C} {t = t} {a = a} h = subst₂ (IsSized m w (C ∷ G)) (sym (lift_one t)) (sym (lift_one a)) (sized-ren outside h)

  -- a term's types of functions are no greater than what it weighs with the greatest entry
  pub sized : {G : List Tree} {t a : Tree} (w e : ℕ) → IsTerm m G t a → AreSmall m e G → size t ≤ e → size t + spreads m [] t + e ≤ w → IsSized m w G t a
  sized w e (of_entry at q s) g le less = by_entry at q s
  sized w e (of_constant h s) g le less = by_constant h s
  sized w e (of_function {x = x} f h) g le less =
      let sf = term-spreads m (x ∷ []) f in
      let ts = type-size m f g (omega (arith, le)) in
      let parts = arrow-parts m (term-simple m f) in
      by_function (omega (arith, ts, less, sf)) parts.0 parts.1 (sized w e f g (omega (arith, le)) (omega (arith, less, sf)))
      (sized w e h g (omega (arith, le)) (omega (arith, less, sf)))
  sized w e (of_binder {a = a} ha hb t) g le less =
      by_binder ha hb (sized w e t (small-entry m {A = term_of a} (omega (arith, le)) g) (omega (arith, le)) (omega (arith, less)))

  -- The price of a term: seven times its size times the bound.
  pub find-term : (w : ℕ) {G : List Tree} {t a : Tree} → IsSized m (suc w) G t a → FindsTerm m closed G t a (7 * suc w * size t)
  find-term w (by_entry {n = n} {a = a} {b = b} at q s) = record {
    found = term_of a;
    unfolded = folded;
    finds = record {
      steps = 0;
      ends = subst (λ o. Ends m true (found_if (option_map (lift (suc n)) o)) (Found (term_of a)) 0) (sym at)
          (subst (λ x. Ends m true (Say (Found (term_of x))) (Found (term_of a)) 0) (sym q) said);
      within = omega arith;
    };
  }
  find-term w {t = t} (by_constant h s) = record { found = _; unfolded = folded; finds = Finds-more m (omega (arith, size-positive t)) (find_constant m h) }
  find-term w (by_function {a = a} {b = b} le ha hb hf hx) =
      let pf = find-term w hf in
      let h = find-apply m closed ha hb pf.unfolded pf.finds (find-term w hx) in
      record { found = h.found; unfolded = h.unfolded; finds = Finds-more m (omega (arith, le)) h.finds }
  find-term w (by_binder {t = t} {a = a} {b = b} ha hb ht) =
      let p = find_terms m ha in
      let q = find-term w ht in
      record {
        found = _;
        unfolded = arrow q.unfolded;
        finds = record {
          steps = _;
          ends = asked p.ends (asked q.finds.ends (unless-kind m closed q.unfolded said));
          within =
              omega (arith, p.within, q.finds.within);
        };
      }
