-- Shapes of what is written of proofs: calls of the signature's symbols at their arguments, and the two lemmas.
use Rattle.std.proofs.Common.{◌≡◌, inl, refl, sym, ap, subst, ℕ, arith, true, false, List, [], ◌∷◌, ◌++◌, append_assoc, Some}
use Rattle.std.proofs.lemmas.List.{append-nil}
use Rattle.lp_spec.specs.Trees.{Tree, Var, Sym, App, Pi, put, put_all, loose}
use Rattle.lp_binding_laws.specs.Composition.{lift_zero}
use Rattle.lp_binding_laws.specs.Closed.{put_all_at-closed}
use Rattle.lp_binding_laws.specs.Arguments.{put-put_all}
use Rattle.lp_spec.specs.Modules.{Declaration, symbol_type, applied, products, types, bools, arr_of, term_of, eq_of, proof_of, refl_of, two_functions, eq_symbol, refl_symbol, app_thm_symbol, eq_mp_symbol}
use Rattle.lp_spec.specs.Lemmas.{sym_proof, sym_lemma}
use Rattle.lp_spec.specs.Shaped.{Solid, type_variable, constant, at_type, IsSimple, IsTerm, of_entry, of_constant, of_function, of_types, of_terms, of_proofs, of_products, near_same, IsProof, call, at_a_type, at_a_term, at_a_proof, called, hypothesis, under_binder, IsShaped}

-- the tree is a shaped argument where this type is expected
pub data IsArgument (m : List Declaration) (G : List Tree) : Tree → Tree → Type 0 where
  a_type : {x : Tree} → IsSimple m G x → IsArgument m G x types
  a_term : {x a : Tree} → IsTerm m G x a → IsArgument m G x (term_of a)
  a_proof : {x E : Tree} → IsProof m false G x E → IsArgument m G x E

-- the arguments after these are shaped where the domains are expected, each with the arguments before it put in
abbrev pub AreArguments : List Declaration → List Tree → List Tree → List Tree → List Tree → Type 0
AreArguments m G before [] [] = Unit {0}
AreArguments m G before (a ∷ domains) (x ∷ args) = IsArgument m G x (put_all before a) × AreArguments m G (before ++ x ∷ []) domains args
AreArguments m G before _ _ = ⊥

module _ (m : List Declaration) (G : List Tree) where
  at_argument : {f x E A B : Tree} → IsProof m true G f (Pi E A) → IsArgument m G x E → put x A ≡ B → IsProof m true G (App f x) B
  at_argument h (a_type k) e = at_a_type h k e
  at_argument h (a_term k) e = at_a_term h k e
  at_argument h (a_proof k) e = at_a_proof h k e

  -- a call at further arguments
  shaped-applied : (domains args before : List Tree) (f t : Tree) → IsProof m true G f (put_all before (products domains t))
      → AreArguments m G before domains args → IsProof m true G (applied f args) (put_all (before ++ args) t)
  shaped-applied [] [] before f t h k = subst (λ l. IsProof m true G f (put_all l t)) (sym (append-nil before)) h
  shaped-applied [] (x ∷ args) before f t h k = absurd k
  shaped-applied (a ∷ domains) [] before f t h k = absurd k
  shaped-applied (a ∷ domains) (x ∷ args) before f t h k =
      subst (λ l. IsProof m true G (applied (App f x) args) (put_all l t)) (append_assoc before (x ∷ []) args)
      (shaped-applied domains args (before ++ x ∷ []) (App f x) t (at_argument h k.0 (put-put_all x before (products domains t))) k.1)

  -- a symbol with a closed product for its type, at arguments
  pub shaped-call : (domains args : List Tree) (s : ℕ) (t : Tree) → symbol_type m s ≡ Some (products domains t) → Solid (products domains t)
      → loose (products domains t) ≡ 0 → AreArguments m G [] domains args → IsProof m true G (applied (Sym s) args) (put_all args t)
  shaped-call domains args s t e solid c k =
      shaped-applied domains args [] (Sym s) t
      (subst (IsProof m true G (Sym s)) (sym (put_all_at-closed 0 [] (products domains t) (omega (arith, c)))) (call e solid)) k

module _ (m : List Declaration) where
  -- an equation of terms
  pub shaped-equation : {G : List Tree} {a x y : Tree} → IsSimple m G a → IsTerm m G x a → IsTerm m G y a → IsTerm m G (eq_of a x y) bools
  shaped-equation {a = a} ha hx hy =
      let predicates : IsSimple m _ (arr_of a bools) = at_type (at_type (constant refl tt) ha refl) (constant refl tt) refl in
      let equality = at_type (constant {s = eq_symbol} refl tt) ha (ap (λ w. term_of (arr_of w (arr_of w bools))) (lift_zero a)) in
      of_function (of_function (of_constant equality (at_type (at_type (constant refl tt) ha refl) predicates refl)) hx) hy

  pub shaped-refl : {G : List Tree} {a x : Tree} → IsSimple m G a → IsTerm m G x a → IsProof m false G (refl_of a x) (proof_of (eq_of a x x))
  shaped-refl {G = G} {a = a} {x = x} ha hx =
      let h = shaped-call m G (types ∷ term_of (Var 0) ∷ []) (a ∷ x ∷ []) refl_symbol (proof_of (eq_of (Var 1) (Var 0) (Var 0))) refl tt refl
      (a_type ha, (a_term (simp lift_zero hx), tt {0})) in
      called (simp lift_zero at h)

  pub shaped-eq_mp : {G : List Tree} {p q h k : Tree} → IsTerm m G p bools → IsTerm m G q bools → IsProof m false G h (proof_of (eq_of bools p q))
      → IsProof m false G k (proof_of p) → IsProof m false G (applied (Sym eq_mp_symbol) (p ∷ q ∷ h ∷ k ∷ [])) (proof_of q)
  shaped-eq_mp {G = G} {p = p} {q = q} {h = h} {k = k} hp hq hh hk =
      let domains = term_of bools ∷ term_of bools ∷ proof_of (eq_of bools (Var 1) (Var 0)) ∷ proof_of (Var 2) ∷ [] in
      let c = shaped-call m G domains (p ∷ q ∷ h ∷ k ∷ []) eq_mp_symbol (proof_of (Var 2)) refl tt refl
      (a_term hp, (a_term hq, (a_proof (simp lift_zero hh), (a_proof (simp lift_zero hk), tt {0})))) in
      called (simp lift_zero at c)

  pub shaped-app_thm : {G : List Tree} {a b f g x y h k : Tree} → IsSimple m G a → IsSimple m G b → IsTerm m G f (arr_of a b) → IsTerm m G g (arr_of a b)
      → IsTerm m G x a → IsTerm m G y a
      → IsProof m false G h (proof_of (eq_of (arr_of a b) f g)) → IsProof m false G k (proof_of (eq_of a x y))
      → IsProof m false G (applied (Sym app_thm_symbol) (a ∷ b ∷ f ∷ g ∷ x ∷ y ∷ h ∷ k ∷ [])) (proof_of (eq_of b (App f x) (App g y)))
  shaped-app_thm {G = G} {a = a} {b = b} {f = f} {g = g} {x = x} {y = y} {h = h} {k = k} ha hb hf hg hx hy hh hk =
      let domains = two_functions ++ term_of (Var 3) ∷ term_of (Var 4) ∷ proof_of (eq_of (arr_of (Var 5) (Var 4)) (Var 3) (Var 2)) ∷ proof_of
      (eq_of (Var 6) (Var 2) (Var 1)) ∷ [] in
      let c = shaped-call m G domains (a ∷ b ∷ f ∷ g ∷ x ∷ y ∷ h ∷ k ∷ []) app_thm_symbol (proof_of (eq_of (Var 6) (App (Var 5) (Var 3)) (App (Var 4) (Var 2))))
      refl tt refl (
        a_type ha,
        (
          a_type hb,
          (
            a_term (simp lift_zero hf),
            (
              a_term (simp lift_zero hg),
              (a_term (simp lift_zero hx), (a_term (simp lift_zero hy), (a_proof (simp lift_zero hh), (a_proof (simp lift_zero hk), tt {0})))),
            ),
          ),
        ),
      ) in
      called (simp lift_zero at c)

  -- from x = y to y = x
  pub shaped-sym_proof : {G : List Tree} {a x y h : Tree} → IsSimple m G a → IsTerm m G x a → IsTerm m G y a → IsProof m false G h (proof_of (eq_of a x y))
      → IsProof m false G (sym_proof a x y h) (proof_of (eq_of a y x))
  shaped-sym_proof {G = G} {a = a} {x = x} {y = y} ha hx hy hh =
      let bool : IsSimple m G bools = constant refl tt in
      let predicates : IsSimple m G (arr_of a bools) = at_type (at_type (constant refl tt) ha refl) bool refl in
      let relations : IsSimple m G (arr_of a (arr_of a bools)) = at_type (at_type (constant refl tt) ha refl) predicates refl in
      let equality : IsTerm m G (App (Sym eq_symbol) a) (arr_of a (arr_of a bools)) =
      of_constant (at_type (constant refl tt) ha (ap (λ w. term_of (arr_of w (arr_of w bools))) (lift_zero a))) relations in
      let functions = shaped-app_thm ha predicates equality equality hx hy (shaped-refl relations equality) hh in
      shaped-eq_mp (shaped-equation ha hx hx) (shaped-equation ha hy hx)
      (shaped-app_thm ha bool (of_function equality hx) (of_function equality hy) hx hx functions (shaped-refl ha hx)) (shaped-refl ha hx)

  -- the lemma of symmetry is shaped over every module
  pub sym_lemma-shaped : IsShaped m sym_lemma
  sym_lemma-shaped =
      record {
        ty = of_products of_types (of_products (of_terms (type_variable refl)) (of_products (of_terms (type_variable refl))
            (of_products (of_proofs (shaped-equation (type_variable refl) (of_entry refl refl (type_variable refl)) (of_entry refl refl (type_variable refl))))
            (of_proofs (shaped-equation (type_variable refl) (of_entry refl refl (type_variable refl)) (of_entry refl refl (type_variable refl)))))));
        body = inl (record {
          found = _;
          proof = under_binder of_types (under_binder (of_terms (type_variable refl)) (under_binder (of_terms (type_variable refl))
              (under_binder
              (of_proofs (shaped-equation (type_variable refl) (of_entry refl refl (type_variable refl)) (of_entry refl refl (type_variable refl))))
              (shaped-sym_proof (type_variable refl) (of_entry refl refl (type_variable refl)) (of_entry refl refl (type_variable refl))
              (hypothesis refl refl)))));
          near = near_same;
        });
      }
