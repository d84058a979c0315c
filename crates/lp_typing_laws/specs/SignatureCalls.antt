-- How the rules of the signature are typed at typed arguments: each proves what it says.
use Rattle.std.proofs.Common.{refl, List, [], ◌∷◌, ◌++◌}
use Rattle.lp_spec.specs.Trees.{Tree, Var, Sym, App, Pi, lift}
use Rattle.lp_binding_laws.specs.Composition.{lift_zero}
use Rattle.lp_spec.specs.Modules.{Declaration, applied, types, bools, arr_of, term_of, eq_of, proof_of, refl_of, two_functions, pointwise_equal, refl_symbol, fun_ext_symbol, app_thm_symbol, prop_ext_symbol, eq_mp_symbol}
use Rattle.lp_spec.specs.Typing.{Typed}
use Rattle.lp_binding_laws.specs.Arguments.{Typed-call}

module _ (m : List Declaration) where
  -- `refl a x` proves x = x
  pub Typed-refl_of : {G : List Tree} {a x : Tree} → Typed m G a types → Typed m G x (term_of a) → Typed m G (refl_of a x) (proof_of (eq_of a x x))
  Typed-refl_of {G = G} {a = a} {x = x} ha hx =
      let call = Typed-call m G (types ∷ term_of (Var 0) ∷ []) (a ∷ x ∷ []) refl_symbol (proof_of (eq_of (Var 1) (Var 0) (Var 0))) refl refl
      (ha, (simp lift_zero hx, tt {0})) in
      simp lift_zero at call

  -- `fun_ext a b f g h` proves f = g, from h of f x = g x for each x
  pub Typed-fun_ext : {G : List Tree} {a b f g h : Tree} → Typed m G a types → Typed m G b types → Typed m G f (term_of (arr_of a b))
      → Typed m G g (term_of (arr_of a b))
      → Typed m G h (Pi (term_of a) (proof_of (eq_of (lift 1 b) (App (lift 1 f) (Var 0)) (App (lift 1 g) (Var 0)))))
      → Typed m G (applied (Sym fun_ext_symbol) (a ∷ b ∷ f ∷ g ∷ h ∷ [])) (proof_of (eq_of (arr_of a b) f g))
  Typed-fun_ext {G = G} {a = a} {b = b} {f = f} {g = g} {h = h} ha hb hf hg hh =
      let call = Typed-call m G (two_functions ++ pointwise_equal ∷ []) (a ∷ b ∷ f ∷ g ∷ h ∷ []) fun_ext_symbol
      (proof_of (eq_of (arr_of (Var 4) (Var 3)) (Var 2) (Var 1))) refl refl
      (ha, (hb, (simp lift_zero hf, (simp lift_zero hg, (simp lift_zero hh, tt {0}))))) in
      simp lift_zero at call

  -- `app_thm a b f g x y h k` proves f x = g y, from h of f = g and k of x = y
  pub Typed-app_thm : {G : List Tree} {a b f g x y h k : Tree} → Typed m G a types → Typed m G b types → Typed m G f (term_of (arr_of a b))
      → Typed m G g (term_of (arr_of a b))
      → Typed m G x (term_of a) → Typed m G y (term_of a) → Typed m G h (proof_of (eq_of (arr_of a b) f g)) → Typed m G k (proof_of (eq_of a x y))
      → Typed m G (applied (Sym app_thm_symbol) (a ∷ b ∷ f ∷ g ∷ x ∷ y ∷ h ∷ k ∷ [])) (proof_of (eq_of b (App f x) (App g y)))
  Typed-app_thm {G = G} {a = a} {b = b} {f = f} {g = g} {x = x} {y = y} {h = h} {k = k} ha hb hf hg hx hy hh hk =
      let domains = two_functions ++ term_of (Var 3) ∷ term_of (Var 4) ∷ proof_of (eq_of (arr_of (Var 5) (Var 4)) (Var 3) (Var 2)) ∷ proof_of
      (eq_of (Var 6) (Var 2) (Var 1)) ∷ [] in
      let call = Typed-call m G domains (a ∷ b ∷ f ∷ g ∷ x ∷ y ∷ h ∷ k ∷ []) app_thm_symbol
      (proof_of (eq_of (Var 6) (App (Var 5) (Var 3)) (App (Var 4) (Var 2)))) refl refl
      (ha, (hb, (simp lift_zero hf, (simp lift_zero hg, (simp lift_zero hx, (simp lift_zero hy, (simp lift_zero hh, (simp lift_zero hk, tt {0})))))))) in
      simp lift_zero at call

  -- `prop_ext p q h k` proves p = q, from h of p -> q and k of q -> p
  pub Typed-prop_ext : {G : List Tree} {p q h k : Tree} → Typed m G p (term_of bools) → Typed m G q (term_of bools)
      → Typed m G h (Pi (proof_of p) (proof_of (lift 1 q))) → Typed m G k (Pi (proof_of q) (proof_of (lift 1 p)))
      → Typed m G (applied (Sym prop_ext_symbol) (p ∷ q ∷ h ∷ k ∷ [])) (proof_of (eq_of bools p q))
  Typed-prop_ext {G = G} {p = p} {q = q} {h = h} {k = k} hp hq hh hk =
      let domains = term_of bools ∷ term_of bools ∷ Pi (proof_of (Var 1)) (proof_of (Var 1)) ∷ Pi (proof_of (Var 1)) (proof_of (Var 3)) ∷ [] in
      let call = Typed-call m G domains (p ∷ q ∷ h ∷ k ∷ []) prop_ext_symbol (proof_of (eq_of bools (Var 3) (Var 2))) refl refl
      (hp, (hq, (simp lift_zero hh, (simp lift_zero hk, tt {0})))) in
      simp lift_zero at call

  -- `eq_mp p q h k` proves q, from h of p = q and k of p
  pub Typed-eq_mp : {G : List Tree} {p q h k : Tree} → Typed m G p (term_of bools) → Typed m G q (term_of bools) → Typed m G h (proof_of (eq_of bools p q))
      → Typed m G k (proof_of p)
      → Typed m G (applied (Sym eq_mp_symbol) (p ∷ q ∷ h ∷ k ∷ [])) (proof_of q)
  Typed-eq_mp {G = G} {p = p} {q = q} {h = h} {k = k} hp hq hh hk =
      let domains = term_of bools ∷ term_of bools ∷ proof_of (eq_of bools (Var 1) (Var 0)) ∷ proof_of (Var 2) ∷ [] in
      let call = Typed-call m G domains (p ∷ q ∷ h ∷ k ∷ []) eq_mp_symbol (proof_of (Var 2)) refl refl
      (hp, (hq, (simp lift_zero hh, (simp lift_zero hk, tt {0})))) in
      simp lift_zero at call
