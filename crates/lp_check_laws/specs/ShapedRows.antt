-- Shapes of the rows in which conversion has work to do: extensionality, beta and definitions.
use Rattle.std.proofs.Common.{◌≡◌, refl, false, List, [], ◌∷◌, Some}
use Rattle.lp_spec.specs.Trees.{Tree, Var, Sym, App, Lam, Pi, lift, put}
use Rattle.lp_binding_laws.specs.Composition.{lift_zero}
use Rattle.lp_binding_laws.specs.Binding.{put-lift}
use Rattle.lp_spec.specs.Modules.{Declaration, applied, arr_of, term_of, eq_of, proof_of, two_functions, pointwise_equal, fun_ext_symbol}
use Rattle.lp_spec.specs.HeadSteps.{head_step}
use Rattle.lp_spec.specs.Shaped.{IsSimple, IsTerm, of_binder, Near, near_same, near_head, near_application, IsProof, at_abstractions, called}
use Rattle.lp_check_laws.specs.ShapedCalls.{a_type, a_term, shaped-call}

module _ (m : List Declaration) where
  -- extensionality at two abstractions
  pub shaped-fun_ext : {G : List Tree} {a b t u h : Tree} → IsSimple m G a → IsSimple m G b → IsTerm m (term_of a ∷ G) t (lift 1 b)
      → IsTerm m (term_of a ∷ G) u (lift 1 b) → IsProof m false (term_of a ∷ G) h (proof_of (eq_of (lift 1 b) t u))
      → IsProof m false G (applied (Sym fun_ext_symbol) (a ∷ b ∷ Lam (term_of a) t ∷ Lam (term_of a) u ∷ Lam (term_of a) h ∷ []))
      (proof_of (eq_of (arr_of a b) (Lam (term_of a) t) (Lam (term_of a) u)))
  shaped-fun_ext {G = G} {a = a} {b = b} {t = t} {u = u} {h = h} ha hb ht hu hh =
      let f = Lam (term_of a) t in
      let g = Lam (term_of a) u in
      let c = shaped-call m G two_functions (a ∷ b ∷ f ∷ g ∷ []) fun_ext_symbol (Pi pointwise_equal (proof_of (eq_of (arr_of (Var 4) (Var 3)) (Var 2) (Var 1))))
      refl tt refl
      (a_type ha, (a_type hb, (a_term (simp lift_zero (of_binder ha hb ht)), (a_term (simp lift_zero (of_binder ha hb hu)), tt {0})))) in
      called (at_abstractions (simp lift_zero at c) ha hb ht hu hh (simp put-lift refl))

  -- the equation of a redex with what it becomes, near that of the latter with itself
  pub near-beta : (a b t x : Tree) → Near m (proof_of (eq_of b (App (Lam a t) x) (put x t))) (proof_of (eq_of b (put x t) (put x t)))
  near-beta a b t x = near_application refl refl near_same (near_application refl refl (near_application refl refl near_same (near_head refl)) near_same)

  -- the equation of a defined constant with its body
  pub near-definition : (a c t : Tree) → head_step m c ≡ Some t → Near m (proof_of (eq_of a c t)) (proof_of (eq_of a t t))
  near-definition a c t e = near_application refl refl near_same (near_application refl refl (near_application refl refl near_same (near_head e)) near_same)
