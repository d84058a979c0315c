-- A type definition whose three definitions and two laws are checked: they have the shapes.
use Rattle.std.proofs.Common.{inr, ◌≡◌, refl, ap, ℕ, arith, true, false, List, [], ◌∷◌, Some}
use Rattle.std.specs.Prelude.{codes}
use Rattle.lp_spec.specs.declared.form.Form.TheVariants.{Def}
use Rattle.lp_spec.specs.Lemmas.{theorem}
use Rattle.lp_spec.specs.Trees.{Tree, Var, Sym, App, Lam, Pi, lift, put_all, loose}
use Rattle.lp_binding_laws.specs.Composition.{lift_zero}
use Rattle.lp_spec.specs.Modules.{Declaration, symbol, symbol_type, applied, products, types, bools, arr_of, term_of, eq_of, proof_of, fun_ext_symbol, two_functions, pointwise_equal}
use Rattle.lp_spec.specs.Shaped.{Solid, type_variable, constant, at_type, IsSimple, IsTerm, of_entry, of_constant, of_function, of_binder, IsProof, at_a_term, called, two_abstractions, pointwise, call, at_a_type, of_products, of_types, of_proofs, IsShaped, Close, close_same, close_step, close_arrow, close_application, last_call, last_defined, IsLaw, at_close_abstractions, IsCallDefinition, by_type, by_term, call_under, law_last, at_close_equation, law_under}
use Rattle.lp_check_laws.specs.ShapedCalls.{a_type, a_term, a_proof, shaped-call, shaped-equation}
use Rattle.translate_spec.specs.Scopes.{filler}

-- the domains of K, and K's type at its variables
abbrev domains : List Tree
domains = types ∷ term_of (arr_of (Var 0) bools) ∷ term_of (Var 1) ∷ proof_of (App (Var 1) (Var 0)) ∷ []

abbrev at : ℕ → List Tree → Tree
at s args = applied (Sym s) args

abbrev own : List Tree
own = Var 3 ∷ Var 2 ∷ Var 1 ∷ Var 0 ∷ []

abbrev inner : List Tree
inner = Var 4 ∷ Var 3 ∷ Var 2 ∷ Var 1 ∷ []

-- the predicate of the type definition, and its parts at a type
abbrev pred : Tree → Tree
pred c = Lam (term_of c) (eq_of (lift 1 c) (Var 0) (Var 0))

abbrev K : Tree → Tree → List Tree
K a b = let c = arr_of a b in c ∷ pred c ∷ filler c ∷ at 18 (a ∷ b ∷ filler c ∷ []) ∷ []

abbrev abs_rep_type : Tree
abs_rep_type = Pi (term_of (at 13 own)) (proof_of (eq_of (at 13 inner) (App (at 14 inner) (App (at 15 inner) (Var 0))) (Var 0)))

abbrev rep_abs_type : Tree
rep_abs_type = Pi (term_of (Var 3)) (proof_of (eq_of bools (eq_of (Var 4) (App (at 15 inner) (App (at 14 inner) (Var 0))) (Var 0)) (App (Var 3) (Var 0))))

-- the new type, at its variables in list order
abbrev two : Tree → Tree → Tree
two b a = at 19 (b ∷ a ∷ [])

abbrev m : List Declaration
m =
    symbol (codes "A0") (Pi types (Pi types (Pi (term_of (arr_of (Var 1) (Var 0))) (proof_of (App (pred (arr_of (Var 2) (Var 1))) (Var 0))))))
    ∷ record { name = codes "o_two"; form = Def; ty = Pi types (Pi types types); body = Some (Lam types (Lam types (at 13 (K (Var 0) (Var 1))))) }
    ∷ record {
      name = codes "c_mk";
      form = Def;
      ty = Pi types (Pi types (term_of (arr_of (arr_of (Var 1) (Var 0)) (two (Var 0) (Var 1)))));
      body =
          Some (Lam types (Lam types (at 14 (K (Var 1) (Var 0)))));
    }
    ∷ record {
      name = codes "c_dest";
      form = Def;
      ty = Pi types (Pi types (term_of (arr_of (two (Var 1) (Var 0)) (arr_of (Var 0) (Var 1)))));
      body =
          Some (Lam types (Lam types (at 15 (K (Var 0) (Var 1)))));
    }
    ∷ symbol (codes "sym")
    (Pi types (Pi (term_of (Var 0)) (Pi (term_of (Var 1)) (Pi (proof_of (eq_of (Var 2) (Var 1) (Var 0))) (proof_of (eq_of (Var 3) (Var 1) (Var 2)))))))
    ∷ []

module _ {G : List Tree} (a b : Tree) (ha : IsSimple m G a) (hb : IsSimple m G b) where
  arrow_simple : IsSimple m G (arr_of a b)
  arrow_simple = at_type (at_type (constant refl tt) ha refl) hb refl

  module _ (hf : IsTerm m G (pred (arr_of a b)) (arr_of (arr_of a b) bools)) (hs : IsTerm m G (filler (arr_of a b)) (arr_of a b)) where
    premise : IsProof m false G (at 18 (a ∷ b ∷ filler (arr_of a b) ∷ [])) (proof_of (App (pred (arr_of a b)) (filler (arr_of a b))))
    premise =
        let c = shaped-call m G (types ∷ types ∷ term_of (arr_of (Var 1) (Var 0)) ∷ []) (a ∷ b ∷ filler (arr_of a b) ∷ []) 18
        (proof_of (App (pred (arr_of (Var 2) (Var 1))) (Var 0))) refl tt refl
        (a_type ha, (a_type hb, (a_term (simp lift_zero hs), tt {0}))) in
        called (simp lift_zero at c)

    -- a symbol with these domains, at K
    K-call : (s : ℕ) (t : Tree) → symbol_type m s ≡ Some (products domains t) → Solid (products domains t) → loose (products domains t) ≡ 0
        → IsProof m true G (at s (K a b)) (put_all (K a b) t)
    K-call s t e solid c =
        shaped-call m G domains (K a b) s t e solid c
        (a_type arrow_simple, (a_term (simp lift_zero hf), (a_term (simp lift_zero hs), (a_proof (simp lift_zero premise), tt {0}))))

-- the parts of K where a and b are simple types, here and under a binder
module _ {G : List Tree} (a b : Tree) (ha : IsSimple m G a) (hb : IsSimple m G b) (ha' : IsSimple m (term_of (arr_of a b) ∷ G) (lift 1 a))
    (hb' : IsSimple m (term_of (arr_of a b) ∷ G) (lift 1 b)) where
  pred_shaped : IsTerm m G (pred (arr_of a b)) (arr_of (arr_of a b) bools)
  pred_shaped =
      let c' = arrow_simple (lift 1 a) (lift 1 b) ha' hb' in
      of_binder (arrow_simple a b ha hb) (constant refl tt) (shaped-equation m c' (of_entry refl refl c') (of_entry refl refl c'))

  filler_shaped : IsTerm m G (filler (arr_of a b)) (arr_of a b)
  filler_shaped =
      let c = arrow_simple a b ha hb in
      let predicates : IsSimple m G (arr_of (arr_of a b) bools) = arrow_simple (arr_of a b) bools c (constant refl tt) in
      of_function (of_constant (at_type (constant {s = 6} refl tt) c (ap (λ w. term_of (arr_of (arr_of w bools) w)) (lift_zero (arr_of a b))))
      (arrow_simple (arr_of (arr_of a b) bools) (arr_of a b) predicates c)) pred_shaped

  K_at : (s : ℕ) (t : Tree) → symbol_type m s ≡ Some (products domains t) → Solid (products domains t) → loose (products domains t) ≡ 0
      → IsProof m true G (at s (K a b)) (put_all (K a b) t)
  K_at = K-call a b ha hb pred_shaped filler_shaped

abbrev two_types : List Tree
two_types = types ∷ types ∷ []

-- the operator
operator_shaped : IsCallDefinition m [] (Lam types (Lam types (at 13 (K (Var 0) (Var 1))))) (Pi types (Pi types types))
operator_shaped = call_under
    (call_under (by_type
    (K_at {G = two_types} (Var 0) (Var 1) (type_variable refl) (type_variable refl) (type_variable refl) (type_variable refl) 13 types refl tt refl)))

-- abs and rep
abs_shaped : IsCallDefinition m [] (Lam types (Lam types (at 14 (K (Var 1) (Var 0)))))
    (Pi types (Pi types (term_of (arr_of (arr_of (Var 1) (Var 0)) (two (Var 0) (Var 1))))))
abs_shaped =
    call_under (call_under
    (by_term (K_at {G = two_types} (Var 1) (Var 0) (type_variable refl) (type_variable refl) (type_variable refl) (type_variable refl) 14
    (term_of (arr_of (Var 3) (at 13 own))) refl tt refl)
    (close_arrow close_same (close_application refl refl close_same (close_step refl close_same)))))

rep_shaped : IsCallDefinition m [] (Lam types (Lam types (at 15 (K (Var 0) (Var 1)))))
    (Pi types (Pi types (term_of (arr_of (two (Var 1) (Var 0)) (arr_of (Var 0) (Var 1))))))
rep_shaped =
    call_under (call_under
    (by_term (K_at {G = two_types} (Var 0) (Var 1) (type_variable refl) (type_variable refl) (type_variable refl) (type_variable refl) 15
    (term_of (arr_of (at 13 own) (Var 3))) refl tt refl)
    (close_arrow (close_application refl refl close_same (close_step refl close_same)) close_same)))

-- extensionality of two abstractions, before the proof
module _ {G : List Tree} {a b t u : Tree} (ha : IsSimple m G a) (hb : IsSimple m G b) (ht : IsTerm m (term_of a ∷ G) t (lift 1 b))
    (hu : IsTerm m (term_of a ∷ G) u (lift 1 b)) where
  extensional : IsProof m true G (two_abstractions a b t u)
      (Pi (pointwise a b t u) (proof_of (eq_of (arr_of (lift 1 a) (lift 1 b)) (lift 1 (Lam (term_of a) t)) (lift 1 (Lam (term_of a) u)))))
  extensional =
      let f = Lam (term_of a) t in
      let g = Lam (term_of a) u in
      let c = shaped-call m G two_functions (a ∷ b ∷ f ∷ g ∷ []) fun_ext_symbol (Pi pointwise_equal (proof_of (eq_of (arr_of (Var 4) (Var 3)) (Var 2) (Var 1))))
      refl tt refl
      (a_type ha, (a_type hb, (a_term (simp lift_zero (of_binder ha hb ht)), (a_term (simp lift_zero (of_binder ha hb hu)), tt {0})))) in
      simp lift_zero at c

-- the context of the laws: v0 = b, v1 = a
abbrev N : Tree
N = two (Var 1) (Var 0)

abbrev C : Tree
C = arr_of (Var 0) (Var 1)

N_simple : {G : List Tree} (b a : Tree) → IsSimple m G b → IsSimple m G a → IsSimple m G (two b a)
N_simple b a hb ha = at_type (at_type (constant refl tt) hb refl) ha refl

abbrev dest_of : Tree → Tree → Tree → Tree
dest_of b a x = App (at 21 (b ∷ a ∷ [])) x

abbrev mk_of : Tree → Tree → Tree → Tree
mk_of a b x = App (at 20 (a ∷ b ∷ [])) x

-- under a binder more
abbrev b' : Tree
b' = Var 2

abbrev a' : Tree
a' = Var 1

module _ (A : Tree) where
  b_simple : IsSimple m (A ∷ two_types) b'
  b_simple = type_variable refl

  a_simple : IsSimple m (A ∷ two_types) a'
  a_simple = type_variable refl

  dest_term : {x : Tree} → IsTerm m (A ∷ two_types) x (two b' a') → IsTerm m (A ∷ two_types) (dest_of b' a' x) (arr_of a' b')
  dest_term h = of_function
      (of_constant (at_type (at_type (constant refl tt) b_simple refl) a_simple refl)
      (arrow_simple (two b' a') (arr_of a' b') (N_simple b' a' b_simple a_simple) (arrow_simple a' b' a_simple b_simple))) h

  mk_term : {x : Tree} → IsTerm m (A ∷ two_types) x (arr_of a' b') → IsTerm m (A ∷ two_types) (mk_of a' b' x) (two b' a')
  mk_term h = of_function
      (of_constant (at_type (at_type (constant refl tt) a_simple refl) b_simple refl)
      (arrow_simple (arr_of a' b') (two b' a') (arrow_simple a' b' a_simple b_simple) (N_simple b' a' b_simple a_simple))) h

abbrev SK : Tree
SK = at 13 (K a' b')

-- the first law
abbrev first_left : Tree
first_left = mk_of a' b' (dest_of b' a' (Var 0))

first_law : IsLaw m two_types (App (two_abstractions N N first_left (Var 0)) (Lam (term_of N) (App (at 16 (K a' b')) (Var 0))))
    (proof_of (eq_of (arr_of N N) (Lam (term_of N) first_left) (Lam (term_of N) (Var 0))))
first_law =
    let n : IsSimple m two_types N = N_simple (Var 1) (Var 0) (type_variable refl) (type_variable refl) in
    let x : IsTerm m (term_of N ∷ two_types) (Var 0) (two b' a') = of_entry refl refl (N_simple b' a' (b_simple (term_of N)) (a_simple (term_of N))) in
    let t = mk_term (term_of N) (dest_term (term_of N) x) in
    let call = K_at {G = term_of N ∷ two_types} a' b' (type_variable refl) (type_variable refl) (type_variable refl) (type_variable refl) in
    let f = call 16 abs_rep_type refl tt refl in
    let s = call 13 types refl tt refl in
    at_close_abstractions (extensional n n t x) n n t x
    (last_defined f x refl refl refl refl s (omega arith) (omega arith) refl)
    (close_application refl refl close_same
    (close_application refl refl
    (close_application refl refl (close_application refl refl close_same (close_step refl close_same))
    (close_step refl (close_step refl (close_application refl refl close_same (close_step refl close_same)))))
    (close_step refl close_same)))
    refl

-- the second law
abbrev second_left : Tree
second_left = eq_of (arr_of a' b') (dest_of b' a' (mk_of a' b' (Var 0))) (Var 0)

abbrev second_right : Tree
second_right = App (pred (arr_of a' b')) (Var 0)

second_law : IsLaw m two_types (App (two_abstractions C bools second_left second_right) (Lam (term_of C) (App (at 17 (K a' b')) (Var 0))))
    (proof_of (eq_of (arr_of C bools) (Lam (term_of C) second_left) (Lam (term_of C) second_right)))
second_law =
    let c : IsSimple m two_types C = arrow_simple (Var 0) (Var 1) (type_variable refl) (type_variable refl) in
    let c' : IsSimple m (term_of C ∷ two_types) (arr_of a' b') = arrow_simple a' b' (a_simple (term_of C)) (b_simple (term_of C)) in
    let x : IsTerm m (term_of C ∷ two_types) (Var 0) (arr_of a' b') = of_entry refl refl c' in
    let p : IsTerm m (term_of C ∷ two_types) (pred (arr_of a' b')) (arr_of (arr_of a' b') bools) =
    pred_shaped {G = term_of C ∷ two_types} a' b' (type_variable refl) (type_variable refl) (type_variable refl) (type_variable refl) in
    let t = shaped-equation m c' (dest_term (term_of C) (mk_term (term_of C) x)) x in
    let u = of_function p x in
    let f = K_at {G = term_of C ∷ two_types} a' b' (type_variable refl) (type_variable refl) (type_variable refl) (type_variable refl) 17 rep_abs_type refl tt
    refl in
    at_close_abstractions (extensional c (constant refl tt) t u) c (constant refl tt) t u
    (last_call (at_a_term f x refl))
    (close_application refl refl close_same
    (close_application refl refl
    (close_application refl refl close_same
    (close_step refl
    (close_application refl refl
    (close_application refl refl close_same (close_step refl (close_application refl refl close_same (close_step refl close_same)))) close_same)))
    (close_step refl close_same)))
    refl

-- the laws of version 5, under the binder of their free variable
first_law_five : IsLaw m (term_of N ∷ two_types) (App (at 16 (K a' b')) (Var 0))
    (proof_of (eq_of SK (App (at 14 (K a' b')) (App (at 15 (K a' b')) (Var 0))) (Var 0)))
first_law_five =
    let x : IsTerm m (term_of N ∷ two_types) (Var 0) (two b' a') = of_entry refl refl (N_simple b' a' (b_simple (term_of N)) (a_simple (term_of N))) in
    let call = K_at {G = term_of N ∷ two_types} a' b' (type_variable refl) (type_variable refl) (type_variable refl) (type_variable refl) in
    law_last (omega arith)
    (last_defined (call 16 abs_rep_type refl tt refl) x refl refl refl refl (call 13 types refl tt refl) (omega arith) (omega arith) refl)

first_close_five : Close m 3 (proof_of (eq_of (two b' a') first_left (Var 0)))
    (proof_of (eq_of SK (App (at 14 (K a' b')) (App (at 15 (K a' b')) (Var 0))) (Var 0)))
first_close_five =
    close_application refl refl close_same
    (close_application refl refl
    (close_application refl refl (close_application refl refl close_same (close_step refl close_same))
    (close_step refl (close_application refl refl close_same (close_step refl close_same))))
    close_same)

second_law_five : IsLaw m (term_of C ∷ two_types) (App (at 22 (bools ∷ second_left ∷ second_right ∷ [])) (App (at 17 (K a' b')) (Var 0)))
    (proof_of (eq_of bools second_right second_left))
second_law_five =
    let c' : IsSimple m (term_of C ∷ two_types) (arr_of a' b') = arrow_simple a' b' (a_simple (term_of C)) (b_simple (term_of C)) in
    let x : IsTerm m (term_of C ∷ two_types) (Var 0) (arr_of a' b') = of_entry refl refl c' in
    let p : IsTerm m (term_of C ∷ two_types) (pred (arr_of a' b')) (arr_of (arr_of a' b') bools) =
    pred_shaped {G = term_of C ∷ two_types} a' b' (type_variable refl) (type_variable refl) (type_variable refl) (type_variable refl) in
    let t = shaped-equation m c' (dest_term (term_of C) (mk_term (term_of C) x)) x in
    let u = of_function p x in
    let f = K_at {G = term_of C ∷ two_types} a' b' (type_variable refl) (type_variable refl) (type_variable refl) (type_variable refl) 17 rep_abs_type refl tt
    refl in
    at_close_equation (at_a_term (at_a_term (at_a_type (call refl tt) (constant refl tt) refl) t refl) u refl) t u (omega arith) (omega arith)
    (last_call (at_a_term f x refl))
    (close_application refl refl close_same
    (close_application refl refl
    (close_application refl refl close_same
    (close_application refl refl
    (close_application refl refl close_same (close_step refl (close_application refl refl close_same (close_step refl close_same)))) close_same))
    close_same))
    refl

-- as declarations
operator_declaration : IsShaped m
    (record { name = codes "o_two"; form = Def; ty = Pi types (Pi types types); body = Some (Lam types (Lam types (at 13 (K (Var 0) (Var 1))))) })
operator_declaration = record { ty = of_products of_types (of_products of_types of_types); body = inr (operator_shaped, omega arith) }

law_declaration : IsShaped m
    (theorem (codes "L1") two_types (proof_of (eq_of (arr_of N N) (Lam (term_of N) first_left) (Lam (term_of N) (Var 0))))
    (App (two_abstractions N N first_left (Var 0)) (Lam (term_of N) (App (at 16 (K a' b')) (Var 0)))))
law_declaration =
    let n : IsSimple m two_types N = N_simple (Var 1) (Var 0) (type_variable refl) (type_variable refl) in
    let x : IsTerm m (term_of N ∷ two_types) (Var 0) (two b' a') = of_entry refl refl (N_simple b' a' (b_simple (term_of N)) (a_simple (term_of N))) in
    record {
      ty = of_products of_types
          (of_products of_types
          (of_proofs (shaped-equation m (arrow_simple N N n n) (of_binder n n (mk_term (term_of N) (dest_term (term_of N) x))) (of_binder n n x))));
      body = inr (record { found = _; law = law_under of_types (law_under of_types first_law); close = close_same });
    }
