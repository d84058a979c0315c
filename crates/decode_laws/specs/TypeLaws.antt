-- A type is decoded exactly where a tree stands for one.
use Rattle.std.proofs.Common.{◌≡◌, ℕ, suc, ◌-◌, ◌<◌, List, [], ◌∷◌, length, ◌&&◌, Some, refl, sym, ap, subst, ◌∙◌, arith}
use Rattle.std.specs.Prelude.{nat_lt}
use Rattle.std.specs.Option.{option_map}
use Rattle.std.proofs.lemmas.Bool.Decides.{Decides-ltb}
use Rattle.std.proofs.lemmas.Bool.{and_parts, and_from}
use Rattle.hol_spec.specs.ClosedForm.{ClosedType, ClosedTypes}
use Rattle.lp_spec.specs.Trees.{Tree, SortType, SortKind, Var, Sym, App, Lam, Pi}
use Rattle.lp_spec.specs.Modules.{Declaration, applied}
use Rattle.translate_spec.specs.OperatorMeaning.{MeansOperator}
use Rattle.translate_spec.specs.TypeEnc.{Place, depth_of, StandsForType, StandForTypes}
use Rattle.decode_spec.specs.Options.{bind}
use Rattle.decode_laws.specs.OptionLaws.{some-injective, bind-is, provided-is, provided-true}
use Rattle.decode_spec.specs.Decode.{operator_at, closed_count, type_parameter, type_from, type_of_tree}
use Rattle.decode_laws.specs.SymbolLaws.{operator_at-is, operator_at-means}
use Rattle.lp_binding_laws.specs.LookUps.{option_map-some}

-- a list of types behind which others stand
abbrev pub joined : ClosedTypes → ClosedTypes → ClosedTypes
joined ClosedTypes.none us = us
joined (ClosedTypes.more t ts) us = ClosedTypes.more t (joined ts us)

pub joined-none : (ts : ClosedTypes) → joined ts ClosedTypes.none ≡ ts
joined-none ClosedTypes.none = refl
joined-none (ClosedTypes.more t ts) = ap (ClosedTypes.more t) (joined-none ts)

module _ (d : List Declaration) (at : Place) where
  pub count-stand : (ts : ClosedTypes) (As : List Tree) → StandForTypes d ts at As → closed_count ts ≡ length As
  count-stand ClosedTypes.none [] h = refl
  count-stand ClosedTypes.none (A ∷ As) h = absurd h
  count-stand (ClosedTypes.more t ts) [] h = absurd h
  count-stand (ClosedTypes.more t ts) (A ∷ As) h = ap suc (count-stand ts As h.1)

  type_parameter-is : (v : ℕ) (t : ClosedType) → type_parameter at v ≡ Some t → StandsForType d t at (Var v)
  type_parameter-is v t e =
      let p = provided-is (nat_lt v (depth_of at) && nat_lt (depth_of at - suc v) at.type_variables) (Some (ClosedType.parameter (depth_of at - suc v))) t e in
      let q = and_parts (nat_lt v (depth_of at)) (nat_lt (depth_of at - suc v) at.type_variables) p.0 in
      let below : v < depth_of at = (Decides-ltb v (depth_of at)).0 q.0 in
      let own : depth_of at - suc v < at.type_variables = (Decides-ltb (depth_of at - suc v) at.type_variables).0 q.1 in
      let back : v ≡ depth_of at - suc (depth_of at - suc v) = omega (arith, below) in
      subst (λ u. StandsForType d u at (Var v)) (some-injective p.1) (own, ap Var back)

  type_parameter-stands : (i : ℕ) → i < at.type_variables → type_parameter at (depth_of at - suc i) ≡ Some (ClosedType.parameter i)
  type_parameter-stands i h =
      let D = depth_of at in
      let l : i < D = omega (arith, h) in
      let below : D - suc i < D = omega (arith, l) in
      let back : D - suc (D - suc i) ≡ i = omega (arith, l) in
      let own : D - suc (D - suc i) < at.type_variables = omega (arith, back, h) in
      provided-true (nat_lt (D - suc i) D && nat_lt (D - suc (D - suc i)) at.type_variables) (Some (ClosedType.parameter (D - suc (D - suc i))))
      (and_from (nat_lt (D - suc i) D) (nat_lt (D - suc (D - suc i)) at.type_variables) ((Decides-ltb (D - suc i) D).1 below)
      ((Decides-ltb (D - suc (D - suc i)) at.type_variables).1 own))
      ∙ ap (λ j. Some (ClosedType.parameter j)) back

  pub type_from-is : (A : Tree) (args : ClosedTypes) (t : ClosedType) → type_from d at A args ≡ Some t → (Xs : List Tree) → StandForTypes d args at Xs
      → StandsForType d t at (applied A Xs)
  type_from-is SortType args t e Xs h = absurd (cc)
  type_from-is SortKind args t e Xs h = absurd (cc)
  type_from-is (Var v) ClosedTypes.none t e [] h = type_parameter-is v t e
  type_from-is (Var v) ClosedTypes.none t e (X ∷ Xs) h = absurd h
  type_from-is (Var v) (ClosedTypes.more u us) t e Xs h = absurd (cc)
  type_from-is (Sym s) args t e Xs h =
      let p = option_map-some (λ n. ClosedType.operator n args) (operator_at d s (closed_count args)) t e in
      let means : MeansOperator d s p.0 (length Xs) =
      subst (λ k. MeansOperator d s p.0 k) (count-stand args Xs h) (operator_at-is d s (closed_count args) p.0 p.1) in
      subst (λ u. StandsForType d u at (applied (Sym s) Xs)) p.2 (s, Xs, means, h, refl)
  type_from-is (App f x) args t e Xs h =
      let p = bind-is (type_from d at x ClosedTypes.none) (λ u. type_from d at f (ClosedTypes.more u args)) t e in
      let first : StandsForType d p.0 at x = type_from-is x ClosedTypes.none p.0 p.1 [] (tt {0}) in
      type_from-is f (ClosedTypes.more p.0 args) t p.2 (x ∷ Xs) (first, h)
  type_from-is (Lam a b) args t e Xs h = absurd (cc)
  type_from-is (Pi a b) args t e Xs h = absurd (cc)

  pub type_of_tree-is : (A : Tree) (t : ClosedType) → type_of_tree d at A ≡ Some t → StandsForType d t at A
  type_of_tree-is A t e = type_from-is A ClosedTypes.none t e [] (tt {0})

  mutual
    pub type_of_tree-stands : (t : ClosedType) (A : Tree) → StandsForType d t at A → type_of_tree d at A ≡ Some t
    type_of_tree-stands (ClosedType.parameter i) A h = ap (type_of_tree d at) h.1 ∙ type_parameter-stands i h.0
    type_of_tree-stands (ClosedType.operator n ts) A h =
        ap (type_of_tree d at) h.4
        ∙ types-stand ts h.1 (Sym h.0) ClosedTypes.none h.3
        ∙ ap (λ us. option_map (λ m. ClosedType.operator m us) (operator_at d h.0 (closed_count us))) (joined-none ts)
        ∙ ap (option_map (λ m. ClosedType.operator m ts))
        (operator_at-means d h.0 (closed_count ts) n (subst (λ k. MeansOperator d h.0 n k) (sym (count-stand ts h.1 h.3)) h.2))

    pub types-stand : (ts : ClosedTypes) (As : List Tree) (f : Tree) (acc : ClosedTypes) → StandForTypes d ts at As
        → type_from d at (applied f As) acc ≡ type_from d at f (joined ts acc)
    types-stand ClosedTypes.none [] f acc h = refl
    types-stand ClosedTypes.none (A ∷ As) f acc h = absurd h
    types-stand (ClosedTypes.more t ts) [] f acc h = absurd h
    types-stand (ClosedTypes.more t ts) (A ∷ As) f acc h =
        types-stand ts As (App f A) acc h.1
        ∙ ap (λ o. bind o (λ u. type_from d at f (ClosedTypes.more u (joined ts acc)))) (type_of_tree-stands t A h.0)
