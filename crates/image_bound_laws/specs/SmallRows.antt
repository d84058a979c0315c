-- Costs of the rows of the table of bodies, in a plain scope.
use Rattle.std.proofs.Common.{◌≡◌, ℕ, ◌+◌, ◌*◌, ◌≤◌, List, [], ◌∷◌, map, length, Bool, true, false, cond, refl, sym, ap, ◌∙◌, arith}
use Rattle.std.specs.List.{AllByRecursion, IsDistinct, flat_map}
use Rattle.std.proofs.lemmas.Map.Keys.{IsDistinct-tail, IsDistinct-head}
use Rattle.hol_spec.specs.Names.{Name}
use Rattle.hol_spec.specs.Types.{HolType}
use Rattle.hol_spec.specs.Limits.{type_size, term_size, greatest_size}
use Rattle.hol_spec.specs.Substitution.{TypePairs, image, substitute}
use Rattle.hol_spec.specs.NameEquality.{name_eq}
use Rattle.hol_spec.specs.Terms.{Term, Variable, variable_eq, term_eq, free_places, type_variable_places}
use Rattle.hol_spec.specs.TermSubstitution.{TermPairs, term_image, sub, AreFitting}
use Rattle.hol_spec.specs.Sequents.{Sequent, terms_of, type_variables_of, free_variables_of}
use Rattle.hol_laws.specs.TermLaws.{term_eq-Decides}
use Rattle.hol_laws.specs.Members.{All-weaker, All-left, All-right}
use Rattle.hol_proof_laws.specs.SymbolGrowth.{symmetric}
use Rattle.lp_spec.specs.Trees.{Tree, Lam, size}
use Rattle.lp_spec.specs.Modules.{Declaration, term_of, proof_of}
use Rattle.translate_spec.specs.Scopes.{SymbolMap, type_tree, Scope, term_tree, under_term, under_proof, set_proof, images}
use Rattle.translate_spec.specs.ProofTrees.{premise_tree, abs_tree, refl_tree, eq_mp_tree, fun_ext_tree, app_thm_tree, prop_ext_tree, sym_tree, trans_tree, prove_hyp_tree, subst_tree}
use Rattle.translate_laws.specs.ScopeLaws.{type_tree-substitute}
use Rattle.translate_laws.specs.TermScopeLaws.{term_tree-substitution}
use Rattle.translate_laws.specs.ScopeTyping.{TypeOver, TermOver, AreInstances-over}
use Rattle.translate_laws.specs.SequentScope.{with_proofs, term_tree-proofs, SequentOver-instances}
use Rattle.translate_laws.specs.SubstitutionBody.{AreFitting-closed, all_types-over, all_terms-over}
use Rattle.translate_laws.specs.Bodies.{HasLemmas}
use Rattle.image_bound_laws.specs.TermMeasures.{All-distinct}
use Rattle.image_bound_laws.specs.TermSizes.{type_images-size, term_images_of-size, image_type-size}
use Rattle.image_bound_laws.specs.ShallowRows.{every}
use Rattle.image_bound_laws.specs.Costs.{cost, total, plain-cost}
use Rattle.image_bound_laws.specs.SmallScopes.{IsPlainScope, type_tree-size, under_term-plain, under_proof-plain}
use Rattle.image_bound_laws.specs.SmallTheorems.{part_cost, variable_sizes, term_sizes, argument_cost, theorem_tree-cost}
use Rattle.image_bound_laws.specs.HeadCosts.{refl_of-cost, eq_mp-cost, prop_ext-cost, fun_ext-cost, app_thm-cost, sym-cost, trans-cost}
use Rattle.image_bound_laws.specs.SmallPremises.{row_cost, IsSmallTerm, IsSmallType, IsSmallPremise, ty-cost, tm-cost, plain-total, own-cost, premise-cost}

-- the proof of one hypothesis among those of a list without repeats
module _ (m : List Declaration) (f : Term → Tree) (p : Term) (x : Tree) where
  without_it : (hs : List Term) → AllByRecursion (λ g. cost m [] (f g) ≤ 2) hs → AllByRecursion (λ g. term_eq g p ≡ false) hs
      → total m (map (λ g. cond (term_eq g p) x (f g)) hs) ≤ 3 * length hs
  without_it [] h k = omega arith
  without_it (g ∷ gs) h k =
      let same = ap (λ b. cost m [] (cond b x (f g))) k.0 in
      let rest = without_it gs h.1 k.1 in
      omega (arith, same, rest, h.0)

  once : (hs : List Term) → IsDistinct term_eq hs → AllByRecursion (λ g. cost m [] (f g) ≤ 2) hs
      → total m (map (λ g. cond (term_eq g p) x (f g)) hs) ≤ 3 * length hs + cost m [] x + 1
  once [] d h = omega arith
  once (g ∷ gs) d h = go (term_eq g p) refl (once gs (IsDistinct-tail term_eq g gs d) h.1)
    where
      others : g ≡ p → (ks : List Term) → AllByRecursion (λ y. term_eq g y ≡ false) ks → AllByRecursion (λ y. term_eq y p ≡ false) ks
      others e [] k = tt
      others e (y ∷ ys) k = (ap (term_eq y) (sym e) ∙ symmetric term_eq term_eq-Decides g y k.0, others e ys k.1)

      go : (b : Bool) → term_eq g p ≡ b → total m (map (λ g. cond (term_eq g p) x (f g)) gs) ≤ 3 * length gs + cost m [] x + 1
          → total m (map (λ g. cond (term_eq g p) x (f g)) (g ∷ gs)) ≤ 3 * length (g ∷ gs) + cost m [] x + 1
      go true e later =
          let same = ap (λ b. cost m [] (cond b x (f g))) e in
          let rest = without_it gs h.1 (others ((term_eq-Decides g p).0 e) gs (IsDistinct-head term_eq g gs d)) in
          omega (arith, same, rest)
      go false e later = let same = ap (λ b. cost m [] (cond b x (f g))) e in omega (arith, same, later, h.0)

-- the sizes of terms owe nothing to what stands for hypotheses
term_sizes-proofs : (symbols : SymbolMap) (proofs : Term → Tree) (scope : Scope) (ts : List Term)
    → term_sizes symbols (with_proofs proofs scope) ts ≡ term_sizes symbols scope ts
term_sizes-proofs symbols proofs scope [] = refl
term_sizes-proofs symbols proofs scope (t ∷ ts) =
    let same = ap size (term_tree-proofs symbols proofs scope t) in
    let rest = term_sizes-proofs symbols proofs scope ts in
    omega (arith, same, rest)

arguments-proofs : (m : List Declaration) (symbols : SymbolMap) (proofs : Term → Tree) (scope : Scope) (s : Sequent)
    → argument_cost symbols (with_proofs proofs scope) m s ≡ argument_cost symbols scope m s
arguments-proofs m symbols proofs scope s =
    let hypotheses = term_sizes-proofs symbols proofs scope s.hypotheses in
    let conclusion = ap size (term_tree-proofs symbols proofs scope s.conclusion) in
    omega (arith, hypotheses, conclusion)

module _ (m : List Declaration) (lemmas : HasLemmas m) (symbols : SymbolMap) (scope : Scope) (h : IsPlainScope symbols scope) where
  pub refl-cost : (a : HolType) (t : Term) → IsSmallType m symbols a → IsSmallTerm m symbols t → cost m [] (refl_tree symbols scope a t) ≤ row_cost
  refl-cost a t k l =
      let b = ty-cost m symbols scope h a k in
      let u = tm-cost m symbols scope h t l in
      let whole = refl_of-cost m part_cost (type_tree symbols scope.types a) (term_tree symbols scope t) (omega (arith, b)) (omega (arith, u)) in
      omega (arith, whole)

  pub eq_mp_row-cost : (p q : Term) (i j : ℕ) (one two : Sequent) → IsSmallTerm m symbols p → IsSmallTerm m symbols q → IsSmallPremise m symbols i one
      → IsSmallPremise m symbols j two
      → cost m [] (eq_mp_tree symbols scope p q (i, one) (j, two)) ≤ row_cost
  eq_mp_row-cost p q i j one two k l v w =
      let a = tm-cost m symbols scope h p k in
      let b = tm-cost m symbols scope h q l in
      let c = premise-cost m symbols scope h i one v in
      let d = premise-cost m symbols scope h j two w in
      let whole = eq_mp-cost m part_cost (term_tree symbols scope p) (term_tree symbols scope q) (premise_tree scope (i, one)) (premise_tree scope (j, two))
      (omega (arith, a)) (omega (arith, b)) in
      omega (arith, whole, c, d)

  pub app_thm_row-cost : (a b : HolType) (f g x y : Term) (i j : ℕ) (one two : Sequent) → IsSmallType m symbols a → IsSmallType m symbols b
      → IsSmallTerm m symbols f → IsSmallTerm m symbols g → IsSmallTerm m symbols x → IsSmallTerm m symbols y
      → IsSmallPremise m symbols i one → IsSmallPremise m symbols j two → cost m [] (app_thm_tree symbols scope a b f g x y (i, one) (j, two)) ≤ row_cost
  app_thm_row-cost a b f g x y i j one two ha hb hf hg hx hy v w =
      let la = ty-cost m symbols scope h a ha in
      let lb = ty-cost m symbols scope h b hb in
      let lf = tm-cost m symbols scope h f hf in
      let lg = tm-cost m symbols scope h g hg in
      let lx = tm-cost m symbols scope h x hx in
      let ly = tm-cost m symbols scope h y hy in
      let c = premise-cost m symbols scope h i one v in
      let d = premise-cost m symbols scope h j two w in
      let whole = app_thm-cost m part_cost (type_tree symbols scope.types a) (type_tree symbols scope.types b) (term_tree symbols scope f)
      (term_tree symbols scope g) (term_tree symbols scope x) (term_tree symbols scope y)
      (premise_tree scope (i, one)) (premise_tree scope (j, two)) (omega (arith, la)) (omega (arith, lb)) (omega (arith, lf)) (omega (arith, lg))
      (omega (arith, lx)) (omega (arith, ly)) in
      omega (arith, whole, c, d)

  pub sym_row-cost : (a : HolType) (x y : Term) (i : ℕ) (one : Sequent) → IsSmallType m symbols a → IsSmallTerm m symbols x → IsSmallTerm m symbols y
      → IsSmallPremise m symbols i one → cost m [] (sym_tree symbols scope a x y (i, one)) ≤ row_cost
  sym_row-cost a x y i one ha hx hy v =
      let la = ty-cost m symbols scope h a ha in
      let lx = tm-cost m symbols scope h x hx in
      let ly = tm-cost m symbols scope h y hy in
      let c = premise-cost m symbols scope h i one v in
      let whole = sym-cost m part_cost lemmas (type_tree symbols scope.types a) (term_tree symbols scope x) (term_tree symbols scope y)
      (premise_tree scope (i, one)) (omega (arith, la)) (omega (arith, lx)) (omega (arith, ly)) in
      omega (arith, whole, c)

  pub trans_row-cost : (a : HolType) (x y z : Term) (i j : ℕ) (one two : Sequent) → IsSmallType m symbols a → IsSmallTerm m symbols x → IsSmallTerm m symbols y
      → IsSmallTerm m symbols z → IsSmallPremise m symbols i one → IsSmallPremise m symbols j two
      → cost m [] (trans_tree symbols scope a x y z (i, one) (j, two)) ≤ row_cost
  trans_row-cost a x y z i j one two ha hx hy hz v w =
      let la = ty-cost m symbols scope h a ha in
      let lx = tm-cost m symbols scope h x hx in
      let ly = tm-cost m symbols scope h y hy in
      let lz = tm-cost m symbols scope h z hz in
      let c = premise-cost m symbols scope h i one v in
      let d = premise-cost m symbols scope h j two w in
      let whole = trans-cost m part_cost lemmas (type_tree symbols scope.types a) (term_tree symbols scope x) (term_tree symbols scope y)
      (term_tree symbols scope z)
      (premise_tree scope (i, one)) (premise_tree scope (j, two)) (omega (arith, la)) (omega (arith, lx)) (omega (arith, ly)) (omega (arith, lz)) in
      omega (arith, whole, c, d)

  abs_tree-cost : (v : Variable) (t : Term) → IsSmallType m symbols v.1 → IsSmallTerm m symbols t → cost m [] (abs_tree symbols scope v t) ≤ 2 * part_cost
  abs_tree-cost v t k l =
      let a = ty-cost m symbols scope h v.1 k in
      let u = tm-cost m symbols (under_term v scope) (under_term-plain symbols v scope h) t l in
      omega (arith, a, u)

  pub fun_ext_row-cost : (v : Variable) (b : HolType) (t u : Term) (i : ℕ) (one : Sequent) → IsSmallType m symbols v.1 → IsSmallType m symbols b
      → IsSmallTerm m symbols t → IsSmallTerm m symbols u → IsSmallPremise m symbols i one
      → cost m [] (fun_ext_tree symbols scope v b t u (i, one)) ≤ row_cost
  fun_ext_row-cost v b t u i one hv hb ht hu w =
      let la = ty-cost m symbols scope h v.1 hv in
      let lb = ty-cost m symbols scope h b hb in
      let lt = abs_tree-cost v t hv ht in
      let lu = abs_tree-cost v u hv hu in
      let c = premise-cost m symbols (under_term v scope) (under_term-plain symbols v scope h) i one w in
      let whole = fun_ext-cost m (2 * part_cost) (type_tree symbols scope.types v.1) (type_tree symbols scope.types b) (abs_tree symbols scope v t)
      (abs_tree symbols scope v u)
      (Lam (term_of (type_tree symbols scope.types v.1)) (premise_tree (under_term v scope) (i, one))) (omega (arith, la)) (omega (arith, lb)) lt lu in
      omega (arith, whole, c, la)

  pub prop_ext_row-cost : (p q : Term) (i j : ℕ) (one two : Sequent) → IsSmallTerm m symbols p → IsSmallTerm m symbols q → IsSmallPremise m symbols i one
      → IsSmallPremise m symbols j two
      → cost m [] (prop_ext_tree symbols scope p q (i, one) (j, two)) ≤ row_cost
  prop_ext_row-cost p q i j one two k l v w =
      let a = tm-cost m symbols scope h p k in
      let b = tm-cost m symbols scope h q l in
      let c = premise-cost m symbols (under_proof q scope) (under_proof-plain symbols q scope h) i one v in
      let d = premise-cost m symbols (under_proof p scope) (under_proof-plain symbols p scope h) j two w in
      let whole = prop_ext-cost m part_cost (term_tree symbols scope p) (term_tree symbols scope q)
      (Lam (proof_of (term_tree symbols scope p)) (premise_tree (under_proof p scope) (j, two)))
      (Lam (proof_of (term_tree symbols scope q)) (premise_tree (under_proof q scope) (i, one))) (omega (arith, a)) (omega (arith, b)) in
      omega (arith, whole, a, b, c, d)

  pub prove_hyp_row-cost : (p : Term) (i j : ℕ) (one two : Sequent) → IsSmallPremise m symbols i one → IsSmallPremise m symbols j two
      → cost m [] (prove_hyp_tree symbols scope p (i, one) (j, two)) ≤ row_cost
  prove_hyp_row-cost p i j one two v w =
      let x = premise_tree scope (i, one) in
      let c = premise-cost m symbols scope h i one v in
      let proofs = once m scope.proofs p x two.hypotheses w.is.is.no_repeats (every _ (λ g. plain-cost m [] (scope.proofs g) (h.proofs g)) two.hypotheses) in
      let whole = theorem_tree-cost m symbols (set_proof p x scope) two j w.is.declared w.is.is (SequentOver-instances m symbols two w.is.over) in
      let same = arguments-proofs m symbols (set_proof p x scope).proofs scope two in
      let own = own-cost m symbols scope h two w.is.over in
      let size = w.within.size in
      let most = w.within.parameters in
      omega (arith, whole, same, own, proofs, c, size, most)

  pub restate_row-cost : (i : ℕ) (one : Sequent) → IsSmallPremise m symbols i one → cost m [] (premise_tree scope (i, one)) ≤ row_cost
  restate_row-cost i one v = let c = premise-cost m symbols scope h i one v in omega (arith, c)

  -- the images of a substitution
  pub subst_row-cost : (pairs : TypePairs) (terms : TermPairs) (i : ℕ) (one : Sequent) → AreFitting terms → IsSmallPremise m symbols i one
      → AllByRecursion (λ t. IsSmallTerm m symbols (sub pairs terms t)) (terms_of one)
      → cost m [] (subst_tree symbols scope pairs terms (i, one)) ≤ row_cost
  subst_row-cost pairs terms i one fitting v all =
      let overs = All-weaker (λ t. IsSmallTerm m symbols (sub pairs terms t)) (λ t. TermOver m symbols (sub pairs terms t)) (λ t k. k.over) (terms_of one) all
      in
      let sizes = All-weaker (λ t. IsSmallTerm m symbols (sub pairs terms t)) (λ t. term_size (sub pairs terms t) ≤ greatest_size) (λ t k. k.size)
      (terms_of one) all in
      let types_put = All-distinct _ name_eq (flat_map type_variable_places (terms_of one)) (all_types-over m symbols pairs terms fitting (terms_of one) overs)
      in
      let type_sizes = type_images-size pairs terms fitting greatest_size one sizes in
      let terms_put = All-distinct _ variable_eq (flat_map free_places (terms_of one)) (all_terms-over m symbols pairs terms fitting (terms_of one) overs) in
      let put_sizes = term_images_of-size pairs terms greatest_size one sizes in
      let inner = images symbols pairs terms scope in
      let whole = theorem_tree-cost m symbols inner one i v.is.declared v.is.is (SequentOver-instances m symbols one v.is.over) in
      let of_types = put_types (type_variables_of one) types_put type_sizes in
      let of_terms = put_terms (free_variables_of one) terms_put put_sizes in
      let of_variables = put_variables (free_variables_of one) terms_put put_sizes in
      let of_hypotheses = hypotheses one.hypotheses v.is.over.hypotheses
      (All-left (λ t. IsSmallTerm m symbols (sub pairs terms t)) one.hypotheses (one.conclusion ∷ []) all) in
      let of_conclusion = formula one.conclusion v.is.over.conclusion
      (All-right (λ t. IsSmallTerm m symbols (sub pairs terms t)) one.hypotheses (one.conclusion ∷ []) all).0 in
      let of_proofs = plain-total m symbols scope h (sub pairs terms) one.hypotheses in
      let most = v.within.parameters in
      omega (arith, whole, of_types, of_terms, of_variables, of_hypotheses, of_conclusion, of_proofs, most)
    where
      put_types : (ns : List Name) → AllByRecursion (λ n. TypeOver m symbols (image pairs n)) ns
          → AllByRecursion (λ n. type_size (image pairs n) ≤ 2 * greatest_size) ns
          → total m (map (λ n. type_tree symbols scope.types (image pairs n)) ns) ≤ length ns * part_cost
      put_types [] o k = omega arith
      put_types (n ∷ ns) o k =
          let one = ty-cost m symbols scope h (image pairs n) (record { over = o.0; size = k.0 }) in
          let rest = put_types ns o.1 k.1 in
          omega (arith, one, rest)

      put_terms : (vs : List Variable) → AllByRecursion (λ v. TermOver m symbols (term_image terms (v.0, substitute pairs v.1))) vs
          → AllByRecursion (λ v. term_size (term_image terms (v.0, substitute pairs v.1)) ≤ greatest_size) vs
          → total m (map (λ v. term_tree symbols scope (term_image terms (v.0, substitute pairs v.1))) vs) ≤ length vs * part_cost
      put_terms [] o k = omega arith
      put_terms (v ∷ vs) o k =
          let one = tm-cost m symbols scope h (term_image terms (v.0, substitute pairs v.1)) (record { over = o.0; size = k.0 }) in
          let rest = put_terms vs o.1 k.1 in
          omega (arith, one, rest)

      put_variables : (vs : List Variable) → AllByRecursion (λ v. TermOver m symbols (term_image terms (v.0, substitute pairs v.1))) vs
          → AllByRecursion (λ v. term_size (term_image terms (v.0, substitute pairs v.1)) ≤ greatest_size) vs
          → variable_sizes symbols (images symbols pairs terms scope) vs ≤ length vs * (4 * greatest_size)
      put_variables [] o k = omega arith
      put_variables (v ∷ vs) o k =
          let one = type_tree-size symbols scope.types h.types (substitute pairs v.1) in
          let own = image_type-size pairs terms fitting greatest_size v k.0 in
          let same = ap size (type_tree-substitute symbols pairs scope.types v.1) in
          let rest = put_variables vs o.1 k.1 in
          omega (arith, one, own, same, rest)

      formula : (t : Term) → TermOver m symbols t → IsSmallTerm m symbols (sub pairs terms t)
          → size (term_tree symbols (images symbols pairs terms scope) t) ≤ part_cost
      formula t o k =
          let l = tm-cost m symbols scope h (sub pairs terms t) k in
          let same = ap size
          (term_tree-substitution symbols pairs terms (AreFitting-closed m symbols pairs terms fitting) scope t (AreInstances-over m symbols t o)) in
          omega (arith, l, same)

      hypotheses : (hs : List Term) → AllByRecursion (TermOver m symbols) hs → AllByRecursion (λ t. IsSmallTerm m symbols (sub pairs terms t)) hs
          → term_sizes symbols (images symbols pairs terms scope) hs ≤ length hs * part_cost
      hypotheses [] o k = omega arith
      hypotheses (t ∷ ts) o k =
          let one = formula t o.0 k.0 in
          let rest = hypotheses ts o.1 k.1 in
          omega (arith, one, rest)
