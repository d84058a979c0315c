-- Costs of premises in a plain scope, and the parts of sequents that rows are made of.
use Rattle.std.proofs.Common.{ℕ, ◌+◌, ◌*◌, ◌≤◌, List, [], ◌∷◌, map, length, refl, arith}
use Rattle.std.specs.List.{AllByRecursion}
use Rattle.hol_spec.specs.Names.{Name}
use Rattle.hol_spec.specs.Types.{HolType, operator, more}
use Rattle.hol_spec.specs.Limits.{type_size, term_size, sequent_size, greatest_size, greatest_parameter_count, SequentWithin}
use Rattle.hol_spec.specs.Terms.{Term, bound, constant, app, Variable}
use Rattle.hol_spec.specs.Sequents.{Sequent, terms_of, type_variables_of, free_variables_of, parameter_count}
use Rattle.hol_laws.specs.Members.{All-left, All-right}
use Rattle.lp_spec.specs.Modules.{Declaration}
use Rattle.translate_spec.specs.Scopes.{SymbolMap, type_tree, Scope, term_tree}
use Rattle.translate_spec.specs.ProofTrees.{premise_tree}
use Rattle.translate_spec.specs.Rows.{equated_type, left_side, right_side, argument_type, result_type}
use Rattle.translate_laws.specs.ScopeTyping.{TypeOver, TermOver}
use Rattle.translate_laws.specs.SequentScope.{SequentOver, IsPremise, terms-over, variables-over, SequentOver-instances}
use Rattle.image_bound_laws.specs.SymbolLimits.{sequent-sizes}
use Rattle.image_bound_laws.specs.TermSizes.{AreSmallTerms, variable_size, variables-size, terms-size, left_side-size, right_side-size, equated_type-size, argument_type-size, result_type-size}
use Rattle.image_bound_laws.specs.Sums.{sums}
use Rattle.image_bound_laws.specs.Costs.{cost, total, plain-cost}
use Rattle.image_bound_laws.specs.SmallScopes.{IsPlainScope, type_tree-size, type_tree-cost, stands-cost, term_tree-cost}
use Rattle.image_bound_laws.specs.SmallTheorems.{part_cost, variable_sizes, term_sizes, argument_cost, theorem_tree-cost}

-- what a premise in a plain scope costs at most, and the proof of a step
abbrev pub premise_cost : ℕ
premise_cost = 3 * part_cost

abbrev pub row_cost : ℕ
row_cost = 30 * (greatest_parameter_count * greatest_size)

module _ (m : List Declaration) (symbols : SymbolMap) where
  -- a term, and a type, over the symbols and within the limits
  pub record IsSmallTerm (t : Term) : Type 0 where
    pub over : TermOver m symbols t
    pub size : term_size t ≤ greatest_size

  pub record IsSmallType (a : HolType) : Type 0 where
    pub over : TypeOver m symbols a
    pub size : type_size a ≤ 2 * greatest_size

  -- a premise within the limits
  pub record IsSmallPremise (j : ℕ) (s : Sequent) : Type 0 where
    pub is : IsPremise m symbols j s
    pub within : SequentWithin s

  -- the terms of a sequent
  terms-small : (s : Sequent) → SequentOver m symbols s → SequentWithin s → AllByRecursion IsSmallTerm (terms_of s)
  terms-small s over within = both (terms_of s) (terms-over m symbols s over) (sequent-sizes s within)
    where
      both : (ts : List Term) → AllByRecursion (TermOver m symbols) ts → AreSmallTerms greatest_size ts → AllByRecursion IsSmallTerm ts
      both [] h k = tt
      both (t ∷ ts) h k = (record { over = h.0; size = k.0 }, both ts h.1 k.1)

  pub conclusion-small : (s : Sequent) → SequentOver m symbols s → SequentWithin s → IsSmallTerm s.conclusion
  conclusion-small s over within = (All-right IsSmallTerm s.hypotheses (s.conclusion ∷ []) (terms-small s over within)).0

  pub hypotheses-small : (s : Sequent) → SequentOver m symbols s → SequentWithin s → AllByRecursion IsSmallTerm s.hypotheses
  hypotheses-small s over within = All-left IsSmallTerm s.hypotheses (s.conclusion ∷ []) (terms-small s over within)

  -- parts of terms and of types
  bool-over : TypeOver m symbols (equated_type (bound 0))
  bool-over = (refl, tt {0})

  pub left_side-small : (t : Term) → IsSmallTerm t → IsSmallTerm (left_side t)
  left_side-small t h = record { over = go t h.over; size = (let l = left_side-size t in let k = h.size in omega (arith, l, k)) }
    where
      go : (t : Term) → TermOver m symbols t → TermOver m symbols (left_side t)
      go (app (app e x) y) o = o.0.1
      go t o = o

  pub right_side-small : (t : Term) → IsSmallTerm t → IsSmallTerm (right_side t)
  right_side-small t h = record { over = go t h.over; size = (let l = right_side-size t in let k = h.size in omega (arith, l, k)) }
    where
      go : (t : Term) → TermOver m symbols t → TermOver m symbols (right_side t)
      go (app (app e x) y) o = o.1
      go t o = o

  pub equated_type-small : (t : Term) → IsSmallTerm t → IsSmallType (equated_type t)
  equated_type-small t h = record { over = go t h.over; size = (let l = equated_type-size t in let k = h.size in omega (arith, l, k)) }
    where
      go : (t : Term) → TermOver m symbols t → TypeOver m symbols (equated_type t)
      go (app (app (constant n (operator f (more a ts))) x) y) o = o.0.0.ty.1.0
      go t o = bool-over

  pub argument_type-small : (a : HolType) → IsSmallType a → IsSmallType (argument_type a)
  argument_type-small a h = record { over = go a h.over; size = (let l = argument_type-size a in let k = h.size in omega (arith, l, k)) }
    where
      go : (a : HolType) → TypeOver m symbols a → TypeOver m symbols (argument_type a)
      go (operator n (more a ts)) o = o.1.0
      go a o = o

  pub result_type-small : (a : HolType) → IsSmallType a → IsSmallType (result_type a)
  result_type-small a h = record { over = go a h.over; size = (let l = result_type-size a in let k = h.size in omega (arith, l, k)) }
    where
      go : (a : HolType) → TypeOver m symbols a → TypeOver m symbols (result_type a)
      go (operator n (more a (more b ts))) o = o.1.1.0
      go a o = o

  -- in a plain scope
  module _ (scope : Scope) (h : IsPlainScope symbols scope) where
    pub ty-cost : (a : HolType) → IsSmallType a → cost m [] (type_tree symbols scope.types a) + 8 ≤ part_cost
    ty-cost a o = let l = type_tree-cost m symbols scope.types h.types [] a o.over in let k = o.size in omega (arith, l, k)

    pub tm-cost : (t : Term) → IsSmallTerm t → cost m [] (term_tree symbols scope t) + 8 ≤ part_cost
    tm-cost t o = let l = term_tree-cost m symbols [] scope h t o.over in let k = o.size in omega (arith, l, k)

    -- what stands for variables, with the sizes of their types; and terms
    variables-total : (vs : List Variable) → AllByRecursion (λ v. TypeOver m symbols v.1) vs
        → total m (map scope.terms vs) + variable_sizes symbols scope vs ≤ 26 * sums variable_size vs
    variables-total [] o = omega arith
    variables-total (v ∷ vs) o =
        let one = stands-cost m symbols [] v (scope.terms v) o.0 (h.terms v) in
        let two = type_tree-size symbols scope.types h.types v.1 in
        let rest = variables-total vs o.1 in
        omega (arith, one, two, rest)

    terms-total : (ts : List Term) → AllByRecursion (TermOver m symbols) ts → term_sizes symbols scope ts ≤ 24 * sums term_size ts
    terms-total [] o = omega arith
    terms-total (t ∷ ts) o =
        let one = term_tree-cost m symbols [] scope h t o.0 in
        let rest = terms-total ts o.1 in
        omega (arith, one, rest)

    pub types-total : (ns : List Name) → total m (map scope.types ns) ≤ 3 * length ns
    types-total [] = omega arith
    types-total (n ∷ ns) =
        let one = plain-cost m [] (scope.types n) (h.types n) in
        let rest = types-total ns in
        omega (arith, one, rest)

    pub plain-total : (f : Term → Term) (hs : List Term) → total m (map (λ g. scope.proofs (f g)) hs) ≤ 3 * length hs
    plain-total f [] = omega arith
    plain-total f (g ∷ gs) =
        let one = plain-cost m [] (scope.proofs (f g)) (h.proofs (f g)) in
        let rest = plain-total f gs in
        omega (arith, one, rest)

    -- a sequent's own parts
    pub own-cost : (s : Sequent) → SequentOver m symbols s → argument_cost symbols scope m s ≤ 50 * sequent_size s + 3 * parameter_count s
    own-cost s over =
        let of_types = types-total (type_variables_of s) in
        let of_variables = variables-total (free_variables_of s) (variables-over m symbols s over) in
        let of_terms = terms-total s.hypotheses over.hypotheses in
        let last = term_tree-cost m symbols [] scope h s.conclusion over.conclusion in
        let variables = variables-size s in
        let terms = terms-size s in
        omega (arith, of_types, of_variables, of_terms, last, variables, terms)

    pub premise-cost : (j : ℕ) (s : Sequent) → IsSmallPremise j s → cost m [] (premise_tree scope (j, s)) ≤ premise_cost
    premise-cost j s p =
        let over = p.is.over in
        let whole = theorem_tree-cost m symbols scope s j p.is.declared p.is.is (SequentOver-instances m symbols s over) in
        let own = own-cost s over in
        let proofs = plain-total (λ g. g) s.hypotheses in
        let size = p.within.size in
        let most = p.within.parameters in
        omega (arith, whole, own, proofs, size, most)
