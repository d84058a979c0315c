-- Costs of translated types and terms: at most a constant times the size of the type, and of the term.
use Rattle.std.proofs.Common.{◌≡◌, ℕ, zero, suc, ◌+◌, ◌*◌, ◌≤◌, List, [], ◌∷◌, ◌++◌, map, length, Bool, true, false, cond, inl, refl, sym, ap, subst, ◌∙◌, arith}
use Rattle.std.specs.Prelude.{replicate}
use Rattle.std.specs.List.{AllByRecursion}
use Rattle.std.proofs.lemmas.List.{length-map}
use Rattle.hol_spec.specs.Names.{Name}
use Rattle.hol_spec.specs.NameEquality.{name_eq}
use Rattle.hol_laws.specs.NameEqualityLaws.{name_eq-Decides}
use Rattle.hol_spec.specs.Lists.{IsIn}
use Rattle.hol_spec.specs.Types.{HolType, HolTypes, variable, operator, none, more, count, variable_places, variable_places_of_all, type_variables}
use Rattle.hol_spec.specs.Limits.{type_size, types_size, term_size}
use Rattle.hol_spec.specs.Substitution.{TypePairs, image, substitute, substitute_all, type_arguments}
use Rattle.hol_spec.specs.Terms.{Term, free, bound, constant, app, lam, Variable, variable_eq, term_eq}
use Rattle.hol_laws.specs.Members.{All-each, IsIn-distinct, IsIn-distinct_of, map-twice}
use Rattle.hol_laws.specs.GenericInstances.{filled_in, substitute-is, type_arguments-filled_in}
use Rattle.lp_spec.specs.Trees.{Tree, Var, Sym, lift, size}
use Rattle.lp_spec.specs.Substitution.{sub, cons}
use Rattle.lp_spec.specs.Modules.{Declaration, applied, products, types, term_of, term_symbol}
use Rattle.lp_check_laws.specs.Sizes.{size-lift}
use Rattle.translate_spec.specs.Scopes.{SymbolMap, operator_symbol, constant_symbol, generic_type, TypeScope, type_tree, type_trees, Scope, lifted_types, inside, constant_tree, term_tree, under_type, under_types, lifted, under_term, under_terms, under_proof, under_proofs, filler, unfilled, filled, scope_of_types, scope_of_terms, scope_of}
use Rattle.hol_spec.specs.Sequents.{Sequent, type_variables_of, free_variables_of}
use Rattle.translate_laws.specs.ScopeLaws.{through_types, type_tree-sub, type_tree-lift, type_tree-substitute}
use Rattle.translate_laws.specs.TermScopeLaws.{type_tree-agrees}
use Rattle.translate_laws.specs.SimultaneousArguments.{after}
use Rattle.translate_laws.specs.ListedScopes.{filler-lift}
use Rattle.translate_laws.specs.ScopeTyping.{length-type_trees, TypeOver, TypesOver, ConstantOver, TermOver, TypeOver-filled_in, types-agree}
use Rattle.image_bound_laws.specs.Sums.{sums, sums-append, sums-distinct}
use Rattle.image_bound_laws.specs.Costs.{domain_sizes, spread-products, operator-spread, Plain, plain-size, plain-lift, size-applied, cost, total, cost-applied, plain-cost, symbol-cost}

-- the sizes of what is put for these variables
abbrev pub put_sizes : TypePairs → List Name → ℕ
put_sizes pairs ns = sums (λ n. type_size (image pairs n)) ns

module _ (pairs : TypePairs) where
  mutual
    put_sizes-places : (t : HolType) → put_sizes pairs (variable_places t) ≤ type_size (substitute pairs t)
    put_sizes-places (variable n) = omega arith
    put_sizes-places (operator n ts) = let h = put_sizes-all ts in omega (arith, h)

    put_sizes-all : (ts : HolTypes) → put_sizes pairs (variable_places_of_all ts) ≤ types_size (substitute_all pairs ts)
    put_sizes-all none = omega arith
    put_sizes-all (more t ts) =
        let one = put_sizes-places t in
        let rest = put_sizes-all ts in
        let both = sums-append (λ n. type_size (image pairs n)) (variable_places t) (variable_places_of_all ts) in
        omega (arith, one, rest, both)

  put_sizes-variables : (t : HolType) → put_sizes pairs (type_variables t) ≤ type_size (substitute pairs t)
  put_sizes-variables t =
      let once = sums-distinct (λ n. type_size (image pairs n)) name_eq (variable_places t) in
      let all = put_sizes-places t in
      omega (arith, once, all)

-- what stands for a free variable: a variable, or some term of its type
pub data StandsFor (symbols : SymbolMap) (v : Variable) : Tree → Type 0 where
  entry : {n : ℕ} → StandsFor symbols v (Var n)
  filling : (scope : TypeScope) → ((n : Name) → Plain (scope n)) → StandsFor symbols v (filler (type_tree symbols scope v.1))

pub record IsPlainScope (symbols : SymbolMap) (scope : Scope) : Type 0 where
  pub types : (n : Name) → Plain (scope.types n)
  pub terms : (v : Variable) → StandsFor symbols v (scope.terms v)
  pub proofs : (h : Term) → Plain (scope.proofs h)
  pub bounds : (k : ℕ) → Plain (scope.bounds k)

-- scopes under binders
stands-lift : (symbols : SymbolMap) (v : Variable) (t : Tree) → StandsFor symbols v t → StandsFor symbols v (lift 1 t)
stands-lift symbols v (Var n) entry = entry
stands-lift symbols v t (filling scope h) =
    subst (StandsFor symbols v) (sym (filler-lift (type_tree symbols scope v.1) ∙ ap filler (type_tree-lift symbols scope v.1)))
    (filling (lifted_types scope) (λ n. plain-lift (scope n) (h n)))

plain-cond : (b : Bool) (x y : Tree) → Plain x → Plain y → Plain (cond b x y)
plain-cond true x y h k = h
plain-cond false x y h k = k

stands-cond : (symbols : SymbolMap) (v : Variable) (b : Bool) (x y : Tree) → StandsFor symbols v x → StandsFor symbols v y → StandsFor symbols v (cond b x y)
stands-cond symbols v true x y h k = h
stands-cond symbols v false x y h k = k

module _ (symbols : SymbolMap) where
  inside-plain : (scope : Scope) → IsPlainScope symbols scope → IsPlainScope symbols (inside scope)
  inside-plain scope h = record {
    types = λ n. plain-lift (scope.types n) (h.types n);
    terms = λ v. stands-lift symbols v (scope.terms v) (h.terms v);
    proofs = λ g. plain-lift (scope.proofs g) (h.proofs g);
    bounds = bounds;
  }
    where
      bounds : (k : ℕ) → Plain ((inside scope).bounds k)
      bounds zero = Plain.variable
      bounds (suc k) = plain-lift (scope.bounds k) (h.bounds k)

  pub under_term-plain : (v : Variable) (scope : Scope) → IsPlainScope symbols scope → IsPlainScope symbols (under_term v scope)
  under_term-plain v scope h = record {
    types = λ n. plain-lift (scope.types n) (h.types n);
    terms = λ w. stands-cond symbols w (variable_eq w v) (Var 0) (lift 1 (scope.terms w)) entry (stands-lift symbols w (scope.terms w) (h.terms w));
    proofs = λ g. plain-lift (scope.proofs g) (h.proofs g);
    bounds = λ k. plain-lift (scope.bounds k) (h.bounds k);
  }

  pub lifted-plain : (scope : Scope) → IsPlainScope symbols scope → IsPlainScope symbols (lifted scope)
  lifted-plain scope h = record {
    types = λ n. plain-lift (scope.types n) (h.types n);
    terms = λ w. stands-lift symbols w (scope.terms w) (h.terms w);
    proofs = λ g. plain-lift (scope.proofs g) (h.proofs g);
    bounds = λ k. plain-lift (scope.bounds k) (h.bounds k);
  }

  pub under_proof-plain : (p : Term) (scope : Scope) → IsPlainScope symbols scope → IsPlainScope symbols (under_proof p scope)
  under_proof-plain p scope h = record {
    types = λ n. plain-lift (scope.types n) (h.types n);
    terms = λ w. stands-lift symbols w (scope.terms w) (h.terms w);
    proofs = λ g. plain-cond (term_eq g p) (Var 0) (lift 1 (scope.proofs g)) Plain.variable (plain-lift (scope.proofs g) (h.proofs g));
    bounds = λ k. plain-lift (scope.bounds k) (h.bounds k);
  }

  pub under_types-plain : (ns : List Name) (scope : TypeScope) → ((n : Name) → Plain (scope n)) → (n : Name) → Plain (under_types ns scope n)
  under_types-plain [] scope h n = h n
  under_types-plain (k ∷ ns) scope h n = under_types-plain ns (under_type k scope)
      (λ j. plain-cond (name_eq j k) (Var 0) (lift 1 (scope j)) Plain.variable (plain-lift (scope j) (h j))) n

  pub under_terms-plain : (vs : List Variable) (scope : Scope) → IsPlainScope symbols scope → IsPlainScope symbols (under_terms vs scope)
  under_terms-plain [] scope h = h
  under_terms-plain (v ∷ vs) scope h = under_terms-plain vs (under_term v scope) (under_term-plain v scope h)

  pub under_proofs-plain : (hs : List Term) (scope : Scope) → IsPlainScope symbols scope → IsPlainScope symbols (under_proofs hs scope)
  under_proofs-plain [] scope h = h
  under_proofs-plain (p ∷ ps) scope h = under_proofs-plain ps (under_proof p scope) (under_proof-plain p scope h)

  pub filled-plain : (scope : TypeScope) → ((n : Name) → Plain (scope n)) → IsPlainScope symbols (filled symbols scope)
  filled-plain scope h = record { types = h; terms = λ v. filling scope h; proofs = λ g. Plain.nothing; bounds = λ k. Plain.variable }

  pub scope_of_types-plain : (s : Sequent) → IsPlainScope symbols (scope_of_types symbols s)
  scope_of_types-plain s = filled-plain (under_types (type_variables_of s) unfilled) (under_types-plain (type_variables_of s) unfilled (λ n. Plain.truth))

  pub scope_of-plain : (s : Sequent) → IsPlainScope symbols (scope_of symbols s)
  scope_of-plain s = under_proofs-plain s.hypotheses (scope_of_terms symbols s)
      (under_terms-plain (free_variables_of s) (scope_of_types symbols s) (scope_of_types-plain s))

-- binders of `type` are one node each
pub domain_sizes-types : (other : Name → Tree) (ns : List Name) (s : ℕ → Tree) → domain_sizes s (map (λ (n : Name). types) ns) (map other ns) ≡ length ns
domain_sizes-types other [] s = refl
domain_sizes-types other (n ∷ ns) s = let k = domain_sizes-types other ns (cons (other n) s) in omega (arith, k)

-- a type has at most two nodes for each of its own
module _ (symbols : SymbolMap) (scope : TypeScope) (h : (n : Name) → Plain (scope n)) where
  mutual
    pub type_tree-size : (t : HolType) → size (type_tree symbols scope t) + 1 ≤ 2 * type_size t
    type_tree-size (variable n) = let l = plain-size (scope n) (h n) in omega (arith, l)
    type_tree-size (operator n ts) =
        let whole = size-applied (Sym (operator_symbol symbols n (count ts))) (type_trees symbols scope ts) in
        let rest = type_trees-size ts in
        omega (arith, whole, rest)

    type_trees-size : (ts : HolTypes) → sums (λ x. 1 + size x) (type_trees symbols scope ts) ≤ 2 * types_size ts
    type_trees-size none = omega arith
    type_trees-size (more t ts) =
        let one = type_tree-size t in
        let rest = type_trees-size ts in
        omega (arith, one, rest)

module _ (m : List Declaration) (symbols : SymbolMap) (scope : TypeScope) (h : (n : Name) → Plain (scope n)) where
  mutual
    -- a type
    pub type_tree-cost : (args : List Tree) (t : HolType) → TypeOver m symbols t → cost m args (type_tree symbols scope t) + 2 ≤ 4 * type_size t
    type_tree-cost args (variable n) o = let l = plain-cost m args (scope n) (h n) in omega (arith, l)
    type_tree-cost args (operator n ts) o =
        let s = operator_symbol symbols n (count ts) in
        let trees = type_trees symbols scope ts in
        let whole = cost-applied m (Sym s) trees args in
        let head = symbol-cost m s (trees ++ args) (products (replicate (count ts) types) types) o.0 in
        let spreads_to = operator-spread [] trees args (count ts) (sym (length-type_trees symbols scope ts)) in
        let rest = type_trees-cost ts o.1 in
        omega (arith, whole, head, spreads_to, rest)

    type_trees-cost : (ts : HolTypes) → TypesOver m symbols ts → total m (type_trees symbols scope ts) + count ts ≤ 4 * types_size ts
    type_trees-cost none o = omega arith
    type_trees-cost (more t ts) o =
        let one = type_tree-cost [] t o.0 in
        let rest = type_trees-cost ts o.1 in
        omega (arith, one, rest)

  -- a constant: its type arguments fill its generic type
  arguments-cost : (pairs : TypePairs) (ns : List Name) → AllByRecursion (λ n. TypeOver m symbols (image pairs n)) ns
      → total m (map (λ n. type_tree symbols scope (image pairs n)) ns) + length ns ≤ 4 * put_sizes pairs ns
  arguments-cost pairs [] o = omega arith
  arguments-cost pairs (n ∷ ns) o =
      let one = type_tree-cost [] (image pairs n) o.0 in
      let rest = arguments-cost pairs ns o.1 in
      omega (arith, one, rest)

  pub constant_tree-cost : (args : List Tree) (n : Name) (t : HolType) → ConstantOver m symbols n t
      → cost m args (constant_tree symbols scope n t) ≤ 6 * type_size t + 2
  constant_tree-cost args n t o =
      let generic = generic_type symbols n in
      let pairs = o.instance.0 in
      let names = type_variables generic in
      let other : TypeScope = λ k. type_tree symbols scope (image pairs k) in
      let own : filled_in (image pairs) generic ≡ t = sym (substitute-is pairs generic) ∙ o.instance.1 in
      let filled_over : TypeOver m symbols (filled_in (image pairs) generic) = subst (TypeOver m symbols) (sym own) o.ty in
      let over : AllByRecursion (λ k. TypeOver m symbols (image pairs k)) names =
      All-each _ names
      (λ k i. TypeOver-filled_in m symbols (image pairs) generic k (IsIn-distinct_of name_eq name_eq-Decides (variable_places generic) k i) filled_over) in
      let xs = map other names in
      let inner = type_tree symbols (under_types names unfilled) generic in
      let result : sub (after Var xs) inner ≡ type_tree symbols scope t =
      type_tree-sub symbols (after Var xs) (under_types names unfilled) generic
      ∙ type_tree-agrees symbols (IsIn names) (through_types (after Var xs) (under_types names unfilled)) other
      (λ k i. types-agree m [] other names unfilled Var k (inl i)) generic
      (All-each _ (variable_places generic) (λ k i. IsIn-distinct name_eq name_eq-Decides (variable_places generic) k i))
      ∙ sym (type_tree-substitute symbols pairs scope generic)
      ∙ ap (type_tree symbols scope) o.instance.1 in
      let arguments : xs ≡ map (type_tree symbols scope) (type_arguments generic t) =
      sym (map-twice (type_tree symbols scope) (image pairs) names)
      ∙ ap (map (type_tree symbols scope)) (sym (type_arguments-filled_in (image pairs) generic) ∙ ap (type_arguments generic) own) in
      let s = constant_symbol symbols n in
      let whole = cost-applied m (Sym s) xs args in
      let same = ap (λ l. cost m args (applied (Sym s) l)) arguments in
      let domains = map (λ (k : Name). types) names in
      let head = symbol-cost m s (xs ++ args) (products domains (term_of inner)) o.declared in
      let long : length xs ≡ length domains = length-map names other ∙ sym (length-map names (λ (k : Name). types)) in
      let spreads_to = spread-products xs args domains (Sym term_symbol) inner long in
      let firsts = domain_sizes-types other names Var in
      let last = ap size result in
      let kind = type_tree-size symbols scope h t in
      let puts = arguments-cost pairs names over in
      let sizes = put_sizes-variables pairs generic in
      let instance = ap type_size o.instance.1 in
      omega (arith, whole, same, head, spreads_to, firsts, last, kind, puts, sizes, instance)

-- some term of a type
filler-cost : (m : List Declaration) (args : List Tree) (a : Tree) (c : ℕ) → cost m [] a + 2 ≤ c → cost m [] (lift 1 a) + 2 ≤ c
    → cost m args (filler a) ≤ 3 * c + 4 * size a + 28
filler-cost m args a c h k =
    let same = size-lift 0 a in
    let under = size-lift 0 (lift 1 a) in
    let one = size-lift 1 a in
    omega (arith, h, k, same, under, one)

pub stands-cost : (m : List Declaration) (symbols : SymbolMap) (args : List Tree) (v : Variable) (t : Tree) → TypeOver m symbols v.1 → StandsFor symbols v t
    → cost m args t ≤ 24 * type_size v.1 + 24
stands-cost m symbols args v (Var n) o entry = omega arith
stands-cost m symbols args v t o (filling scope h) =
    let own = type_tree-cost m symbols scope h [] v.1 o in
    let under = type_tree-cost m symbols (lifted_types scope) (λ n. plain-lift (scope n) (h n)) [] v.1 o in
    let lifted = ap (cost m []) (type_tree-lift symbols scope v.1) in
    let most = type_tree-size symbols scope h v.1 in
    let whole = filler-cost m args (type_tree symbols scope v.1) (4 * type_size v.1) own (omega (arith, under, lifted)) in
    omega (arith, whole, most)

-- A term
pub term_tree-cost : (m : List Declaration) (symbols : SymbolMap) (args : List Tree) (scope : Scope) → IsPlainScope symbols scope → (t : Term)
    → TermOver m symbols t → cost m args (term_tree symbols scope t) ≤ 24 * term_size t
term_tree-cost m symbols args scope h (free n t) o = let l = stands-cost m symbols args (n, t) (scope.terms (n, t)) o (h.terms (n, t)) in omega (arith, l)
term_tree-cost m symbols args scope h (bound k) o = let l = plain-cost m args (scope.bounds k) (h.bounds k) in omega (arith, l)
term_tree-cost m symbols args scope h (constant n t) o = let l = constant_tree-cost m symbols scope.types h.types args n t o in omega (arith, l)
term_tree-cost m symbols args scope h (app f x) o =
    let one = term_tree-cost m symbols (term_tree symbols scope x ∷ args) scope h f o.0 in
    let two = term_tree-cost m symbols [] scope h x o.1 in
    omega (arith, one, two)
term_tree-cost m symbols args scope h (lam t b) o =
    let one = type_tree-cost m symbols scope.types h.types [] t o.0 in
    let two = term_tree-cost m symbols [] (inside scope) (inside-plain symbols scope h) b o.1 in
    omega (arith, one, two)
