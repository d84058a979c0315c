-- The scope in which each parameter of a sequent has the binder of its place, and the product over a sequent's parameters in it.
use Rattle.std.proofs.Common.{◌≡◌, ℕ, zero, suc, ◌+◌, ◌-◌, ◌≤◌, List, [], ◌∷◌, ◌++◌, map, length, inl, refl, sym, ap, subst, ◌∙◌, arith}
use Rattle.std.specs.Prelude.{replicate}
use Rattle.std.specs.Option.{unwrap_or}
use Rattle.std.specs.List.{AllByRecursion, flat_map, position_or_len}
use Rattle.std.proofs.Math.Path.{fun_ext, ap₂}
use Rattle.common.specs.Binding.{Pairwise}
use Rattle.hol_spec.specs.Names.{Name}
use Rattle.hol_spec.specs.NameEquality.{name_eq}
use Rattle.hol_laws.specs.NameEqualityLaws.{name_eq-Decides}
use Rattle.hol_spec.specs.Types.{variable}
use Rattle.hol_spec.specs.Terms as term
use Rattle.hol_spec.specs.Terms.{Term, Variable, variable_eq, HasType, type_variable_places, free_places}
use Rattle.hol_spec.specs.Primitives.{bool}
use Rattle.hol_laws.specs.TermLaws.{variable_eq-Decides}
use Rattle.hol_spec.specs.TermBinding.{loose}
use Rattle.hol_spec.specs.Sequents.{Sequent, terms_of, type_variables_of, free_variables_of}
use Rattle.hol_spec.specs.ClosedForm as form
use Rattle.hol_spec.specs.ClosedForm.{ClosedSequent, close_type, close_term, closed_form}
use Rattle.hol_spec.specs.Lists.{IsIn}
use Rattle.hol_laws.specs.ListLaws.{distinct-IsDistinct}
use Rattle.hol_laws.specs.Members.{All-each, All-at, All-append, IsIn-distinct_of, IsIn-left, IsIn-right}
use Rattle.hol_laws.specs.RenamedSequents.{free_variables-known}
use Rattle.lp_spec.specs.Trees.{Tree, Var, Pi, raised}
use Rattle.lp_spec.specs.Modules.{Declaration, products, types, bools, term_of, proof_of}
use Rattle.translate_spec.specs.Scopes.{SymbolMap, Scope, filler, type_tree, term_tree, inside, under_term, under_proof, under_proofs, term_domains, proof_domains, scope_of_types, scope_of_terms, conclusion_tree, sequent_tree}
use Rattle.translate_laws.specs.ListedScopes.{told}
use Rattle.translate_laws.specs.ToldParameters.{TypesTold, TypesTold-lifted, TypesTold-own, TypesTold-terms, TermsTold, TermsTold-lifted, TermsTold-own}
use Rattle.translate_laws.specs.SequentEncoding.{told-at, types-are}
use Rattle.translate_laws.specs.TermScopeLaws.{AreInstances, term_tree-agrees}
use Rattle.translate_laws.specs.TheoremTyping.{IsFormula, HasInstances, term-IsFormula}
use Rattle.hol_proof_laws.specs.SymbolGrowth.{symmetric}
use Rattle.translate_term.specs.Told.{TellsType, TellsTerm, TellsClosed}
use Rattle.translate_term.specs.Closed.{Numbered, types_under, scope_under, IsInside, IsTypeOf, IsTermOf, hypothesis_domains, variable_domains, numbered_of, statement_under}

-- a told term's constants are instances
pub TellsTerm-AreInstances : (declarations : List Declaration) (symbols : SymbolMap) (t : Term) → TellsTerm declarations symbols t → AreInstances symbols t
TellsTerm-AreInstances d symbols (term.Term.free n t) h = tt
TellsTerm-AreInstances d symbols (term.Term.bound k) h = tt
TellsTerm-AreInstances d symbols (term.Term.constant n t) h = h.instance
TellsTerm-AreInstances d symbols (term.Term.app f x) h = (TellsTerm-AreInstances d symbols f h.0, TellsTerm-AreInstances d symbols x h.1)
TellsTerm-AreInstances d symbols (term.Term.lam t b) h = TellsTerm-AreInstances d symbols b h.1

all_instances : (declarations : List Declaration) (symbols : SymbolMap) (ts : List Term) → AllByRecursion (TellsTerm declarations symbols) ts
    → AllByRecursion (AreInstances symbols) ts
all_instances d symbols [] h = tt
all_instances d symbols (t ∷ ts) h = (TellsTerm-AreInstances d symbols t h.0, all_instances d symbols ts h.1)

-- and its free variables have told types
free_types-told : (declarations : List Declaration) (symbols : SymbolMap) (t : Term) → TellsTerm declarations symbols t
    → AllByRecursion (λ (v : Variable). TellsType declarations symbols v.1) (free_places t)
free_types-told d symbols (term.Term.free n t) h = (h, tt {0})
free_types-told d symbols (term.Term.bound k) h = tt
free_types-told d symbols (term.Term.constant n t) h = tt
free_types-told d symbols (term.Term.app f x) h = All-append _ (free_places f) (free_places x) (free_types-told d symbols f h.0)
    (free_types-told d symbols x h.1)
free_types-told d symbols (term.Term.lam t b) h = free_types-told d symbols b h.1

all_free_types-told : (declarations : List Declaration) (symbols : SymbolMap) (ts : List Term) → AllByRecursion (TellsTerm declarations symbols) ts
    → AllByRecursion (λ (v : Variable). TellsType declarations symbols v.1) (flat_map free_places ts)
all_free_types-told d symbols [] h = tt
all_free_types-told d symbols (t ∷ ts) h = All-append _ (free_places t) (flat_map free_places ts) (free_types-told d symbols t h.0)
    (all_free_types-told d symbols ts h.1)

pub TellsClosed-HasInstances : (declarations : List Declaration) (symbols : SymbolMap) (s : Sequent) (closed : ClosedSequent)
    → TellsClosed declarations symbols s closed → HasInstances symbols s
TellsClosed-HasInstances d symbols s closed h = record
    { hypotheses = all_instances d symbols s.hypotheses h.hypotheses; conclusion = TellsTerm-AreInstances d symbols s.conclusion h.conclusion }

TellsClosed-terms : (declarations : List Declaration) (symbols : SymbolMap) (s : Sequent) (closed : ClosedSequent) → TellsClosed declarations symbols s closed
    → AllByRecursion (TellsTerm declarations symbols) (terms_of s)
TellsClosed-terms d symbols s closed h = All-append _ s.hypotheses (s.conclusion ∷ []) h.hypotheses (h.conclusion, tt {0})

module _ (given : Numbered) where
  -- what stands for a type variable, and for a free variable
  pub type-placed : (depth : ℕ) (n : Name) → IsIn given.names n → (i : ℕ) → close_type given.names (variable n) ≡ form.ClosedType.parameter i
      → types_under given depth n ≡ Var (depth - i - 1)
  type-placed depth n k i e =
      let t = told-at name_eq name_eq-Decides depth 0 given.names n k in
      let p : position_or_len (name_eq n) given.names ≡ i = cc in
      let z : depth - suc (0 + position_or_len (name_eq n) given.names) ≡ depth - i - 1 = omega (arith, p) in
      ap (λ o. unwrap_or o bools) t.told ∙ ap Var z

  pub variable-placed : (depth : ℕ) (v : Variable) → IsIn given.variables v → (j : ℕ) → close_term given.names given.variables (term.Term.free v.0 v.1)
      ≡ form.ClosedTerm.parameter j → (scope_under given depth).terms v ≡ Var (depth - (length given.names + j) - 1)
  variable-placed depth v k j e =
      let t = told-at variable_eq variable_eq-Decides depth (length given.names) given.variables v k in
      let p : position_or_len (variable_eq v) given.variables ≡ j = cc in
      let z : depth - suc (length given.names + position_or_len (variable_eq v) given.variables) ≡ depth - (length given.names + j) - 1 = omega (arith, p) in
      ap (λ o. unwrap_or o (filler (type_tree given.symbols (types_under given depth) v.1))) t.told ∙ ap Var z

  terms_under-told : (depth : ℕ) → TermsTold given.names given.variables depth (scope_under given depth)
  terms_under-told depth v k x =
      let t = told-at variable_eq variable_eq-Decides depth (length given.names) given.variables v k in
      ap (λ o. unwrap_or o (filler (type_tree given.symbols (types_under given depth) v.1))) t.told ∙ sym (ap (λ o. unwrap_or o x) t.told)

  -- the scope under the binder of an abstraction, as far as a term over the parameters goes
  pub term_tree-inside_under : (depth : ℕ) → IsInside given depth → (b : Term) → AreInstances given.symbols b
      → AllByRecursion (IsIn given.names) (type_variable_places b) → AllByRecursion (IsIn given.variables) (free_places b)
      → term_tree given.symbols (inside (scope_under given depth)) b ≡ term_tree given.symbols (scope_under given (suc depth)) b
  term_tree-inside_under depth within b instances over terms =
      term_tree-agrees given.symbols (IsIn given.names) (IsIn given.variables) (loose b) (inside (scope_under given depth)) (scope_under given (suc depth))
      (record {
        types = λ n k. TypesTold-lifted given.names depth (types_under given depth) (omega (arith, within)) (λ m. refl) n;
        terms = λ v k. TermsTold-lifted given.names given.variables depth (scope_under given depth) (inside (scope_under given depth)) within
            (terms_under-told depth) (λ w. refl) v k _;
        bounds = λ k l. bound k;
      })
      b instances over terms (omega arith)
    where
      one : (k : ℕ) → raised 0 1 k ≡ suc k
      one k = grind arith

      bound : (k : ℕ) → (inside (scope_under given depth)).bounds k ≡ Var k
      bound zero = refl
      bound (suc k) = ap Var (one k)

  term_domains-under : (vs : List Variable) (depth : ℕ) (scope : Scope) → length given.names ≤ depth → TypesTold given.names depth scope.types
      → term_domains given.symbols vs scope ≡ variable_domains given depth (map (λ (v : Variable). v.1) vs)
  term_domains-under [] depth scope l h = refl
  term_domains-under (v ∷ vs) depth scope l h =
      let m : length given.names ≤ suc depth = omega (arith, l) in
      ap₂ (λ t ts. term_of t ∷ ts) (ap (λ w. type_tree given.symbols w v.1) (fun_ext h))
      (term_domains-under vs (suc depth) (under_term v scope) m (TypesTold-lifted given.names depth scope.types l h))

  formula-under : (depth : ℕ) (scope : Scope) → TypesTold given.names depth scope.types → TermsTold given.names given.variables depth scope → (t : Term)
      → IsFormula given.symbols (IsIn given.names) (IsIn given.variables) t
      → term_tree given.symbols scope t ≡ term_tree given.symbols (scope_under given depth) t
  formula-under depth scope h k t f =
      term_tree-agrees given.symbols (IsIn given.names) (IsIn given.variables) 0 scope (scope_under given depth)
      (record { types = λ n p. h n; terms = λ v q. k v q _; bounds = λ j l. absurd (omega (arith, l)) }) t f.instances f.type_variables f.free_variables
      f.closed

  proofs-under : (hs : List Term) (c : Term) (depth : ℕ) (scope : Scope) → IsInside given depth → TypesTold given.names depth scope.types
      → TermsTold given.names given.variables depth scope
      → AllByRecursion (IsFormula given.symbols (IsIn given.names) (IsIn given.variables)) hs
      → IsFormula given.symbols (IsIn given.names) (IsIn given.variables) c
      → products (proof_domains given.symbols hs scope) (proof_of (term_tree given.symbols (under_proofs hs scope) c))
      ≡ products (hypothesis_domains given depth hs) (proof_of (term_tree given.symbols (scope_under given (depth + length hs)) c))
  proofs-under [] c depth scope l h k f g =
      let z : depth ≡ depth + 0 = omega arith in
      ap proof_of (formula-under depth scope h k c g ∙ ap (λ j. term_tree given.symbols (scope_under given j) c) z)
  proofs-under (p ∷ ps) c depth scope l h k f g =
      let m : length given.names + length given.variables ≤ suc depth = omega (arith, l) in
      let n : length given.names ≤ depth = omega (arith, l) in
      let z : suc depth + length ps ≡ depth + suc (length ps) = omega arith in
      ap₂ (λ a b. Pi (proof_of a) b) (formula-under depth scope h k p f.0)
      (proofs-under ps c (suc depth) (under_proof p scope) m (TypesTold-lifted given.names depth scope.types n h)
      (TermsTold-lifted given.names given.variables depth scope (under_proof p scope) l k (λ v. refl)) f.1 g
      ∙ ap (λ j. products (hypothesis_domains given (suc depth) ps) (proof_of (term_tree given.symbols (scope_under given j) c))) z)

products-append : (xs ys : List Tree) (t : Tree) → products (xs ++ ys) t ≡ products xs (products ys t)
products-append [] ys t = refl
products-append (x ∷ xs) ys t = ap (Pi x) (products-append xs ys t)

-- what the parameters of a sequent are
module _ (declarations : List Declaration) (symbols : SymbolMap) (s : Sequent) (closed : ClosedSequent) (told_here : TellsClosed declarations symbols s closed)
  where
    abbrev given : Numbered
    given = numbered_of declarations symbols s

    abbrev outside : ℕ
    outside = length (type_variables_of s) + length (free_variables_of s)

    -- The product of a sequent, each part of it under so many binders
    pub sequent_tree-under : sequent_tree symbols s
        ≡ products (replicate (length (type_variables_of s)) types)
        (products (variable_domains given (length (type_variables_of s)) (map (λ (v : Variable). v.1) (free_variables_of s)))
        (statement_under given s))
    sequent_tree-under =
        let names = type_variables_of s in
        let variables = free_variables_of s in
        let n = length names in
        let instances = TellsClosed-HasInstances declarations symbols s closed told_here in
        let is = told_here.is_sequent in
        let l : n ≤ n = omega arith in
        let m : n + length variables ≤ n + length variables = omega arith in
        let first = TypesTold-own names (distinct-IsDistinct name_eq (symmetric name_eq name_eq-Decides) (flat_map type_variable_places (terms_of s))) in
        let second = TypesTold-terms names variables n (scope_of_types symbols s) l first in
        let terms = TermsTold-own names variables (scope_of_types symbols s)
        (distinct-IsDistinct variable_eq (symmetric variable_eq variable_eq-Decides) (flat_map free_places (terms_of s))) in
        let formulas : AllByRecursion (IsFormula symbols (IsIn names) (IsIn variables)) s.hypotheses =
        All-each _ s.hypotheses
        (λ h i. term-IsFormula s symbols h (IsIn-left s.hypotheses (s.conclusion ∷ []) h i) (All-at _ s.hypotheses h instances.hypotheses i)
        (All-at _ s.hypotheses h is.hypotheses i)) in
        let conclusion = term-IsFormula s symbols s.conclusion (IsIn-right s.hypotheses (s.conclusion ∷ []) s.conclusion (inl refl)) instances.conclusion
        is.conclusion in
        let A = map (λ (k : Name). types) names in
        let B = term_domains symbols variables (scope_of_types symbols s) in
        let C = proof_domains symbols s.hypotheses (scope_of_terms symbols s) in
        products-append (A ++ B) C (conclusion_tree symbols s)
        ∙ products-append A B (products C (conclusion_tree symbols s))
        ∙ ap (λ D. products D (products B (products C (conclusion_tree symbols s)))) (types-are names)
        ∙ ap (λ D. products (replicate n types) (products D (products C (conclusion_tree symbols s))))
        (term_domains-under given variables n (scope_of_types symbols s) l first)
        ∙ ap (λ t. products (replicate n types) (products (variable_domains given n (map (λ (v : Variable). v.1) variables)) t))
        (proofs-under given s.hypotheses s.conclusion (n + length variables) (scope_of_terms symbols s) m second terms formulas conclusion)

    term-of : (t : Term) → IsIn (terms_of s) t → AreInstances symbols t → HasType t bool → TellsTerm declarations symbols t
        → IsTermOf given (close_term (type_variables_of s) (free_variables_of s) t) t
    term-of t i instances typed told =
        let f = term-IsFormula s symbols t i instances typed in
        record { is = refl; told = told; types = f.type_variables; terms = f.free_variables }

    terms-of : (ts : List Term) → AllByRecursion (λ t. IsTermOf given (close_term (type_variables_of s) (free_variables_of s) t) t) ts
        → Pairwise (IsTermOf given) (map (close_term (type_variables_of s) (free_variables_of s)) ts) ts
    terms-of [] h = tt
    terms-of (t ∷ ts) h = (h.0, terms-of ts h.1)

    types-of : (vs : List Variable) → AllByRecursion (λ (v : Variable). IsTypeOf given (close_type (type_variables_of s) v.1) v.1) vs
        → Pairwise (IsTypeOf given) (map (λ (v : Variable). close_type (type_variables_of s) v.1) vs) (map (λ (v : Variable). v.1) vs)
    types-of [] h = tt
    types-of (v ∷ vs) h = (h.0, types-of vs h.1)

    -- its parts are those of the closed sequent
    pub hypotheses-are : Pairwise (IsTermOf given) closed.hypotheses s.hypotheses
    hypotheses-are =
        let instances = TellsClosed-HasInstances declarations symbols s closed told_here in
        subst (λ cs. Pairwise (IsTermOf given) cs s.hypotheses) (ap (λ (c : ClosedSequent). c.hypotheses) told_here.closed)
        (terms-of s.hypotheses
        (All-each _ s.hypotheses (λ h i. term-of h (IsIn-left s.hypotheses (s.conclusion ∷ []) h i) (All-at _ s.hypotheses h instances.hypotheses i)
        (All-at _ s.hypotheses h told_here.is_sequent.hypotheses i) (All-at _ s.hypotheses h told_here.hypotheses i))))

    pub conclusion-is : IsTermOf given closed.conclusion s.conclusion
    conclusion-is =
        let instances = TellsClosed-HasInstances declarations symbols s closed told_here in
        subst (λ c. IsTermOf given c s.conclusion) (ap (λ (c : ClosedSequent). c.conclusion) told_here.closed)
        (term-of s.conclusion (IsIn-right s.hypotheses (s.conclusion ∷ []) s.conclusion (inl refl)) instances.conclusion told_here.is_sequent.conclusion
        told_here.conclusion)

    pub variables-are : Pairwise (IsTypeOf given) closed.free_variable_types (map (λ (v : Variable). v.1) (free_variables_of s))
    variables-are =
        subst (λ cs. Pairwise (IsTypeOf given) cs (map (λ (v : Variable). v.1) (free_variables_of s)))
        (ap (λ (c : ClosedSequent). c.free_variable_types) told_here.closed)
        (types-of (free_variables_of s) (All-each _ (free_variables_of s) (λ v i. record {
          is = refl;
          told = All-at _ (flat_map free_places (terms_of s)) v
              (all_free_types-told declarations symbols (terms_of s) (TellsClosed-terms declarations symbols s closed told_here))
              (IsIn-distinct_of variable_eq variable_eq-Decides (flat_map free_places (terms_of s)) v i);
          over = All-at _ (free_variables_of s) v (free_variables-known s) i;
        })))

    pub count-is : length (type_variables_of s) ≡ closed.type_variable_count
    count-is = ap (λ (c : ClosedSequent). c.type_variable_count) told_here.closed
