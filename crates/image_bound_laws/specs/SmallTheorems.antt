-- Costs of theorems in a scope: the spread of a theorem's symbol is the size of its sequent in that scope.
use Rattle.std.proofs.Common.{◌≡◌, ℕ, ◌+◌, ◌*◌, ◌≤◌, List, [], ◌∷◌, ◌++◌, map, length, Some, inl, refl, sym, ap, ◌∙◌, arith}
use Rattle.std.specs.List.{AllByRecursion}
use Rattle.std.proofs.lemmas.List.{length-map, length-append}
use Rattle.hol_spec.specs.Names.{Name}
use Rattle.hol_spec.specs.Types.{variable_places}
use Rattle.hol_spec.specs.Terms.{Term, Variable}
use Rattle.hol_spec.specs.Lists.{IsIn}
use Rattle.hol_spec.specs.Limits.{greatest_size}
use Rattle.hol_spec.specs.Sequents.{Sequent, IsSequent, type_variables_of, free_variables_of, parameter_count}
use Rattle.hol_laws.specs.Members.{IsIn-left, IsIn-right, All-each, All-at}
use Rattle.hol_laws.specs.RenamedSequents.{free_variables-known}
use Rattle.lp_spec.specs.Trees.{Tree, Var, Sym, size}
use Rattle.lp_spec.specs.Substitution.{sub, cons}
use Rattle.lp_spec.specs.Modules.{Declaration, types, proof_symbol, symbol_type}
use Rattle.translate_spec.specs.Scopes.{SymbolMap, type_tree, Scope, term_tree, under_term, under_proof, unfilled, term_domains, proof_domains, scope_of_types, scope_of_terms, scope_of, domains_of, sequent_tree, theorem_tree}
use Rattle.translate_laws.specs.ScopeLaws.{through_types, type_tree-sub}
use Rattle.translate_laws.specs.TermScopeLaws.{type_tree-agrees}
use Rattle.translate_laws.specs.SimultaneousArguments.{after, after-append}
use Rattle.translate_laws.specs.ScopeTyping.{types-agree}
use Rattle.translate_laws.specs.TheoremTyping.{IsFormula, HasInstances, TypesAgree, TermsAgree, TypesAgree-under, TermsAgree-under, terms-TypesAgree, terms-agree, formula-agrees, proofs-TypesAgree, proofs-TermsAgree, term-IsFormula}
use Rattle.image_bound_laws.specs.ShallowRows.{length-term_domains, length-proof_domains}
use Rattle.image_bound_laws.specs.Sums.{sums}
use Rattle.image_bound_laws.specs.Costs.{domain_sizes, spread-products, cost, total, cost-applied, total-append, symbol-cost}
use Rattle.image_bound_laws.specs.SmallScopes.{domain_sizes-types}

-- what a translated term costs at most
abbrev pub part_cost : ℕ
part_cost = 24 * greatest_size + 8

module _ (symbols : SymbolMap) (scope : Scope) where
  -- the sizes of the types of variables, and of terms
  abbrev pub variable_sizes : List Variable → ℕ
  variable_sizes vs = sums (λ v. size (type_tree symbols scope.types v.1)) vs

  abbrev pub term_sizes : List Term → ℕ
  term_sizes ts = sums (λ t. size (term_tree symbols scope t)) ts

  -- what a theorem costs in a scope beside the proofs of its hypotheses: what stands for its type variables and its free variables, and how
  -- large its sequent is there
  abbrev pub argument_cost : List Declaration → Sequent → ℕ
  argument_cost m s =
      total m (map scope.types (type_variables_of s)) + total m (map scope.terms (free_variables_of s)) + variable_sizes (free_variables_of s)
      + (term_sizes s.hypotheses + size (term_tree symbols scope s.conclusion))

pub total-map : {A : Type 0} (m : List Declaration) (c : ℕ) (f : A → Tree) (xs : List A) → AllByRecursion (λ x. cost m [] (f x) + 1 ≤ c) xs
    → total m (map f xs) ≤ length xs * c
total-map m c f [] h = omega arith
total-map m c f (x ∷ xs) h = let l = total-map m c f xs h.1 in omega (arith, h.0, l)

domain_sizes-append : (s : ℕ → Tree) (ds es us vs : List Tree) → length us ≡ length ds
    → domain_sizes s (ds ++ es) (us ++ vs) ≡ domain_sizes s ds us + domain_sizes (after s us) es vs
domain_sizes-append s [] es [] vs e = omega arith
domain_sizes-append s [] es (u ∷ us) vs e = absurd (omega (arith, e))
domain_sizes-append s (d ∷ ds) es [] vs e = absurd (omega (arith, e))
domain_sizes-append s (d ∷ ds) es (u ∷ us) vs e = let l = domain_sizes-append (cons u s) ds es us vs (omega (arith, e)) in omega (arith, l)

module _ (m : List Declaration) (G : List Tree) (symbols : SymbolMap) (other : Scope) (P : Name → Type 0) (Q : Variable → Type 0) where
  terms-sizes : (vs : List Variable) (scope : Scope) (s : ℕ → Tree) → TypesAgree m G symbols other P Q s scope
      → AllByRecursion (λ v. AllByRecursion P (variable_places v.1)) vs
      → domain_sizes s (term_domains symbols vs scope) (map other.terms vs) ≡ variable_sizes symbols other vs + 2 * length vs
  terms-sizes [] scope s a k = omega arith
  terms-sizes (v ∷ vs) scope s a k =
      let same = ap size (type_tree-sub symbols s scope.types v.1 ∙ type_tree-agrees symbols P (through_types s scope.types) other.types a v.1 k.0) in
      let rest = terms-sizes vs (under_term v scope) (cons (other.terms v) s) (TypesAgree-under m G symbols other P Q s (other.terms v) scope a) k.1 in
      omega (arith, same, rest)

  proofs-sizes : (hs : List Term) (scope : Scope) (s : ℕ → Tree) → TypesAgree m G symbols other P Q s scope → TermsAgree m G symbols other P Q s scope
      → AllByRecursion (IsFormula symbols P Q) hs
      → domain_sizes s (proof_domains symbols hs scope) (map other.proofs hs) ≡ term_sizes symbols other hs + 2 * length hs
  proofs-sizes [] scope s a b f = omega arith
  proofs-sizes (p ∷ ps) scope s a b f =
      let same = ap size (formula-agrees m G symbols other P Q s scope a b p f.0) in
      let rest = proofs-sizes ps (under_proof p scope) (cons (other.proofs p) s) (TypesAgree-under m G symbols other P Q s (other.proofs p) scope a)
      (TermsAgree-under m G symbols other P Q s (other.proofs p) scope b) f.1 in
      omega (arith, same, rest)

-- A theorem in a scope
pub theorem_tree-cost : (m : List Declaration) (symbols : SymbolMap) (scope : Scope) (s : Sequent) (symbol : ℕ)
    → symbol_type m symbol ≡ Some (sequent_tree symbols s) → IsSequent s → HasInstances symbols s
    → cost m [] (theorem_tree scope symbol s) ≤ argument_cost symbols scope m s + total m (map scope.proofs s.hypotheses) + 2 * parameter_count s + 3
theorem_tree-cost m symbols scope s symbol declared is instances =
    let P = IsIn (type_variables_of s) in
    let Q = IsIn (free_variables_of s) in
    let names = map scope.types (type_variables_of s) in
    let variables = map scope.terms (free_variables_of s) in
    let proofs = map scope.proofs s.hypotheses in
    let one = after Var names in
    let two = after one variables in
    let three = after two proofs in
    let types_one : (n : Name) → P n → sub one ((scope_of_types symbols s).types n) ≡ scope.types n =
    λ n p. types-agree m [] scope.types (type_variables_of s) unfilled Var n (inl p) in
    let types_two = terms-TypesAgree m [] symbols scope P Q (free_variables_of s) (scope_of_types symbols s) one types_one in
    let terms_two : (v : Variable) → Q v → sub two ((scope_of_terms symbols s).terms v) ≡ scope.terms v =
    λ v q. terms-agree m [] symbols scope P Q (free_variables_of s) (scope_of_types symbols s) one v (inl q) in
    let types_three = proofs-TypesAgree m [] symbols scope P Q s.hypotheses (scope_of_terms symbols s) two types_two in
    let terms_three = proofs-TermsAgree m [] symbols scope P Q s.hypotheses (scope_of_terms symbols s) two terms_two in
    let formulas : AllByRecursion (IsFormula symbols P Q) s.hypotheses =
    All-each _ s.hypotheses
    (λ h i. term-IsFormula s symbols h (IsIn-left s.hypotheses (s.conclusion ∷ []) h i) (All-at _ s.hypotheses h instances.hypotheses i)
    (All-at _ s.hypotheses h is.hypotheses i)) in
    let conclusion : IsFormula symbols P Q s.conclusion =
    term-IsFormula s symbols s.conclusion (IsIn-right s.hypotheses (s.conclusion ∷ []) s.conclusion (inl refl)) instances.conclusion is.conclusion in
    let first = domain_sizes-types scope.types (type_variables_of s) Var in
    let second = terms-sizes m [] symbols scope P Q (free_variables_of s) (scope_of_types symbols s) one types_one (free_variables-known s) in
    let third = proofs-sizes m [] symbols scope P Q s.hypotheses (scope_of_terms symbols s) two types_two terms_two formulas in
    let type_domains = map (λ (n : Name). types) (type_variables_of s) in
    let variable_domains = term_domains symbols (free_variables_of s) (scope_of_types symbols s) in
    let hypothesis_domains = proof_domains symbols s.hypotheses (scope_of_terms symbols s) in
    let long_types : length names ≡ length type_domains =
    length-map (type_variables_of s) scope.types ∙ sym (length-map (type_variables_of s) (λ (n : Name). types)) in
    let long_terms : length variables ≡ length variable_domains =
    length-map (free_variables_of s) scope.terms ∙ sym (length-term_domains symbols (free_variables_of s) (scope_of_types symbols s)) in
    let long_proofs : length proofs ≡ length hypothesis_domains =
    length-map s.hypotheses scope.proofs ∙ sym (length-proof_domains symbols s.hypotheses (scope_of_terms symbols s)) in
    let split : after Var (names ++ variables) ≡ two = after-append Var names variables in
    let split_all : after Var ((names ++ variables) ++ proofs) ≡ three = after-append Var (names ++ variables) proofs ∙ ap (λ w. after w proofs) split in
    let front : length (names ++ variables) ≡ length (type_domains ++ variable_domains) =
    (let a = length-append names variables in let b = length-append type_domains variable_domains in omega (arith, a, b, long_types, long_terms)) in
    let long : length ((names ++ variables) ++ proofs) ≡ length (domains_of symbols s) =
    (let a = length-append (names ++ variables) proofs in let b =
    length-append (type_domains ++ variable_domains) hypothesis_domains in omega (arith, a, b, front, long_proofs)) in
    let args = (names ++ variables) ++ proofs in
    let inner = term_tree symbols (scope_of symbols s) s.conclusion in
    let becomes = ap size (ap (λ w. sub w inner) split_all
    ∙ formula-agrees m [] symbols scope P Q three (scope_of symbols s) types_three terms_three s.conclusion conclusion) in
    let sizes_all = domain_sizes-append Var (type_domains ++ variable_domains) hypothesis_domains (names ++ variables) proofs front in
    let sizes_front = domain_sizes-append Var type_domains variable_domains names variables long_types in
    let sizes_last = ap (λ w. domain_sizes w hypothesis_domains proofs) split in
    let whole = cost-applied m (Sym symbol) args [] in
    let head = symbol-cost m symbol (args ++ []) (sequent_tree symbols s) declared in
    let spreads_to = spread-products args [] (domains_of symbols s) (Sym proof_symbol) inner long in
    let totals = total-append m (names ++ variables) proofs in
    let totals_front = total-append m names variables in
    omega (arith, whole, head, spreads_to, becomes, sizes_all, sizes_front, sizes_last, first, second, third, totals, totals_front)
