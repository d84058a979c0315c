-- The lemma of all rows: a theorem in a scope that fits its sequent is a shaped proof of what its conclusion is in that scope.
use Rattle.std.proofs.Common.{◌≡◌, ℕ, true, false, List, [], ◌∷◌, ◌++◌, map, Some, inl, refl, sym, ap, subst, ◌∙◌}
use Rattle.std.specs.List.{AllByRecursion}
use Rattle.hol_spec.specs.Names.{Name}
use Rattle.hol_spec.specs.Types.{variable_places}
use Rattle.hol_spec.specs.Terms.{Term, Variable}
use Rattle.hol_spec.specs.Sequents.{Sequent, IsSequent, type_variables_of, free_variables_of}
use Rattle.lp_spec.specs.Trees.{Tree, Var, Sym}
use Rattle.lp_spec.specs.Substitution.{sub, cons}
use Rattle.lp_binding_laws.specs.Composition.{sub_var}
use Rattle.lp_spec.specs.Modules.{Declaration, types, term_of, proof_of, symbol_type}
use Rattle.lp_spec.specs.Shaped.{IsSimple, IsTerm, IsProof, call, called}
use Rattle.hol_spec.specs.Lists.{IsIn}
use Rattle.hol_laws.specs.Members.{IsIn-left, IsIn-right, All-each, All-at}
use Rattle.hol_laws.specs.RenamedSequents.{free_variables-known}
use Rattle.translate_spec.specs.Scopes.{SymbolMap, type_tree, Scope, term_tree, under_term, under_proof, unfilled, term_domains, proof_domains, scope_of_types, scope_of_terms, scope_of, domains_of, conclusion_tree, sequent_tree, theorem_tree}
use Rattle.translate_laws.specs.ScopeLaws.{through_types, type_tree-sub}
use Rattle.translate_laws.specs.TermScopeLaws.{type_tree-agrees}
use Rattle.translate_laws.specs.SimultaneousArguments.{after, after-append}
use Rattle.translate_laws.specs.ScopeTyping.{types-agree}
use Rattle.translate_laws.specs.TheoremTyping.{IsFormula, HasInstances, TypesAgree, TermsAgree, TypesAgree-under, TermsAgree-under, terms-TypesAgree, terms-agree, formula-agrees, proofs-TypesAgree, proofs-TermsAgree, term-IsFormula}
use Rattle.translate_laws.specs.ShapeLaws.{Argument, a_type, a_term, AreAfter, AreAfter-append, shaped-at, Solid-products}

-- what stands for a sequent's type variables, free variables and hypotheses is shaped as it has to be
pub record ShapedFits (m : List Declaration) (symbols : SymbolMap) (G : List Tree) (scope : Scope) (s : Sequent) : Type 0 where
  pub types : AllByRecursion (λ n. IsSimple m G (scope.types n)) (type_variables_of s)
  pub terms : AllByRecursion (λ v. IsTerm m G (scope.terms v) (type_tree symbols scope.types v.1)) (free_variables_of s)
  pub proofs : AllByRecursion (λ h. Argument m G (scope.proofs h) (proof_of (term_tree symbols scope h))) s.hypotheses

module _ (m : List Declaration) (G : List Tree) (symbols : SymbolMap) (other : Scope) (P : Name → Type 0) (Q : Variable → Type 0) where
  types-after : (ns : List Name) (s : ℕ → Tree) → AllByRecursion (λ n. IsSimple m G (other.types n)) ns
      → AreAfter m G s (map (λ n. types) ns) (map other.types ns)
  types-after [] s h = tt
  types-after (n ∷ ns) s h = (a_type h.0, types-after ns (cons (other.types n) s) h.1)

  terms-after : (vs : List Variable) (scope : Scope) (s : ℕ → Tree) → TypesAgree m G symbols other P Q s scope
      → AllByRecursion (λ v. AllByRecursion P (variable_places v.1)) vs
      → AllByRecursion (λ v. IsTerm m G (other.terms v) (type_tree symbols other.types v.1)) vs
      → AreAfter m G s (term_domains symbols vs scope) (map other.terms vs)
  terms-after [] scope s a k h = tt
  terms-after (v ∷ vs) scope s a k h = (
    subst (λ w. Argument m G (other.terms v) (term_of w))
        (sym (type_tree-sub symbols s scope.types v.1 ∙ type_tree-agrees symbols P (through_types s scope.types) other.types a v.1 k.0)) (a_term h.0),
    terms-after vs (under_term v scope) (cons (other.terms v) s) (TypesAgree-under m G symbols other P Q s (other.terms v) scope a) k.1 h.1,
  )

  proofs-after : (hs : List Term) (scope : Scope) (s : ℕ → Tree) → TypesAgree m G symbols other P Q s scope → TermsAgree m G symbols other P Q s scope
      → AllByRecursion (IsFormula symbols P Q) hs
      → AllByRecursion (λ h. Argument m G (other.proofs h) (proof_of (term_tree symbols other h))) hs
      → AreAfter m G s (proof_domains symbols hs scope) (map other.proofs hs)
  proofs-after [] scope s a b f h = tt
  proofs-after (p ∷ ps) scope s a b f h = (
    subst (λ w. Argument m G (other.proofs p) (proof_of w)) (sym (formula-agrees m G symbols other P Q s scope a b p f.0)) h.0,
    proofs-after ps (under_proof p scope) (cons (other.proofs p) s) (TypesAgree-under m G symbols other P Q s (other.proofs p) scope a)
        (TermsAgree-under m G symbols other P Q s (other.proofs p) scope b) f.1 h.1,
  )

pub theorem_tree-shaped : (m : List Declaration) (symbols : SymbolMap) (G : List Tree) (scope : Scope) (s : Sequent) (symbol : ℕ)
    → symbol_type m symbol ≡ Some (sequent_tree symbols s) → IsSequent s → HasInstances symbols s → ShapedFits m symbols G scope s
    → IsProof m false G (theorem_tree scope symbol s) (proof_of (term_tree symbols scope s.conclusion))
theorem_tree-shaped m symbols G scope s symbol declared is instances fits =
    let P = IsIn (type_variables_of s) in
    let Q = IsIn (free_variables_of s) in
    let names = map scope.types (type_variables_of s) in
    let variables = map scope.terms (free_variables_of s) in
    let proofs = map scope.proofs s.hypotheses in
    let one = after Var names in
    let two = after one variables in
    let three = after two proofs in
    let types_one : (n : Name) → P n → sub one ((scope_of_types symbols s).types n) ≡ scope.types n =
    λ n p. types-agree m G scope.types (type_variables_of s) unfilled Var n (inl p) in
    let types_two = terms-TypesAgree m G symbols scope P Q (free_variables_of s) (scope_of_types symbols s) one types_one in
    let terms_two : (v : Variable) → Q v → sub two ((scope_of_terms symbols s).terms v) ≡ scope.terms v =
    λ v q. terms-agree m G symbols scope P Q (free_variables_of s) (scope_of_types symbols s) one v (inl q) in
    let types_three = proofs-TypesAgree m G symbols scope P Q s.hypotheses (scope_of_terms symbols s) two types_two in
    let terms_three = proofs-TermsAgree m G symbols scope P Q s.hypotheses (scope_of_terms symbols s) two terms_two in
    let formulas : AllByRecursion (IsFormula symbols P Q) s.hypotheses =
    All-each _ s.hypotheses
    (λ h i. term-IsFormula s symbols h (IsIn-left s.hypotheses (s.conclusion ∷ []) h i) (All-at _ s.hypotheses h instances.hypotheses i)
    (All-at _ s.hypotheses h is.hypotheses i)) in
    let conclusion : IsFormula symbols P Q s.conclusion =
    term-IsFormula s symbols s.conclusion (IsIn-right s.hypotheses (s.conclusion ∷ []) s.conclusion (inl refl)) instances.conclusion is.conclusion in
    let first = types-after m G symbols scope P Q (type_variables_of s) Var fits.types in
    let second = terms-after m G symbols scope P Q (free_variables_of s) (scope_of_types symbols s) one types_one (free_variables-known s) fits.terms in
    let third = proofs-after m G symbols scope P Q s.hypotheses (scope_of_terms symbols s) two types_two terms_two formulas fits.proofs in
    let type_domains = map (λ n. types) (type_variables_of s) in
    let variable_domains = term_domains symbols (free_variables_of s) (scope_of_types symbols s) in
    let hypothesis_domains = proof_domains symbols s.hypotheses (scope_of_terms symbols s) in
    let split : after Var (names ++ variables) ≡ two = after-append Var names variables in
    let split_all : after Var ((names ++ variables) ++ proofs) ≡ three = after-append Var (names ++ variables) proofs ∙ ap (λ w. after w proofs) split in
    let front = AreAfter-append m G Var type_domains variable_domains names variables first second in
    let all = AreAfter-append m G Var (type_domains ++ variable_domains) hypothesis_domains (names ++ variables) proofs front
    (subst (λ w. AreAfter m G w hypothesis_domains proofs) (sym split) third) in
    let at_symbol : IsProof m true G (Sym symbol) (sub Var (sequent_tree symbols s)) =
    subst (IsProof m true G (Sym symbol)) (sym (sub_var (sequent_tree symbols s)))
    (call declared (Solid-products (domains_of symbols s) (conclusion_tree symbols s) tt)) in
    let whole = shaped-at m G Var (domains_of symbols s) ((names ++ variables) ++ proofs) (Sym symbol) (conclusion_tree symbols s) at_symbol all in
    let becomes : sub (after Var ((names ++ variables) ++ proofs)) (term_tree symbols (scope_of symbols s) s.conclusion)
    ≡ term_tree symbols scope s.conclusion =
    ap (λ w. sub w (term_tree symbols (scope_of symbols s) s.conclusion)) split_all
    ∙ formula-agrees m G symbols scope P Q three (scope_of symbols s) types_three terms_three s.conclusion conclusion in
    subst (λ w. IsProof m false G (theorem_tree scope symbol s) (proof_of w)) becomes (called whole)
