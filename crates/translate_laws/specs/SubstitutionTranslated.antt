-- Translation of substitution, for types, terms and sequents: the translation of what was substituted is the translation with the translated
-- images put in.
use Rattle.std.proofs.Common.{◌≡◌, ℕ, List, [], ◌∷◌, ◌++◌, map, inl, refl, sym, ap, ◌∙◌, arith}
use Rattle.std.specs.List.{AllByRecursion}
use Rattle.std.proofs.Math.Path.{ap₂}
use Rattle.hol_spec.specs.Names.{Name}
use Rattle.hol_spec.specs.Substitution.{TypePairs, image, substitute}
use Rattle.hol_spec.specs.Terms.{Term, Variable}
use Rattle.hol_spec.specs.TermSubstitution.{TermPairs, term_image, sub}
use Rattle.hol_spec.specs.Sequents.{Sequent, IsSequent, type_variables_of, free_variables_of}
use Rattle.lp_spec.specs.Trees.{Tree, Var, Pi, lift, put_all}
use Rattle.lp_spec.specs.Substitution as trees
use Rattle.lp_spec.specs.Substitution.{ups}
use Rattle.lp_binding_laws.specs.SubstitutionLaws.{sub-lift}
use Rattle.lp_spec.specs.Modules.{Declaration, products, proof_of}
use Rattle.hol_spec.specs.Lists.{IsIn}
use Rattle.hol_laws.specs.Members.{IsIn-left, IsIn-right, All-each, All-at}
use Rattle.translate_spec.specs.Scopes.{SymbolMap, Scope, lifted, term_tree, under_proof, under_proofs, unfilled, scope_of_types, scope_of_terms, proof_domains, conclusion_tree, images, TypeScope, type_tree, under_types, under_terms, filled}
use Rattle.translate_laws.specs.ScopeLaws.{same_scope, through, type_tree-lift, term_tree-sub, term_tree-lift, type_tree-sub, type_tree-substitute}
use Rattle.translate_laws.specs.TermScopeLaws.{AreClosed, AreInstances, Agrees, term_tree-agrees, term_tree-substitution, type_tree-agrees}
use Rattle.translate_laws.specs.SimultaneousArguments.{after, after-append}
use Rattle.translate_laws.specs.ScopeTyping.{types-agree}
use Rattle.translate_laws.specs.TheoremTyping.{IsFormula, HasInstances, term-IsFormula, terms-TypesAgree, terms-agree}
use Rattle.translate_laws.specs.SequentScope.{term_tree-proofs}
use Rattle.translate_laws.specs.PuttingLaws.{put_all-after}
use Rattle.hol_spec.specs.Types.{HolType, variable_places}

-- the product over the proofs of formulas, which ends in the proofs of a conclusion
abbrev pub statement_tree : SymbolMap → List Term → Term → Scope → Tree
statement_tree symbols [] c scope = proof_of (term_tree symbols scope c)
statement_tree symbols (h ∷ hs) c scope = Pi (proof_of (term_tree symbols scope h)) (statement_tree symbols hs c (lifted scope))

-- what follows a sequent's products over type variables and free variables
abbrev pub rest_tree : SymbolMap → Sequent → Tree
rest_tree symbols s = products (proof_domains symbols s.hypotheses (scope_of_terms symbols s)) (conclusion_tree symbols s)

module _ (symbols : SymbolMap) where
  -- a statement owes nothing to what stands for hypotheses
  statement-proofs : (hs : List Term) (c : Term) (scope : Scope) (proofs : Term → Tree) → statement_tree symbols hs c scope
      ≡ statement_tree symbols hs c (record { types = scope.types; terms = scope.terms; proofs = proofs; bounds = scope.bounds })
  statement-proofs [] c scope proofs = ap proof_of (term_tree-proofs symbols proofs scope c)
  statement-proofs (h ∷ hs) c scope proofs = ap₂ (λ x y. Pi (proof_of x) y) (term_tree-proofs symbols proofs scope h)
      (statement-proofs hs c (lifted scope) (λ g. lift 1 (proofs g)))

  pub rest-statement : (hs : List Term) (c : Term) (scope : Scope)
      → products (proof_domains symbols hs scope) (proof_of (term_tree symbols (under_proofs hs scope) c)) ≡ statement_tree symbols hs c scope
  rest-statement [] c scope = refl
  rest-statement (h ∷ hs) c scope = ap (Pi (proof_of (term_tree symbols scope h)))
      (rest-statement hs c (under_proof h scope) ∙ sym (statement-proofs hs c (lifted scope) (under_proof h scope).proofs))

  lifted-through : (s : ℕ → Tree) (scope : Scope) → through (ups s) (lifted scope) ≡ lifted (through s scope)
  lifted-through s scope = same_scope (through (ups s) (lifted scope)) (lifted (through s scope)) (λ n. sub-lift s (scope.types n))
      (λ v. sub-lift s (scope.terms v)) (λ h. sub-lift s (scope.proofs h)) (λ k. sub-lift s (scope.bounds k))

  statement-sub : (s : ℕ → Tree) (hs : List Term) (c : Term) (scope : Scope)
      → trees.sub s (statement_tree symbols hs c scope) ≡ statement_tree symbols hs c (through s scope)
  statement-sub s [] c scope = ap proof_of (term_tree-sub symbols s scope c)
  statement-sub s (h ∷ hs) c scope =
      ap₂ (λ x y. Pi (proof_of x) y) (term_tree-sub symbols s scope h)
      (statement-sub (ups s) hs c (lifted scope) ∙ ap (statement_tree symbols hs c) (lifted-through s scope))

  module _ (P : Name → Type 0) (Q : Variable → Type 0) where
    formula-agrees : (scope other : Scope) → Agrees symbols P Q 0 scope other → (h : Term) → IsFormula symbols P Q h
        → term_tree symbols scope h ≡ term_tree symbols other h
    formula-agrees scope other a h f = term_tree-agrees symbols P Q 0 scope other a h f.instances f.type_variables f.free_variables f.closed

    statement-agrees : (hs : List Term) (c : Term) (scope other : Scope) → Agrees symbols P Q 0 scope other → AllByRecursion (IsFormula symbols P Q) hs
        → IsFormula symbols P Q c
        → statement_tree symbols hs c scope ≡ statement_tree symbols hs c other
    statement-agrees [] c scope other a f g = ap proof_of (formula-agrees scope other a c g)
    statement-agrees (h ∷ hs) c scope other a f g =
        ap₂ (λ x y. Pi (proof_of x) y) (formula-agrees scope other a h f.0)
        (statement-agrees hs c (lifted scope) (lifted other)
        (record { types = λ n p. ap (lift 1) (a.types n p); terms = λ v q. ap (lift 1) (a.terms v q); bounds = λ k l. absurd (omega (arith, l)) }) f.1 g)

-- what a statement is in a scope that fits a sequent: its rest with what stands there for its variables put in
pub rest-put_all : (m : List Declaration) (symbols : SymbolMap) (other : Scope) (s : Sequent) → IsSequent s → HasInstances symbols s
    → put_all (map other.types (type_variables_of s) ++ map other.terms (free_variables_of s)) (rest_tree symbols s)
    ≡ statement_tree symbols s.hypotheses s.conclusion other
rest-put_all m symbols other s is instances =
    let P = IsIn (type_variables_of s) in
    let Q = IsIn (free_variables_of s) in
    let names = map other.types (type_variables_of s) in
    let variables = map other.terms (free_variables_of s) in
    let one = after Var names in
    let types_one : (n : Name) → P n → trees.sub one ((scope_of_types symbols s).types n) ≡ other.types n =
    λ n p. types-agree m [] other.types (type_variables_of s) unfilled Var n (inl p) in
    let types_two = terms-TypesAgree m [] symbols other P Q (free_variables_of s) (scope_of_types symbols s) one types_one in
    let terms_two : (v : Variable) → Q v → trees.sub (after one variables) ((scope_of_terms symbols s).terms v) ≡ other.terms v =
    λ v q. terms-agree m [] symbols other P Q (free_variables_of s) (scope_of_types symbols s) one v (inl q) in
    let formulas : AllByRecursion (IsFormula symbols P Q) s.hypotheses =
    All-each _ s.hypotheses
    (λ h i. term-IsFormula s symbols h (IsIn-left s.hypotheses (s.conclusion ∷ []) h i) (All-at _ s.hypotheses h instances.hypotheses i)
    (All-at _ s.hypotheses h is.hypotheses i)) in
    let conclusion : IsFormula symbols P Q s.conclusion =
    term-IsFormula s symbols s.conclusion (IsIn-right s.hypotheses (s.conclusion ∷ []) s.conclusion (inl refl)) instances.conclusion is.conclusion in
    put_all-after (names ++ variables) (rest_tree symbols s)
    ∙ ap (λ w. trees.sub w (rest_tree symbols s)) (after-append Var names variables)
    ∙ ap (trees.sub (after one variables)) (rest-statement symbols s.hypotheses s.conclusion (scope_of_terms symbols s))
    ∙ statement-sub symbols (after one variables) s.hypotheses s.conclusion (scope_of_terms symbols s)
    ∙ statement-agrees symbols P Q s.hypotheses s.conclusion (through (after one variables) (scope_of_terms symbols s)) other
    (record { types = types_two; terms = terms_two; bounds = λ k l. absurd (omega (arith, l)) }) formulas conclusion

-- under a binder more, what stands for the images is lifted
images-lifted : (symbols : SymbolMap) (pairs : TypePairs) (terms : TermPairs) (scope : Scope)
    → lifted (images symbols pairs terms scope) ≡ images symbols pairs terms (lifted scope)
images-lifted symbols pairs terms scope =
    same_scope (lifted (images symbols pairs terms scope)) (images symbols pairs terms (lifted scope))
    (λ n. type_tree-lift symbols scope.types (image pairs n)) (λ v. term_tree-lift symbols scope (term_image terms (v.0, substitute pairs v.1))) (λ h. refl)
    (λ k. refl)

substituted-statement : (symbols : SymbolMap) (pairs : TypePairs) (terms : TermPairs) → AreClosed terms → (hs : List Term) (c : Term) (scope : Scope)
    → AllByRecursion (AreInstances symbols) hs → AreInstances symbols c
    → statement_tree symbols hs c (images symbols pairs terms scope) ≡ statement_tree symbols (map (sub pairs terms) hs) (sub pairs terms c) scope
substituted-statement symbols pairs terms closed [] c scope i j = ap proof_of (sym (term_tree-substitution symbols pairs terms closed scope c j))
substituted-statement symbols pairs terms closed (h ∷ hs) c scope i j =
    ap₂ (λ x y. Pi (proof_of x) y) (sym (term_tree-substitution symbols pairs terms closed scope h i.0))
    (ap (statement_tree symbols hs c) (images-lifted symbols pairs terms scope) ∙ substituted-statement symbols pairs terms closed hs c (lifted scope) i.1 j)

-- Translation of substitution for a sequent: what follows its products over type variables and free variables, with the translated images put
-- in, is the product over the proofs of the substituted hypotheses, one for each also where two become equal, which ends in the proofs of the
-- substituted conclusion.
pub sequent-substitution : (m : List Declaration) (symbols : SymbolMap) (pairs : TypePairs) (terms : TermPairs) → AreClosed terms
    → (scope : Scope) (s : Sequent)
    → IsSequent s → HasInstances symbols s
    → put_all (map (images symbols pairs terms scope).types (type_variables_of s) ++ map (images symbols pairs terms scope).terms (free_variables_of s))
    (rest_tree symbols s)
    ≡ statement_tree symbols (map (sub pairs terms) s.hypotheses) (sub pairs terms s.conclusion) scope
sequent-substitution m symbols pairs terms closed scope s is instances =
    rest-put_all m symbols (images symbols pairs terms scope) s is instances
    ∙ substituted-statement symbols pairs terms closed s.hypotheses s.conclusion scope instances.hypotheses instances.conclusion

-- Translation of substitution for a type and for a term under the binders of their variables: to put the translated images in its tree is to
-- translate what was substituted.
pub type-put_all : (symbols : SymbolMap) (pairs : TypePairs) (scope : TypeScope) (names : List Name) (t : HolType)
    → AllByRecursion (IsIn names) (variable_places t)
    → put_all (map (λ n. type_tree symbols scope (image pairs n)) names) (type_tree symbols (under_types names unfilled) t)
    ≡ type_tree symbols scope (substitute pairs t)
type-put_all symbols pairs scope names t h =
    let other : TypeScope = λ n. type_tree symbols scope (image pairs n) in
    let one = after Var (map other names) in
    put_all-after (map other names) (type_tree symbols (under_types names unfilled) t)
    ∙ type_tree-sub symbols one (under_types names unfilled) t
    ∙ type_tree-agrees symbols (IsIn names) (λ n. trees.sub one (under_types names unfilled n)) other
    (λ n i. types-agree [] [] other names unfilled Var n (inl i)) t h
    ∙ sym (type_tree-substitute symbols pairs scope t)

pub term-put_all : (symbols : SymbolMap) (pairs : TypePairs) (terms : TermPairs) → AreClosed terms
    → (scope : Scope) (names : List Name) (variables : List Variable) (t : Term)
    → IsFormula symbols (IsIn names) (IsIn variables) t
    → put_all (map (images symbols pairs terms scope).types names ++ map (images symbols pairs terms scope).terms variables)
    (term_tree symbols (under_terms variables (filled symbols (under_types names unfilled))) t)
    ≡ term_tree symbols scope (sub pairs terms t)
term-put_all symbols pairs terms closed scope names variables t f =
    let P = IsIn names in
    let Q = IsIn variables in
    let other = images symbols pairs terms scope in
    let inner = filled symbols (under_types names unfilled) in
    let outer = under_terms variables inner in
    let xs = map other.types names in
    let ys = map other.terms variables in
    let one = after Var xs in
    let types_one : (n : Name) → P n → trees.sub one (inner.types n) ≡ other.types n = λ n p. types-agree [] [] other.types names unfilled Var n (inl p) in
    let types_two = terms-TypesAgree [] [] symbols other P Q variables inner one types_one in
    let terms_two : (v : Variable) → Q v → trees.sub (after one ys) (outer.terms v) ≡ other.terms v =
    λ v q. terms-agree [] [] symbols other P Q variables inner one v (inl q) in
    put_all-after (xs ++ ys) (term_tree symbols outer t)
    ∙ ap (λ w. trees.sub w (term_tree symbols outer t)) (after-append Var xs ys)
    ∙ term_tree-sub symbols (after one ys) outer t
    ∙ formula-agrees symbols P Q (through (after one ys) outer) other
    (record { types = types_two; terms = terms_two; bounds = λ k l. absurd (omega (arith, l)) }) t f
    ∙ sym (term_tree-substitution symbols pairs terms closed scope t f.instances)
