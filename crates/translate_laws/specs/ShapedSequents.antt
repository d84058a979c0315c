-- The scope of a sequent is shaped under its binders, so that its product is a declared type; and a theorem in such a scope is a shaped
-- proof of its conclusion there.
use Rattle.std.proofs.Common.{◌≡◌, ℕ, List, [], ◌∷◌, ◌++◌, map, Bool, true, false, cond, ◌⊎◌, inl, inr, refl, sym, ap, subst, ◌∙◌}
use Rattle.std.specs.List.{AllByRecursion}
use Rattle.hol_spec.specs.Names.{Name}
use Rattle.hol_spec.specs.NameEquality.{name_eq}
use Rattle.hol_spec.specs.Primitives.{bool}
use Rattle.hol_spec.specs.Terms.{Term, Variable, variable_eq, term_eq, HasType}
use Rattle.hol_laws.specs.TermLaws.{variable_eq-Decides, term_eq-Decides}
use Rattle.hol_spec.specs.Sequents.{Sequent, IsSequent, type_variables_of, free_variables_of}
use Rattle.lp_spec.specs.Trees.{Tree, Var, Sym, App, lift}
use Rattle.lp_binding_laws.specs.Composition.{lift_zero}
use Rattle.lp_spec.specs.Modules.{Declaration, types, bools, term_of, proof_of, arr_of, select_symbol}
use Rattle.lp_typing_laws.specs.ConversionLaws.{IsClosed}
use Rattle.lp_typing_laws.specs.Telescopes.{under}
use Rattle.lp_spec.specs.Shaped.{IsConstant, type_variable, constant, at_type, IsSimple, IsTerm, of_entry, of_constant, of_function, of_binder, IsDeclared, of_types, of_terms, of_proofs, IsProof}
use Rattle.lp_check_laws.specs.ShapedCalls.{shaped-equation}
use Rattle.lp_check_laws.specs.Found.{simple-weaken}
use Rattle.hol_spec.specs.Lists.{IsIn}
use Rattle.hol_laws.specs.Members.{All-each, All-weaker}
use Rattle.translate_spec.specs.Scopes.{SymbolMap, TypeScope, type_tree, Scope, lifted_types, lifted, term_tree, under_type, under_types, under_term, under_terms, under_proof, under_proofs, unfilled, filler, filled, term_domains, proof_domains, scope_of_types, scope_of_terms, scope_of, domains_of, conclusion_tree, theorem_tree}
use Rattle.translate_laws.specs.ScopeLaws.{type_tree-lift, term_tree-lift}
use Rattle.translate_laws.specs.SimultaneousArguments.{under-append}
use Rattle.translate_laws.specs.ScopeTyping.{TypeOver, TermOver}
use Rattle.translate_laws.specs.SequentScope.{context_of, SequentOver, SequentOver-instances, IsPremise, variables-over, term_tree-proofs}
use Rattle.translate_laws.specs.ShapeLaws.{IsEntry, entry-weaken, Argument, AreDeclared, AreDeclared-append}
use Rattle.translate_laws.specs.ShapedScopes.{ShapedTypes, ShapedScope, lifted-shaped, type_tree-shaped, term_tree-shaped}
use Rattle.translate_laws.specs.ShapedTheorems.{theorem_tree-shaped}

-- what stands for a hypothesis is an entry of the context that proves it
abbrev pub HasEntry : SymbolMap → List Tree → Scope → Term → Type 0
HasEntry symbols G scope h = IsEntry G (scope.proofs h) (term_tree symbols scope h)

-- what a sequent's own scope has
pub record OwnShape (m : List Declaration) (symbols : SymbolMap) (s : Sequent) : Type 0 where
  pub domains : AreDeclared m [] (domains_of symbols s)
  pub scope : ShapedScope m symbols (context_of symbols s) (scope_of symbols s)
  pub proofs : (h : Term) → IsIn s.hypotheses h → HasEntry symbols (context_of symbols s) (scope_of symbols s) h
  pub conclusion : IsDeclared m (context_of symbols s) (conclusion_tree symbols s)

module _ (m : List Declaration) (closed : IsClosed m) where
  -- a filler is a term of its type
  pub filler-shaped : {G : List Tree} (a : Tree) → IsSimple m G a → IsTerm m G (filler a) a
  filler-shaped {G = G} a ha =
      let bool : IsSimple m G bools = constant refl tt in
      let predicates : IsSimple m G (arr_of a bools) = at_type (at_type (constant refl tt) ha refl) bool refl in
      let functions : IsSimple m G (arr_of (arr_of a bools) a) = at_type (at_type (constant refl tt) predicates refl) ha refl in
      let select : IsConstant m G (App (Sym select_symbol) a) (term_of (arr_of (arr_of a bools) a)) =
      at_type (constant {s = select_symbol} refl tt) ha (ap (λ w. term_of (arr_of (arr_of w bools) w)) (lift_zero a)) in
      let inner : IsSimple m (term_of a ∷ G) (lift 1 a) = simple-weaken m closed ha in
      of_function (of_constant select functions)
      (of_binder ha bool (shaped-equation m inner (of_entry refl refl inner) (of_entry refl refl inner)))

  module _ (symbols : SymbolMap) where
    under_type-shaped : (G : List Tree) (n : Name) (scope : TypeScope) → ShapedTypes m G scope → ShapedTypes m (types ∷ G) (under_type n scope)
    under_type-shaped G n scope h k = go (name_eq k n)
      where
        go : (b : Bool) → IsSimple m (types ∷ G) (cond b (Var 0) (lift 1 (scope k)))
        go true = type_variable refl
        go false = simple-weaken m closed (h k)

    pub under_types-shaped : (ns : List Name) (G : List Tree) (scope : TypeScope) → ShapedTypes m G scope
        → ShapedTypes m (under G (map (λ n. types) ns)) (under_types ns scope)
    under_types-shaped [] G scope h = h
    under_types-shaped (n ∷ ns) G scope h = under_types-shaped ns (types ∷ G) (under_type n scope) (under_type-shaped G n scope h)

    pub types-AreDeclared : (ns : List Name) (G : List Tree) → AreDeclared m G (map (λ n. types) ns)
    types-AreDeclared [] G = tt
    types-AreDeclared (n ∷ ns) G = (of_types, types-AreDeclared ns (types ∷ G))

    -- a scope that is filled is shaped
    pub filled-shaped : (G : List Tree) (scope : TypeScope) → ShapedTypes m G scope → ShapedScope m symbols G (filled symbols scope)
    filled-shaped G scope h = record { types = h; terms = λ v o. filler-shaped (type_tree symbols scope v.1) (type_tree-shaped m G symbols scope h v.1 o) }

    -- under the binder of a variable of a type over the symbols
    pub under_term-shaped : (G : List Tree) (v : Variable) (scope : Scope) → TypeOver m symbols v.1 → ShapedScope m symbols G scope
        → ShapedScope m symbols (term_of (type_tree symbols scope.types v.1) ∷ G) (under_term v scope)
    under_term-shaped G v scope ov h = record { types = l.types; terms = λ w o. go w (variable_eq w v) (variable_eq-Decides w v).0 (l.terms w o) }
      where
        A : Tree
        A = type_tree symbols scope.types v.1

        l : ShapedScope m symbols (term_of A ∷ G) (lifted scope)
        l = lifted-shaped m closed symbols G (term_of A) scope h

        go : (w : Variable) (b : Bool) → (b ≡ true → w ≡ v)
            → IsTerm m (term_of A ∷ G) (lift 1 (scope.terms w)) (type_tree symbols (lifted_types scope.types) w.1)
            → IsTerm m (term_of A ∷ G) (cond b (Var 0) (lift 1 (scope.terms w))) (type_tree symbols (lifted_types scope.types) w.1)
        go w true e t =
            let same : lift 1 A ≡ type_tree symbols (lifted_types scope.types) w.1 =
            type_tree-lift symbols scope.types v.1 ∙ ap (λ (u : Variable). type_tree symbols (lifted_types scope.types) u.1) (sym (e refl)) in
            of_entry refl same (subst (IsSimple m (term_of A ∷ G)) same (simple-weaken m closed (type_tree-shaped m G symbols scope.types h.types v.1 ov)))
        go w false e t = t

    under_terms-AreDeclared : (vs : List Variable) (G : List Tree) (scope : Scope) → ShapedScope m symbols G scope
        → AllByRecursion (λ v. TypeOver m symbols v.1) vs → AreDeclared m G (term_domains symbols vs scope)
    under_terms-AreDeclared [] G scope h o = tt
    under_terms-AreDeclared (v ∷ vs) G scope h o = (
      of_terms (type_tree-shaped m G symbols scope.types h.types v.1 o.0),
      under_terms-AreDeclared vs (term_of (type_tree symbols scope.types v.1) ∷ G) (under_term v scope) (under_term-shaped G v scope o.0 h) o.1,
    )

    under_terms-shaped : (vs : List Variable) (G : List Tree) (scope : Scope) → ShapedScope m symbols G scope → AllByRecursion (λ v. TypeOver m symbols v.1) vs
        → ShapedScope m symbols (under G (term_domains symbols vs scope)) (under_terms vs scope)
    under_terms-shaped [] G scope h o = h
    under_terms-shaped (v ∷ vs) G scope h o = under_terms-shaped vs (term_of (type_tree symbols scope.types v.1) ∷ G) (under_term v scope)
        (under_term-shaped G v scope o.0 h) o.1

    pub under_proof-shaped : (G : List Tree) (A : Tree) (p : Term) (scope : Scope) → ShapedScope m symbols G scope
        → ShapedScope m symbols (A ∷ G) (under_proof p scope)
    under_proof-shaped G A p scope h = let l = lifted-shaped m closed symbols G A scope h in record { types = l.types; terms = l.terms }

    -- a formula over the symbols is a term of type bool
    pub formula-shaped : (G : List Tree) (scope : Scope) → ShapedScope m symbols G scope → (p : Term) → TermOver m symbols p → HasType p bool
        → IsTerm m G (term_tree symbols scope p) bools
    formula-shaped G scope h p o t = term_tree-shaped m closed symbols G scope [] h (λ k a e. absurd (cc)) (λ k a e. absurd (cc)) p bool o t

    under_proofs-AreDeclared : (hs : List Term) (G : List Tree) (scope : Scope) → ShapedScope m symbols G scope → AllByRecursion (TermOver m symbols) hs
        → AllByRecursion (λ h. HasType h bool) hs → AreDeclared m G (proof_domains symbols hs scope)
    under_proofs-AreDeclared [] G scope h o t = tt
    under_proofs-AreDeclared (p ∷ ps) G scope h o t = (
      of_proofs (formula-shaped G scope h p o.0 t.0),
      under_proofs-AreDeclared ps (proof_of (term_tree symbols scope p) ∷ G) (under_proof p scope)
          (under_proof-shaped G (proof_of (term_tree symbols scope p)) p scope h) o.1 t.1,
    )

    under_proofs-shaped : (hs : List Term) (G : List Tree) (scope : Scope) → ShapedScope m symbols G scope
        → ShapedScope m symbols (under G (proof_domains symbols hs scope)) (under_proofs hs scope)
    under_proofs-shaped [] G scope h = h
    under_proofs-shaped (p ∷ ps) G scope h = under_proofs-shaped ps (proof_of (term_tree symbols scope p) ∷ G) (under_proof p scope)
        (under_proof-shaped G (proof_of (term_tree symbols scope p)) p scope h)

    -- under the binder of a hypothesis that and each other that had an entry have one
    pub under_proof-HasEntry : (G : List Tree) (p : Term) (scope : Scope) (h : Term) → ((h ≡ p) ⊎ HasEntry symbols G scope h)
        → HasEntry symbols (proof_of (term_tree symbols scope p) ∷ G) (under_proof p scope) h
    under_proof-HasEntry G p scope h either = go (term_eq h p) (term_eq-Decides h p).0 (term_eq-Decides h p).1 either
      where
        D : List Tree
        D = proof_of (term_tree symbols scope p) ∷ G

        is : (g : Term) → lift 1 (term_tree symbols scope g) ≡ term_tree symbols (under_proof p scope) g
        is g = term_tree-lift symbols scope g ∙ term_tree-proofs symbols (under_proof p scope).proofs (lifted scope) g

        go : (b : Bool) → (b ≡ true → h ≡ p) → (h ≡ p → b ≡ true) → ((h ≡ p) ⊎ HasEntry symbols G scope h)
            → IsEntry D (cond b (Var 0) (lift 1 (scope.proofs h))) (term_tree symbols (under_proof p scope) h)
        go true e f either =
            record {
              number = 0;
              declared = term_tree symbols scope p;
              is = refl;
              at = refl;
              lifted =
                  ap proof_of (is p ∙ ap (λ g. term_tree symbols (under_proof p scope) g) (sym (e refl)));
            }
        go false e f (inl k) = absurd (let yes = f k in cc)
        go false e f (inr k) = subst (IsEntry D (lift 1 (scope.proofs h))) (is h) (entry-weaken (proof_of (term_tree symbols scope p)) k)

    under_proofs-HasEntry : (hs : List Term) (G : List Tree) (scope : Scope) (h : Term) → (IsIn hs h ⊎ HasEntry symbols G scope h)
        → HasEntry symbols (under G (proof_domains symbols hs scope)) (under_proofs hs scope) h
    under_proofs-HasEntry [] G scope h (inl k) = absurd k
    under_proofs-HasEntry [] G scope h (inr k) = k
    under_proofs-HasEntry (p ∷ ps) G scope h (inl (inl e)) =
        under_proofs-HasEntry ps (proof_of (term_tree symbols scope p) ∷ G) (under_proof p scope) h (inr (under_proof-HasEntry G p scope h (inl e)))
    under_proofs-HasEntry (p ∷ ps) G scope h (inl (inr k)) = under_proofs-HasEntry ps (proof_of (term_tree symbols scope p) ∷ G) (under_proof p scope) h (inl k)
    under_proofs-HasEntry (p ∷ ps) G scope h (inr k) =
        under_proofs-HasEntry ps (proof_of (term_tree symbols scope p) ∷ G) (under_proof p scope) h (inr (under_proof-HasEntry G p scope h (inr k)))

    -- The sequent's telescope
    pub own_shape : (s : Sequent) → IsSequent s → SequentOver m symbols s → OwnShape m symbols s
    own_shape s is over =
        let vs = free_variables_of s in
        let A = map (λ n. types) (type_variables_of s) in
        let B = term_domains symbols vs (scope_of_types symbols s) in
        let C = proof_domains symbols s.hypotheses (scope_of_terms symbols s) in
        let known = variables-over m symbols s over in
        let one : ShapedScope m symbols (under [] A) (scope_of_types symbols s) =
        filled-shaped (under [] A) (under_types (type_variables_of s) unfilled)
        (under_types-shaped (type_variables_of s) [] unfilled (λ n. constant refl tt)) in
        let two : ShapedScope m symbols (under (under [] A) B) (scope_of_terms symbols s) =
        under_terms-shaped vs (under [] A) (scope_of_types symbols s) one known in
        let three : ShapedScope m symbols (under (under (under [] A) B) C) (scope_of symbols s) =
        under_proofs-shaped s.hypotheses (under (under [] A) B) (scope_of_terms symbols s) two in
        let split : under (under (under [] A) B) C ≡ context_of symbols s = sym (under-append [] (A ++ B) C ∙ ap (λ G. under G C) (under-append [] A B)) in
        let front : AreDeclared m [] (A ++ B) = AreDeclared-append m [] A B (types-AreDeclared (type_variables_of s) [])
        (under_terms-AreDeclared vs (under [] A) (scope_of_types symbols s) one known) in
        let back : AreDeclared m (under [] (A ++ B)) C =
        subst (λ G. AreDeclared m G C) (sym (under-append [] A B))
        (under_proofs-AreDeclared s.hypotheses (under (under [] A) B) (scope_of_terms symbols s) two over.hypotheses is.hypotheses) in
        let whole = subst (λ G. ShapedScope m symbols G (scope_of symbols s)) split three in
        record {
          domains = AreDeclared-append m [] (A ++ B) C front back;
          scope = whole;
          proofs = λ h i. subst (λ G. HasEntry symbols G (scope_of symbols s) h) split
              (under_proofs-HasEntry s.hypotheses (under (under [] A) B) (scope_of_terms symbols s) h (inl i));
          conclusion = of_proofs (formula-shaped (context_of symbols s) (scope_of symbols s) whole s.conclusion over.conclusion is.conclusion);
        }

    -- a premise in a shaped scope in which its hypotheses have shaped proofs
    pub premise-shaped : (G : List Tree) (scope : Scope) → ShapedScope m symbols G scope → (symbol : ℕ) (s : Sequent) → IsPremise m symbols symbol s
        → ((h : Term) → IsIn s.hypotheses h → Argument m G (scope.proofs h) (proof_of (term_tree symbols scope h)))
        → IsProof m false G (theorem_tree scope symbol s) (proof_of (term_tree symbols scope s.conclusion))
    premise-shaped G scope h symbol s p proofs =
        theorem_tree-shaped m symbols G scope s symbol p.declared p.is (SequentOver-instances m symbols s p.over)
        (record {
          types = All-each _ (type_variables_of s) (λ n i. h.types n);
          terms = All-weaker _ _ (λ v o. h.terms v o) (free_variables_of s) (variables-over m symbols s p.over);
          proofs = All-each _ s.hypotheses proofs;
        })
