-- The tree of a sequent uses the symbols of what the sequent mentions, or a constant whose generic type mentions it.
use Rattle.std.proofs.Common.{◌≡◌, ℕ, ◌+◌, List, [], ◌∷◌, ◌++◌, map, Bool, true, false, ◌||◌, ◌⊎◌, inl, inr, refl, sym, ap, subst, ◌∙◌}
use Rattle.std.specs.Prelude.{nat_eq}
use Rattle.std.specs.List.{list_any, flat_map}
use Rattle.std.proofs.lemmas.Bool.{or_right, or_left, eq-eqb}
use Rattle.hol_spec.specs.Names.{Name}
use Rattle.hol_spec.specs.NameEquality.{name_eq}
use Rattle.hol_laws.specs.NameEqualityLaws.{name_eq-Decides}
use Rattle.hol_spec.specs.Types as type
use Rattle.hol_spec.specs.Types.{HolType, HolTypes, count, variable_places, variable_places_of_all, type_variables}
use Rattle.hol_spec.specs.Substitution.{Instance, type_arguments}
use Rattle.hol_spec.specs.Terms as term
use Rattle.hol_spec.specs.Terms.{Term, Variable, variable_eq, free_places}
use Rattle.hol_laws.specs.TermLaws.{variable_eq-Decides}
use Rattle.hol_spec.specs.Sequents.{Sequent, terms_of, type_variables_of, free_variables_of}
use Rattle.hol_spec.specs.Lists.{IsIn}
use Rattle.hol_laws.specs.Members.{IsIn-either, IsIn-left, IsIn-right, IsIn-distinct, All-at, IsIn-flat_map, flat_map-part}
use Rattle.hol_laws.specs.GenericInstances.{filled_in, filled_in_all, Instance-filled_in, type_arguments-filled_in}
use Rattle.lp_spec.specs.Trees.{Tree, Sym, App}
use Rattle.lp_spec.specs.Modules.{applied, products, types, term_of, proof_of}
use Rattle.translate_spec.specs.Scopes.{SymbolMap, operator_symbol, constant_symbol, generic_type, TypeScope, type_tree, type_trees, Scope, inside, term_tree, under_term, under_proof, term_domains, proof_domains, scope_of_types, scope_of_terms, scope_of, domains_of, conclusion_tree, sequent_tree}
use Rattle.translate_spec.specs.Reach.{Key, operator_key, constant_key, number_key, type_keys, types_keys, term_keys, sequent_keys}
use Rattle.translate_spec.specs.Stands.{occurs}
use Rattle.translate_laws.specs.TermScopeLaws.{AreInstances}
use Rattle.translate_laws.specs.TheoremTyping.{HasInstances}

-- the symbol of a key
abbrev pub symbol_of_key : SymbolMap → Key → ℕ
symbol_of_key symbols (operator_key n k) = operator_symbol symbols n k
symbol_of_key symbols (constant_key n) = constant_symbol symbols n
symbol_of_key symbols (number_key i) = i

-- in an application, in a product and in a list
module _ (s : ℕ) where
  pub head-occurs : (f : Tree) (xs : List Tree) → occurs s f ≡ true → occurs s (applied f xs) ≡ true
  head-occurs f [] e = e
  head-occurs f (x ∷ xs) e = head-occurs (App f x) xs (or_left (occurs s f) (occurs s x) e)

  pub argument-occurs : (f : Tree) (xs : List Tree) → list_any (occurs s) xs ≡ true → occurs s (applied f xs) ≡ true
  argument-occurs f [] e = absurd (cc)
  argument-occurs f (x ∷ xs) e = go (occurs s x) refl e (argument-occurs (App f x) xs)
    where
      go : (b : Bool) → occurs s x ≡ b → (b || list_any (occurs s) xs) ≡ true → (list_any (occurs s) xs ≡ true → occurs s (applied (App f x) xs) ≡ true)
          → occurs s (applied (App f x) xs) ≡ true
      go true is e rest = head-occurs (App f x) xs (or_right (occurs s f) (occurs s x) is)
      go false is e rest = rest e

  pub domain-occurs : (domains : List Tree) (t : Tree) → list_any (occurs s) domains ≡ true → occurs s (products domains t) ≡ true
  domain-occurs [] t e = absurd (cc)
  domain-occurs (d ∷ domains) t e = go (occurs s d) e (domain-occurs domains t)
    where
      go : (b : Bool) → (b || list_any (occurs s) domains) ≡ true → (list_any (occurs s) domains ≡ true → occurs s (products domains t) ≡ true)
          → (b || occurs s (products domains t)) ≡ true
      go true e rest = refl
      go false e rest = rest e

  pub end-occurs : (domains : List Tree) (t : Tree) → occurs s t ≡ true → occurs s (products domains t) ≡ true
  end-occurs [] t e = e
  end-occurs (d ∷ domains) t e = or_right (occurs s d) (occurs s (products domains t)) (end-occurs domains t e)

  any-left : (xs ys : List Tree) → list_any (occurs s) xs ≡ true → list_any (occurs s) (xs ++ ys) ≡ true
  any-left [] ys e = absurd (cc)
  any-left (x ∷ xs) ys e = go (occurs s x) e (any-left xs ys)
    where
      go : (b : Bool) → (b || list_any (occurs s) xs) ≡ true → (list_any (occurs s) xs ≡ true → list_any (occurs s) (xs ++ ys) ≡ true)
          → (b || list_any (occurs s) (xs ++ ys)) ≡ true
      go true e rest = refl
      go false e rest = rest e

  any-right : (xs ys : List Tree) → list_any (occurs s) ys ≡ true → list_any (occurs s) (xs ++ ys) ≡ true
  any-right [] ys e = e
  any-right (x ∷ xs) ys e = or_right (occurs s x) (list_any (occurs s) (xs ++ ys)) (any-right xs ys e)

module _ (symbols : SymbolMap) (k : Key) where
  abbrev s : ℕ
  s = symbol_of_key symbols k

  mutual
    -- the tree of a type uses what the type mentions, in each scope
    pub type-uses : (t : HolType) → IsIn (type_keys t) k → (scope : TypeScope) → occurs s (type_tree symbols scope t) ≡ true
    type-uses (type.HolType.variable n) i scope = absurd i
    type-uses (type.HolType.operator n ts) (inl e) scope =
        head-occurs s (Sym (operator_symbol symbols n (count ts))) (type_trees symbols scope ts)
        (ap (λ (j : Key). nat_eq (symbol_of_key symbols j) (operator_symbol symbols n (count ts))) e
        ∙ eq-eqb (operator_symbol symbols n (count ts)) (operator_symbol symbols n (count ts)) refl)
    type-uses (type.HolType.operator n ts) (inr i) scope =
        argument-occurs s (Sym (operator_symbol symbols n (count ts))) (type_trees symbols scope ts) (types-use ts i scope)

    types-use : (ts : HolTypes) → IsIn (types_keys ts) k → (scope : TypeScope) → list_any (occurs s) (type_trees symbols scope ts) ≡ true
    types-use type.HolTypes.none i scope = absurd i
    types-use (type.HolTypes.more t ts) i scope = elim (IsIn-either (type_keys t) (types_keys ts) k i) [
      | inl j ↦ or_left (occurs s (type_tree symbols scope t)) (list_any (occurs s) (type_trees symbols scope ts)) (type-uses t j scope)
      | inr j ↦ or_right (occurs s (type_tree symbols scope t)) (list_any (occurs s) (type_trees symbols scope ts)) (types-use ts j scope)
    ]

  mutual
    -- an instance mentions what its generic type does, and what is filled in
    filled-keys : (f : Name → HolType) (g : HolType) → IsIn (type_keys (filled_in f g)) k
        → IsIn (type_keys g) k ⊎ ((n : Name) × IsIn (variable_places g) n × IsIn (type_keys (f n)) k)
    filled-keys f (type.HolType.variable n) i = inr (n, inl refl, i)
    filled-keys f (type.HolType.operator n ts) (inl e) = inl (inl (e ∙ ap (operator_key n) (count-filled f ts)))
    filled-keys f (type.HolType.operator n ts) (inr i) = elim (all-filled_keys f ts i) [
      | inl j ↦ inl (inr j)
      | inr w ↦ inr w
    ]

    all-filled_keys : (f : Name → HolType) (gs : HolTypes) → IsIn (types_keys (filled_in_all f gs)) k
        → IsIn (types_keys gs) k ⊎ ((n : Name) × IsIn (variable_places_of_all gs) n × IsIn (type_keys (f n)) k)
    all-filled_keys f type.HolTypes.none i = absurd i
    all-filled_keys f (type.HolTypes.more g gs) i = elim (IsIn-either (type_keys (filled_in f g)) (types_keys (filled_in_all f gs)) k i) [
      | inl j ↦ elim (filled-keys f g j) [
        | inl l ↦ inl (IsIn-left (type_keys g) (types_keys gs) k l)
        | inr w ↦ inr (w.0, IsIn-left (variable_places g) (variable_places_of_all gs) w.0 w.1, w.2)
      ]
      | inr j ↦ elim (all-filled_keys f gs j) [
        | inl l ↦ inl (IsIn-right (type_keys g) (types_keys gs) k l)
        | inr w ↦ inr (w.0, IsIn-right (variable_places g) (variable_places_of_all gs) w.0 w.1, w.2)
      ]
    ]

    count-filled : (f : Name → HolType) (gs : HolTypes) → count (filled_in_all f gs) ≡ count gs
    count-filled f type.HolTypes.none = refl
    count-filled f (type.HolTypes.more g gs) = ap (λ n. n + 1) (count-filled f gs)

  mapped-use : (f : Name → HolType) (vs : List Name) (n : Name) → IsIn vs n → IsIn (type_keys (f n)) k → (scope : TypeScope)
      → list_any (occurs s) (map (type_tree symbols scope) (map f vs)) ≡ true
  mapped-use f [] n i h scope = absurd i
  mapped-use f (v ∷ vs) n (inl e) h scope =
      or_left (occurs s (type_tree symbols scope (f v))) (list_any (occurs s) (map (type_tree symbols scope) (map f vs)))
      (type-uses (f v) (subst (λ m. IsIn (type_keys (f m)) k) e h) scope)
  mapped-use f (v ∷ vs) n (inr i) h scope = or_right (occurs s (type_tree symbols scope (f v))) (list_any (occurs s) (map (type_tree symbols scope) (map f vs)))
      (mapped-use f vs n i h scope)

  -- a term uses what it mentions in each scope, or mentions it in the type of a free variable, or uses a constant whose generic type mentions it
  pub data TermUses (t : Term) : Type 0 where
    itself : ((scope : Scope) → occurs s (term_tree symbols scope t) ≡ true) → TermUses t
    by_variable : (v : Variable) → IsIn (free_places t) v → IsIn (type_keys v.1) k → TermUses t
    by_constant : (n : Name) → ((scope : Scope) → occurs (constant_symbol symbols n) (term_tree symbols scope t) ≡ true)
        → IsIn (type_keys (generic_type symbols n)) k → TermUses t

  constant-uses : (n : Name) (t : HolType) → Instance (generic_type symbols n) t → IsIn (type_keys t) k → TermUses (term.Term.constant n t)
  constant-uses n t h i =
      let g = generic_type symbols n in
      let w = Instance-filled_in g t h in
      let own : type_arguments g t ≡ map w.0 (type_variables g) = ap (type_arguments g) (sym w.1) ∙ type_arguments-filled_in w.0 g in
      elim (filled-keys w.0 g (subst (λ u. IsIn (type_keys u) k) (sym w.1) i)) [
        | inl j ↦ TermUses.by_constant n
            (λ scope. head-occurs (constant_symbol symbols n) (Sym (constant_symbol symbols n)) (map (type_tree symbols scope.types) (type_arguments g t))
            (eq-eqb (constant_symbol symbols n) (constant_symbol symbols n) refl)) j
        | inr v ↦ TermUses.itself (λ scope. argument-occurs s (Sym (constant_symbol symbols n)) (map (type_tree symbols scope.types) (type_arguments g t))
            (ap (λ ts. list_any (occurs s) (map (type_tree symbols scope.types) ts)) own
            ∙ mapped-use w.0 (type_variables g) v.0 (IsIn-distinct name_eq name_eq-Decides (variable_places g) v.0 v.1) v.2 scope.types))
      ]

  in-function : (f x : Term) → TermUses f → TermUses (term.Term.app f x)
  in-function f x (TermUses.itself h) = TermUses.itself
      (λ scope. or_left (occurs s (term_tree symbols scope f)) (occurs s (term_tree symbols scope x)) (h scope))
  in-function f x (TermUses.by_variable v i h) = TermUses.by_variable v (IsIn-left (free_places f) (free_places x) v i) h
  in-function f x (TermUses.by_constant n h i) = TermUses.by_constant n
      (λ scope. or_left (occurs (constant_symbol symbols n) (term_tree symbols scope f)) (occurs (constant_symbol symbols n) (term_tree symbols scope x))
      (h scope)) i

  in-argument : (f x : Term) → TermUses x → TermUses (term.Term.app f x)
  in-argument f x (TermUses.itself h) = TermUses.itself
      (λ scope. or_right (occurs s (term_tree symbols scope f)) (occurs s (term_tree symbols scope x)) (h scope))
  in-argument f x (TermUses.by_variable v i h) = TermUses.by_variable v (IsIn-right (free_places f) (free_places x) v i) h
  in-argument f x (TermUses.by_constant n h i) = TermUses.by_constant n
      (λ scope. or_right (occurs (constant_symbol symbols n) (term_tree symbols scope f)) (occurs (constant_symbol symbols n) (term_tree symbols scope x))
      (h scope)) i

  in-body : (t : HolType) (b : Term) → TermUses b → TermUses (term.Term.lam t b)
  in-body t b (TermUses.itself h) = TermUses.itself
      (λ scope. or_right (occurs s (term_of (type_tree symbols scope.types t))) (occurs s (term_tree symbols (inside scope) b)) (h (inside scope)))
  in-body t b (TermUses.by_variable v i h) = TermUses.by_variable v i h
  in-body t b (TermUses.by_constant n h i) =
      TermUses.by_constant n
      (λ scope. or_right (occurs (constant_symbol symbols n) (term_of (type_tree symbols scope.types t)))
      (occurs (constant_symbol symbols n) (term_tree symbols (inside scope) b)) (h (inside scope))) i

  pub term-uses : (t : Term) → AreInstances symbols t → IsIn (term_keys t) k → TermUses t
  term-uses (term.Term.free n t) h i = TermUses.by_variable (n, t) (inl refl) i
  term-uses (term.Term.bound j) h i = absurd i
  term-uses (term.Term.constant n t) h (inl e) =
      TermUses.itself
      (λ scope. head-occurs s (Sym (constant_symbol symbols n)) (map (type_tree symbols scope.types) (type_arguments (generic_type symbols n) t))
      (ap (λ (j : Key). nat_eq (symbol_of_key symbols j) (constant_symbol symbols n)) e ∙ eq-eqb (constant_symbol symbols n) (constant_symbol symbols n) refl))
  term-uses (term.Term.constant n t) h (inr i) = constant-uses n t h i
  term-uses (term.Term.app f x) h i = elim (IsIn-either (term_keys f) (term_keys x) k i) [
    | inl j ↦ in-function f x (term-uses f h.0 j)
    | inr j ↦ in-argument f x (term-uses x h.1 j)
  ]
  term-uses (term.Term.lam t b) h i = elim (IsIn-either (type_keys t) (term_keys b) k i) [
    | inl j ↦ TermUses.itself (λ scope. or_left (occurs s (term_of (type_tree symbols scope.types t))) (occurs s (term_tree symbols (inside scope) b))
        (or_right (nat_eq s 4) (occurs s (type_tree symbols scope.types t)) (type-uses t j scope.types)))
    | inr j ↦ in-body t b (term-uses b h j)
  ]

  -- what a tree in some place uses
  pub data TreeUses (tree : Tree) : Type 0 where
    it : occurs s tree ≡ true → TreeUses tree
    constant_of : (n : Name) → occurs (constant_symbol symbols n) tree ≡ true → IsIn (type_keys (generic_type symbols n)) k → TreeUses tree

  -- among domains
  variable-domain : (vs : List Variable) (v : Variable) → IsIn vs v → IsIn (type_keys v.1) k → (scope : Scope)
      → list_any (occurs s) (term_domains symbols vs scope) ≡ true
  variable-domain [] v i h scope = absurd i
  variable-domain (w ∷ vs) v (inl e) h scope =
      or_left (occurs s (term_of (type_tree symbols scope.types w.1))) (list_any (occurs s) (term_domains symbols vs (under_term w scope)))
      (or_right (nat_eq s 4) (occurs s (type_tree symbols scope.types w.1)) (type-uses w.1 (subst (λ (u : Variable). IsIn (type_keys u.1) k) e h) scope.types))
  variable-domain (w ∷ vs) v (inr i) h scope =
      or_right (occurs s (term_of (type_tree symbols scope.types w.1))) (list_any (occurs s) (term_domains symbols vs (under_term w scope)))
      (variable-domain vs v i h (under_term w scope))

  formula-domain : (r : ℕ) (hs : List Term) (h : Term) → IsIn hs h → ((scope : Scope) → occurs r (term_tree symbols scope h) ≡ true) → (scope : Scope)
      → list_any (occurs r) (proof_domains symbols hs scope) ≡ true
  formula-domain r [] h i f scope = absurd i
  formula-domain r (g ∷ hs) h (inl e) f scope =
      or_left (occurs r (proof_of (term_tree symbols scope g))) (list_any (occurs r) (proof_domains symbols hs (under_proof g scope)))
      (or_right (nat_eq r 7) (occurs r (term_tree symbols scope g)) (ap (λ u. occurs r (term_tree symbols scope u)) (sym e) ∙ f scope))
  formula-domain r (g ∷ hs) h (inr i) f scope =
      or_right (occurs r (proof_of (term_tree symbols scope g))) (list_any (occurs r) (proof_domains symbols hs (under_proof g scope)))
      (formula-domain r hs h i f (under_proof g scope))

  module _ (q : Sequent) (instances : HasInstances symbols q) where
    -- a term of the sequent, wherever it stands
    formula-occurs : (r : ℕ) (t : Term) → IsIn (terms_of q) t → ((scope : Scope) → occurs r (term_tree symbols scope t) ≡ true)
        → occurs r (sequent_tree symbols q) ≡ true
    formula-occurs r t i f = elim (IsIn-either q.hypotheses (q.conclusion ∷ []) t i) [
      | inl j ↦ domain-occurs r (domains_of symbols q) (conclusion_tree symbols q)
          (any-right r (map (λ n. types) (type_variables_of q) ++ term_domains symbols (free_variables_of q) (scope_of_types symbols q))
          (proof_domains symbols q.hypotheses (scope_of_terms symbols q))
          (formula-domain r q.hypotheses t j f (scope_of_terms symbols q)))
      | inr (inl e) ↦ end-occurs r (domains_of symbols q) (conclusion_tree symbols q)
          (or_right (nat_eq r 7) (occurs r (term_tree symbols (scope_of symbols q) q.conclusion))
          (ap (λ u. occurs r (term_tree symbols (scope_of symbols q) u)) (sym e) ∙ f (scope_of symbols q)))
      | inr (inr none) ↦ absurd none
    ]

    variable-occurs : (v : Variable) → IsIn (free_variables_of q) v → IsIn (type_keys v.1) k → occurs s (sequent_tree symbols q) ≡ true
    variable-occurs v i h = domain-occurs s (domains_of symbols q) (conclusion_tree symbols q)
        (any-left s (map (λ n. types) (type_variables_of q) ++ term_domains symbols (free_variables_of q) (scope_of_types symbols q))
        (proof_domains symbols q.hypotheses (scope_of_terms symbols q))
        (any-right s (map (λ n. types) (type_variables_of q)) (term_domains symbols (free_variables_of q) (scope_of_types symbols q))
        (variable-domain (free_variables_of q) v i h (scope_of_types symbols q))))

    formula-uses : (t : Term) → IsIn (terms_of q) t → TermUses t → TreeUses (sequent_tree symbols q)
    formula-uses t i (TermUses.itself f) = TreeUses.it (formula-occurs s t i f)
    formula-uses t i (TermUses.by_variable v j h) =
        TreeUses.it (variable-occurs v
        (IsIn-distinct variable_eq variable_eq-Decides (flat_map free_places (terms_of q)) v (IsIn-flat_map free_places (terms_of q) t v i j)) h)
    formula-uses t i (TermUses.by_constant n f h) = TreeUses.constant_of n (formula-occurs (constant_symbol symbols n) t i f) h

    -- The tree of a sequent uses what the sequent mentions
    pub sequent-uses : IsIn (sequent_keys q) k → TreeUses (sequent_tree symbols q)
    sequent-uses i = elim (IsIn-either (flat_map term_keys q.hypotheses) (term_keys q.conclusion) k i) [
      | inl j ↦
          let w = flat_map-part term_keys q.hypotheses k j in
          formula-uses w.0 (IsIn-left q.hypotheses (q.conclusion ∷ []) w.0 w.1)
          (term-uses w.0 (All-at (AreInstances symbols) q.hypotheses w.0 instances.hypotheses w.1) w.2)
      | inr j ↦ formula-uses q.conclusion (IsIn-right q.hypotheses (q.conclusion ∷ []) q.conclusion (inl refl)) (term-uses q.conclusion instances.conclusion j)
    ]
