-- The trees of types and terms lack the symbols of theorems, and the proofs of a scope apply them as they are to be applied.
use Rattle.std.proofs.Common.{◌≡◌, ℕ, zero, suc, ◌<◌, ◌≤◌, List, [], ◌∷◌, ◌++◌, length, map, Bool, true, false, cond, arith}
use Rattle.std.specs.List.{AllByRecursion}
use Rattle.hol_spec.specs.Names.{Name}
use Rattle.hol_spec.specs.NameEquality.{name_eq}
use Rattle.hol_spec.specs.Types as type
use Rattle.hol_spec.specs.Types.{HolType, HolTypes, count, type_variables}
use Rattle.hol_spec.specs.Substitution.{TypePairs, image, substitute, type_arguments}
use Rattle.hol_spec.specs.TermSubstitution.{TermPairs, term_image, sub}
use Rattle.hol_spec.specs.Terms as term
use Rattle.hol_spec.specs.Terms.{Term, Variable, variable_eq, term_eq}
use Rattle.hol_spec.specs.Sequents.{Sequent, type_variables_of, free_variables_of}
use Rattle.hol_laws.specs.Members.{All-append}
use Rattle.lp_spec.specs.Trees.{Tree, Var, Sym, lift}
use Rattle.lp_spec.specs.Substitution.{cons}
use Rattle.lp_spec.specs.Modules.{signature, types, bools, term_of, proof_of}
use Rattle.translate_spec.specs.Scopes.{SymbolMap, operator_symbol, constant_symbol, generic_type, TypeScope, type_tree, type_trees, Scope, lifted_types, lifted, inside, term_tree, set_proof, under_type, under_term, under_proof, under_types, under_terms, under_proofs, filler, unfilled, filled, term_domains, proof_domains, scope_of_types, scope_of_terms, scope_of, domains_of, images}
use Rattle.image_reach_laws.specs.PlaceCounts.{IsAppliedTo, Lacks, lifted-lacks, lifted-applied, applied-lacks}

-- a symbol after the signature stands for no operator and no constant
pub record IsApart (symbols : SymbolMap) (s : ℕ) : Type 0 where
  pub high : length signature ≤ s
  pub operator : (n : Name) (k : ℕ) → s ≡ operator_symbol symbols n k → ⊥
  pub constant : (n : Name) → s ≡ constant_symbol symbols n → ⊥

-- a scope whose types, terms and bound numbers lack a symbol, and whose proofs apply it to n arguments
abbrev pub TypesLack : ℕ → TypeScope → Type 0
TypesLack s scope = (n : Name) → Lacks s (scope n)

pub record ScopeApplies (s n : ℕ) (scope : Scope) : Type 0 where
  pub types : TypesLack s scope.types
  pub terms : (v : Variable) → Lacks s (scope.terms v)
  pub proofs : (h : Term) → IsAppliedTo s n 0 (scope.proofs h)
  pub bounds : (k : ℕ) → Lacks s (scope.bounds k)

module _ (symbols : SymbolMap) (s : ℕ) (apart : IsApart symbols s) where
  -- a symbol of the signature is another
  pub unlike : (r : ℕ) → r < length signature → s ≡ r → ⊥
  unlike r l e = let h = apart.high in absurd (omega (arith, h, l, e))

  pub bools-lack : Lacks s bools
  bools-lack = unlike 1 (omega arith)

  pub term_of-lacks : (a : Tree) → Lacks s a → Lacks s (term_of a)
  term_of-lacks a h = (unlike 4 (omega arith), h)

  pub proof_of-lacks : (p : Tree) → Lacks s p → Lacks s (proof_of p)
  proof_of-lacks p h = (unlike 7 (omega arith), h)

  -- types
  mutual
    pub type_tree-lacks : (scope : TypeScope) → TypesLack s scope → (t : HolType) → Lacks s (type_tree symbols scope t)
    type_tree-lacks scope h (type.HolType.variable n) = h n
    type_tree-lacks scope h (type.HolType.operator n ts) =
        applied-lacks s (Sym (operator_symbol symbols n (count ts))) (type_trees symbols scope ts) (apart.operator n (count ts)) (type_trees-lack scope h ts)

    type_trees-lack : (scope : TypeScope) → TypesLack s scope → (ts : HolTypes) → AllByRecursion (Lacks s) (type_trees symbols scope ts)
    type_trees-lack scope h type.HolTypes.none = tt
    type_trees-lack scope h (type.HolTypes.more t ts) = (type_tree-lacks scope h t, type_trees-lack scope h ts)

  pub mapped-lack : (scope : TypeScope) → TypesLack s scope → (ts : List HolType) → AllByRecursion (Lacks s) (map (type_tree symbols scope) ts)
  mapped-lack scope h [] = tt
  mapped-lack scope h (t ∷ ts) = (type_tree-lacks scope h t, mapped-lack scope h ts)

  -- what holds of both holds of the one that a test picks
  cond-holds : (P : Tree → Type 0) (b : Bool) (x y : Tree) → P x → P y → P (cond b x y)
  cond-holds P true x y h k = h
  cond-holds P false x y h k = k

  lifted_types-lack : (scope : TypeScope) → TypesLack s scope → TypesLack s (lifted_types scope)
  lifted_types-lack scope h n = lifted-lacks s 0 1 (scope n) (h n)

  under_type-lack : (m : Name) (scope : TypeScope) → TypesLack s scope → TypesLack s (under_type m scope)
  under_type-lack m scope h n = cond-holds (Lacks s) (name_eq n m) (Var 0) (lifted_types scope n) (tt {0}) (lifted_types-lack scope h n)

  pub under_types-lack : (ns : List Name) (scope : TypeScope) → TypesLack s scope → TypesLack s (under_types ns scope)
  under_types-lack [] scope h = h
  under_types-lack (n ∷ ns) scope h = under_types-lack ns (under_type n scope) (under_type-lack n scope h)

  pub unfilled-lack : TypesLack s unfilled
  unfilled-lack n = bools-lack

  -- scopes
  module _ (n : ℕ) where
    abbrev Applies : Scope → Type 0
    Applies scope = ScopeApplies s n scope

    pub lifted-applies : (scope : Scope) → Applies scope → Applies (lifted scope)
    lifted-applies scope h = record {
      types = lifted_types-lack scope.types h.types;
      terms = λ v. lifted-lacks s 0 1 (scope.terms v) (h.terms v);
      proofs = λ g. lifted-applied s n 0 0 1 (scope.proofs g) (h.proofs g);
      bounds = λ k. lifted-lacks s 0 1 (scope.bounds k) (h.bounds k);
    }

    bounds-inside : (scope : Scope) → Applies scope → (k : ℕ) → Lacks s (cons (Var 0) (λ j. lift 1 (scope.bounds j)) k)
    bounds-inside scope h zero = tt
    bounds-inside scope h (suc k) = lifted-lacks s 0 1 (scope.bounds k) (h.bounds k)

    inside-applies : (scope : Scope) → Applies scope → Applies (inside scope)
    inside-applies scope h =
        let l = lifted-applies scope h in record { types = l.types; terms = l.terms; proofs = l.proofs; bounds = bounds-inside scope h }

    pub under_term-applies : (v : Variable) (scope : Scope) → Applies scope → Applies (under_term v scope)
    under_term-applies v scope h =
        let l = lifted-applies scope h in record {
          types = l.types;
          terms = λ w. cond-holds (Lacks s) (variable_eq w v) (Var 0) ((lifted scope).terms w) (tt {0}) (l.terms w);
          proofs = l.proofs;
          bounds = l.bounds;
        }

    pub set_proof-applies : (p : Term) (x : Tree) (scope : Scope) → IsAppliedTo s n 0 x → Applies scope → Applies (set_proof p x scope)
    set_proof-applies p x scope k h = record {
      types = h.types;
      terms = h.terms;
      proofs = λ g. cond-holds (IsAppliedTo s n 0) (term_eq g p) x (scope.proofs g) k (h.proofs g);
      bounds = h.bounds;
    }

    pub under_proof-applies : (p : Term) (scope : Scope) → Applies scope → Applies (under_proof p scope)
    under_proof-applies p scope h = set_proof-applies p (Var 0) (lifted scope) (tt {0}) (lifted-applies scope h)

    under_terms-applies : (vs : List Variable) (scope : Scope) → Applies scope → Applies (under_terms vs scope)
    under_terms-applies [] scope h = h
    under_terms-applies (v ∷ vs) scope h = under_terms-applies vs (under_term v scope) (under_term-applies v scope h)

    under_proofs-applies : (ps : List Term) (scope : Scope) → Applies scope → Applies (under_proofs ps scope)
    under_proofs-applies [] scope h = h
    under_proofs-applies (p ∷ ps) scope h = under_proofs-applies ps (under_proof p scope) (under_proof-applies p scope h)

    filler-lacks : (a : Tree) → Lacks s a → Lacks s (filler a)
    filler-lacks a h = ((unlike 6 (omega arith), h), (term_of-lacks a h, (((unlike 5 (omega arith), lifted-lacks s 0 1 a h), tt {0}), tt {0})))

    pub filled-applies : (scope : TypeScope) → TypesLack s scope → Applies (filled symbols scope)
    filled-applies scope h = record {
      types = h;
      terms = λ v. filler-lacks (type_tree symbols scope v.1) (type_tree-lacks scope h v.1);
      proofs = λ g e. absurd (unlike 0 (omega arith) e);
      bounds = λ k. tt {0};
    }

    -- terms
    pub term_tree-lacks : (scope : Scope) → Applies scope → (t : Term) → Lacks s (term_tree symbols scope t)
    term_tree-lacks scope h (term.Term.free m t) = h.terms (m, t)
    term_tree-lacks scope h (term.Term.bound k) = h.bounds k
    term_tree-lacks scope h (term.Term.constant m t) =
        applied-lacks s (Sym (constant_symbol symbols m)) (map (type_tree symbols scope.types) (type_arguments (generic_type symbols m) t)) (apart.constant m)
        (mapped-lack scope.types h.types (type_arguments (generic_type symbols m) t))
    term_tree-lacks scope h (term.Term.app f x) = (term_tree-lacks scope h f, term_tree-lacks scope h x)
    term_tree-lacks scope h (term.Term.lam t b) =
        (term_of-lacks (type_tree symbols scope.types t) (type_tree-lacks scope.types h.types t), term_tree-lacks (inside scope) (inside-applies scope h) b)

    pub images-applies : (pairs : TypePairs) (terms : TermPairs) (scope : Scope) → Applies scope → Applies (images symbols pairs terms scope)
    images-applies pairs terms scope h = record {
      types = λ m. type_tree-lacks scope.types h.types (image pairs m);
      terms = λ v. term_tree-lacks scope h (term_image terms (v.0, substitute pairs v.1));
      proofs = λ g. h.proofs (sub pairs terms g);
      bounds = h.bounds;
    }

    -- the scope of a sequent, and its domains
    scope_of_types-applies : (q : Sequent) → Applies (scope_of_types symbols q)
    scope_of_types-applies q = filled-applies (under_types (type_variables_of q) unfilled) (under_types-lack (type_variables_of q) unfilled unfilled-lack)

    scope_of_terms-applies : (q : Sequent) → Applies (scope_of_terms symbols q)
    scope_of_terms-applies q = under_terms-applies (free_variables_of q) (scope_of_types symbols q) (scope_of_types-applies q)

    pub scope_of-applies : (q : Sequent) → Applies (scope_of symbols q)
    scope_of-applies q = under_proofs-applies q.hypotheses (scope_of_terms symbols q) (scope_of_terms-applies q)

    pub types-lack : {A : Type 0} (xs : List A) → AllByRecursion (Lacks s) (map (λ x. types) xs)
    types-lack [] = tt
    types-lack (x ∷ xs) = (unlike 0 (omega arith), types-lack xs)

    term_domains-lack : (vs : List Variable) (scope : Scope) → Applies scope → AllByRecursion (Lacks s) (term_domains symbols vs scope)
    term_domains-lack [] scope h = tt
    term_domains-lack (v ∷ vs) scope h = (
      term_of-lacks (type_tree symbols scope.types v.1) (type_tree-lacks scope.types h.types v.1),
      term_domains-lack vs (under_term v scope) (under_term-applies v scope h),
    )

    proof_domains-lack : (ps : List Term) (scope : Scope) → Applies scope → AllByRecursion (Lacks s) (proof_domains symbols ps scope)
    proof_domains-lack [] scope h = tt
    proof_domains-lack (p ∷ ps) scope h =
        (proof_of-lacks (term_tree symbols scope p) (term_tree-lacks scope h p), proof_domains-lack ps (under_proof p scope) (under_proof-applies p scope h))

    pub domains_of-lack : (q : Sequent) → AllByRecursion (Lacks s) (domains_of symbols q)
    domains_of-lack q =
        let ts = map (λ m. types) (type_variables_of q) in
        let vs = term_domains symbols (free_variables_of q) (scope_of_types symbols q) in
        let hs = proof_domains symbols q.hypotheses (scope_of_terms symbols q) in
        All-append (Lacks s) (ts ++ vs) hs
        (All-append (Lacks s) ts vs (types-lack (type_variables_of q))
        (term_domains-lack (free_variables_of q) (scope_of_types symbols q) (scope_of_types-applies q)))
        (proof_domains-lack q.hypotheses (scope_of_terms symbols q) (scope_of_terms-applies q))
