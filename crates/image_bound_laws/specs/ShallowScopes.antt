-- Depths of translated types and terms: no deeper than the type, and than the term and the type arguments of its constants.
use Rattle.std.proofs.Common.{ℕ, zero, suc, ◌+◌, ◌≤◌, List, [], ◌∷◌, map, length, Bool, true, false, cond, Some, arith}
use Rattle.std.specs.Map.{lookup}
use Rattle.std.specs.Option.{unwrap_or}
use Rattle.std.specs.List.{AllByRecursion}
use Rattle.std.proofs.lemmas.List.{length-map}
use Rattle.hol_spec.specs.Names.{Name}
use Rattle.hol_spec.specs.NameEquality.{name_eq}
use Rattle.hol_spec.specs.Types.{HolType, HolTypes, variable, operator, none, more, count, type_variables}
use Rattle.hol_spec.specs.Limits.{type_depth, types_depth, term_depth, greatest_parameter_count}
use Rattle.hol_spec.specs.Substitution.{TypePairs, image, read_off, read_off_all, type_arguments}
use Rattle.hol_spec.specs.Terms.{Term, free, bound, constant, app, lam, Variable, variable_eq, term_eq}
use Rattle.hol_laws.specs.Members.{All-weaker, All-append}
use Rattle.lp_spec.specs.Trees.{Tree, Var, Sym, lift, depth}
use Rattle.translate_spec.specs.Scopes.{SymbolMap, operator_symbol, constant_symbol, generic_type, TypeScope, type_tree, type_trees, Scope, inside, constant_tree, term_tree, under_type, under_types, lifted, under_term, under_terms, under_proof, under_proofs, filler, filled}
use Rattle.translate_laws.specs.ScopeTyping.{length-type_trees}
use Rattle.image_bound_laws.specs.Depths.{AreShallowTrees, depth-lift, applied-depth}

-- each constant has few type arguments
abbrev pub HasFewArguments : SymbolMap → Type 0
HasFewArguments symbols = (n : Name) → length (type_variables (generic_type symbols n)) ≤ greatest_parameter_count

-- what stands for type variables, bound numbers and hypotheses is one node, and what stands for a free variable hardly deeper than its type
pub record IsShallowScope (scope : Scope) : Type 0 where
  pub types : (n : Name) → depth (scope.types n) ≤ 1
  pub terms : (v : Variable) → depth (scope.terms v) ≤ type_depth v.1 + 7
  pub proofs : (h : Term) → depth (scope.proofs h) ≤ 1
  pub bounds : (k : ℕ) → depth (scope.bounds k) ≤ 1

pub deeper : (d e : ℕ) → d ≤ e → (ts : List Tree) → AreShallowTrees d ts → AreShallowTrees e ts
deeper d e l ts h = All-weaker (λ t. depth t ≤ d) (λ t. depth t ≤ e) (λ t k. omega arith) ts h

-- a type is a node at least
pub type_depth-positive : (t : HolType) → 1 ≤ type_depth t
type_depth-positive (variable n) = omega arith
type_depth-positive (operator n ts) = omega arith

module _ (symbols : SymbolMap) (scope : TypeScope) (h : (n : Name) → depth (scope n) ≤ 1) where
  mutual
    pub type_tree-depth : (t : HolType) → depth (type_tree symbols scope t) ≤ type_depth t + 1
    type_tree-depth (variable n) = let l = h n in omega (arith, l)
    type_tree-depth (operator n ts) =
        let long = length-type_trees symbols scope ts in
        let all = applied-depth (Sym (operator_symbol symbols n (count ts))) (type_trees symbols scope ts) (types_depth ts + 1) (omega arith)
        (type_trees-depth ts) in
        omega (arith, all, long)

    type_trees-depth : (ts : HolTypes) → AreShallowTrees (types_depth ts + 1) (type_trees symbols scope ts)
    type_trees-depth none = tt
    type_trees-depth (more t ts) =
        let one = type_tree-depth t in
        (omega (arith, one), deeper (types_depth ts + 1) (types_depth (more t ts) + 1) (omega arith) (type_trees symbols scope ts) (type_trees-depth ts))

-- the types that pairs put have at most this depth
abbrev pub AreShallowPairs : ℕ → TypePairs → Type 0
AreShallowPairs d pairs = AllByRecursion (λ (p : Name × HolType). type_depth p.1 ≤ d) pairs

-- what is read off a type is no deeper
mutual
  read_off-depth : (g t : HolType) → AreShallowPairs (type_depth t) (read_off g t)
  read_off-depth (variable n) t = (omega arith, tt {0})
  read_off-depth (operator m ts) (variable n) = tt
  read_off-depth (operator m ts) (operator n us) =
      All-weaker (λ (p : Name × HolType). type_depth p.1 ≤ types_depth us) (λ (p : Name × HolType). type_depth p.1 ≤ type_depth (operator n us))
      (λ p k. omega arith) (read_off_all ts us) (read_off_all-depth ts us)

  read_off_all-depth : (gs ts : HolTypes) → AreShallowPairs (types_depth ts) (read_off_all gs ts)
  read_off_all-depth none us = tt
  read_off_all-depth (more g gs) none = tt
  read_off_all-depth (more g gs) (more t ts) =
      All-append (λ (p : Name × HolType). type_depth p.1 ≤ types_depth (more t ts)) (read_off g t) (read_off_all gs ts)
      (All-weaker (λ (p : Name × HolType). type_depth p.1 ≤ type_depth t) (λ (p : Name × HolType). type_depth p.1 ≤ types_depth (more t ts))
      (λ p k. omega arith) (read_off g t) (read_off-depth g t))
      (All-weaker (λ (p : Name × HolType). type_depth p.1 ≤ types_depth ts) (λ (p : Name × HolType). type_depth p.1 ≤ types_depth (more t ts))
      (λ p k. omega arith) (read_off_all gs ts) (read_off_all-depth gs ts))

image-depth : (d : ℕ) (pairs : TypePairs) (n : Name) → 1 ≤ d → AreShallowPairs d pairs → type_depth (image pairs n) ≤ d
image-depth d [] n l h = l
image-depth d (p ∷ ps) n l h = go (name_eq n p.0) (image-depth d ps n l h.1)
  where
    go : (b : Bool) → type_depth (image ps n) ≤ d → type_depth (unwrap_or (cond b (Some p.1) (lookup (name_eq n) ps)) (variable n)) ≤ d
    go true k = h.0
    go false k = k

pub arguments-depth : (symbols : SymbolMap) (scope : TypeScope) → ((n : Name) → depth (scope n) ≤ 1) → (g t : HolType) (ns : List Name)
    → AreShallowTrees (type_depth t + 1) (map (type_tree symbols scope) (map (image (read_off g t)) ns))
arguments-depth symbols scope h g t [] = tt
arguments-depth symbols scope h g t (n ∷ ns) =
    let put = image-depth (type_depth t) (read_off g t) n (type_depth-positive t) (read_off-depth g t) in
    let tree = type_tree-depth symbols scope h (image (read_off g t) n) in
    (omega (arith, put, tree), arguments-depth symbols scope h g t ns)

pub constant_tree-depth : (symbols : SymbolMap) → HasFewArguments symbols → (scope : TypeScope) → ((n : Name) → depth (scope n) ≤ 1) → (n : Name) (t : HolType)
    → depth (constant_tree symbols scope n t) ≤ type_depth t + (greatest_parameter_count + 1)
constant_tree-depth symbols few scope h n t =
    let g = generic_type symbols n in
    let args = map (type_tree symbols scope) (type_arguments g t) in
    let all = applied-depth (Sym (constant_symbol symbols n)) args (type_depth t + 1) (omega arith) (arguments-depth symbols scope h g t (type_variables g)) in
    let one = length-map (type_arguments g t) (type_tree symbols scope) in
    let two = length-map (type_variables g) (image (read_off g t)) in
    let most = few n in
    omega (arith, all, one, two, most)

-- one of two trees of a depth
cond-depth : (d : ℕ) (b : Bool) (x y : Tree) → depth x ≤ d → depth y ≤ d → depth (cond b x y) ≤ d
cond-depth d true x y h k = h
cond-depth d false x y h k = k

lift-depth : (d : ℕ) (t : Tree) → depth t ≤ d → depth (lift 1 t) ≤ d
lift-depth d t h = let e = depth-lift 1 t in omega (arith, e, h)

-- scopes under binders
inside-shallow : (scope : Scope) → IsShallowScope scope → IsShallowScope (inside scope)
inside-shallow scope h = record {
  types = λ n. lift-depth 1 (scope.types n) (h.types n);
  terms = λ v. lift-depth (type_depth v.1 + 7) (scope.terms v) (h.terms v);
  proofs = λ g. lift-depth 1 (scope.proofs g) (h.proofs g);
  bounds = bounds;
}
  where
    bounds : (k : ℕ) → depth ((inside scope).bounds k) ≤ 1
    bounds zero = omega arith
    bounds (suc k) = lift-depth 1 (scope.bounds k) (h.bounds k)

pub under_term-shallow : (v : Variable) (scope : Scope) → IsShallowScope scope → IsShallowScope (under_term v scope)
under_term-shallow v scope h = record {
  types = λ n. lift-depth 1 (scope.types n) (h.types n);
  terms = λ w. cond-depth (type_depth w.1 + 7) (variable_eq w v) (Var 0) (lift 1 (scope.terms w)) (omega arith)
      (lift-depth (type_depth w.1 + 7) (scope.terms w) (h.terms w));
  proofs = λ g. lift-depth 1 (scope.proofs g) (h.proofs g);
  bounds = λ k. lift-depth 1 (scope.bounds k) (h.bounds k);
}

pub lifted-shallow : (scope : Scope) → IsShallowScope scope → IsShallowScope (lifted scope)
lifted-shallow scope h = record {
  types = λ n. lift-depth 1 (scope.types n) (h.types n);
  terms = λ w. lift-depth (type_depth w.1 + 7) (scope.terms w) (h.terms w);
  proofs = λ g. lift-depth 1 (scope.proofs g) (h.proofs g);
  bounds = λ k. lift-depth 1 (scope.bounds k) (h.bounds k);
}

pub under_proof-shallow : (p : Term) (scope : Scope) → IsShallowScope scope → IsShallowScope (under_proof p scope)
under_proof-shallow p scope h = record {
  types = λ n. lift-depth 1 (scope.types n) (h.types n);
  terms = λ w. lift-depth (type_depth w.1 + 7) (scope.terms w) (h.terms w);
  proofs = λ g. cond-depth 1 (term_eq g p) (Var 0) (lift 1 (scope.proofs g)) (omega arith) (lift-depth 1 (scope.proofs g) (h.proofs g));
  bounds = λ k. lift-depth 1 (scope.bounds k) (h.bounds k);
}

pub under_types-shallow : (ns : List Name) (scope : TypeScope) → ((n : Name) → depth (scope n) ≤ 1) → (n : Name) → depth (under_types ns scope n) ≤ 1
under_types-shallow [] scope h n = h n
under_types-shallow (k ∷ ns) scope h n = under_types-shallow ns (under_type k scope)
    (λ j. cond-depth 1 (name_eq j k) (Var 0) (lift 1 (scope j)) (omega arith) (lift-depth 1 (scope j) (h j))) n

pub under_terms-shallow : (vs : List Variable) (scope : Scope) → IsShallowScope scope → IsShallowScope (under_terms vs scope)
under_terms-shallow [] scope h = h
under_terms-shallow (v ∷ vs) scope h = under_terms-shallow vs (under_term v scope) (under_term-shallow v scope h)

pub under_proofs-shallow : (hs : List Term) (scope : Scope) → IsShallowScope scope → IsShallowScope (under_proofs hs scope)
under_proofs-shallow [] scope h = h
under_proofs-shallow (p ∷ ps) scope h = under_proofs-shallow ps (under_proof p scope) (under_proof-shallow p scope h)

filler-depth : (a : Tree) (d : ℕ) → 1 ≤ d → depth a ≤ d → depth (filler a) ≤ d + 5
filler-depth a d l h = let e = depth-lift 1 a in omega (arith, e, h, l)

pub filled-shallow : (symbols : SymbolMap) (scope : TypeScope) → ((n : Name) → depth (scope n) ≤ 1) → IsShallowScope (filled symbols scope)
filled-shallow symbols scope h = record {
  types = h;
  terms = λ v. (let e = filler-depth (type_tree symbols scope v.1) (type_depth v.1 + 1) (omega arith) (type_tree-depth symbols scope h v.1) in omega
      (arith, e));
  proofs = λ g. omega arith;
  bounds = λ k. omega arith;
}

-- a term
pub term_tree-depth : (symbols : SymbolMap) → HasFewArguments symbols → (scope : Scope) → IsShallowScope scope → (t : Term)
    → depth (term_tree symbols scope t) ≤ term_depth t + (greatest_parameter_count + 1)
term_tree-depth symbols few scope h (free n t) = let l = h.terms (n, t) in omega (arith, l)
term_tree-depth symbols few scope h (bound k) = let l = h.bounds k in omega (arith, l)
term_tree-depth symbols few scope h (constant n t) = let l = constant_tree-depth symbols few scope.types h.types n t in omega (arith, l)
term_tree-depth symbols few scope h (app f x) =
    let one = term_tree-depth symbols few scope h f in
    let two = term_tree-depth symbols few scope h x in
    omega (arith, one, two)
term_tree-depth symbols few scope h (lam t b) =
    let one = type_tree-depth symbols scope.types h.types t in
    let two = term_tree-depth symbols few (inside scope) (inside-shallow scope h) b in
    omega (arith, one, two)
