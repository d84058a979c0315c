-- Types, terms and sequents of higher-order logic as trees of the lambda-Pi calculus (Assaf and Burel, "Translating HOL to Dedukti", 3),
-- in a scope: what stands for each type variable, each free variable, each hypothesis and each bound number.
use Rattle.std.specs.Prelude.{ℕ, List, [], ◌∷◌, ◌++◌, map, if◌then◌else◌, unwrap_or}
use Rattle.hol_spec.specs.Names.{Name}
use Rattle.hol_spec.specs.NameEquality.{name_eq}
use Rattle.hol_spec.specs.Types.{HolType, HolTypes, variable, operator, none, more, count, type_variables}
use Rattle.hol_spec.specs.Substitution.{TypePairs, image, substitute, type_arguments}
use Rattle.hol_spec.specs.TermSubstitution.{TermPairs, term_image, sub}
use Rattle.hol_spec.specs.Primitives.{arrow_name, bool_name, ind_name, equality_name, select_name, primitive_type}
use Rattle.hol_spec.specs.Terms.{Term, free, bound, constant, app, lam, Variable, variable_eq, term_eq}
use Rattle.hol_spec.specs.Sequents.{Sequent, type_variables_of, free_variables_of}
use Rattle.lp_spec.specs.Trees.{Tree, Var, Sym, App, Lam, lift}
use Rattle.lp_spec.specs.Substitution.{cons}
use Rattle.lp_spec.specs.Modules.{arr_symbol, bool_symbol, ind_symbol, eq_symbol, select_symbol, types, bools, term_of, eq_of, proof_of, applied, products}

-- the symbols of a module that stand for operators with so many arguments and for constants, and the generic types of these constants,
-- where neither is primitive
pub record SymbolMap : Type 0 where
  pub operator : Name → ℕ → ℕ
  pub constant : Name → ℕ
  pub generic : Name → HolType

abbrev pub operator_symbol : SymbolMap → Name → ℕ → ℕ
operator_symbol symbols n k =
    if name_eq n arrow_name then arr_symbol
    else (if name_eq n bool_name then bool_symbol
    else (if name_eq n ind_name then ind_symbol
    else symbols.operator n k))

abbrev pub constant_symbol : SymbolMap → Name → ℕ
constant_symbol symbols n = if name_eq n equality_name then eq_symbol else (if name_eq n select_name then select_symbol else symbols.constant n)

abbrev pub generic_type : SymbolMap → Name → HolType
generic_type symbols n = unwrap_or (primitive_type n) (symbols.generic n)

-- what stands for type variables
abbrev pub TypeScope : Type 0
TypeScope = Name → Tree

-- a type
abbrev mutual
  pub type_tree : SymbolMap → TypeScope → HolType → Tree
  type_tree symbols scope (variable n) = scope n
  type_tree symbols scope (operator n ts) = applied (Sym (operator_symbol symbols n (count ts))) (type_trees symbols scope ts)

  pub type_trees : SymbolMap → TypeScope → HolTypes → List Tree
  type_trees symbols scope none = []
  type_trees symbols scope (more t ts) = type_tree symbols scope t ∷ type_trees symbols scope ts

-- what stands for type variables, free variables, hypotheses and bound numbers
pub record Scope : Type 0 where
  pub types : TypeScope
  pub terms : Variable → Tree
  pub proofs : Term → Tree
  pub bounds : ℕ → Tree

-- under a binder more, for which nothing stands
abbrev pub lifted_types : TypeScope → TypeScope
lifted_types scope n = lift 1 (scope n)

abbrev pub lifted : Scope → Scope
lifted scope = record {
  types = lifted_types scope.types;
  terms = λ v. lift 1 (scope.terms v);
  proofs = λ h. lift 1 (scope.proofs h);
  bounds = λ k. lift 1 (scope.bounds k);
}

-- under the binder of an abstraction
abbrev pub inside : Scope → Scope
inside scope = record {
  types = lifted_types scope.types;
  terms = λ v. lift 1 (scope.terms v);
  proofs = λ h. lift 1 (scope.proofs h);
  bounds = cons (Var 0) (λ k. lift 1 (scope.bounds k));
}

-- a constant: its symbol at those types
abbrev pub constant_tree : SymbolMap → TypeScope → Name → HolType → Tree
constant_tree symbols scope n t = applied (Sym (constant_symbol symbols n)) (map (type_tree symbols scope) (type_arguments (generic_type symbols n) t))

-- a term
abbrev pub term_tree : SymbolMap → Scope → Term → Tree
term_tree symbols scope (free n t) = scope.terms (n, t)
term_tree symbols scope (bound k) = scope.bounds k
term_tree symbols scope (constant n t) = constant_tree symbols scope.types n t
term_tree symbols scope (app f x) = App (term_tree symbols scope f) (term_tree symbols scope x)
term_tree symbols scope (lam t b) = Lam (term_of (type_tree symbols scope.types t)) (term_tree symbols (inside scope) b)

-- a scope in which something else stands for a type variable, a free variable or a hypothesis
abbrev pub set_type : Name → Tree → TypeScope → TypeScope
set_type n x scope m = if name_eq m n then x else scope m

abbrev pub set_term : Variable → Tree → Scope → Scope
set_term v x scope = record {
  types = scope.types;
  terms = λ w. if variable_eq w v then x else scope.terms w;
  proofs = scope.proofs;
  bounds = scope.bounds;
}

abbrev pub set_proof : Term → Tree → Scope → Scope
set_proof h x scope = record {
  types = scope.types;
  terms = scope.terms;
  proofs = λ g. if term_eq g h then x else scope.proofs g;
  bounds = scope.bounds;
}

-- under a binder that stands for a type variable, a free variable or a hypothesis
abbrev pub under_type : Name → TypeScope → TypeScope
under_type n scope = set_type n (Var 0) (lifted_types scope)

abbrev pub under_term : Variable → Scope → Scope
under_term v scope = set_term v (Var 0) (lifted scope)

abbrev pub under_proof : Term → Scope → Scope
under_proof h scope = set_proof h (Var 0) (lifted scope)

-- under the binders of several, the first outermost
abbrev pub under_types : List Name → TypeScope → TypeScope
under_types [] scope = scope
under_types (n ∷ ns) scope = under_types ns (under_type n scope)

abbrev pub under_terms : List Variable → Scope → Scope
under_terms [] scope = scope
under_terms (v ∷ vs) scope = under_terms vs (under_term v scope)

abbrev pub under_proofs : List Term → Scope → Scope
under_proofs [] scope = scope
under_proofs (h ∷ hs) scope = under_proofs hs (under_proof h scope)

-- some term of a type: the choice of an x with x = x
abbrev pub filler : Tree → Tree
filler a = applied (Sym select_symbol) (a ∷ Lam (term_of a) (eq_of (lift 1 a) (Var 0) (Var 0)) ∷ [])

-- where nothing stands for a type variable, it is `bool`; where nothing stands for a free variable, it is some term of its type
abbrev pub unfilled : TypeScope
unfilled n = bools

abbrev pub filled : SymbolMap → TypeScope → Scope
filled symbols scope = record {
  types = scope;
  terms = λ v. filler (type_tree symbols scope v.1);
  proofs = λ h. Sym 0;
  bounds = Var;
}

-- the types of the binders of free variables and of hypotheses
abbrev pub term_domains : SymbolMap → List Variable → Scope → List Tree
term_domains symbols [] scope = []
term_domains symbols (v ∷ vs) scope = term_of (type_tree symbols scope.types v.1) ∷ term_domains symbols vs (under_term v scope)

abbrev pub proof_domains : SymbolMap → List Term → Scope → List Tree
proof_domains symbols [] scope = []
proof_domains symbols (h ∷ hs) scope = proof_of (term_tree symbols scope h) ∷ proof_domains symbols hs (under_proof h scope)

-- under the binders of a sequent's type variables, then also of its free variables, then also of its hypotheses
abbrev pub scope_of_types : SymbolMap → Sequent → Scope
scope_of_types symbols s = filled symbols (under_types (type_variables_of s) unfilled)

abbrev pub scope_of_terms : SymbolMap → Sequent → Scope
scope_of_terms symbols s = under_terms (free_variables_of s) (scope_of_types symbols s)

abbrev pub scope_of : SymbolMap → Sequent → Scope
scope_of symbols s = under_proofs s.hypotheses (scope_of_terms symbols s)

abbrev pub domains_of : SymbolMap → Sequent → List Tree
domains_of symbols s =
    map (λ n. types) (type_variables_of s)
    ++ term_domains symbols (free_variables_of s) (scope_of_types symbols s)
    ++ proof_domains symbols s.hypotheses (scope_of_terms symbols s)

-- the proofs of a sequent's conclusion
abbrev pub conclusion_tree : SymbolMap → Sequent → Tree
conclusion_tree symbols s = proof_of (term_tree symbols (scope_of symbols s) s.conclusion)

-- a sequent: the product, over its type variables, free variables and hypotheses, of the proofs of its conclusion
abbrev pub sequent_tree : SymbolMap → Sequent → Tree
sequent_tree symbols s = products (domains_of symbols s) (conclusion_tree symbols s)

-- the type of a constant: the product, over the type variables of its generic type, of the terms of that type
abbrev pub generic_tree : SymbolMap → HolType → Tree
generic_tree symbols t =
    products (map (λ n. types) (type_variables t)) (term_of (type_tree symbols (under_types (type_variables t) unfilled) t))

-- a theorem in a scope: its symbol applied to what stands for its type variables, its free variables and its hypotheses
abbrev pub theorem_tree : Scope → ℕ → Sequent → Tree
theorem_tree scope symbol s =
    applied (Sym symbol) (map scope.types (type_variables_of s) ++ map scope.terms (free_variables_of s) ++ map scope.proofs s.hypotheses)

-- a scope in which a substitution's images stand for variables and hypotheses
abbrev pub images : SymbolMap → TypePairs → TermPairs → Scope → Scope
images symbols pairs terms scope = record {
  types = λ n. type_tree symbols scope.types (image pairs n);
  terms = λ v. term_tree symbols scope (term_image terms (v.0, substitute pairs v.1));
  proofs = λ h. scope.proofs (sub pairs terms h);
  bounds = scope.bounds;
}
