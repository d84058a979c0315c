-- What a walk over the nodes of a term answers.
use Rattle.std.specs.Prelude.{◌≡◌, ℕ, suc, ◌<◌, ◌≤◌, ◌+◌, List, [], ◌∷◌, ◌++◌, length, map, Option, None, Some}
use Rattle.std.specs.List.{AllByRecursion}
use Rattle.std.specs.declared.vec.Vec.{Vec}
use Rattle.std.specs.declared.alloc.Global.{Global}
use Rattle.hol_spec.specs.Names.{Name}
use Rattle.hol_spec.specs.Types.{HolType}
use Rattle.hol_spec.specs.Limits.{greatest_size, greatest_depth, type_size, term_size, term_depth, type_depth}
use Rattle.hol_spec.specs.Substitution.{TypePairs}
use Rattle.hol_spec.specs.ClosedForm.{ClosedType, ClosedTypes, ClosedTerm}
use Rattle.hol_spec.specs.Terms.{Term, Variable, constant, free, lam, free_places}
use Rattle.hol_type.specs.declared.table.TypeId.{TypeId}
use Rattle.hol_type.specs.Tables.{pairs_at}
use Rattle.hol_term.specs.declared.TermId.{TermId}
use Rattle.hol_term.specs.Tables.{Trees, Holds, term_at, terms_at, type_at}
use Rattle.lp_spec.specs.Trees.{Tree, App}
use Rattle.lp_spec.specs.Modules.{Declaration, applied}
use Rattle.translate_spec.specs.TypeEnc.{Place, StandForTypes}
use Rattle.decode_spec.specs.Opened.{open_type, open_term, open_variables}
use Rattle.decode_spec.specs.Decode.{type_of_tree, term_from}
use Rattle.decode_back.specs.Walks.{parameter_name}

-- the term of a free variable
abbrev pub free_of : Variable → Term
free_of v = free v.0 v.1

-- the numbers are those of free variables with the names of parameters, of these types
abbrev pub AreVariables : Trees → List TermId → List ClosedType → Type 0
AreVariables trees ids types = terms_at trees ids ≡ map free_of (open_variables parameter_name 0 types)

-- no tree is applied at its head
abbrev pub IsHead : Tree → Type 0
IsHead A = (f x : Tree) → A ≡ App f x → ⊥

-- there is no term of at most this size and this depth
abbrev pub NoTermWithin : List ClosedType → ℕ → ℕ → Option ClosedTerm → Type 0
NoTermWithin types size depth o =
    (c : ClosedTerm) → o ≡ Some c → term_size (open_term parameter_name types c) ≤ size → term_depth (open_term parameter_name types c) ≤ depth → ⊥

-- the term is in the table, and what is left and its size are what there was; or there is none of at most what there was and this depth
abbrev pub IsTermFound : ℕ → List ClosedType → ℕ → ℕ → Option ClosedTerm → Trees → Option TermId → Type 0
IsTermFound level types there left o trees None = NoTermWithin types there level o
IsTermFound level types there left o trees (Some id) =
    (c : ClosedTerm) × (o ≡ Some c) × Holds trees id.0 (open_term parameter_name types c) × (left + term_size (open_term parameter_name types c) ≡ there)

-- a head with some of its arguments stands for the term that was found, and the others are left; or with all of them it stands for none
-- of at most what there was and this depth
abbrev pub IsHeadFound : ℕ → List ClosedType → ℕ → ℕ → List Declaration → Place → Tree → List Tree → List Tree → Trees → Option TermId → Type 0
IsHeadFound level types there left d at H args rest trees None = NoTermWithin types there level (term_from d (applied H args) at)
IsHeadFound level types there left d at H args rest trees (Some id) =
    (taken : List Tree) × (args ≡ taken ++ rest) × IsTermFound level types there left (term_from d (applied H taken) at) trees (Some id)

-- types for the variables from a number on
abbrev pub named_types : ℕ → ClosedTypes → TypePairs
named_types i ClosedTypes.none = []
named_types i (ClosedTypes.more t ts) = (parameter_name i, open_type parameter_name t) ∷ named_types (suc i) ts

-- so many arguments were taken, and stand for these types
pub record AreTaken (d : List Declaration) (at : Place) (count : ℕ) (args rest : List Tree) (pairs : TypePairs) : Type 0 where
  pub taken : List Tree
  pub types : ClosedTypes
  pub is : args ≡ taken ++ rest
  pub many : length taken ≡ count
  pub stand : StandForTypes d types at taken
  pub pairs_are : pairs ≡ named_types 0 types

-- an argument among the first ones stands for no type of at most the greatest size and this depth
pub record IsNoType (level : ℕ) (d : List Declaration) (at : Place) (count : ℕ) (args : List Tree) : Type 0 where
  pub taken : List Tree
  pub X : Tree
  pub rest : List Tree
  pub is : args ≡ taken ++ X ∷ rest
  pub few : length taken < count
  pub none : (t : ClosedType) → type_of_tree d at X ≡ Some t → type_size (open_type parameter_name t) ≤ greatest_size
      → type_depth (open_type parameter_name t) ≤ level → ⊥

-- why the types of the first arguments weren't found
pub data LacksTypes (level : ℕ) (d : List Declaration) (at : Place) (count : ℕ) (args : List Tree) : Type 0 where
  too_few : length args < count → LacksTypes level d at count args
  no_type : IsNoType level d at count args → LacksTypes level d at count args

abbrev pub AreTypeArguments : ℕ → List Declaration → Place → ℕ → List Tree → List Tree → Trees → Option (Vec (Name × TypeId) Global) → Type 0
AreTypeArguments level d at count args rest trees None = LacksTypes level d at count args
AreTypeArguments level d at count args rest trees (Some pairs) = AreTaken d at count args rest (pairs_at trees.types pairs.items)

-- the constant of a type is in the table, and what is left and its size are what there was; or it passes the limits, or is larger than
-- what there was
abbrev pub IsConstantMade : Name → HolType → ℕ → ℕ → Trees → Option TermId → Type 0
IsConstantMade n t there left trees None = (level : ℕ) → there ≤ greatest_size → level ≤ greatest_depth → 1 + type_size t ≤ there → 1 + type_depth t ≤ level → ⊥
IsConstantMade n t there left trees (Some id) = Holds trees id.0 (constant n t) × (left + (1 + type_size t) ≡ there)

-- no free variable of a term has the name of one component without bytes
abbrev pub outside_name : Name
outside_name = [] ∷ []

abbrev pub IsFresh : Term → Type 0
IsFresh t = AllByRecursion (λ v. v.0 ≡ outside_name → ⊥) (free_places t)

-- no abstraction over a type is within the limits where its body has taken the rest of some size within them
abbrev pub NoLamWithin : HolType → Term → ℕ → Type 0
NoLamWithin t b there =
    (whole level : ℕ) → there + term_size b ≡ whole → whole ≤ greatest_size → level ≤ greatest_depth
    → term_size (lam t b) ≤ whole → term_depth (lam t b) ≤ level → ⊥

-- the abstraction is in the table, and what is left, with what it adds, is what there was; or it passes the limits
abbrev pub IsLamFound : HolType → Term → ℕ → ℕ → Trees → Option TermId → Type 0
IsLamFound t b there left trees None = NoLamWithin t b there
IsLamFound t b there left trees (Some id) = Holds trees id.0 (lam t b) × (left + (1 + type_size t) ≡ there)

-- where a body is fresh, its abstraction over a type is found
abbrev pub IsAbstracted : Trees → TypeId → TermId → ℕ → ℕ → Trees → Option TermId → Type 0
IsAbstracted table ty body there left now found = IsFresh (term_at table body.0) → IsLamFound (type_at table ty.0) (term_at table body.0) there left now found
