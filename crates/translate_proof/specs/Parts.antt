-- The parts of a type definition and its two laws, by the numbers of steps.
use Rattle.std.specs.Prelude.{◌≡◌, ℕ, ◌<◌, ◌≤◌, ◌++◌, ◌∷◌, List, [], length, IfOk, OnOk, Result}
use Rattle.hol_spec.specs.Definitions.{TypeNames}
use Rattle.hol_spec.specs.Primitives.{function}
use Rattle.hol_spec.specs.Proofs.{sequent_at}
use Rattle.hol_spec.specs.TermBinding.{loose}
use Rattle.hol_spec.specs.Terms.{Term, app, equation, lam}
use Rattle.hol_spec.specs.TypeDefinitions.{IsTypeDefinition, first_law_of, second_law_of}
use Rattle.hol_spec.specs.Types.{HolType}
use Rattle.hol_spec.specs.declared.Version.{Version}
use Rattle.hol_spec.specs.declared.Version.TheVariants.{Five, Six}
use Rattle.hol_term.specs.declared.TermId.{TermId}
use Rattle.hol_term.specs.Tables.{term_at, type_at}
use Rattle.hol_rules.specs.Kept.{Kept}
use Rattle.holide_sig.specs.declared.module.Module.{Module}
use Rattle.lp_spec.specs.Modules.{sub_symbol, sub_abs_symbol, sub_rep_symbol, term_of}
use Rattle.lp_spec.specs.Trees.{Tree, App, Lam, Var}
use Rattle.lp_term.specs.declared.LpId.{LpId}
use Rattle.lp_term.specs.Tables.{tree_at, Holds}
use Rattle.translate_spec.specs.ProofTrees.{first_law_free_tree, first_law_tree, law_tree, part_tree, second_law_free_tree, second_law_tree, witness}
use Rattle.translate_spec.specs.Rows.{type_or}
use Rattle.translate_spec.specs.Scopes.{lifted, term_tree}
use Rattle.translate_term.specs.Told.{TellsType}
use Rattle.translate_proof.specs.declared.ground.Ground.{Ground}
use Rattle.translate_proof.specs.declared.parts.Functions.{Functions}
use Rattle.translate_proof.specs.declared.parts.Holding.{Holding}
use Rattle.translate_proof.specs.declared.parts.Part.{Part}
use Rattle.translate_proof.specs.declared.parts.Part.TheVariants as part
use Rattle.translate_proof.specs.declared.premise.Premise.{Premise}
use Rattle.translate_proof.specs.declared.scope.Environment.{Environment}
use Rattle.translate_proof.specs.Environments.{Given, IsTold, Ready, Represents}
use Rattle.translate_proof.specs.Equations.{IsEquated}
use Rattle.translate_proof.specs.Rescoped.{over_types, with_scope}
use Rattle.translate_proof.specs.RuleRows.{premise_at}
use Rattle.translate_proof.specs.Told.{TellsStep}

-- the signature's symbol for a part of a type definition
abbrev pub part_symbol : Part → ℕ
part_symbol part.Operator = sub_symbol
part_symbol part.Abstraction = sub_abs_symbol
part_symbol part.Representation = sub_rep_symbol

-- a type operator can be defined by what a step says
pub record IsDefiningStep (k : Kept) (id : ℕ) : Type 0 where
  pub names : TypeNames
  pub ty : HolType
  pub predicate : Term
  pub defines : IsTypeDefinition names ty predicate (sequent_at k.made id)

-- the type of the term in which the predicate holds, and that the module tells it
abbrev pub whole_type : Kept → ℕ → HolType
whole_type k id = type_or (witness (sequent_at k.made id).conclusion)

abbrev pub TellsWhole : Given → Kept → ℕ → Type 0
TellsWhole given k id = TellsType given.declarations given.symbols (whole_type k id)

-- these are the numbers of that type, the predicate and the term
pub record IsHolding (k : Kept) (id : ℕ) (h : Holding) : Type 0 where
  pub ty : h.ty.0 < length k.trees.types
  pub predicate : h.predicate.0 < length k.trees.terms
  pub witness : h.witness.0 < length k.trees.terms
  pub whole : type_at k.trees h.ty.0 ≡ whole_type k id
  pub is : (sequent_at k.made id).conclusion ≡ app (term_at k.trees h.predicate.0) (term_at k.trees h.witness.0)
  pub closed : loose (sequent_at k.made id).conclusion ≤ 0

-- these are the numbers of the equation of two functions that a step's conclusion is, and of their types
pub record AreFunctions (k : Kept) (id : ℕ) (f : Functions) : Type 0 where
  pub sides : IsEquated k id f.sides
  pub from : f.from.0 < length k.trees.types
  pub to : f.to.0 < length k.trees.types
  pub is : type_at k.trees f.sides.ty.0 ≡ function (type_at k.trees f.from.0) (type_at k.trees f.to.0)

-- a step is the first law of the type operator with these names, as it is in a version, by what another says
pub record IsFirstLaw (version : Version) (k : Kept) (id one : ℕ) (names : TypeNames) : Type 0 where
  pub ty : HolType
  pub predicate : Term
  pub defines : IsTypeDefinition names ty predicate (sequent_at k.made one)
  pub is : sequent_at k.made id ≡ first_law_of version names ty

-- it is the second
pub record IsSecondLaw (version : Version) (k : Kept) (id one : ℕ) (names : TypeNames) : Type 0 where
  pub ty : HolType
  pub predicate : Term
  pub defines : IsTypeDefinition names ty predicate (sequent_at k.made one)
  pub is : sequent_at k.made id ≡ second_law_of version names ty predicate

-- a step's conclusion is an equation of two functions
abbrev pub IsFunctionEquation : Kept → ℕ → Type 0
IsFunctionEquation k id = (a b : HolType) × (t u : Term) × ((sequent_at k.made id).conclusion ≡ equation (function a b) t u)

-- a symbol of the signature at the type, the predicate and the term of a theorem, and at the theorem
abbrev pub part_row : Kept → ℕ → Premise → Given → Tree
part_row k symbol one given = part_tree given.symbols given.scope symbol (whole_type k one.id) (premise_at k one)

-- the module tells the sequent of a theorem and that type, where an environment stands for a scope
abbrev pub TellsPart : Module → Kept → Environment → ℕ → Type 0
TellsPart m k env one = (given : Given) × Represents given m k.trees env × TellsWhole given k one × TellsStep given k one

-- what is made there is such a symbol
abbrev pub MakesPart : {E : Type 0} → Module → Module → Kept → Environment → ℕ → Premise → Result LpId E → Type 0
MakesPart old new k env symbol one result =
    IfOk result (λ r. (given : Given) → Represents given old k.trees env → TellsWhole given k one.id → TellsStep given k one.id
    → Holds new.table r.0 (part_row k symbol one given))

-- it is added to some arguments, at the variable of an abstraction over the terms of a type
abbrev pub AddsPart : {E : Type 0} → Module → Module → Ground → List LpId → List LpId → LpId → ℕ → Premise → Result (Unit {0}) E → Type 0
AddsPart old new on before after domain symbol one result =
    OnOk result ((given : Given) (made : List Tree) → Ready given old on.proof.now.trees on.env.now before made
    → TellsWhole given on.proof.now one.id → TellsStep given on.proof.now one.id
    → Ready given new on.proof.now.trees on.env.now after
    (made ++ Lam (term_of (tree_at old.table domain.0)) (App (part_row on.proof.now symbol one given) (Var 0)) ∷ []))

-- what is given under a binder that stands for nothing
abbrev pub under_binder : Given → Given
under_binder given = with_scope given (lifted given.scope)

-- what a law is told: another environment stands for another scope, and the module tells the sequents of the step and of the theorem
abbrev pub TellsBoth : (Given → Given) → Module → Ground → Environment → ℕ → ℕ → Type 0
TellsBoth other m on env id one =
    (given : Given) × Represents given m on.proof.now.trees on.env.now × Represents (other given) m on.proof.now.trees env
    × TellsStep given on.proof.now id × TellsStep given on.proof.now one

-- and what it makes, where the step is the law of the type operator with these names
abbrev pub MakesBoth : {E : Type 0} → (Given → Given) → (TypeNames → Type 0) → (TypeNames → Given → Tree) → Module → Module → Ground → Environment → ℕ → ℕ
    → Result LpId E → Type 0
MakesBoth other IsLaw tree old new on env id one result =
    IfOk result (λ r. (given : Given) (names : TypeNames) → IsLaw names → Represents given old on.proof.now.trees on.env.now
    → Represents (other given) old on.proof.now.trees env → TellsStep given on.proof.now id → TellsStep given on.proof.now one
    → Holds new.table r.0 (tree names given))

-- the trees of the laws, in version 6 and in version 5
abbrev pub first_law_row : Kept → Premise → TypeNames → Given → Tree
first_law_row k one names given = first_law_tree given.symbols given.scope names (whole_type k one.id) (premise_at k one)

abbrev pub second_law_row : Kept → Premise → TypeNames → Given → Tree
second_law_row k one names given = second_law_tree given.symbols given.scope names (whole_type k one.id) (premise_at k one)

abbrev pub first_law_free_row : Kept → Premise → TypeNames → Given → Tree
first_law_free_row k one names given = first_law_free_tree given.symbols given.scope names (whole_type k one.id) (premise_at k one)

abbrev pub second_law_free_row : Kept → Premise → TypeNames → Given → Tree
second_law_free_row k one names given = second_law_free_tree given.symbols given.scope names (whole_type k one.id) (premise_at k one)

-- so it makes each law: in version 6 the other environment is under one binder more, in version 5 it tells what stands for type variables alone
abbrev pub MakesFirstLaw : {E : Type 0} → Module → Module → Ground → Environment → ℕ → Premise → Result LpId E → Type 0
MakesFirstLaw old new on inner id one result =
    MakesBoth under_binder (IsFirstLaw Six on.proof.now id one.id) (first_law_row on.proof.now one) old new on inner id one.id result

abbrev pub MakesSecondLaw : {E : Type 0} → Module → Module → Ground → Environment → ℕ → Premise → Result LpId E → Type 0
MakesSecondLaw old new on inner id one result =
    MakesBoth under_binder (IsSecondLaw Six on.proof.now id one.id) (second_law_row on.proof.now one) old new on inner id one.id result

abbrev pub MakesFirstLawFree : {E : Type 0} → Module → Module → Ground → Environment → ℕ → Premise → Result LpId E → Type 0
MakesFirstLawFree old new on outer id one result =
    MakesBoth over_types (IsFirstLaw Five on.proof.now id one.id) (first_law_free_row on.proof.now one) old new on outer id one.id result

abbrev pub MakesSecondLawFree : {E : Type 0} → Module → Module → Ground → Environment → ℕ → Premise → Result LpId E → Type 0
MakesSecondLawFree old new on outer id one result =
    MakesBoth over_types (IsSecondLaw Five on.proof.now id one.id) (second_law_free_row on.proof.now one) old new on outer id one.id result

-- what the equation of two functions is told: the type of the theorem's term too
abbrev pub TellsLaw : Module → Ground → Environment → ℕ → ℕ → Type 0
TellsLaw m on inner id one =
    (given : Given) × Represents given m on.proof.now.trees on.env.now × Represents (under_binder given) m on.proof.now.trees inner
    × TellsStep given on.proof.now id × TellsWhole given on.proof.now one × TellsStep given on.proof.now one

-- and what it makes, where the step's conclusion is the equation of two abstractions
abbrev pub MakesLaw : {E : Type 0} → Module → Module → Ground → Environment → ℕ → ℕ → Premise → Result LpId E → Type 0
MakesLaw old new on inner symbol id one result =
    IfOk result (λ r. (given : Given) (a b : HolType) (t u : Term) → (sequent_at on.proof.now.made id).conclusion ≡ equation (function a b) (lam a t) (lam a u)
    → Represents given old on.proof.now.trees on.env.now → Represents (under_binder given) old on.proof.now.trees inner → TellsStep given on.proof.now id
    → TellsWhole given on.proof.now one.id → TellsStep given on.proof.now one.id
    → Holds new.table r.0 (law_tree given.symbols given.scope a b t u symbol (whole_type on.proof.now one.id) (premise_at on.proof.now one)))

-- what a symbol at a term is told: the module tells the term too
abbrev pub TellsPartAt : Module → Ground → Environment → ℕ → TermId → Type 0
TellsPartAt m on outer one id =
    (given : Given) × Represents given m on.proof.now.trees on.env.now × Represents (over_types given) m on.proof.now.trees outer
    × TellsWhole given on.proof.now one × TellsStep given on.proof.now one × IsTold given (term_at on.proof.now.trees id.0)

-- and what it makes
abbrev pub MakesPartAt : {E : Type 0} → Module → Module → Ground → Environment → ℕ → Premise → TermId → Result LpId E → Type 0
MakesPartAt old new on outer symbol one id result =
    IfOk result (λ r. (given : Given) → Represents given old on.proof.now.trees on.env.now → Represents (over_types given) old on.proof.now.trees outer
    → TellsWhole given on.proof.now one.id → TellsStep given on.proof.now one.id → IsTold given (term_at on.proof.now.trees id.0)
    → Holds new.table r.0 (App (part_row on.proof.now symbol one (over_types given)) (term_tree given.symbols given.scope (term_at on.proof.now.trees id.0))))
