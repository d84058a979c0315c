-- What a rule is told on its ground, and the tree that it makes there.
use Rattle.std.specs.Prelude.{ℕ, List, [], ◌∷◌, ◌++◌, map, IfOk, OnOk, Result}
use Rattle.std.specs.List.{AllByRecursion}
use Rattle.hol_spec.specs.Terms.{Variable as ATerm}
use Rattle.hol_type.specs.declared.table.TypeId.{TypeId}
use Rattle.hol_term.specs.declared.TermId.{TermId}
use Rattle.hol_term.specs.declared.Variable.{Variable}
use Rattle.hol_term.specs.Subterms.{variables_of}
use Rattle.hol_term.specs.Tables.{Trees, term_at, type_at}
use Rattle.hol_rules.specs.Kept.{Kept}
use Rattle.holide_sig.specs.declared.module.Module.{Module}
use Rattle.lp_spec.specs.Trees.{Tree}
use Rattle.lp_term.specs.declared.LpId.{LpId}
use Rattle.lp_term.specs.Tables.{Holds}
use Rattle.translate_proof.specs.declared.ground.Ground.{Ground}
use Rattle.translate_proof.specs.declared.scope.Environment.{Environment}
use Rattle.translate_spec.specs.Scopes.{term_tree, type_tree}
use Rattle.translate_term.specs.Told.{TellsType}
use Rattle.translate_proof.specs.Environments.{Given, IsTold, Ready, Represents}
use Rattle.translate_proof.specs.Told.{TellsStep}

-- an environment stands for a scope, and the module tells the sequent of a step
abbrev pub TellsOne : Module → Kept → Environment → ℕ → Type 0
TellsOne m k env one = (given : Given) × Represents given m k.trees env × TellsStep given k one

-- it tells those of two steps
abbrev pub TellsTwo : Module → Kept → Environment → ℕ → ℕ → Type 0
TellsTwo m k env one two = (given : Given) × Represents given m k.trees env × TellsStep given k one × TellsStep given k two

-- it tells those of three
abbrev pub TellsThree : Module → Kept → Environment → ℕ → ℕ → ℕ → Type 0
TellsThree m k env one two three = (given : Given) × Represents given m k.trees env × TellsStep given k one × TellsStep given k two × TellsStep given k three

-- something holds where the module tells the sequents of these steps
abbrev pub IfTold : Given → Kept → List ℕ → Type 0 → Type 0
IfTold given k [] P = P
IfTold given k (id ∷ ids) P = TellsStep given k id → IfTold given k ids P

-- what is made is this tree in each scope for which the environment stands, where the module tells these steps
abbrev pub MakesTree : {E : Type 0} → Module → Module → Kept → Environment → List ℕ → Result LpId E → (Given → Tree) → Type 0
MakesTree old new k env steps result tree =
    IfOk result (λ r. (given : Given) → Represents given old k.trees env → IfTold given k steps (Holds new.table r.0 (tree given)))

-- it is this tree in the environment of a ground
abbrev pub MakesOn : {E : Type 0} → Module → Module → Ground → List ℕ → Result LpId E → (Given → Tree) → Type 0
MakesOn old new on steps result tree = MakesTree old new on.proof.now on.env.now steps result tree

-- the same where the scope and the module meet a condition
abbrev pub TellsWhere : Module → Kept → Environment → (Given → Type 0) → Type 0
TellsWhere m k env If = (given : Given) × Represents given m k.trees env × If given

abbrev pub MakesWhere : {E : Type 0} → Module → Module → Kept → Environment → (Given → Type 0) → Result LpId E → (Given → Tree) → Type 0
MakesWhere old new k env If result tree = IfOk result (λ r. (given : Given) → Represents given old k.trees env → If given → Holds new.table r.0 (tree given))

-- what is added to some arguments are these trees there
abbrev pub AddsWhere : {A E : Type 0} → Module → Module → Ground → List LpId → List LpId → (Given → Type 0) → Result A E → (Given → List Tree) → Type 0
AddsWhere old new on before after If result trees =
    OnOk result ((given : Given) (made : List Tree) → Ready given old on.proof.now.trees on.env.now before made → If given
    → Ready given new on.proof.now.trees on.env.now after (made ++ trees given))

-- these trees are added whatever the terms are
abbrev pub AddsAlways : {A E : Type 0} → Module → Module → Environment → List LpId → List LpId → Result A E → (Given → List Tree) → Type 0
AddsAlways old new env before after result trees =
    OnOk result ((given : Given) (terms : Trees) (made : List Tree) → Ready given old terms env before made
    → Ready given new terms env after (made ++ trees given))

-- the module tells a type, a term, or the types of some variables
abbrev pub TellsTypeAt : Kept → TypeId → Given → Type 0
TellsTypeAt k id given = TellsType given.declarations given.symbols (type_at k.trees id.0)

abbrev pub TellsTermAt : Kept → TermId → Given → Type 0
TellsTermAt k id given = IsTold given (term_at k.trees id.0)

abbrev pub TellsVariables : Kept → List Variable → Given → Type 0
TellsVariables k vs given = AllByRecursion (λ (v : ATerm). TellsType given.declarations given.symbols v.1) (variables_of k.trees vs)

-- the trees of a type and of a term, and what stands for free variables
abbrev pub type_row : Kept → TypeId → Given → Tree
type_row k id given = type_tree given.symbols given.scope.types (type_at k.trees id.0)

abbrev pub term_row : Kept → TermId → Given → Tree
term_row k id given = term_tree given.symbols given.scope (term_at k.trees id.0)

abbrev pub variable_row : Kept → Variable → Given → Tree
variable_row k v given = given.scope.terms (v.name, type_at k.trees v.ty.0)

abbrev pub variable_rows : Kept → List Variable → Given → List Tree
variable_rows k vs given = map given.scope.terms (variables_of k.trees vs)
