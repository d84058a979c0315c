-- A step that becomes a declaration of a module.
use Rattle.std.specs.Prelude.{◌≡◌, ℕ, ◌<◌, List, [], ◌∷◌, map, slice_index_or}
use Rattle.std.specs.List.{AllByRecursion}
use Rattle.hol_spec.specs.Names.{Name}
use Rattle.hol_spec.specs.Proofs.{Made, Step, sequent_at}
use Rattle.hol_spec.specs.Rules.{Parameters}
use Rattle.hol_spec.specs.Sequents.{Sequent, type_variables_of, free_variables_of}
use Rattle.hol_type.specs.Tables as type
use Rattle.hol_term.specs.declared.Variable.{Variable}
use Rattle.hol_term.specs.Subterms.{HaveTypes, variables_of}
use Rattle.hol_term.specs.Tables.{IsDistinct}
use Rattle.hol_rules.specs.Kept.{Kept, step_count}
use Rattle.hol_rules.specs.Views.{step_at}
use Rattle.lp_spec.specs.Modules.{Declaration}
use Rattle.lp_spec.specs.Trees.{Tree}
use Rattle.translate_spec.specs.Items.{Content, operator, constant, defined_constant, type_operator, type_abstraction, type_representation, unproved, step}
use Rattle.translate_spec.specs.MadeItems.{content_by, needed}
use Rattle.translate_spec.specs.Rows.{has_row, proof_tree}
use Rattle.translate_spec.specs.Scopes.{SymbolMap, Scope, filled, scope_of, under_types, unfilled}
use Rattle.translate_term.specs.Told.{TellsConstant}
use Rattle.translate_proof.specs.declared.premise.Premise.{Premise}
use Rattle.translate_proof.specs.Environments.{Given}
use Rattle.translate_proof.specs.Told.{TellsSequent}

-- the symbol of each step's declaration
abbrev pub symbol_in : List ℕ → ℕ → ℕ
symbol_in numbers j = slice_index_or numbers j 0

-- a step with the premises that its proof needs
abbrev pub needed_at : List Made → ℕ → Step
needed_at made id = needed (map (sequent_at made) (step_at made id).premises) (step_at made id)

-- the content of the item that it is, where the declarations of steps have these symbols
abbrev pub content_at : List ℕ → List Made → ℕ → Content
content_at numbers made id =
    let x = needed_at made id in
    content_by (has_row x.kind) x.kind (map (symbol_in numbers) x.premises) (map (sequent_at made) x.premises) x.parameters x.sequent

-- the proof of a step by its rule
abbrev pub rule_tree : SymbolMap → Scope → List ℕ → List Made → Step → Tree
rule_tree symbols scope numbers made x = proof_tree symbols scope x.kind (map (symbol_in numbers) x.premises) (map (sequent_at made) x.premises) x.parameters

-- a module tells the constants that are put for variables
abbrev pub TellsGiven : List Declaration → SymbolMap → Parameters → Type 0
TellsGiven declarations symbols (Parameters.constants pairs) = AllByRecursion (λ p. TellsConstant declarations symbols p.0 p.1.1) pairs
TellsGiven declarations symbols given = Unit {0}

-- a module tells the symbol of each operator and each constant in what a content says, in the premises of a step, and in what it was given
abbrev pub TellsContent : List Declaration → SymbolMap → Content → Type 0
TellsContent declarations symbols (operator n k) = Unit {0}
TellsContent declarations symbols (constant n a) = Unit {0}
TellsContent declarations symbols (defined_constant n a t) = Unit {0}
TellsContent declarations symbols (type_operator names c f j one) = Unit {0}
TellsContent declarations symbols (type_abstraction names c f j one) = Unit {0}
TellsContent declarations symbols (type_representation names c f j one) = Unit {0}
TellsContent declarations symbols (unproved s) = TellsSequent declarations symbols s
TellsContent declarations symbols (step kind js premises given s) =
    TellsSequent declarations symbols s × AllByRecursion (TellsSequent declarations symbols) premises × TellsGiven declarations symbols given

-- in a step, its premises and what it was given
pub record TellsProof (declarations : List Declaration) (symbols : SymbolMap) (made : List Made) (x : Step) : Type 0 where
  pub own : TellsSequent declarations symbols x.sequent
  pub premises : AllByRecursion (TellsSequent declarations symbols) (map (sequent_at made) x.premises)
  pub given : TellsGiven declarations symbols x.parameters

-- the binders of a sequent stand for its parameters
abbrev pub given_at : List Declaration → SymbolMap → Sequent → Given
given_at declarations symbols s = record { declarations = declarations; symbols = symbols; scope = scope_of symbols s }

-- a binder for each of some type variables stands for it, and nothing else is told
abbrev pub given_over : List Declaration → SymbolMap → List Name → Given
given_over declarations symbols names = record { declarations = declarations; symbols = symbols; scope = filled symbols (under_types names unfilled) }

-- these are the parameters of a step's sequent, in a table where nothing has two numbers
pub record AreParams (k : Kept) (id : ℕ) (names : List Name) (variables : List Variable) : Type 0 where
  pub type_vars : names ≡ type_variables_of (sequent_at k.made id)
  pub free_vars : variables_of k.trees variables ≡ free_variables_of (sequent_at k.made id)
  pub known : HaveTypes k.trees variables
  pub one_type : type.IsDistinct k.trees.types
  pub one_term : IsDistinct k.trees.terms

-- a premise is an earlier step, with the symbol of its declaration
pub record IsPremise (k : Kept) (numbers : List ℕ) (one : Premise) : Type 0 where
  pub known : one.id < step_count k
  pub symbol : one.symbol ≡ symbol_in numbers one.id

-- the one premise of a step, and the two
pub record IsOne (k : Kept) (numbers : List ℕ) (id : ℕ) (one : Premise) : Type 0 where
  pub is : (step_at k.made id).premises ≡ one.id ∷ []
  pub first : IsPremise k numbers one

pub record AreTwo (k : Kept) (numbers : List ℕ) (id : ℕ) (one two : Premise) : Type 0 where
  pub are : (step_at k.made id).premises ≡ one.id ∷ two.id ∷ []
  pub first : IsPremise k numbers one
  pub second : IsPremise k numbers two
