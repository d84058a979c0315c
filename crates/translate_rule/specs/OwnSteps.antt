-- A step in the environment of its own binders: its declaration, and its proof term.
use Rattle.std.specs.Prelude.{◌≡◌, ◌<◌, ℕ, List, map}
use Rattle.hol_spec.specs.Proofs.{Step, sequent_at}
use Rattle.hol_spec.specs.Sequents.{Sequent, free_variables_of}
use Rattle.hol_rules.specs.Kept.{Kept, step_count}
use Rattle.hol_rules.specs.Views.{step_at}
use Rattle.holide_sig.specs.declared.decls.Decl.{Decl}
use Rattle.holide_sig.specs.declared.module.Module.{Module}
use Rattle.holide_sig.specs.Modules.{declaration_in, declarations_of, IsHeld}
use Rattle.hol_spec.specs.Names.{Name}
use Rattle.lp_spec.specs.Modules.{products, Declaration}
use Rattle.lp_spec.specs.Trees.{Tree}
use Rattle.lp_term.specs.declared.LpId.{LpId}
use Rattle.lp_term.specs.Tables.{Holds}
use Rattle.translate_spec.specs.Image.{step_name}
use Rattle.translate_spec.specs.Items.{Content, declaration_of}
use Rattle.translate_spec.specs.Rows.{proof_tree}
use Rattle.translate_spec.specs.Scopes.{SymbolMap, Scope, filled, proof_domains, scope_of, scope_of_terms, scope_of_types, term_domains, under_types, unfilled}
use Rattle.translate_proof.specs.declared.premise.Premise.{Premise}
use Rattle.translate_proof.specs.declared.scope.Environment.{Environment}
use Rattle.translate_proof.specs.Environments.{Represents}
use Rattle.translate_proof.specs.Keeping.{AreKept}
use Rattle.translate_proof.specs.Told.{TellsSequent}
use Rattle.translate_rule.specs.declared.declaration.Unnamed.{Unnamed}
use Rattle.translate_rule.specs.declared.own.OwnStep.{OwnStep}
use Rattle.translate_rule.specs.declared.run.Run.{Run}
use Rattle.translate_rule.specs.ItemViews.{accepted}
use Rattle.translate_rule.specs.Steps.{content_at, needed_at, rule_tree, AreParams, TellsContent, TellsProof}
use Rattle.translate_rule.specs.Unnamed.{named_in}

-- the proof of which a step is, the step there, also with the premises that its proof needs, and its sequent
abbrev pub proof_in : OwnStep → Kept
proof_in step = step.ground.proof.now

abbrev pub own_step : OwnStep → Step
own_step step = step_at (proof_in step).made step.id

abbrev pub needed_step : OwnStep → Step
needed_step step = needed_at (proof_in step).made step.id

abbrev pub own_sequent : OwnStep → Sequent
own_sequent step = sequent_at (proof_in step).made step.id

-- an environment stands for a scope over a module, for whatever symbols another told that grew into it
abbrev pub StandsFor : Kept → (SymbolMap → Scope) → Module → Module → Environment → Type 0
StandsFor k scope old new env = (declarations : List Declaration) (symbols : SymbolMap) → declarations_of old ≡ declarations
    → Represents (record { declarations = declarations; symbols = symbols; scope = scope symbols }) new k.trees env

-- the scope of a step's binders, that of its variables alone, what stands for its type variables alone, and that of a binder for each type variable
abbrev pub own_scope : Kept → ℕ → SymbolMap → Scope
own_scope k id symbols = scope_of symbols (sequent_at k.made id)

abbrev pub variable_scope : Kept → ℕ → SymbolMap → Scope
variable_scope k id symbols = scope_of_terms symbols (sequent_at k.made id)

abbrev pub outer_scope : Kept → ℕ → SymbolMap → Scope
outer_scope k id symbols = filled symbols (own_scope k id symbols).types

abbrev pub types_scope : List Name → SymbolMap → Scope
types_scope names symbols = filled symbols (under_types names unfilled)

-- an environment stands for what the scope of a step's binders becomes
abbrev pub StandsUnder : OwnStep → (Scope → Scope) → Module → Module → Environment → Type 0
StandsUnder step under old new env = StandsFor (proof_in step) (λ symbols. under (own_scope (proof_in step) step.id symbols)) old new env

-- a step is of its proof, its parameters are those of its sequent, and its environment stands for them over a module
pub record IsReady (step : OwnStep) (m : Module) : Type 0 where
  pub id : step.id < step_count (proof_in step)
  pub params : AreParams (proof_in step) step.id step.params.now.type_vars step.params.now.free_vars
  pub kept : AreKept (proof_in step) step.ground.kept.now
  pub held : IsHeld m
  pub stands : StandsFor (proof_in step) (own_scope (proof_in step) step.id) m m step.ground.env.now

-- a module tells a step's sequent
abbrev pub IsSequentTold : OwnStep → Module → Type 0
IsSequentTold step m = (tables : SymbolMap) × TellsSequent (declarations_of m) tables (own_sequent step)

-- a tree is this one of a step's sequent, where the module told the sequent before
abbrev pub IsTreeOf : OwnStep → (SymbolMap → Sequent → Tree) → Module → Module → LpId → Type 0
IsTreeOf step tree old new r = (tables : SymbolMap) → TellsSequent (declarations_of old) tables (own_sequent step) → Holds new.table r.0
    (tree tables (own_sequent step))

-- the products over a sequent's hypotheses, and over its free variables
abbrev pub hypotheses_product : Tree → SymbolMap → Sequent → Tree
hypotheses_product inside tables s = products (proof_domains tables s.hypotheses (scope_of_terms tables s)) inside

abbrev pub variables_product : Tree → SymbolMap → Sequent → Tree
variables_product inside tables s = products (term_domains tables (free_variables_of s) (scope_of_types tables s)) inside

-- a module tells what a proof of this step needs
abbrev pub IsProofTold : OwnStep → Step → Module → Type 0
IsProofTold step x m = (tables : SymbolMap) × TellsProof (declarations_of m) tables (proof_in step).made x

-- a tree is the proof of this step by its rule, with the symbols of earlier declarations, where the module told before what it needs
abbrev pub IsProofOf : OwnStep → List ℕ → Step → Module → Module → LpId → Type 0
IsProofOf step numbers x old new r = (tables : SymbolMap) → TellsProof (declarations_of old) tables (proof_in step).made x
    → Holds new.table r.0 (rule_tree tables (own_scope (proof_in step) step.id tables) numbers (proof_in step).made x)

-- the proof of a step by its rule from premises
abbrev pub tree_by : OwnStep → List Premise → SymbolMap → Tree
tree_by step premises tables =
    let x = own_step step in
    proof_tree tables (own_scope (proof_in step) step.id tables) x.kind (map (λ (one : Premise). one.symbol) premises)
    (map (λ (one : Premise). sequent_at (proof_in step).made one.id) premises) x.parameters

-- a tree is that proof
abbrev pub IsProofBy : OwnStep → List Premise → Module → Module → LpId → Type 0
IsProofBy step premises old new r = (tables : SymbolMap) → TellsProof (declarations_of old) tables (proof_in step).made (own_step step) → Holds new.table r.0
    (tree_by step premises tables)

-- a module tells what the content of a step asks for
abbrev pub IsStepTold : Module → Content → Type 0
IsStepTold m content = (tables : SymbolMap) × TellsContent (declarations_of m) tables content

-- the content of a step, with the symbols of earlier declarations
abbrev pub own_content : OwnStep → List ℕ → Content
own_content step numbers = content_at numbers (proof_in step).made step.id

-- what a declaration has beside its name is that of a content, under each name
abbrev pub IsStated : Module → Module → Content → Unnamed → Type 0
IsStated old new content x = (tables : SymbolMap) (name : List ℕ) → TellsContent (declarations_of old) tables content → named_in new.table name x
    ≡ declaration_of tables name content

-- a declaration is that of a step of a run
abbrev pub IsStepDeclared : Module → Module → Run → List ℕ → ℕ → Decl → Type 0
IsStepDeclared old new run numbers id decl = (tables : SymbolMap) → TellsContent (declarations_of old) tables (content_at numbers run.proof.now.made id)
    → declaration_in new.table decl ≡ declaration_of tables (step_name (accepted run) id (step_at run.proof.now.made id).kind)
    (content_at numbers run.proof.now.made id)
