-- An item of what a proof made, by its numbers: what it is in a module, and under which name.
use Rattle.std.specs.Prelude.{ℕ, ◌<◌, ◌≤◌, List, length}
use Rattle.hol_spec.specs.Definitions.{TypeNames}
use Rattle.hol_spec.specs.Names.{Name}
use Rattle.hol_spec.specs.Primitives.{generic}
use Rattle.hol_spec.specs.Proofs.{sequent_at, Accepted}
use Rattle.hol_spec.specs.Sequents.{Sequent}
use Rattle.hol_spec.specs.Terms.{Term}
use Rattle.hol_spec.specs.TypeDefinitions.{IsTypeDefinition}
use Rattle.hol_spec.specs.Types.{HolType}
use Rattle.hol_defs.specs.declared.readers.TypeOpView.{TypeOpView}
use Rattle.hol_defs.specs.Symbols.{named, IsOperatorKnown}
use Rattle.hol_type.specs.declared.table.TypeId.{TypeId}
use Rattle.hol_term.specs.declared.TermId.{TermId}
use Rattle.hol_term.specs.Tables.{Trees, term_at, type_at}
use Rattle.hol_rules.specs.Kept.{Kept, step_count}
use Rattle.hol_rules.specs.Views.{step_at}
use Rattle.translate_spec.specs.Image.{step_name, input_constant_name, input_operator_name, constant_name, operator_name}
use Rattle.translate_spec.specs.Items.{Content}
use Rattle.translate_proof.specs.declared.parts.Part.{Part}
use Rattle.translate_proof.specs.declared.parts.Part.TheVariants as part
use Rattle.translate_rule.specs.declared.items.Item.{Item}
use Rattle.translate_rule.specs.declared.items.Item.TheVariants as item
use Rattle.translate_rule.specs.declared.items.TypeDefinition.{TypeDefinition}
use Rattle.translate_rule.specs.declared.run.Run.{Run}
use Rattle.translate_rule.specs.Steps.{content_at, symbol_in}

-- the run of a proof with these assumptions and exports
abbrev pub run_of : Kept → List ℕ → List ℕ → Accepted
run_of k assumptions exports = record { made = k.made; assumptions = assumptions; exports = exports }

-- that of a run whose module is made
abbrev pub accepted : Run → Accepted
accepted run = run_of run.proof.now run.assumptions.now run.exports.now

-- the names that a type definition gives
abbrev pub names_of_view : TypeOpView → TypeNames
names_of_view x = named x.op.now x.abs.now x.rep.now x.names.now

abbrev pub names_of : TypeDefinition → TypeNames
names_of d = names_of_view d.view

-- the name and the content of a part of a type definition
abbrev pub part_name : Part → TypeNames → List ℕ
part_name part.Operator names = operator_name names.operator
part_name part.Abstraction names = constant_name names.abstraction
part_name part.Representation names = constant_name names.representation

abbrev pub part_content : Part → TypeNames → HolType → Term → ℕ → Sequent → Content
part_content part.Operator names c f j one = Content.type_operator names c f j one
part_content part.Abstraction names c f j one = Content.type_abstraction names c f j one
part_content part.Representation names c f j one = Content.type_representation names c f j one

-- the content of a constant that stands for a term
abbrev pub constant_at : Trees → Name → TermId → TypeId → Content
constant_at trees n t a = Content.defined_constant n (type_at trees a.0) (term_at trees t.0)

-- the name of an item
abbrev pub item_name : Accepted → Item → List ℕ
item_name run (item.InputConst n) = input_constant_name n.now
item_name run (item.InputOp n k) = input_operator_name k n.now
item_name run (item.Const n t a) = constant_name n.now
item_name run (item.Part own d) = part_name own (names_of d)
item_name run (item.Step id) = step_name run id (step_at run.made id).kind

-- its content, where the declarations of steps have these symbols
abbrev pub item_content : Kept → List ℕ → Item → Content
item_content k numbers (item.InputConst n) = Content.constant n.now generic
item_content k numbers (item.InputOp n j) = Content.operator n.now j
item_content k numbers (item.Const n t a) = constant_at k.trees n.now t a
item_content k numbers (item.Part own d) = part_content own (names_of d) (type_at k.trees d.view.whole.0) (term_at k.trees d.view.predicate.0)
    (symbol_in numbers d.premise) (sequent_at k.made d.premise)
item_content k numbers (item.Step id) = content_at numbers k.made id

-- the numbers of a type definition are of the proof, and its premise is an earlier step, which has a symbol
pub record IsDefinitionKnown (k : Kept) (numbers : List ℕ) (d : TypeDefinition) : Type 0 where
  pub operator : IsOperatorKnown k.trees (names_of d) d.view.whole d.view.predicate d.view.abs_type d.view.rep_type
  pub premise : d.premise < step_count k
  pub earlier : d.premise < length numbers
  pub defines : IsTypeDefinition (names_of d) (type_at k.trees d.view.whole.0) (term_at k.trees d.view.predicate.0) (sequent_at k.made d.premise)

-- the numbers of an item are of the proof, and each earlier step has a symbol
abbrev pub IsItemKnown : Kept → List ℕ → Item → Type 0
IsItemKnown k numbers (item.InputConst n) = Unit {0}
IsItemKnown k numbers (item.InputOp n j) = Unit {0}
IsItemKnown k numbers (item.Const n t a) = (t.0 < length k.trees.terms) × (a.0 < length k.trees.types)
IsItemKnown k numbers (item.Part own d) = IsDefinitionKnown k numbers d
IsItemKnown k numbers (item.Step id) = (id < step_count k) × (id ≤ length numbers)
