-- What the definition of a constant, and that of a list of constants, makes.
use Rattle.std.specs.Prelude.{ℕ, List, [], ◌∷◌, map}
use Rattle.hol_spec.specs.Definitions.{Definition}
use Rattle.hol_spec.specs.DefinitionLists.{ConstantPairs, definitions_in}
use Rattle.hol_spec.specs.Names.{Name}
use Rattle.hol_spec.specs.Proofs.{Step}
use Rattle.hol_spec.specs.Rules as rule
use Rattle.hol_spec.specs.Sequents.{Sequent as ASequent}
use Rattle.hol_spec.specs.Symbols.{Symbol}
use Rattle.hol_spec.specs.Terms.{Term}
use Rattle.hol_spec.specs.declared.StepKind.TheVariants.{DefineConst, DefineConstList}
use Rattle.hol_term.specs.declared.Variable.{Variable}
use Rattle.hol_term.specs.declared.TermId.{TermId}
use Rattle.hol_term.specs.Tables.{Trees, term_at}
use Rattle.hol_defs.specs.Lists.{pairs_at}
use Rattle.sequent.specs.declared.Sequent.{Sequent}
use Rattle.sequent.specs.Sequents.{sequent_at}
use Rattle.hol_rules.specs.declared.const_lists.NewConstants.{NewConstants}
use Rattle.hol_rules.specs.declared.definitions.NewConstant.{NewConstant}
use Rattle.hol_rules.specs.declared.made.Made.{Made as OneMade}
use Rattle.hol_rules.specs.declared.made.Made.TheVariants as one
use Rattle.hol_rules.specs.declared.made.Parameters.TheVariants as given
use Rattle.hol_rules.specs.Views.{new_step}

-- the constant of this name that stands for a term
abbrev pub constant_for : Name → Term → Symbol
constant_for name t = Symbol.defined (Definition.constant name t)

-- the same of numbers of a table
abbrev pub defined_constant : Trees → NewConstant → Symbol
defined_constant trees x = constant_for x.name.now (term_at trees x.term.0)

-- the step by its rule, of a sequent of numbers
abbrev pub constant_step : Trees → Name → TermId → Sequent → Step
constant_step trees name t s = new_step trees DefineConst [] (given.Const name t) s

-- the constants that the hypotheses of a sequent define
abbrev pub constants_in : ConstantPairs → ASequent → List Symbol
constants_in pairs s = map Symbol.defined (definitions_in pairs s.hypotheses)

-- the same of numbers of a table, and of what defines a list
abbrev pub constants_at : Trees → List (Name × Variable) → Sequent → List Symbol
constants_at trees pairs s = constants_in (pairs_at trees pairs) (sequent_at trees s)

abbrev pub defined_constants : Trees → NewConstants → List Symbol
defined_constants trees list = constants_at trees list.pairs.now list.premise.now

-- the constants of the pairs, as what was made
abbrev pub named_constants : List (Name × Variable) → List OneMade
named_constants pairs = map (λ p. one.Const p.0) pairs

-- the step by the rule on one premise, of a sequent of numbers
abbrev pub list_step : Trees → List (Name × Variable) → ℕ → Sequent → Step
list_step trees pairs i s = record {
  kind = DefineConstList;
  premises = i ∷ [];
  parameters = rule.Parameters.constants (pairs_at trees pairs);
  sequent = sequent_at trees s;
}
