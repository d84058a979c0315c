-- Lists of constants that the hypotheses of a theorem define, each by an equation of a variable.
-- Source: the OpenTheory article file format, version 6, `defineConstList`.
use Rattle.std.specs.Prelude.{List, Bool, ◌&&◌, map, length, nat_eq, is_some, Option, None, Some}
use Rattle.std.specs.Option.{option_map}
use Rattle.std.specs.List.{filter, filter_map, list_all}
use Rattle.std.specs.Map.{lookup}
use Rattle.hol_spec.specs.Names.{Name}
use Rattle.hol_spec.specs.NameEquality.{name_eq}
use Rattle.hol_spec.specs.Lists.{is_in}
use Rattle.hol_spec.specs.Terms.{Term, free, constant, Variable, variable_eq, free_places}
use Rattle.hol_spec.specs.TermSubstitution.{TermPairs}
use Rattle.hol_spec.specs.Sequents.{Sequent}
use Rattle.hol_spec.specs.Definitions.{Definition}
use Rattle.hol_spec.specs.Equations.{Equation, equation_parts}
use Rattle.hol_spec.specs.Repeats.{no_repeats}

-- Pairs of the name of a constant and the variable for which it is put.
abbrev pub ConstantPairs : Type 0
ConstantPairs = List (Name × Variable)

abbrev pub names_of : ConstantPairs → List Name
names_of pairs = map (λ p. p.0) pairs

abbrev pub variables_of : ConstantPairs → List Variable
variables_of pairs = map (λ p. p.1) pairs

-- The variable and the term of an equation v = t.
abbrev pub variable_side : Term → Term → Option (Variable × Term)
variable_side (free n a) t = Some ((n, a), t)
variable_side u t = None

abbrev pub of_equation : Option Equation → Option (Variable × Term)
of_equation None = None
of_equation (Some e) = variable_side e.left e.right

abbrev pub variable_equation : Term → Option (Variable × Term)
variable_equation h = of_equation (equation_parts h)

-- What the hypotheses of the form v = t say of the variables of the pairs.
abbrev pub defining_equations : ConstantPairs → List Term → TermPairs
defining_equations pairs hypotheses = filter (λ e. is_in variable_eq e.0 (variables_of pairs)) (filter_map variable_equation hypotheses)

-- The term that defines a variable.
abbrev pub definiens : ConstantPairs → List Term → Variable → Option Term
definiens pairs hypotheses v = lookup (variable_eq v) (defining_equations pairs hypotheses)

-- Whether the hypotheses define each variable, no two pairs share a name or a variable, there are as many hypotheses, and the conclusion has no other free variable.
abbrev pub is_definition_list : ConstantPairs → Sequent → Bool
is_definition_list pairs one =
    no_repeats name_eq (names_of pairs) && no_repeats variable_eq (variables_of pairs)
    && nat_eq (length one.hypotheses) (length pairs)
    && list_all (λ v. is_some (definiens pairs one.hypotheses v)) (variables_of pairs)
    && list_all (λ v. is_in variable_eq v (variables_of pairs)) (free_places one.conclusion)

-- The definitions of the constants.
abbrev pub definitions_in : ConstantPairs → List Term → List Definition
definitions_in pairs hypotheses = filter_map (λ p. option_map (Definition.constant p.0) (definiens pairs hypotheses p.1)) pairs

-- The constants, put for their variables.
abbrev pub constants_put : ConstantPairs → TermPairs
constants_put pairs = map (λ p. (p.1, constant p.0 p.1.1)) pairs
