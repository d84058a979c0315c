-- Pairs of constants and variables, and equations of variables, by the numbers of a table.
use Rattle.std.specs.Prelude.{◌≡◌, ◌<◌, ◌==◌, nat_eq, List, [], ◌∷◌, length, map, Bool, ◌&&◌, ◌++◌, false, is_some, Option, None, Some}
use Rattle.std.specs.List.{AllByRecursion, filter, filter_map, list_all}
use Rattle.std.specs.Map.{lookup}
use Rattle.hol_spec.specs.Defining.{is_closed, has_type_variables_of}
use Rattle.hol_spec.specs.Names.{Name}
use Rattle.hol_spec.specs.NameEquality.{name_eq}
use Rattle.hol_spec.specs.Lists.{is_in}
use Rattle.hol_spec.specs.Repeats.{no_repeats}
use Rattle.hol_spec.specs.Sequents.{Sequent}
use Rattle.hol_spec.specs.Terms.{Term, Variable as AVariable, variable_eq, free_places, HasType}
use Rattle.hol_spec.specs.DefinitionLists.{ConstantPairs, names_of, variables_of as pair_variables, definiens, defining_equations, is_definition_list, variable_equation}
use Rattle.hol_type.specs.declared.table.TypeId.{TypeId}
use Rattle.hol_term.specs.declared.TermId.{TermId}
use Rattle.hol_term.specs.declared.Variable.{Variable}
use Rattle.hol_term.specs.Subterms.{variables_of}
use Rattle.hol_term.specs.Tables.{Trees, term_at, terms_at, type_at, IsTermAt}
use Rattle.common.specs.declared.faults.Kind.{Kind}
use Rattle.common.specs.declared.faults.Kind.TheVariants.{NotClosed, ExtraTypeVars, BadDefinitionList}
use Rattle.hol_defs.specs.declared.lists.Equation.{Equation}
use Rattle.hol_defs.specs.declared.lists.Mark.{Mark}
use Rattle.hol_defs.specs.Faults.{first_failing}
use Rattle.hol_defs.specs.Indexes.{generics_of}
use Rattle.hol_defs.specs.Symbols.{Taken, constant}

-- the variable with this name and type
abbrev pub variable_at : Trees → Variable → AVariable
variable_at trees v = (v.name, type_at trees v.ty.0)

-- whether two variables have one name, and types of one number
abbrev pub same_variable : Variable → Variable → Bool
same_variable v w = name_eq v.name w.name && (v.ty.0 == w.ty.0)

abbrev pub pair_at : Trees → Name × Variable → Name × AVariable
pair_at trees p = (p.0, variable_at trees p.1)

abbrev pub pairs_at : Trees → List (Name × Variable) → ConstantPairs
pairs_at trees pairs = map (pair_at trees) pairs

-- what an equation says of its variable
abbrev pub equation_at : Trees → Equation → AVariable × Term
equation_at trees e = (variable_at trees e.variable, term_at trees e.term.0)

-- what the hypotheses say of these variables
abbrev pub equations_of : Trees → List Variable → List TermId → List (AVariable × Term)
equations_of trees variables hyps = filter (λ e. is_in variable_eq e.0 (variables_of trees variables)) (filter_map variable_equation (terms_at trees hyps))

-- an equation's numbers are of the table, and its term has the variable's type
pub record IsEquationKnown (trees : Trees) (e : Equation) : Type 0 where
  pub ty : e.variable.ty.0 < length trees.types
  pub term : e.term.0 < length trees.terms
  pub typed : HasType (term_at trees e.term.0) (type_at trees e.variable.ty.0)

abbrev pub AreEquationsKnown : Trees → List Equation → Type 0
AreEquationsKnown trees es = AllByRecursion (IsEquationKnown trees) es

-- the pairs' types are of the table
abbrev pub ArePairsKnown : Trees → List (Name × Variable) → Type 0
ArePairsKnown trees [] = Unit {0}
ArePairsKnown trees (p ∷ ps) = (p.1.ty.0 < length trees.types) × ArePairsKnown trees ps

-- the numbers are of terms
abbrev pub AreTerms : Trees → List TermId → Type 0
AreTerms trees [] = Unit {0}
AreTerms trees (id ∷ ids) = IsTermAt trees id.0 × AreTerms trees ids

-- the term that the first equation of a variable has
abbrev pub term_of : List Equation → Variable → Option TermId
term_of equations v = lookup (same_variable v) (map (λ e. (e.variable, e.term)) equations)

-- what is judged of the equations of the pairs' variables: each has one
abbrev pub undefined_fault : List (Name × Variable) → List Equation → Option Kind
undefined_fault pairs equations = first_failing ((list_all (λ p. is_some (term_of equations p.1)) pairs, BadDefinitionList) ∷ [])

-- these are the terms of the pairs' variables
abbrev pub AreFound : List (Name × Variable) → List Equation → List TermId → Type 0
AreFound [] equations [] = Unit {0}
AreFound (p ∷ ps) equations (t ∷ ts) = (term_of equations p.1 ≡ Some t) × AreFound ps equations ts
AreFound (p ∷ ps) equations [] = ⊥
AreFound [] equations (t ∷ ts) = ⊥

-- each variable of the pairs is defined by the term at its place
abbrev pub AreDefined : Trees → ConstantPairs → List Term → List (Name × Variable) → List TermId → Type 0
AreDefined trees all hyps [] [] = Unit {0}
AreDefined trees all hyps (p ∷ ps) (t ∷ ts) =
    ((definiens all hyps (variable_at trees p.1) ≡ Some (term_at trees t.0))
    × ((t.0 < length trees.terms) × HasType (term_at trees t.0) (type_at trees p.1.ty.0))) × AreDefined trees all hyps ps ts
AreDefined trees all hyps (p ∷ ps) [] = ⊥
AreDefined trees all hyps [] (t ∷ ts) = ⊥

-- the constants that are taken
abbrev pub constants_of : List (Name × Variable) → List TermId → List Taken
constants_of [] ts = []
constants_of (p ∷ ps) [] = []
constants_of (p ∷ ps) (t ∷ ts) = constant p.0 t p.1.ty ∷ constants_of ps ts

-- no name has a generic type, nor stands in two pairs
abbrev pub AreNew : List (Name × TypeId) → List (Name × Variable) → Type 0
AreNew generics [] = Unit {0}
AreNew generics (p ∷ ps) = ((lookup (name_eq p.0) generics ≡ None) × (is_in name_eq p.0 (map (λ q. q.0) ps) ≡ false)) × AreNew generics ps

-- before the constants behind the mark were defined
pub record IsMarked (before now : List Taken) (mark : Mark) : Type 0 where
  pub pairs : List (Name × Variable)
  pub terms : List TermId
  pub is : now ≡ before ++ constants_of pairs terms
  pub taken : mark.taken ≡ length before
  pub generics : mark.generics ≡ length (generics_of before)

-- no name and no variable stands in two pairs, there are as many hypotheses as pairs, and the conclusion has no other free variable
abbrev pub is_list : ConstantPairs → Sequent → Bool
is_list pairs one =
    no_repeats name_eq (names_of pairs) && no_repeats variable_eq (pair_variables pairs)
    && nat_eq (length one.hypotheses) (length pairs)
    && list_all (λ v. is_in variable_eq v (pair_variables pairs)) (free_places one.conclusion)

-- the sequent with these hypotheses and this conclusion
abbrev pub sequent_at : Trees → List TermId → TermId → Sequent
sequent_at trees hyps concl = record { hypotheses = terms_at trees hyps; conclusion = term_at trees concl.0 }

-- what is judged of a list before an equation is looked for each pair
abbrev pub equations_fault : ConstantPairs → Sequent → Option Kind
equations_fault pairs one =
    first_failing
    ((list_all (λ e. is_closed e.1) (defining_equations pairs one.hypotheses), NotClosed) ∷
    (list_all (λ e. has_type_variables_of e.0.1 e.1) (defining_equations pairs one.hypotheses), ExtraTypeVars)
    ∷ (is_list pairs one, BadDefinitionList) ∷ [])

-- what is judged of a list, the names aside
abbrev pub definitions_fault : ConstantPairs → Sequent → Option Kind
definitions_fault pairs one =
    first_failing
    ((list_all (λ e. is_closed e.1) (defining_equations pairs one.hypotheses), NotClosed) ∷
    (list_all (λ e. has_type_variables_of e.0.1 e.1) (defining_equations pairs one.hypotheses), ExtraTypeVars)
    ∷ (is_definition_list pairs one, BadDefinitionList) ∷ [])
