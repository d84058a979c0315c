-- What is noted of a table's types and terms.
use Rattle.std.specs.Prelude.{◌≡◌, ℕ, ◌≤◌, List, ◌++◌, length, Option, Some, slice_get}
use Rattle.hol_spec.specs.Names.{Name}
use Rattle.std.specs.List.{flat_map}
use Rattle.hol_spec.specs.Lists.{union}
use Rattle.hol_spec.specs.Sequents.{Sequent, terms_of, type_variables_of, free_variables_of}
use Rattle.hol_spec.specs.Types.{HolType, variable_places}
use Rattle.hol_spec.specs.Terms.{Variable as AVariable, variable_eq, type_variable_places, free_places}
use Rattle.hol_type.specs.Tables.{tree_at, IsDistinct}
use Rattle.hol_term.specs.declared.Variable.{Variable}
use Rattle.hol_term.specs.Subterms.{HaveTypes, variables_of}
use Rattle.sequent.specs.declared.params.Params.{Params}
use Rattle.hol_term.specs.declared.TermId.{TermId}
use Rattle.hol_term.specs.Tables.{Trees, term_at}
use Rattle.hol_variables.specs.declared.lists.ListId.{ListId}
use Rattle.hol_variables.specs.declared.counting.Found.{Found}
use Rattle.hol_variables.specs.declared.Own.{Own}
use Rattle.hol_variables.specs.declared.ParamMemo.{ParamMemo}
use Rattle.hol_variables.specs.Lists.{Tells}
use Rattle.hol_variables.specs.Variables.{AreNames, AreVariables}

-- the first types of the table are noted: the list of each has its variables, where it is kept
pub record AreTypesNoted (types : List HolType) (names : List (List ℕ)) (noted : List (Option ListId)) : Type 0 where
  pub few : length noted ≤ length types
  pub each : (i : ℕ) (list : Option ListId) → slice_get noted i ≡ Some list → Tells (AreNames types (variable_places (tree_at types i))) names list

-- the lists have the variables of the term with this number, where they are kept
pub record IsOwn (trees : Trees) (names variables : List (List ℕ)) (i : ℕ) (own : Own) : Type 0 where
  pub type_variables : Tells (AreNames trees.types (type_variable_places (term_at trees i))) names own.names
  pub free_variables : Tells (AreVariables trees (free_places (term_at trees i))) variables own.variables

-- the first terms of the table are noted
pub record AreTermsNoted (trees : Trees) (names variables : List (List ℕ)) (noted : List Own) : Type 0 where
  pub few : length noted ≤ length trees.terms
  pub each : (i : ℕ) (own : Own) → slice_get noted i ≡ Some own → IsOwn trees names variables i own

-- what the memo notes is right over the table
pub record AreNoted (trees : Trees) (memo : ParamMemo) : Type 0 where
  pub types : AreTypesNoted trees.types memo.names memo.types.items
  pub terms : AreTermsNoted trees memo.names memo.variables memo.terms.items

-- the numbers are those of the variables of the term with this number
pub record AreOfTerm (trees : Trees) (i : ℕ) (names variables : List ℕ) : Type 0 where
  pub type_variables : AreNames trees.types (type_variable_places (term_at trees i)) names
  pub free_variables : AreVariables trees (free_places (term_at trees i)) variables

-- the numbers are those of the variables of a sequent
pub record AreOfSequent (trees : Trees) (s : Sequent) (names variables : List ℕ) : Type 0 where
  pub type_variables : AreNames trees.types (flat_map type_variable_places (terms_of s)) names
  pub free_variables : AreVariables trees (flat_map free_places (terms_of s)) variables

-- these are the parameters of a sequent
pub record AreParams (trees : Trees) (s : Sequent) (params : Params) : Type 0 where
  pub type_vars : params.type_vars ≡ type_variables_of s
  pub free_vars : variables_of trees params.free_vars ≡ free_variables_of s
  pub known : HaveTypes trees params.free_vars
  pub one_each : IsDistinct trees.types

-- some variables were taken
pub record AreTaken (trees : Trees) (old : List Variable) (taken : List AVariable) (new : List Variable) : Type 0 where
  pub known : HaveTypes trees new
  pub variables : variables_of trees new ≡ union variable_eq (variables_of trees old) taken

-- what was found in some terms, with what is new of the term with this number
pub record Gathers (trees : Trees) (id : TermId) (old new : Found) : Type 0 where
  pub names : (places : List Name) → AreNames trees.types places old.names
      → AreNames trees.types (places ++ type_variable_places (term_at trees id.0)) new.names
  pub variables : (places : List AVariable) → AreVariables trees places old.variables
      → AreVariables trees (places ++ free_places (term_at trees id.0)) new.variables
