-- The parameters of a sequent, taken one after another.
use Rattle.std.proofs.Common.{◌≡◌, ℕ, ◌<◌, refl, sym, ap, ◌∙◌, List, [], ◌∷◌, map, length, subst, ◌&&◌}
use Rattle.std.specs.List.{AllByRecursion, flat_map}
use Rattle.hol_spec.specs.Lists.{union, distinct}
use Rattle.hol_spec.specs.NameEquality.{name_eq}
use Rattle.hol_spec.specs.Names.{Name}
use Rattle.hol_spec.specs.Sequents.{Sequent, terms_of}
use Rattle.hol_spec.specs.Terms.{Variable as AVariable, variable_eq, free_places, type_variable_places}
use Rattle.hol_spec.specs.Types.{HolType}
use Rattle.hol_laws.specs.ListLaws.{union-All, union-distinct, union-map}
use Rattle.hol_laws.specs.NameEqualityLaws.{name_eq-Decides}
use Rattle.hol_laws.specs.TermLaws.{variable_eq-Decides}
use Rattle.hol_type.specs.Tables as type
use Rattle.hol_term.specs.declared.Variable.{Variable}
use Rattle.hol_term.specs.Subterms.{HaveTypes, variables_of}
use Rattle.hol_term.specs.Tables.{Trees}
use Rattle.sequent.specs.Params.{same_variable}
use Rattle.sequent.specs.declared.params.Params.{Params}
use Rattle.hol_variables.specs.Noted.{AreOfSequent, AreParams, AreTaken}
use Rattle.hol_variables.specs.Variables.{name_at, IsNameAt, variable_at, variable_view, IsVariableAt}
use Rattle.hol_variables.proofs.Found.{type_numbers}

-- numbers of names of which some are left to be taken
pub record AreNaming (types : List HolType) (first found : List Name) (all rest : List ℕ) : Type 0 where
  pub each : AllByRecursion (IsNameAt types) rest
  pub names : union name_eq found (map (name_at types) rest) ≡ union name_eq first (map (name_at types) all)

pub naming_goes_on : (types : List HolType) (first old new : List Name) (all rest : List ℕ) (n : ℕ) → new ≡ union name_eq old (name_at types n ∷ [])
    → AreNaming types first old all (n ∷ rest) → AreNaming types first new all rest
naming_goes_on types first old new all rest n e h = record {
  each = h.each.1;
  names = ap (λ l. union name_eq l (map (name_at types) rest)) e ∙ h.names;
}

-- numbers of variables of which some are left to be taken
pub record AreTaking (trees : Trees) (first found : List Variable) (all rest : List ℕ) : Type 0 where
  pub each : AllByRecursion (IsVariableAt trees) rest
  pub known : HaveTypes trees found
  pub variables : union variable_eq (variables_of trees found) (map (variable_at trees) rest)
      ≡ union variable_eq (variables_of trees first) (map (variable_at trees) all)

pub taking_goes_on : (trees : Trees) (first old new : List Variable) (all rest : List ℕ) (n : ℕ) → AreTaken trees old (variable_at trees n ∷ []) new
    → AreTaking trees first old all (n ∷ rest) → AreTaking trees first new all rest
taking_goes_on trees first old new all rest n t h = record {
  each = h.each.1;
  known = t.known;
  variables = ap (λ l. union variable_eq l (map (variable_at trees) rest)) t.variables ∙ h.variables;
}

abbrev IsTyped : Trees → Variable → Type 0
IsTyped trees v = v.ty.0 < length trees.types

each_typed : (trees : Trees) (vs : List Variable) → HaveTypes trees vs → AllByRecursion (IsTyped trees) vs
each_typed trees [] h = tt
each_typed trees (v ∷ vs) h = (h.0, each_typed trees vs h.1)

all_typed : (trees : Trees) (vs : List Variable) → AllByRecursion (IsTyped trees) vs → HaveTypes trees vs
all_typed trees [] h = tt
all_typed trees (v ∷ vs) h = (h.0, all_typed trees vs h.1)

variables_of-map : (trees : Trees) (vs : List Variable) → variables_of trees vs ≡ map (variable_view trees) vs
variables_of-map trees [] = refl
variables_of-map trees (v ∷ vs) = ap (λ l. variable_view trees v ∷ l) (variables_of-map trees vs)

-- one variable more, by name and number, is one more as a tree
pub AreTaken-add : (trees : Trees) → type.IsDistinct trees.types → (old new : List Variable) (v : Variable) (w : AVariable) → HaveTypes trees old
    → v.ty.0 < length trees.types → variable_view trees v ≡ w → new ≡ union same_variable old (v ∷ []) → AreTaken trees old (w ∷ []) new
AreTaken-add trees d old new v w h lt is e = record {
  known = subst (HaveTypes trees) (sym e) (all_typed trees (union same_variable old (v ∷ []))
      (union-All (IsTyped trees) same_variable (v ∷ []) old (each_typed trees old h) (lt, tt)));
  variables = ap (variables_of trees) e
      ∙ variables_of-map trees (union same_variable old (v ∷ []))
      ∙ union-map (variable_view trees) same_variable variable_eq (IsTyped trees) agree (v ∷ []) old (each_typed trees old h) (lt, tt)
      ∙ ap (λ l. union variable_eq l (variable_view trees v ∷ [])) (sym (variables_of-map trees old))
      ∙ ap (λ u. union variable_eq (variables_of trees old) (u ∷ [])) is;
}
  where
    agree : (a b : Variable) → IsTyped trees a → IsTyped trees b → variable_eq (variable_view trees a) (variable_view trees b) ≡ same_variable a b
    agree a b k l = ap (λ t. name_eq a.name b.name && t) (sym (type_numbers trees.types d a.ty b.ty k l))

-- what lists of numbers name are the sequent's parameters
pub AreParams-taken : (trees : Trees) (s : Sequent) (names variables : List ℕ) (old new : Params) → type.IsDistinct trees.types
    → AreOfSequent trees s names variables → old.type_vars ≡ [] → old.free_vars ≡ []
    → new.type_vars ≡ union name_eq old.type_vars (map (name_at trees.types) names)
    → AreTaken trees old.free_vars (map (variable_at trees) variables) new.free_vars → AreParams trees s new
AreParams-taken trees s names variables old new d h none no_variables n t = record {
  type_vars = n ∙ ap (λ l. union name_eq l (map (name_at trees.types) names)) none ∙ ap (distinct name_eq) h.type_variables.are
      ∙ union-distinct name_eq name_eq-Decides (flat_map type_variable_places (terms_of s)) [];
  free_vars = t.variables ∙ ap (λ l. union variable_eq (variables_of trees l) (map (variable_at trees) variables)) no_variables
      ∙ ap (distinct variable_eq) h.free_variables.are ∙ union-distinct variable_eq variable_eq-Decides (flat_map free_places (terms_of s)) [];
  known = t.known;
  one_each = d;
}
