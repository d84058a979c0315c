-- The parameters of a sequent, term by term.
use Rattle.std.proofs.Common.{◌≡◌, ◌<◌, refl, sym, ap, ◌∙◌, List, [], ◌∷◌, ◌++◌, length, Bool, ◌&&◌}
use Rattle.std.specs.Prelude.{map}
use Rattle.std.specs.List.{flat_map, AllByRecursion}
use Rattle.std.proofs.lemmas.Bool.Decides.{Decides-eqb, Decides-like, same_from_decides}
use Rattle.std.proofs.lemmas.Grind.{flat_map-append}
use Rattle.std.proofs.lemmas.List.{append-nil}
use Rattle.hol_spec.specs.NameEquality.{name_eq}
use Rattle.hol_spec.specs.Lists.{union, distinct}
use Rattle.hol_laws.specs.ListLaws.{union-All, union-append, union-map}
use Rattle.hol_spec.specs.Types.{type_eq}
use Rattle.hol_laws.specs.TypeLaws.{type_eq-Decides}
use Rattle.hol_spec.specs.Terms.{Variable as ATreeVariable, variable_eq, free_places, type_variable_places}
use Rattle.hol_type.specs.declared.table.TypeId.{TypeId}
use Rattle.hol_type.specs.Tables as type
use Rattle.hol_type.specs.TableLaws.{tree_at-same}
use Rattle.hol_term.specs.declared.TermId.{TermId}
use Rattle.hol_term.specs.declared.Variable.{Variable}
use Rattle.hol_term.specs.Subterms.{variables_of, HaveTypes}
use Rattle.hol_term.specs.Tables.{Trees, term_at, terms_at, type_at, AreKnown}
use Rattle.sequent.specs.declared.params.Params.{Params}
use Rattle.sequent.specs.Params.{same_variable}

abbrev IsTyped : Trees → Variable → Type 0
IsTyped trees v = v.ty.0 < length trees.types

abbrev pub at : Trees → Variable → ATreeVariable
at trees v = (v.name, type_at trees v.ty.0)

each_typed : (trees : Trees) (vs : List Variable) → HaveTypes trees vs → AllByRecursion (IsTyped trees) vs
each_typed trees [] h = tt
each_typed trees (v ∷ vs) h = (h.0, each_typed trees vs h.1)

all_typed : (trees : Trees) (vs : List Variable) → AllByRecursion (IsTyped trees) vs → HaveTypes trees vs
all_typed trees [] h = tt
all_typed trees (v ∷ vs) h = (h.0, all_typed trees vs h.1)

pub variables_of-map : (trees : Trees) (vs : List Variable) → variables_of trees vs ≡ map (at trees) vs
variables_of-map trees [] = refl
variables_of-map trees (v ∷ vs) = ap (λ l. at trees v ∷ l) (variables_of-map trees vs)

-- the types of united variables are of the table
pub HaveTypes-union : (trees : Trees) (vs ws : List Variable) → HaveTypes trees vs → HaveTypes trees ws → HaveTypes trees (union same_variable vs ws)
HaveTypes-union trees vs ws h k = all_typed trees (union same_variable vs ws)
    (union-All (IsTyped trees) same_variable ws vs (each_typed trees vs h) (each_typed trees ws k))

module _ (trees : Trees) (d : type.IsDistinct trees.types) where
  -- variables are one exactly where they are so as trees
  pub variable_eq-at : (v w : Variable) → IsTyped trees v → IsTyped trees w → variable_eq (at trees v) (at trees w) ≡ same_variable v w
  variable_eq-at v w h k =
      ap (λ b. name_eq v.name w.name && b)
      (same_from_decides (type_eq (type_at trees v.ty.0) (type_at trees w.ty.0)) _ (type_eq-Decides (type_at trees v.ty.0) (type_at trees w.ty.0))
      (Decides-like _ (λ e. ap (type_at trees) e) (λ e. ap (λ (id : TypeId). id.0) (tree_at-same d v.ty w.ty h k e)) (Decides-eqb v.ty.0 w.ty.0)))

  -- united variables as trees are the union of those
  pub variables_of-union : (vs ws : List Variable) → HaveTypes trees vs → HaveTypes trees ws → variables_of trees (union same_variable vs ws)
      ≡ union variable_eq (variables_of trees vs) (variables_of trees ws)
  variables_of-union vs ws h k =
      variables_of-map trees (union same_variable vs ws)
      ∙ union-map (at trees) same_variable variable_eq (IsTyped trees) variable_eq-at ws vs (each_typed trees vs h) (each_typed trees ws k)
      ∙ ap (λ l. union variable_eq l (map (at trees) ws)) (sym (variables_of-map trees vs))
      ∙ ap (union variable_eq (variables_of trees vs)) (sym (variables_of-map trees ws))

-- the parameters of the terms that are left, and those that were found, are what is wanted
pub record IsVisit (trees : Trees) (ids rest : List TermId) (params : Params) : Type 0 where
  pub known : AreKnown trees rest
  pub types : HaveTypes trees params.free_vars
  pub names : union name_eq params.type_vars (flat_map type_variable_places (terms_at trees rest))
      ≡ distinct name_eq (flat_map type_variable_places (terms_at trees ids))
  pub variables : union variable_eq (variables_of trees params.free_vars) (flat_map free_places (terms_at trees rest))
      ≡ distinct variable_eq (flat_map free_places (terms_at trees ids))

pub visit_goes_on : (trees : Trees) (ids rest : List TermId) (id : TermId) (old new : Params) → IsVisit trees ids (id ∷ rest) old → new.type_vars
    ≡ union name_eq old.type_vars (type_variable_places (term_at trees id.0))
    → (HaveTypes trees old.free_vars → variables_of trees new.free_vars
    ≡ union variable_eq (variables_of trees old.free_vars) (free_places (term_at trees id.0))) → (HaveTypes trees old.free_vars → HaveTypes trees new.free_vars)
    → IsVisit trees ids rest new
visit_goes_on trees ids rest id old new h e f t = record {
  known = h.known.1;
  types = t h.types;
  names = ap (λ l. union name_eq l (flat_map type_variable_places (terms_at trees rest))) e
      ∙ sym (union-append name_eq (type_variable_places (term_at trees id.0)) (flat_map type_variable_places (terms_at trees rest)) old.type_vars) ∙ h.names;
  variables = ap (λ l. union variable_eq l (flat_map free_places (terms_at trees rest))) (f h.types)
      ∙ sym (union-append variable_eq (free_places (term_at trees id.0)) (flat_map free_places (terms_at trees rest)) (variables_of trees old.free_vars))
      ∙ h.variables;
}

-- what is found in a term more comes last
distinct-last : {A B : Type 0} (same : A → A → Bool) (f : B → List A) (xs : List B) (y : B) → union same (distinct same (flat_map f xs)) (f y)
    ≡ distinct same (flat_map f (xs ++ y ∷ []))
distinct-last same f xs y =
    ap (union same (distinct same (flat_map f xs))) (sym (append-nil (f y)))
    ∙ sym (ap (distinct same) (flat_map-append f xs (y ∷ [])) ∙ union-append same (flat_map f xs) (f y ++ []) [])

module _ (trees : Trees) (ids rest : List TermId) (last : TermId) (old new : Params) (none : rest ≡ []) (h : IsVisit trees ids rest old) where
  pub names_end : new.type_vars ≡ union name_eq old.type_vars (type_variable_places (term_at trees last.0)) → new.type_vars
      ≡ distinct name_eq (flat_map type_variable_places (terms_at trees ids ++ term_at trees last.0 ∷ []))
  names_end e =
      e
      ∙ ap (λ l. union name_eq l (type_variable_places (term_at trees last.0)))
      (ap (λ l. union name_eq old.type_vars (flat_map type_variable_places (terms_at trees l))) (sym none) ∙ h.names)
      ∙ distinct-last name_eq type_variable_places (terms_at trees ids) (term_at trees last.0)

  pub variables_end : (HaveTypes trees old.free_vars → variables_of trees new.free_vars
      ≡ union variable_eq (variables_of trees old.free_vars) (free_places (term_at trees last.0))) → variables_of trees new.free_vars
      ≡ distinct variable_eq (flat_map free_places (terms_at trees ids ++ term_at trees last.0 ∷ []))
  variables_end e =
      e h.types
      ∙ ap (λ l. union variable_eq l (free_places (term_at trees last.0)))
      (ap (λ l. union variable_eq (variables_of trees old.free_vars) (flat_map free_places (terms_at trees l))) (sym none) ∙ h.variables)
      ∙ distinct-last variable_eq free_places (terms_at trees ids) (term_at trees last.0)
