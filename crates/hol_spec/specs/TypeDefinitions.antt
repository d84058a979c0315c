-- Definitions of type operators, and the two laws that each gives.
-- Source: HOL Light's kernel, `new_basic_type_definition`; the OpenTheory article file format, versions 5 and 6, `defineTypeOp`.
use Rattle.std.specs.Prelude.{◌≡◌, List, [], ◌∷◌, codes, Bool, ◌&&◌, IsTrue}
use Rattle.std.specs.List.{list_all}
use Rattle.hol_spec.specs.Names.{Name}
use Rattle.hol_spec.specs.NameEquality.{name_eq}
use Rattle.hol_spec.specs.Lists.{is_in}
use Rattle.hol_spec.specs.Types.{HolType}
use Rattle.hol_spec.specs.Primitives.{bool, function}
use Rattle.hol_spec.specs.declared.Version.{Version}
use Rattle.hol_spec.specs.declared.Version.TheVariants.{Five, Six}
use Rattle.hol_spec.specs.Terms.{Term, free, bound, constant, app, lam, HasType, equation, type_variable_places}
use Rattle.hol_spec.specs.Sequents.{Sequent}
use Rattle.hol_spec.specs.Definitions.{TypeNames}
use Rattle.hol_spec.specs.NewTypes.{new_type, abstraction_type, representation_type}
use Rattle.hol_spec.specs.Repeats.{no_repeats}
use Rattle.hol_spec.specs.Defining.{is_closed}

-- Whether these are the type variables of a term, each once.
abbrev pub are_type_variables_of : List Name → Term → Bool
are_type_variables_of names t =
    no_repeats name_eq names && list_all (λ n. is_in name_eq n (type_variable_places t)) names && list_all (λ n. is_in name_eq n names) (type_variable_places t)

-- The premise is |- f t, for t of type c and f closed over the named type variables.
pub record IsTypeDefinition (names : TypeNames) (c : HolType) (f : Term) (one : Sequent) : Type 0 where
  pub witness : Term
  pub no_hypotheses : one.hypotheses ≡ []
  pub holds : one.conclusion ≡ app f witness
  pub typed : HasType witness c
  pub closed : IsTrue (is_closed f)
  pub variables : IsTrue (are_type_variables_of names.variables f)

abbrev pub abstracted : TypeNames → HolType → Term → Term
abstracted names c t = app (constant names.abstraction (abstraction_type names c)) t

abbrev pub represented : TypeNames → HolType → Term → Term
represented names c t = app (constant names.representation (representation_type names c)) t

-- |- (\a. abs (rep a)) = (\a. a)
abbrev pub first_law : TypeNames → HolType → Sequent
first_law names c = record {
  hypotheses = [];
  conclusion = equation (function (new_type names) (new_type names)) (lam (new_type names) (abstracted names c (represented names c (bound 0))))
      (lam (new_type names) (bound 0));
}

-- |- (\r. rep (abs r) = r) = (\r. f r)
abbrev pub second_law : TypeNames → HolType → Term → Sequent
second_law names c f = record {
  hypotheses = [];
  conclusion = equation (function c bool) (lam c (equation c (represented names c (abstracted names c (bound 0))) (bound 0))) (lam c (app f (bound 0)));
}

-- The variables a of the new type and r of the old one, of which the laws speak in version 5.
abbrev pub new_variable : TypeNames → Term
new_variable names = free (codes "a" ∷ []) (new_type names)

abbrev pub old_variable : HolType → Term
old_variable c = free (codes "r" ∷ []) c

-- |- abs (rep a) = a
abbrev pub first_law_free : TypeNames → HolType → Sequent
first_law_free names c = record {
  hypotheses = [];
  conclusion = equation (new_type names) (abstracted names c (represented names c (new_variable names))) (new_variable names);
}

-- |- f r = (rep (abs r) = r)
abbrev pub second_law_free : TypeNames → HolType → Term → Sequent
second_law_free names c f = record {
  hypotheses = [];
  conclusion = equation bool (app f (old_variable c)) (equation c (represented names c (abstracted names c (old_variable c))) (old_variable c));
}

-- The laws in an article of a version.
abbrev pub first_law_of : Version → TypeNames → HolType → Sequent
first_law_of Five names c = first_law_free names c
first_law_of Six names c = first_law names c

abbrev pub second_law_of : Version → TypeNames → HolType → Term → Sequent
second_law_of Five names c f = second_law_free names c f
second_law_of Six names c f = second_law names c f
