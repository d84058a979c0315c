-- The variables of some types or terms, taken one after the other, and what is noted next.
use Rattle.std.proofs.Common.{◌≡◌, ℕ, ◌<◌, refl, sym, ap, ◌∙◌, subst, arith, List, [], ◌∷◌, ◌++◌, length, length-append, Option, Some, ◌⊎◌, ⊎_elim}
use Rattle.std.specs.Prelude.{slice_get, nat_eq}
use Rattle.std.specs.List.{flat_map}
use Rattle.std.proofs.lemmas.Grind.{flat_map-append}
use Rattle.std.proofs.lemmas.List.{append-nil, append_assoc}
use Rattle.hol_spec.specs.Names.{Name}
use Rattle.hol_spec.specs.Lists.{union}
use Rattle.hol_spec.specs.Types.{HolType, operator, types_of, variable_places}
use Rattle.hol_type.specs.declared.table.TypeId.{TypeId}
use Rattle.hol_type.specs.Tables.{tree_at, types_at}
use Rattle.hol_type.specs.Tables as type
use Rattle.hol_type.specs.TableLaws.{Holds-tree_at}
use Rattle.hol_type.specs.Views.{AreBelow}
use Rattle.hol_term.specs.Tables.{Trees}
use Rattle.hol_variables.specs.declared.lists.ListId.{ListId}
use Rattle.hol_variables.specs.declared.Own.{Own}
use Rattle.hol_variables.specs.declared.ParamMemo.{ParamMemo}
use Rattle.hol_variables.specs.Lists.{KeepsLists, Tells, HasUnion}
use Rattle.hol_variables.specs.NotedLaws.{Tells-weaker}
use Rattle.hol_variables.specs.Noted.{AreTypesNoted, AreTermsNoted, AreNoted, IsOwn}
use Rattle.hol_variables.specs.Variables.{AreNames}
use Rattle.hol_variables.proofs.Unions.{Tells-union}
use Rattle.hol_variables.proofs.Names.{AreNames-none, AreNames-union, variable_places-listed}
use Rattle.hol_laws.specs.PlaceLaws.{slice_get-one_more}

-- what is found in one more comes last
pub places-last : {A B : Type 0} (f : A → List B) (xs : List A) (x : A) → flat_map f xs ++ f x ≡ flat_map f (xs ++ x ∷ [])
places-last f xs x = sym (flat_map-append f xs (x ∷ []) ∙ ap (λ l. flat_map f xs ++ l) (append-nil (f x)))

types_at-last : (types : List HolType) (ids : List TypeId) (id : TypeId) → types_at types (ids ++ id ∷ []) ≡ types_at types ids ++ tree_at types id.0 ∷ []
types_at-last types [] id = refl
types_at-last types (i ∷ ids) id = ap (λ l. tree_at types i.0 ∷ l) (types_at-last types ids id)

-- types of which the first are taken
pub record IsGathering (types : List HolType) (noted : List (Option ListId)) (all rest : List TypeId) (lists : List (List ℕ)) (list : Option ListId) : Type 0
  where
    pub done : List TypeId
    pub whole : all ≡ done ++ rest
    pub below : AreBelow (length noted) rest
    pub names : Tells (AreNames types (flat_map variable_places (types_at types done))) lists list

module _ (types : List HolType) (noted : List (Option ListId)) (all : List TypeId) where
  pub gathering_begins : (lists : List (List ℕ)) (id : ListId) → AreBelow (length noted) all → slice_get lists id.0 ≡ Some []
      → IsGathering types noted all all lists (Some id)
  gathering_begins lists id b e = record {
    done = [];
    whole = refl;
    below = b;
    names = record { list = []; is = e; such = AreNames-none types };
  }

  pub gathering_goes_on : type.IsDistinct types → (rest : List TypeId) (arg : TypeId) (old new : List (List ℕ)) (list own next : Option ListId)
      → AreTypesNoted types old noted → slice_get noted arg.0 ≡ Some own → HasUnion old list own new next → IsGathering types noted all (arg ∷ rest) old list
      → IsGathering types noted all rest new next
  gathering_goes_on d rest arg old new list own next n e u h = record {
    done = h.done ++ arg ∷ [];
    whole = h.whole ∙ sym (append_assoc h.done (arg ∷ []) rest);
    below = h.below.1;
    names = Tells-union (AreNames types before) (AreNames types (variable_places (tree_at types arg.0)))
        (AreNames types (flat_map variable_places (types_at types (h.done ++ arg ∷ [])))) old new step list own next u h.names (n.each arg.0 own e);
  }
    where
      before : List Name
      before = flat_map variable_places (types_at types h.done)

      places : before ++ variable_places (tree_at types arg.0) ≡ flat_map variable_places (types_at types (h.done ++ arg ∷ []))
      places = places-last variable_places (types_at types h.done) (tree_at types arg.0) ∙ ap (flat_map variable_places) (sym (types_at-last types h.done arg))

      step : (l m : List ℕ) → AreNames types before l → AreNames types (variable_places (tree_at types arg.0)) m
          → AreNames types (flat_map variable_places (types_at types (h.done ++ arg ∷ []))) (union nat_eq l m)
      step l m p q = subst (λ ps. AreNames types ps (union nat_eq l m)) places (AreNames-union types d before (variable_places (tree_at types arg.0)) l m p q)

  pub gathering_ends : (rest : List TypeId) (lists : List (List ℕ)) (list : Option ListId) → rest ≡ [] → IsGathering types noted all rest lists list
      → Tells (AreNames types (flat_map variable_places (types_at types all))) lists list
  gathering_ends rest lists list e h =
      subst (λ l. Tells (AreNames types (flat_map variable_places (types_at types l))) lists list) (sym (h.whole ∙ ap (λ l. h.done ++ l) e ∙ append-nil h.done))
      h.names

-- the variables of an operator are those of its arguments
pub operator_places : (types : List HolType) (i : ℕ) (n : Name) (args : List TypeId) → type.Holds types i (operator n (types_of (types_at types args)))
    → flat_map variable_places (types_at types args) ≡ variable_places (tree_at types i)
operator_places types i n args e = sym
    (ap variable_places (Holds-tree_at types i (operator n (types_of (types_at types args))) e) ∙ variable_places-listed (types_at types args))

-- what is noted stays so where lists are kept
pub AreTypesNoted-kept : (types : List HolType) (old new : List (List ℕ)) (noted : List (Option ListId)) → KeepsLists old new → AreTypesNoted types old noted
    → AreTypesNoted types new noted
AreTypesNoted-kept types old new noted k h = record {
  few = h.few;
  each = λ i o e. Tells-weaker k (λ l p. p) o (h.each i o e);
}

pub AreTermsNoted-kept : (trees : Trees) (a b c d : List (List ℕ)) (noted : List Own) → KeepsLists a b → KeepsLists c d → AreTermsNoted trees a c noted
    → AreTermsNoted trees b d noted
AreTermsNoted-kept trees a b c d noted k l h = record {
  few = h.few;
  each = λ i own e. let w = h.each i own e in record {
    type_variables = Tells-weaker k (λ l p. p) own.names w.type_variables;
    free_variables = Tells-weaker l (λ l p. p) own.variables w.free_variables;
  };
}

-- one type more is noted
pub AreTypesNoted-pushed : (types : List HolType) (names : List (List ℕ)) (noted new : List (Option ListId)) (list : Option ListId)
    → length noted < length types → new ≡ noted ++ list ∷ [] → AreTypesNoted types names noted
    → Tells (AreNames types (variable_places (tree_at types (length noted)))) names list → AreTypesNoted types names new
AreTypesNoted-pushed types names noted new list lt e h t = subst (AreTypesNoted types names) (sym e) (record {
  few = omega (arith, lt, length-append noted (list ∷ []));
  each = λ i o at. ⊎_elim (λ old. h.each i o old) (λ last. last_one i o last.0 last.1) (slice_get-one_more noted list o i at);
})
  where
    last_one : (i : ℕ) (o : Option ListId) → i ≡ length noted → list ≡ o → Tells (AreNames types (variable_places (tree_at types i))) names o
    last_one i o a b = subst (λ j. Tells (AreNames types (variable_places (tree_at types j))) names o) (sym a)
        (subst (Tells (AreNames types (variable_places (tree_at types (length noted)))) names) b t)

-- one term more is noted
pub AreTermsNoted-pushed : (trees : Trees) (names variables : List (List ℕ)) (noted new : List Own) (own : Own) → length noted < length trees.terms → new
    ≡ noted ++ own ∷ [] → AreTermsNoted trees names variables noted → IsOwn trees names variables (length noted) own → AreTermsNoted trees names variables new
AreTermsNoted-pushed trees names variables noted new own lt e h t = subst (AreTermsNoted trees names variables) (sym e) (record {
  few = omega (arith, lt, length-append noted (own ∷ []));
  each = λ i o at. ⊎_elim (λ old. h.each i o old) (λ last. last_one i o last.0 last.1) (slice_get-one_more noted own o i at);
})
  where
    last_one : (i : ℕ) (o : Own) → i ≡ length noted → own ≡ o → IsOwn trees names variables i o
    last_one i o a b = subst (λ j. IsOwn trees names variables j o) (sym a) (subst (IsOwn trees names variables (length noted)) b t)

-- what a memo notes is right where its lists are kept and nothing more is noted
pub AreNoted-kept : (trees : Trees) (old new : ParamMemo) → AreNoted trees old → KeepsLists old.names new.names → KeepsLists old.variables new.variables
    → new.types.items ≡ old.types.items → new.terms.items ≡ old.terms.items → AreNoted trees new
AreNoted-kept trees old new h k l e f = record {
  types = subst (AreTypesNoted trees.types new.names) (sym e) (AreTypesNoted-kept trees.types old.names new.names old.types.items k h.types);
  terms = subst (AreTermsNoted trees new.names new.variables) (sym f)
      (AreTermsNoted-kept trees old.names new.names old.variables new.variables old.terms.items k l h.terms);
}
