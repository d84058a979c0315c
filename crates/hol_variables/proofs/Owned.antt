-- The lists of a term's variables, by its head.
use Rattle.std.proofs.Common.{◌≡◌, ℕ, ◌<◌, sym, ap, ◌∙◌, subst, List, [], ◌∷◌, length, get_or, Option, Some}
use Rattle.std.specs.Prelude.{slice_get}
use Rattle.std.proofs.lemmas.Option.{slice_get-get_or}
use Rattle.hol_spec.specs.Names.{Name}
use Rattle.hol_spec.specs.Types.{HolType, variable_places}
use Rattle.hol_spec.specs.Terms.{Term, free, bound, constant, app, lam, type_variable_places, free_places}
use Rattle.hol_type.specs.declared.table.TypeId.{TypeId}
use Rattle.hol_type.specs.Tables.{tree_at}
use Rattle.hol_type.specs.Tables as type
use Rattle.hol_term.specs.declared.TermId.{TermId}
use Rattle.hol_term.specs.Tables.{Trees, term_at, type_at, Holds, IsDistinct}
use Rattle.hol_term.specs.TableLaws.{Some-term_in}
use Rattle.hol_variables.specs.declared.lists.ListId.{ListId}
use Rattle.hol_variables.specs.declared.Own.{Own}
use Rattle.hol_variables.specs.Lists.{Tells, IsThere, HasUnion}
use Rattle.hol_variables.specs.Noted.{AreTypesNoted, AreTermsNoted, IsOwn}
use Rattle.hol_variables.specs.Variables.{AreNames, AreVariables}
use Rattle.hol_variables.proofs.Unions.{Tells-union, Tells-IsThere}
use Rattle.hol_variables.proofs.Names.{AreNames-none, AreNames-union, AreVariables-none, AreVariables-union, AreVariables-free}

-- what is read at a place of a list is its item there
pub item_at : {X : Type 0} (xs : List X) (i : ℕ) (d x : X) → x ≡ get_or xs i d → i < length xs → slice_get xs i ≡ Some x
item_at xs i d x e lt = slice_get-get_or xs i d lt ∙ ap Some (sym e)

-- what is noted of a type, and of a term, as it is read
pub type_noted : (types : List HolType) (names : List (List ℕ)) (noted : List (Option ListId)) → AreTypesNoted types names noted → (i : ℕ) (d o : Option ListId)
    → o ≡ get_or noted i d → i < length noted → Tells (AreNames types (variable_places (tree_at types i))) names o
type_noted types names noted h i d o e lt = h.each i o (item_at noted i d o e lt)

pub term_noted : (trees : Trees) (names variables : List (List ℕ)) (noted : List Own) → AreTermsNoted trees names variables noted → (i : ℕ) (d own : Own) → own
    ≡ get_or noted i d → i < length noted → IsOwn trees names variables i own
term_noted trees names variables noted h i d own e lt = h.each i own (item_at noted i d own e lt)

pub type_there : (types : List HolType) (names : List (List ℕ)) (i : ℕ) (o : Option ListId) → Tells (AreNames types (variable_places (tree_at types i))) names o
    → IsThere names o
type_there types names i o h = Tells-IsThere (AreNames types (variable_places (tree_at types i))) names o h

pub names_there : (trees : Trees) (names variables : List (List ℕ)) (i : ℕ) (own : Own) → IsOwn trees names variables i own → IsThere names own.names
names_there trees names variables i own h = Tells-IsThere (AreNames trees.types (type_variable_places (term_at trees i))) names own.names h.type_variables

module _ (trees : Trees) (i : ℕ) where
  tells_names : (t : Term) (names : List (List ℕ)) (o : Option ListId) → Holds trees i t → Tells (AreNames trees.types (type_variable_places t)) names o
      → Tells (AreNames trees.types (type_variable_places (term_at trees i))) names o
  tells_names t names o e h = subst (λ u. Tells (AreNames trees.types (type_variable_places u)) names o) (sym (Some-term_in trees.terms i t e)) h

  tells_variables : (t : Term) (variables : List (List ℕ)) (o : Option ListId) → Holds trees i t → Tells (AreVariables trees (free_places t)) variables o
      → Tells (AreVariables trees (free_places (term_at trees i))) variables o
  tells_variables t variables o e h = subst (λ u. Tells (AreVariables trees (free_places u)) variables o) (sym (Some-term_in trees.terms i t e)) h

  nothing_in : (variables : List (List ℕ)) (id : ListId) → slice_get variables id.0 ≡ Some [] → Tells (AreVariables trees []) variables (Some id)
  nothing_in variables id s = record { list = []; is = s; such = AreVariables-none trees }

  no_names_in : (names : List (List ℕ)) (id : ListId) → slice_get names id.0 ≡ Some [] → Tells (AreNames trees.types []) names (Some id)
  no_names_in names id s = record { list = []; is = s; such = AreNames-none trees.types }

  pub own-free : (n : Name) (ty : TypeId) (names variables : List (List ℕ)) (o : Option ListId) (id : ListId) → Holds trees i (free n (type_at trees ty.0))
      → Tells (AreNames trees.types (variable_places (tree_at trees.types ty.0))) names o → slice_get variables id.0 ≡ Some (i ∷ [])
      → IsOwn trees names variables i (record { names = o; variables = Some id })
  own-free n ty names variables o id e h s = record {
    type_variables = tells_names (free n (type_at trees ty.0)) names o e h;
    free_variables = record { list = i ∷ []; is = s; such = AreVariables-free trees i n (type_at trees ty.0) e };
  }

  pub own-constant : (n : Name) (ty : TypeId) (names variables : List (List ℕ)) (o : Option ListId) (id : ListId)
      → Holds trees i (constant n (type_at trees ty.0)) → Tells (AreNames trees.types (variable_places (tree_at trees.types ty.0))) names o
      → slice_get variables id.0 ≡ Some [] → IsOwn trees names variables i (record { names = o; variables = Some id })
  own-constant n ty names variables o id e h s = record {
    type_variables = tells_names (constant n (type_at trees ty.0)) names o e h;
    free_variables = tells_variables (constant n (type_at trees ty.0)) variables (Some id) e (nothing_in variables id s);
  }

  pub own-bound : (k : ℕ) (names variables : List (List ℕ)) (m id : ListId) → Holds trees i (bound k) → slice_get names m.0 ≡ Some [] → slice_get variables id.0
      ≡ Some [] → IsOwn trees names variables i (record { names = Some m; variables = Some id })
  own-bound k names variables m id e r s = record {
    type_variables = tells_names (bound k) names (Some m) e (no_names_in names m r);
    free_variables = tells_variables (bound k) variables (Some id) e (nothing_in variables id s);
  }

  pub own-app : type.IsDistinct trees.types → IsDistinct trees.terms
      → (f x : TermId) (a b : Own) (names more variables others : List (List ℕ)) (n v : Option ListId)
      → Holds trees i (app (term_at trees f.0) (term_at trees x.0)) → IsOwn trees names variables f.0 a → IsOwn trees names variables x.0 b
      → HasUnion names a.names b.names more n → HasUnion variables a.variables b.variables others v
      → IsOwn trees more others i (record { names = n; variables = v })
  own-app d t f x a b names more variables others n v e h k u w = record {
    type_variables =
        tells_names (app (term_at trees f.0) (term_at trees x.0)) more n e
        (Tells-union (AreNames trees.types (type_variable_places (term_at trees f.0))) (AreNames trees.types (type_variable_places (term_at trees x.0)))
        (AreNames trees.types (type_variable_places (app (term_at trees f.0) (term_at trees x.0)))) names more
        (AreNames-union trees.types d (type_variable_places (term_at trees f.0)) (type_variable_places (term_at trees x.0))) a.names b.names n u
        h.type_variables k.type_variables);
    free_variables =
        tells_variables (app (term_at trees f.0) (term_at trees x.0)) others v e
        (Tells-union (AreVariables trees (free_places (term_at trees f.0))) (AreVariables trees (free_places (term_at trees x.0)))
        (AreVariables trees (free_places (app (term_at trees f.0) (term_at trees x.0)))) variables others
        (AreVariables-union trees t (free_places (term_at trees f.0)) (free_places (term_at trees x.0))) a.variables b.variables v w h.free_variables
        k.free_variables);
  }

  pub own-lam : type.IsDistinct trees.types → (ty : TypeId) (body : TermId) (o : Option ListId) (b : Own) (names more variables : List (List ℕ))
      (n : Option ListId) → Holds trees i (lam (type_at trees ty.0) (term_at trees body.0))
      → Tells (AreNames trees.types (variable_places (tree_at trees.types ty.0))) names o → IsOwn trees names variables body.0 b
      → HasUnion names o b.names more n → IsOwn trees more variables i (record { names = n; variables = b.variables })
  own-lam d ty body o b names more variables n e h k u = record {
    type_variables =
        tells_names (lam (type_at trees ty.0) (term_at trees body.0)) more n e
        (Tells-union (AreNames trees.types (variable_places (tree_at trees.types ty.0))) (AreNames trees.types (type_variable_places (term_at trees body.0)))
        (AreNames trees.types (type_variable_places (lam (type_at trees ty.0) (term_at trees body.0)))) names more
        (AreNames-union trees.types d (variable_places (tree_at trees.types ty.0)) (type_variable_places (term_at trees body.0))) o b.names n u h
        k.type_variables);
    free_variables = tells_variables (lam (type_at trees ty.0) (term_at trees body.0)) variables b.variables e k.free_variables;
  }
