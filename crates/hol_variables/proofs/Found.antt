-- Whether a variable is among those of a list.
use Rattle.std.proofs.Common.{◌≡◌, ℕ, ◌<◌, refl, sym, ap, ◌∙◌, List, [], ◌∷◌, length, Bool, true, false, ◌||◌}
use Rattle.std.specs.Prelude.{map, nat_eq}
use Rattle.std.specs.List.{AllByRecursion}
use Rattle.std.proofs.lemmas.Bool.Decides.{Decides-eqb, Decides-like, same_from_decides}
use Rattle.hol_spec.specs.Lists.{is_in, distinct}
use Rattle.hol_laws.specs.ListLaws.{is_in-union_second, union-All}
use Rattle.hol_spec.specs.Types.{HolType, type_eq}
use Rattle.hol_laws.specs.TypeLaws.{type_eq-Decides}
use Rattle.hol_spec.specs.Terms.{Variable as AVariable, variable_eq, free_places}
use Rattle.hol_laws.specs.TermLaws.{variable_eq-Decides}
use Rattle.hol_type.specs.declared.table.TypeId.{TypeId}
use Rattle.hol_type.specs.Tables as type
use Rattle.hol_type.specs.Tables.{tree_at}
use Rattle.hol_type.specs.TableLaws.{tree_at-same}
use Rattle.hol_term.specs.Tables.{Trees, term_at}
use Rattle.hol_variables.specs.Variables.{variable_at, IsVariableAt, AreVariables}

-- types are one exactly where their numbers are
pub type_numbers : (types : List HolType) → type.IsDistinct types → (a b : TypeId) → a.0 < length types → b.0 < length types → nat_eq a.0 b.0
    ≡ type_eq (tree_at types a.0) (tree_at types b.0)
type_numbers types d a b h k =
    sym (same_from_decides (type_eq (tree_at types a.0) (tree_at types b.0)) (nat_eq a.0 b.0) (type_eq-Decides (tree_at types a.0) (tree_at types b.0))
    (Decides-like (nat_eq a.0 b.0) (λ e. ap (tree_at types) e) (λ e. ap (λ (id : TypeId). id.0) (tree_at-same d a b h k e)) (Decides-eqb a.0 b.0)))

none_here : (v : AVariable) (xs : List AVariable) → is_in variable_eq v xs ≡ false → AllByRecursion (λ w. variable_eq v w ≡ false) xs
none_here v [] e = tt
none_here v (x ∷ xs) e = go (variable_eq v x) refl e (none_here v xs)
  where
    go : (b : Bool) → variable_eq v x ≡ b → (b || is_in variable_eq v xs) ≡ false
        → (is_in variable_eq v xs ≡ false → AllByRecursion (λ w. variable_eq v w ≡ false) xs) → (variable_eq v x ≡ false)
        × AllByRecursion (λ w. variable_eq v w ≡ false) xs
    go true f g rest = absurd (cc)
    go false f g rest = (f, rest g)

none_of : (v : AVariable) (xs : List AVariable) → AllByRecursion (λ w. variable_eq v w ≡ false) xs → is_in variable_eq v xs ≡ false
none_of v [] h = refl
none_of v (x ∷ xs) h = ap (λ b. b || is_in variable_eq v xs) h.0 ∙ none_of v xs h.1

-- what is in a list is among its elements, each once
pub is_in-distinct : (v : AVariable) (xs : List AVariable) → is_in variable_eq v (distinct variable_eq xs) ≡ is_in variable_eq v xs
is_in-distinct v xs = go (is_in variable_eq v xs) refl
  where
    go : (b : Bool) → is_in variable_eq v xs ≡ b → is_in variable_eq v (distinct variable_eq xs) ≡ is_in variable_eq v xs
    go true e = is_in-union_second variable_eq variable_eq-Decides xs [] v e ∙ sym e
    go false e = none_of v (distinct variable_eq xs) (union-All (λ w. variable_eq v w ≡ false) variable_eq xs [] (tt {0}) (none_here v xs e)) ∙ sym e

-- numbers of variables that are left to be looked at
pub record IsSearching (trees : Trees) (v : AVariable) (all rest : List ℕ) : Type 0 where
  pub each : AllByRecursion (IsVariableAt trees) rest
  pub same : is_in variable_eq v (map (variable_at trees) rest) ≡ is_in variable_eq v (map (variable_at trees) all)

module _ (trees : Trees) (v : AVariable) (all rest : List ℕ) (n : ℕ) (h : IsSearching trees v all (n ∷ rest)) where
  pub searching_goes_on : false ≡ variable_eq v (variable_at trees n) → IsSearching trees v all rest
  searching_goes_on e = record { each = h.each.1; same = ap (λ b. b || is_in variable_eq v (map (variable_at trees) rest)) e ∙ h.same }

  pub searching_finds : true ≡ variable_eq v (variable_at trees n) → true ≡ is_in variable_eq v (map (variable_at trees) all)
  searching_finds e = ap (λ b. b || is_in variable_eq v (map (variable_at trees) rest)) e ∙ h.same

pub searching_ends : (trees : Trees) (v : AVariable) (all rest : List ℕ) → rest ≡ [] → IsSearching trees v all rest → false
    ≡ is_in variable_eq v (map (variable_at trees) all)
searching_ends trees v all rest e h = ap (λ l. is_in variable_eq v (map (variable_at trees) l)) (sym e) ∙ h.same

-- a variable is in a list exactly where it is free in the list's term
pub found_free : (trees : Trees) (v : AVariable) (id : ℕ) (ids : List ℕ) → AreVariables trees (free_places (term_at trees id)) ids
    → is_in variable_eq v (map (variable_at trees) ids) ≡ is_in variable_eq v (free_places (term_at trees id))
found_free trees v id ids h = ap (is_in variable_eq v) h.are ∙ is_in-distinct v (free_places (term_at trees id))
