-- The variables of types and terms, by their parts.
use Rattle.std.proofs.Common.{◌≡◌, ℕ, refl, sym, ap, ◌∙◌, List, [], ◌∷◌, ◌++◌, map, Bool, Some}
use Rattle.std.specs.Prelude.{nat_eq}
use Rattle.std.specs.Bool.{Decides}
use Rattle.std.specs.List.{AllByRecursion, flat_map}
use Rattle.std.proofs.lemmas.Bool.Decides.{Decides-eqb, Decides-like, same_from_decides}
use Rattle.std.proofs.Math.Path.{ap₂}
use Rattle.hol_spec.specs.Names.{Name}
use Rattle.hol_spec.specs.NameEquality.{name_eq}
use Rattle.hol_laws.specs.NameEqualityLaws.{name_eq-Decides}
use Rattle.hol_spec.specs.Lists.{union, distinct}
use Rattle.hol_laws.specs.ListLaws.{union-All, union-append, union-distinct, union-map}
use Rattle.hol_spec.specs.Types.{HolType, variable, types_of, variable_places, variable_places_of_all}
use Rattle.hol_spec.specs.Terms.{free, Variable as AVariable, variable_eq, free_places}
use Rattle.hol_laws.specs.TermLaws.{variable_eq-Decides}
use Rattle.hol_type.specs.Tables.{tree_at}
use Rattle.hol_type.specs.Tables as type
use Rattle.hol_type.specs.TableLaws.{Holds-tree_at}
use Rattle.hol_term.specs.Tables.{Trees, term_at, Holds, IsDistinct}
use Rattle.hol_term.specs.TableLaws.{Some-term_in}
use Rattle.hol_variables.specs.NotedLaws.{name_at-is, variable_at-is}
use Rattle.hol_variables.specs.Variables.{name_at, IsNameAt, AreNames, variable_at, IsVariableAt, AreVariables}

module _ {A : Type 0} (f : ℕ → A) (eq : A → A → Bool) (decides : (x y : A) → Decides (eq x y) (x ≡ y)) (P : ℕ → Type 0)
    (agree : (i j : ℕ) → P i → P j → eq (f i) (f j) ≡ nat_eq i j) where
  -- the union of two lists is that of what stands at their places
  map-union : (ps qs : List A) (xs ys : List ℕ) → AllByRecursion P xs → AllByRecursion P ys → map f xs ≡ distinct eq ps → map f ys ≡ distinct eq qs
      → map f (union nat_eq xs ys) ≡ distinct eq (ps ++ qs)
  map-union ps qs xs ys h k e g =
      union-map f nat_eq eq P agree ys xs h k
      ∙ ap₂ (union eq) e g
      ∙ union-distinct eq decides qs (distinct eq ps)
      ∙ sym (union-append eq ps qs [])

module _ (types : List HolType) (d : type.IsDistinct types) where
  -- numbers of type variables are one exactly where the names are
  names_agree : (i j : ℕ) → IsNameAt types i → IsNameAt types j → name_eq (name_at types i) (name_at types j) ≡ nat_eq i j
  names_agree i j h k =
      same_from_decides (name_eq (name_at types i) (name_at types j)) (nat_eq i j) (name_eq-Decides (name_at types i) (name_at types j))
      (Decides-like (nat_eq i j) (λ e. ap (name_at types) e) back (Decides-eqb i j))
    where
      back : name_at types i ≡ name_at types j → i ≡ j
      back e =
          let same : h.name ≡ k.name = sym (name_at-is types i h) ∙ e ∙ name_at-is types j k in
          d.each i j (variable k.name) (h.is ∙ ap (λ n. Some (variable n)) same) k.is

  -- the type variables at the places of two lists
  pub AreNames-union : (ps qs : List Name) (xs ys : List ℕ) → AreNames types ps xs → AreNames types qs ys → AreNames types (ps ++ qs) (union nat_eq xs ys)
  AreNames-union ps qs xs ys h k = record {
    each = union-All (IsNameAt types) nat_eq ys xs h.each k.each;
    are = map-union (name_at types) name_eq name_eq-Decides (IsNameAt types) names_agree ps qs xs ys h.each k.each h.are k.are;
  }

pub AreNames-none : (types : List HolType) → AreNames types [] []
AreNames-none types = record { each = tt; are = refl }

-- a type variable is its one variable
pub AreNames-variable : (types : List HolType) (i : ℕ) (n : Name) → type.Holds types i (variable n)
    → AreNames types (variable_places (tree_at types i)) (i ∷ [])
AreNames-variable types i n e = record {
  each = (record { name = n; is = e }, tt);
  are = ap (λ m. m ∷ []) (name_at-is types i (record { name = n; is = e }))
      ∙ sym (ap (λ t. distinct name_eq (variable_places t)) (Holds-tree_at types i (variable n) e));
}

-- the variables of listed types
pub variable_places-listed : (ts : List HolType) → variable_places_of_all (types_of ts) ≡ flat_map variable_places ts
variable_places-listed [] = refl
variable_places-listed (t ∷ ts) = ap (λ l. variable_places t ++ l) (variable_places-listed ts)

module _ (trees : Trees) (d : IsDistinct trees.terms) where
  -- numbers of free variables are one exactly where the variables are
  pub variables_agree : (i j : ℕ) → IsVariableAt trees i → IsVariableAt trees j → variable_eq (variable_at trees i) (variable_at trees j) ≡ nat_eq i j
  variables_agree i j h k =
      same_from_decides (variable_eq (variable_at trees i) (variable_at trees j)) (nat_eq i j) (variable_eq-Decides (variable_at trees i) (variable_at trees j))
      (Decides-like (nat_eq i j) (λ e. ap (variable_at trees) e) back (Decides-eqb i j))
    where
      back : variable_at trees i ≡ variable_at trees j → i ≡ j
      back e =
          let same = sym (variable_at-is trees i h) ∙ e ∙ variable_at-is trees j k in
          d.each i j (free k.name k.ty) (h.is ∙ ap (λ (v : AVariable). Some (free v.0 v.1)) same) k.is

  -- the free variables at the places of two lists
  pub AreVariables-union : (ps qs : List AVariable) (xs ys : List ℕ) → AreVariables trees ps xs → AreVariables trees qs ys
      → AreVariables trees (ps ++ qs) (union nat_eq xs ys)
  AreVariables-union ps qs xs ys h k = record {
    each = union-All (IsVariableAt trees) nat_eq ys xs h.each k.each;
    are = map-union (variable_at trees) variable_eq variable_eq-Decides (IsVariableAt trees) variables_agree ps qs xs ys h.each k.each h.are k.are;
  }

pub AreVariables-none : (trees : Trees) → AreVariables trees [] []
AreVariables-none trees = record { each = tt; are = refl }

-- a free variable is its one free variable
pub AreVariables-free : (trees : Trees) (i : ℕ) (n : Name) (t : HolType) → Holds trees i (free n t)
    → AreVariables trees (free_places (term_at trees i)) (i ∷ [])
AreVariables-free trees i n t e = record {
  each = (record { name = n; ty = t; is = e }, tt);
  are = ap (λ v. v ∷ []) (variable_at-is trees i (record { name = n; ty = t; is = e }))
      ∙ sym (ap (λ u. distinct variable_eq (free_places u)) (Some-term_in trees.terms i (free n t) e));
}
