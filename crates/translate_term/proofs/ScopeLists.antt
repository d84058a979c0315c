-- What stands for a variable, looked up by its name, and for a free variable also by the number of its type.
use Rattle.std.proofs.Common.{◌≡◌, ◌<◌, Bool, true, false, cond, refl, sym, ap, ◌∙◌, subst, List, [], ◌∷◌, length, Option, Some, None, ◌&&◌}
use Rattle.std.specs.Bool.{Decides}
use Rattle.std.specs.Prelude.{nat_eq}
use Rattle.std.specs.Cmp.{unsigned_Decides}
use Rattle.std.specs.Option.{option_map, unwrap_or}
use Rattle.std.specs.Map.{lookup}
use Rattle.hol_spec.specs.Names.{Name}
use Rattle.hol_spec.specs.NameEquality.{name_eq}
use Rattle.hol_spec.specs.Types.{HolType, type_eq}
use Rattle.hol_laws.specs.TypeLaws.{type_eq-Decides}
use Rattle.hol_spec.specs.Terms.{variable_eq}
use Rattle.hol_type.specs.declared.table.TypeId.{TypeId}
use Rattle.hol_type.specs.Tables as type
use Rattle.hol_type.specs.TableLaws as type_laws
use Rattle.hol_term.specs.declared.Variable.{Variable}
use Rattle.lp_spec.specs.Trees.{Tree}
use Rattle.lp_spec.specs.Modules.{bools}
use Rattle.lp_term.specs.declared.LpId.{LpId}
use Rattle.lp_term.specs.Tables.{tree_at, Holds}
use Rattle.lp_term.specs.TableLaws.{tree_at-Holds}
use Rattle.translate_laws.specs.ListedScopes.{told_types}
use Rattle.sequent.specs.Params.{same_variable}
use Rattle.translate_term.specs.Told.{types_in, terms_in, AreTypesKnown, AreTermsKnown}

lookup-types_in : (trees : List Tree) (n : Name) (es : List (Name × LpId)) → lookup (name_eq n) (types_in trees es)
    ≡ option_map (λ id. tree_at trees id.0) (lookup (name_eq n) es)
lookup-types_in trees n [] = refl
lookup-types_in trees n (e ∷ es) = go (name_eq n e.0) (lookup-types_in trees n es)
  where
    go : (b : Bool) → lookup (name_eq n) (types_in trees es) ≡ option_map (λ id. tree_at trees id.0) (lookup (name_eq n) es)
        → cond b (Some (tree_at trees e.1.0)) (lookup (name_eq n) (types_in trees es))
        ≡ option_map (λ id. tree_at trees id.0) (cond b (Some e.1) (lookup (name_eq n) es))
    go true h = refl
    go false h = h

found-known : (trees : List Tree) (n : Name) (es : List (Name × LpId)) (id : LpId) → AreTypesKnown trees es → lookup (name_eq n) es ≡ Some id
    → id.0 < length trees
found-known trees n [] id k h = absurd (cc)
found-known trees n (e ∷ es) id k h = go (name_eq n e.0) h (found-known trees n es id k.1)
  where
    some : Option LpId → LpId
    some None = e.1
    some (Some x) = x

    go : (b : Bool) → cond b (Some e.1) (lookup (name_eq n) es) ≡ Some id → (lookup (name_eq n) es ≡ Some id → id.0 < length trees) → id.0 < length trees
    go true q on = subst (λ i. i.0 < length trees) (ap some q) k.0
    go false q on = on q

-- a type variable that is told
pub told-found : (trees : List Tree) (es : List (Name × LpId)) (n : Name) (id : LpId) → AreTypesKnown trees es → lookup (name_eq n) es ≡ Some id
    → Holds trees id.0 (told_types (types_in trees es) n)
told-found trees es n id k h =
    tree_at-Holds trees id.0 (found-known trees n es id k h)
    ∙ sym (ap (λ o. Some (unwrap_or o bools)) (lookup-types_in trees n es ∙ ap (option_map (λ i. tree_at trees i.0)) h))

-- and one that isn't
pub told-absent : (trees : List Tree) (es : List (Name × LpId)) (n : Name) → lookup (name_eq n) es ≡ None → told_types (types_in trees es) n ≡ bools
told-absent trees es n h = ap (λ o. unwrap_or o bools) (lookup-types_in trees n es ∙ ap (option_map (λ i. tree_at trees i.0)) h)

-- free variables have one name and one type where they have one name and one number of a type
module _ (types : List HolType) (distinct : type.IsDistinct types) (trees : List Tree) (n : Name) (ty : TypeId) (known : ty.0 < length types) where
  same-type : (u : TypeId) → u.0 < length types → type_eq (type.tree_at types ty.0) (type.tree_at types u.0) ≡ nat_eq ty.0 u.0
  same-type u k = go (type_eq (type.tree_at types ty.0) (type.tree_at types u.0)) (nat_eq ty.0 u.0)
      (type_eq-Decides (type.tree_at types ty.0) (type.tree_at types u.0)) (unsigned_Decides ty.0 u.0)
    where
      go : (a b : Bool) → Decides a (type.tree_at types ty.0 ≡ type.tree_at types u.0) → Decides b (ty.0 ≡ u.0) → a ≡ b
      go true true d e = refl
      go false false d e = refl
      go true false d e = absurd (let yes = e.1 (ap (λ i. i.0) (type_laws.tree_at-same distinct ty u known k (d.0 refl))) in cc)
      go false true d e = absurd (let yes = d.1 (ap (type.tree_at types) (e.0 refl)) in cc)

  abbrev wanted : Variable
  wanted = record { name = n; ty = ty }

  lookup-terms_in : (es : List (Variable × LpId)) → AreTermsKnown types trees es → lookup (variable_eq (n, type.tree_at types ty.0)) (terms_in types trees es)
      ≡ option_map (λ id. tree_at trees id.0) (lookup (same_variable wanted) es)
  lookup-terms_in [] k = refl
  lookup-terms_in (e ∷ es) k =
      ap (λ b. cond (name_eq n e.0.name && b) (Some (tree_at trees e.1.0)) (lookup (variable_eq (n, type.tree_at types ty.0)) (terms_in types trees es)))
      (same-type e.0.ty k.0)
      ∙ go (name_eq n e.0.name && nat_eq ty.0 e.0.ty.0) (lookup-terms_in es k.2)
    where
      go : (b : Bool) → lookup (variable_eq (n, type.tree_at types ty.0)) (terms_in types trees es)
          ≡ option_map (λ id. tree_at trees id.0) (lookup (same_variable wanted) es)
          → cond b (Some (tree_at trees e.1.0)) (lookup (variable_eq (n, type.tree_at types ty.0)) (terms_in types trees es))
          ≡ option_map (λ id. tree_at trees id.0) (cond b (Some e.1) (lookup (same_variable wanted) es))
      go true h = refl
      go false h = h

  term-known : (es : List (Variable × LpId)) (id : LpId) → AreTermsKnown types trees es → lookup (same_variable wanted) es ≡ Some id → id.0 < length trees
  term-known [] id k h = absurd (cc)
  term-known (e ∷ es) id k h = go (same_variable wanted e.0) h (term-known es id k.2)
    where
      some : Option LpId → LpId
      some None = e.1
      some (Some x) = x

      go : (b : Bool) → cond b (Some e.1) (lookup (same_variable wanted) es) ≡ Some id → (lookup (same_variable wanted) es ≡ Some id → id.0 < length trees)
          → id.0 < length trees
      go true q on = subst (λ i. i.0 < length trees) (ap some q) k.1
      go false q on = on q

  -- a free variable that is told
  pub term-found : (es : List (Variable × LpId)) (id : LpId) (other : Tree) → AreTermsKnown types trees es → lookup (same_variable wanted) es ≡ Some id
      → Holds trees id.0 (unwrap_or (lookup (variable_eq (n, type.tree_at types ty.0)) (terms_in types trees es)) other)
  term-found es id other k h =
      tree_at-Holds trees id.0 (term-known es id k h)
      ∙ sym (ap (λ o. Some (unwrap_or o other)) (lookup-terms_in es k ∙ ap (option_map (λ i. tree_at trees i.0)) h))

  -- and one that isn't
  pub term-absent : (es : List (Variable × LpId)) (other : Tree) → AreTermsKnown types trees es → lookup (same_variable wanted) es ≡ None
      → unwrap_or (lookup (variable_eq (n, type.tree_at types ty.0)) (terms_in types trees es)) other ≡ other
  term-absent es other k h = ap (λ o. unwrap_or o other) (lookup-terms_in es k ∙ ap (option_map (λ i. tree_at trees i.0)) h)
