-- What of a declaration's trees is abbreviated over the declarations before it is abbreviated over the whole module, and the other way round.
use Rattle.std.proofs.Common.{◌≡◌, inl, inr, refl, ap, ◌∙◌, Bool, true, false, List, [], ◌∷◌, ◌++◌, length-append, arith}
use Rattle.std.specs.Prelude.{◌&&◌, ◌||◌, if◌then◌else◌, nat_le}
use Rattle.std.specs.List.{filter}
use Rattle.std.specs.Option.{is_some, unwrap_or}
use Rattle.std.proofs.Math.Path.{ap₂}
use Rattle.lp_spec.specs.Trees.{Tree, tree_eq}
use Rattle.lp_spec.specs.Modules.{Declaration, signature, types}
use Rattle.lp_spec.specs.ModuleOrder.{IsModule}
use Rattle.lp_binding_laws.specs.TreeEquality.{tree_eq-refl}
use Rattle.lp_check_laws.specs.EarlierDeclarations.{IsModule-IsSelfContained}
use Rattle.share_spec.specs.Abbreviations.{abbreviation}
use Rattle.share_spec.specs.Folded.{abbreviated, abbreviations, firsts, is_in, is_shared, parts_in, places}
use Rattle.share_laws.specs.AbbreviationsKept.{abbreviation-kept}
use Rattle.share_laws.specs.WrittenOnceLaws.{declaration-symbols, declared-front, in-either, in-left, in-right}

-- a part of a declaration
pub abbreviation-whole : (before more : List Declaration) (d : Declaration) (t : Tree) → IsModule (before ++ d ∷ more) → is_in t (parts_in d) ≡ true
    → abbreviation (before ++ d ∷ more) t ≡ abbreviation before t
abbreviation-whole before more d t a h =
    let both = declared-front signature before (d ∷ more) a in
    abbreviation-kept before (d ∷ more) (omega (arith, length-append signature before)) (IsModule-IsSelfContained before both.0).types t
    (declaration-symbols (signature ++ before) d t both.1.0 h)

-- lists of trees over which the two are the same
pub shared-same : (m n : List Declaration) (all ts : List Tree) → ((t : Tree) → is_in t ts ≡ true → abbreviation m t ≡ abbreviation n t)
    → abbreviations m (filter (is_shared m all) ts) ≡ abbreviations n (filter (is_shared n all) ts)
shared-same m n all [] h = refl
shared-same m n all (t ∷ ts) h =
    let e : abbreviation m t ≡ abbreviation n t = h t (in-left t (t ∷ []) ts (ap (λ b. b || false) (tree_eq-refl t))) in
    let rest = shared-same m n all ts (λ u i. h u (in-right u (t ∷ []) ts i)) in
    ap (λ o. abbreviations m (if is_some o && nat_le 2 (places t all) then t ∷ filter (is_shared m all) ts else filter (is_shared m all) ts)) e
    ∙ go (is_some (abbreviation n t) && nat_le 2 (places t all)) e rest
  where
    go : (b : Bool) → abbreviation m t ≡ abbreviation n t → abbreviations m (filter (is_shared m all) ts) ≡ abbreviations n (filter (is_shared n all) ts)
        → abbreviations m (if b then t ∷ filter (is_shared m all) ts else filter (is_shared m all) ts)
        ≡ abbreviations n (if b then t ∷ filter (is_shared n all) ts else filter (is_shared n all) ts)
    go true e rest = ap₂ (λ o l. abbreviated t (unwrap_or o types) ∷ l) e rest
    go false e rest = rest

-- what is first met is there
firsts-within : (t : Tree) (met us : List Tree) → is_in t (firsts met us) ≡ true → is_in t us ≡ true
firsts-within t met [] h = h
firsts-within t met (u ∷ us) h = go (is_in u met) (tree_eq t u) h (λ i. firsts-within t met us i) (λ i. firsts-within t (met ++ u ∷ []) us i)
  where
    go : (b c : Bool) → is_in t (if b then firsts met us else u ∷ firsts (met ++ u ∷ []) us) ≡ true → (is_in t (firsts met us) ≡ true → is_in t us ≡ true)
        → (is_in t (firsts (met ++ u ∷ []) us) ≡ true → is_in t us ≡ true)
        → is_in t (u ∷ us) ≡ true
    go true c h p q = in-right t (u ∷ []) us (p h)
    go false c h p q = elim (in-either t (u ∷ []) (firsts (met ++ u ∷ []) us) h) [
      | inl i ↦ in-left t (u ∷ []) us i
      | inr i ↦ in-right t (u ∷ []) us (q i)
    ]

-- What is shared and first met in a declaration
pub shared-whole : (before more : List Declaration) (d : Declaration) (all met : List Tree) → IsModule (before ++ d ∷ more)
    → abbreviations (before ++ d ∷ more) (filter (is_shared (before ++ d ∷ more) all) (firsts met (parts_in d)))
    ≡ abbreviations before (filter (is_shared before all) (firsts met (parts_in d)))
shared-whole before more d all met a = shared-same (before ++ d ∷ more) before all (firsts met (parts_in d))
    (λ t i. abbreviation-whole before more d t a (firsts-within t met (parts_in d) i))
