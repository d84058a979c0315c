-- The body of subst is typed: the premise stands in the scope of the images.
use Rattle.std.proofs.Common.{List, [], ◌∷◌}
use Rattle.std.specs.List.{AllByRecursion, flat_map}
use Rattle.hol_spec.specs.Types.{HolType, HolTypes, variable, operator, none, more, variable_places, variable_places_of_all}
use Rattle.hol_spec.specs.Substitution.{TypePairs, image, substitute, substitute_all}
use Rattle.hol_spec.specs.Terms.{Term, free, bound, constant, app, lam, Variable, HasType, type_variable_places, free_places}
use Rattle.hol_laws.specs.TermTyping.{loose-typed}
use Rattle.hol_spec.specs.TermSubstitution.{TermPairs, term_image, sub, AreFitting}
use Rattle.hol_laws.specs.TermSubstitutionLaws.{type_under-term_image}
use Rattle.lp_spec.specs.Modules.{Declaration}
use Rattle.hol_laws.specs.Members.{All-append}
use Rattle.translate_spec.specs.Scopes.{SymbolMap}
use Rattle.translate_laws.specs.TermScopeLaws.{AreClosed}
use Rattle.translate_laws.specs.ScopeTyping.{TypeOver, TypesOver, TermOver, TypeOver-type_under}

module _ (m : List Declaration) (symbols : SymbolMap) (pairs : TypePairs) (terms : TermPairs) (fitting : AreFitting terms) where
  mutual
    -- where a type with types put is over the symbols, so are the types put
    pub images-over : (t : HolType) → TypeOver m symbols (substitute pairs t) → AllByRecursion (λ n. TypeOver m symbols (image pairs n)) (variable_places t)
    images-over (variable n) h = (h, tt {0})
    images-over (operator n ts) h = all_images-over ts h.1

    all_images-over : (ts : HolTypes) → TypesOver m symbols (substitute_all pairs ts)
        → AllByRecursion (λ n. TypeOver m symbols (image pairs n)) (variable_places_of_all ts)
    all_images-over none h = tt
    all_images-over (more t ts) h = All-append _ (variable_places t) (variable_places_of_all ts) (images-over t h.0) (all_images-over ts h.1)

  pub image_of-type : (v : Variable) → HasType (term_image terms v) v.1
  image_of-type v = type_under-term_image [] terms v fitting

  pub AreFitting-closed : AreClosed terms
  AreFitting-closed v = loose-typed [] (term_image terms v) v.1 (image_of-type v)

  -- where a term with types and terms put is over the symbols, so are the types put and the terms put
  types-over : (t : Term) → TermOver m symbols (sub pairs terms t) → AllByRecursion (λ n. TypeOver m symbols (image pairs n)) (type_variable_places t)
  types-over (free n t) h =
      images-over t (TypeOver-type_under m symbols [] (λ k a e. absurd (cc)) (term_image terms (n, substitute pairs t)) (substitute pairs t) h
      (image_of-type (n, substitute pairs t)))
  types-over (bound k) h = tt
  types-over (constant n t) h = images-over t h.ty
  types-over (app f x) h = All-append _ (type_variable_places f) (type_variable_places x) (types-over f h.0) (types-over x h.1)
  types-over (lam t b) h = All-append _ (variable_places t) (type_variable_places b) (images-over t h.0) (types-over b h.1)

  terms-over : (t : Term) → TermOver m symbols (sub pairs terms t)
      → AllByRecursion (λ v. TermOver m symbols (term_image terms (v.0, substitute pairs v.1))) (free_places t)
  terms-over (free n t) h = (h, tt {0})
  terms-over (bound k) h = tt
  terms-over (constant n t) h = tt
  terms-over (app f x) h = All-append _ (free_places f) (free_places x) (terms-over f h.0) (terms-over x h.1)
  terms-over (lam t b) h = terms-over b h.1

  pub all_types-over : (ts : List Term) → AllByRecursion (λ t. TermOver m symbols (sub pairs terms t)) ts
      → AllByRecursion (λ n. TypeOver m symbols (image pairs n)) (flat_map type_variable_places ts)
  all_types-over [] h = tt
  all_types-over (t ∷ ts) h = All-append _ (type_variable_places t) (flat_map type_variable_places ts) (types-over t h.0) (all_types-over ts h.1)

  pub all_terms-over : (ts : List Term) → AllByRecursion (λ t. TermOver m symbols (sub pairs terms t)) ts
      → AllByRecursion (λ v. TermOver m symbols (term_image terms (v.0, substitute pairs v.1))) (flat_map free_places ts)
  all_terms-over [] h = tt
  all_terms-over (t ∷ ts) h = All-append _ (free_places t) (flat_map free_places ts) (terms-over t h.0) (all_terms-over ts h.1)
