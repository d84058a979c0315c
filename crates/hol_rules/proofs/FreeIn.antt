-- Whether a variable is free in terms, one after another.
use Rattle.std.proofs.Common.{◌≡◌, sym, ap, ◌∙◌, List, ◌∷◌, true, false, ◌||◌}
use Rattle.std.specs.List.{flat_map}
use Rattle.std.proofs.lemmas.List.Folds.{list_any-append}
use Rattle.hol_spec.specs.Lists.{is_in}
use Rattle.hol_spec.specs.Terms.{Variable as AVariable, variable_eq, free_places}
use Rattle.hol_term.specs.declared.TermId.{TermId}
use Rattle.hol_term.specs.Tables.{Trees, term_at, terms_at, AreKnown}

-- hypotheses that are left to be looked at
pub record AreSearched (trees : Trees) (v : AVariable) (all rest : List TermId) : Type 0 where
  pub known : AreKnown trees rest
  pub searched : is_in variable_eq v (flat_map free_places (terms_at trees rest)) ≡ is_in variable_eq v (flat_map free_places (terms_at trees all))

module _ (trees : Trees) (v : AVariable) (all rest : List TermId) (id : TermId) (h : AreSearched trees v all (id ∷ rest)) where
  split : is_in variable_eq v (flat_map free_places (terms_at trees (id ∷ rest)))
      ≡ (is_in variable_eq v (free_places (term_at trees id.0)) || is_in variable_eq v (flat_map free_places (terms_at trees rest)))
  split = list_any-append (variable_eq v) (free_places (term_at trees id.0)) (flat_map free_places (terms_at trees rest))

  pub searched_on : false ≡ is_in variable_eq v (free_places (term_at trees id.0)) → AreSearched trees v all rest
  searched_on e = record {
    known = h.known.1;
    searched = ap (λ b. b || is_in variable_eq v (flat_map free_places (terms_at trees rest))) e ∙ sym split
        ∙ h.searched;
  }

  pub searched_found : true ≡ is_in variable_eq v (free_places (term_at trees id.0)) → true ≡ is_in variable_eq v (flat_map free_places (terms_at trees all))
  searched_found e = ap (λ b. b || is_in variable_eq v (flat_map free_places (terms_at trees rest))) e ∙ sym split ∙ h.searched
