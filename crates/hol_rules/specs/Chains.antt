-- Terms that stand in one tree.
use Rattle.std.specs.Prelude.{◌≡◌, ℕ, zero, suc, ◌<◌, List, [], ◌∷◌, length}
use Rattle.hol_spec.specs.Terms.{Term, app}
use Rattle.hol_term.specs.Tables.{Trees, term_at, terms_at, AreKnown}
use Rattle.hol_rules.specs.declared.substitution.Links.{Links}

-- each term applied to what follows, down to the last
abbrev pub chain : List Term → Term → Term
chain [] last = last
chain (t ∷ ts) last = app t (chain ts last)

-- the first terms of a chain, so many, or fewer where it ends
abbrev pub links_of : ℕ → Term → List Term
links_of zero t = []
links_of (suc n) (app t rest) = t ∷ links_of n rest
links_of (suc n) other = []

-- what follows them
abbrev pub rest_of : ℕ → Term → Term
rest_of zero t = t
rest_of (suc n) (app t rest) = rest_of n rest
rest_of (suc n) other = other

-- the numbers are those of the first terms of a chain, so many, and of what follows them
pub record AreLinks (trees : Trees) (count : ℕ) (t : Term) (links : Links) : Type 0 where
  pub known : AreKnown trees links.terms.items
  pub rest_known : links.rest.0 < length trees.terms
  pub are : terms_at trees links.terms.items ≡ links_of count t
  pub rest : term_at trees links.rest.0 ≡ rest_of count t
