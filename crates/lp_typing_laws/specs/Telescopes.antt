-- Products and abstractions over several domains, each a type over those before it.
use Rattle.std.specs.Prelude.{ℕ, List, [], ◌∷◌}
use Rattle.lp_spec.specs.Trees.{Tree, SortType}
use Rattle.lp_spec.specs.Modules.{Declaration, products, abstractions}
use Rattle.lp_spec.specs.Lemmas.{theorem}
use Rattle.lp_spec.specs.Typing.{is_type, Typed, of_product, of_abstraction, IsContext, entry, IsTypedAfter}

-- the context under these domains
abbrev pub under : List Tree → List Tree → List Tree
under G [] = G
under G (a ∷ domains) = under (a ∷ G) domains

-- each of the domains is a type under those before it
abbrev pub AreDomains : List Declaration → List Tree → List Tree → Type 0
AreDomains m G [] = Unit {0}
AreDomains m G (a ∷ domains) = Typed m G a SortType × AreDomains m (a ∷ G) domains

module _ (m : List Declaration) where
  -- a product over domains is a type
  pub Typed-products : {G : List Tree} (domains : List Tree) {t : Tree} → AreDomains m G domains → Typed m (under G domains) t SortType
      → Typed m G (products domains t) SortType
  Typed-products [] h ht = ht
  Typed-products (a ∷ domains) h ht = of_product h.0 (Typed-products domains h.1 ht) is_type

  -- an abstraction over domains has the product over them
  pub Typed-abstractions : {G : List Tree} (domains : List Tree) {t A : Tree} → AreDomains m G domains → Typed m (under G domains) A SortType
      → Typed m (under G domains) t A
      → Typed m G (abstractions domains t) (products domains A)
  Typed-abstractions [] h hA ht = ht
  Typed-abstractions (a ∷ domains) h hA ht = of_abstraction (of_product h.0 (Typed-products domains h.1 hA) is_type) is_type
      (Typed-abstractions domains h.1 hA ht)

  -- a context is one under further domains
  pub IsContext-under : {G : List Tree} (domains : List Tree) → IsContext m G → AreDomains m G domains → IsContext m (under G domains)
  IsContext-under [] c h = c
  IsContext-under (a ∷ domains) c h = IsContext-under domains (entry c h.0) h.1

  -- the theorem of a type with a proof of that type, both under domains
  pub IsTypedAfter-theorem : (name : List ℕ) (domains : List Tree) (A t : Tree) → AreDomains m [] domains → Typed m (under [] domains) A SortType
      → Typed m (under [] domains) t A
      → IsTypedAfter m (theorem name domains A t)
  IsTypedAfter-theorem name domains A t h hA ht = record { ty = Typed-products domains h hA; body = Typed-abstractions domains h hA ht }
