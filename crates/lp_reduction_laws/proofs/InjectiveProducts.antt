-- Convertible products go to one product, whose parts their parts go to.
use Rattle.std.proofs.Common.{◌≡◌, refl, sym, ap, ◌∙◌, subst, List}
use Rattle.lp_spec.specs.Trees.{Tree, SortType, Pi}
use Rattle.lp_spec.specs.Modules.{Declaration}
use Rattle.lp_spec.specs.Conversion.{pi_domain, pi_body, Steps, done, next, Conv}
use Rattle.lp_typing_laws.specs.ConversionLaws.{IsClosed, Conv-trans, Conv-sym, Steps-Conv}
use Rattle.lp_spec.specs.CalculusLaws.{InjectiveProducts}
use Rattle.lp_typing_laws.specs.WellTypedLaws.{WellTyped-IsClosed}
use Rattle.lp_reduction_laws.proofs.Confluence.{Conv-meet}

-- what a product goes to
record FromPi (m : List Declaration) (a b u : Tree) : Type 0 where
  pub domain : Tree
  pub body : Tree
  pub is : Pi domain body ≡ u
  pub domain_by : Steps m a domain
  pub body_by : Steps m b body

-- a product goes to a product
Steps-Pi : {m : List Declaration} {a b u : Tree} → Steps m (Pi a b) u → FromPi m a b u
Steps-Pi done = record { domain = _; body = _; is = refl; domain_by = done; body_by = done }
Steps-Pi (next (pi_domain h) r) = let g = Steps-Pi r in record
    { domain = g.domain; body = g.body; is = g.is; domain_by = next h g.domain_by; body_by = g.body_by }
Steps-Pi (next (pi_body h) r) = let g = Steps-Pi r in record
    { domain = g.domain; body = g.body; is = g.is; domain_by = g.domain_by; body_by = next h g.body_by }

-- the domain of a product
abbrev domain_of : Tree → Tree
domain_of (Pi a b) = a
domain_of _ = SortType

-- the body of a product
abbrev codomain_of : Tree → Tree
codomain_of (Pi a b) = b
codomain_of _ = SortType

-- over a closed module, convertible products have convertible parts
pub Conv-Pi : (m : List Declaration) → IsClosed m → {a b c d : Tree} → Conv m (Pi a b) (Pi c d) → Conv m a c × Conv m b d
Conv-Pi m closed h =
    let j = Conv-meet m closed h in
    let l = Steps-Pi j.1 in
    let r = Steps-Pi j.2 in
    let e = l.is ∙ sym r.is in (
      Conv-trans (subst (Conv m _) (ap domain_of e) (Steps-Conv l.domain_by)) (Conv-sym (Steps-Conv r.domain_by)),
      Conv-trans (subst (Conv m _) (ap codomain_of e) (Steps-Conv l.body_by)) (Conv-sym (Steps-Conv r.body_by)),
    )

-- the law of products holds
pub products : InjectiveProducts
products m typed a b c d h = Conv-Pi m (WellTyped-IsClosed m typed) h
