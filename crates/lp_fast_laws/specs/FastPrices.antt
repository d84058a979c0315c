-- A check without rechecks costs no more, and has one answer at one price.
use Rattle.std.proofs.Common.{◌≡◌, sym, ◌∙◌, subst, ℕ, ◌*◌, ◌≤◌, arith, Bool, true, false, List, Some}
use Rattle.std.specs.Prelude.{slice_get, take}
use Rattle.std.proofs.lemmas.Option.{same_Some}
use Rattle.lp_spec.specs.Modules.{Declaration}
use Rattle.lp_spec.specs.Weight.{weight, greatest}
use Rattle.lp_spec.specs.Check.{Reply, Found, Ends, declaration_plan}
use Rattle.lp_check_laws.specs.CheckLaws.{one_reply}
use Rattle.lp_check_laws.specs.FastCheck.{fast-passes}
use Rattle.lp_check_laws.specs.PricedModules.{IsPriced, shaped-priced}
use Rattle.lp_check_laws.specs.ShapedPasses.{square-cube}
use Rattle.lp_spec.specs.FastCheck.{FastCheck, CheckBy, fast_bound}
use Rattle.lp_fast_laws.specs.FastStatements.{FastPasses, OneCheck, ShapedFast}

module _ (m : List Declaration) (i : ℕ) where
  -- what a check is made of, with rechecks or without
  pub check-made : (r : Bool) (reply : Reply) (price : ℕ) (d : Declaration) → slice_get m i ≡ Some d → Ends (take i m) r (declaration_plan d) reply price
      → CheckBy r m i reply price
  check-made true reply price d at ends = record { declaration = d; at = at; ends = ends }
  check-made false reply price d at ends = record { declaration = d; at = at; ends = ends }

  -- the declaration of a check
  pub check-at : (r : Bool) (reply : Reply) (price : ℕ) → CheckBy r m i reply price → (d : Declaration) × (slice_get m i ≡ Some d)
  check-at true reply price c = (c.declaration, c.at)
  check-at false reply price c = (c.declaration, c.at)

  -- how the plan of that declaration ends
  pub check-ends : (r : Bool) (reply : Reply) (price : ℕ) (d : Declaration) → slice_get m i ≡ Some d → CheckBy r m i reply price
      → Ends (take i m) r (declaration_plan d) reply price
  check-ends true reply price d at c = subst (λ e. Ends (take i m) true (declaration_plan e) reply price) (same_Some _ _ (sym c.at ∙ at)) c.ends
  check-ends false reply price d at c = subst (λ e. Ends (take i m) false (declaration_plan e) reply price) (same_Some _ _ (sym c.at ∙ at)) c.ends

pub one_check : OneCheck
one_check r m i a b n k c d =
    let e = check-at m i r a n c in
    one_reply (take i m) r (check-ends m i r a n e.0 e.1 c) (check-ends m i r b k e.0 e.1 d)

pub fast_passes : FastPasses
fast_passes m i found price c =
    let f = fast-passes (take i m) c.declaration found price c.ends in
    (f.price, record { declaration = c.declaration; at = c.at; ends = f.ends }, f.within)

-- a declaration that is found its type within a price is found it without rechecks within that price
pub priced-fast : (m : List Declaration) (i : ℕ) (d : Declaration) → IsPriced m i d
    → (price : ℕ) × FastCheck m i (Found d.ty) price × price ≤ 64 * (weight m d * weight m d)
priced-fast m i d p =
    let f = fast_passes m i d.ty p.price p.check in
    (f.0, f.1, omega (arith, f.2, p.within))

pub shaped_fast : ShapedFast
shaped_fast m h i d e = priced-fast m i d (shaped-priced m h i d e)

-- and within the bound, where that isn't cut off
pub fast-within : (m : List Declaration) (d : Declaration) (price : ℕ) → price ≤ 64 * (weight m d * weight m d)
    → 64 * (weight m d * weight m d * weight m d) ≤ greatest → price ≤ fast_bound m d
fast-within m d price h fits = let w = weight m d in omega (arith, h, fits, square-cube w)
