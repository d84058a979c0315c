-- The check of the module of what roots reach: each declaration is found its type, at a price of at most 64 times the square of its weight.
use Rattle.std.proofs.Common.{◌≡◌, ℕ, ◌*◌, List, [], true, Some, sym, subst, ◌∙◌, arith}
use Rattle.std.specs.Prelude.{slice_get, take}
use Rattle.lp_spec.specs.Modules.{Declaration}
use Rattle.lp_spec.specs.Weight.{weight}
use Rattle.lp_spec.specs.Check.{Found, Ends, declaration_plan}
use Rattle.lp_check_laws.specs.FastCheck.{FindsFast, fast-passes}
use Rattle.lp_check_laws.specs.PricedModules.{IsPriced, shaped-priced}
use Rattle.translate_spec.specs.Reach.{Key, reached}
use Rattle.translate_spec.specs.Items.{Item}
use Rattle.translate_laws.specs.WantedItems.{AreMadeInOrder}
use Rattle.translate_laws.specs.ItemShapes.{reached-shaped}
use Rattle.std.proofs.lemmas.Option.{same_Some}

-- the module of what the roots reach of what was made is checked within the price
pub reached-priced : (roots : List Key) (made : List Item) → AreMadeInOrder [] made → (i : ℕ) (d : Declaration) → slice_get (reached roots made) i ≡ Some d
    → IsPriced (reached roots made) i d
reached-priced roots made h = shaped-priced (reached roots made) (reached-shaped roots made h)

-- a checker without rechecks finds it at no greater price
pub reached-fast : (roots : List Key) (made : List Item) → AreMadeInOrder [] made → (i : ℕ) (d : Declaration) → slice_get (reached roots made) i ≡ Some d
    → FindsFast (take i (reached roots made)) (declaration_plan d) d.ty (64 * (weight (reached roots made) d * weight (reached roots made) d))
reached-fast roots made h i d e =
    let m = reached roots made in
    let p = reached-priced roots made h i d e in
    let is : p.check.declaration ≡ d = same_Some _ _ (sym p.check.at ∙ e) in
    let f = fast-passes (take i m) d d.ty p.price (subst (λ b. Ends (take i m) true (declaration_plan b) (Found d.ty) p.price) is p.check.ends) in
    record { price = f.price; ends = f.ends; within = omega (arith, f.within, p.within) }
