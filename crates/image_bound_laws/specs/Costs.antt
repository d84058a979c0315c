-- Costs of trees: their size with the spread of every symbol in them; and how far a symbol spreads whose type is a product.
use Rattle.std.proofs.Common.{◌≡◌, ℕ, zero, suc, ◌+◌, ◌≤◌, List, [], ◌∷◌, ◌++◌, length, Some, refl, ap, subst, arith}
use Rattle.std.specs.Prelude.{replicate}
use Rattle.std.specs.Option.{option_map_or}
use Rattle.lp_spec.specs.Trees.{Tree, SortType, Var, Sym, App, lift, size}
use Rattle.lp_spec.specs.Substitution.{sub, cons}
use Rattle.lp_spec.specs.Modules.{Declaration, applied, products, abstractions, types, bools, symbol_type}
use Rattle.lp_spec.specs.Weight.{spread_after, spread, spreads}
use Rattle.translate_laws.specs.SimultaneousArguments.{after, after-append}
use Rattle.translate_laws.specs.PuttingLaws.{put_all-after}
use Rattle.image_bound_laws.specs.Sums.{sums}

-- the sizes of domains, each with the arguments before it put in
abbrev pub domain_sizes : (ℕ → Tree) → List Tree → List Tree → ℕ
domain_sizes s (d ∷ ds) (u ∷ us) = size (sub s d) + domain_sizes (cons u s) ds us
domain_sizes s _ _ = 0

-- a product spreads as its domains and what it ends in, whatever arguments follow
last-spread : (before args : List Tree) (f x : Tree) → spread_after before args (App f x) ≡ size (sub (after Var before) (App f x))
last-spread before [] f x = ap size (put_all-after before (App f x))
last-spread before (u ∷ us) f x = ap size (put_all-after before (App f x))

spread_after-products : (before us args ds : List Tree) (f x : Tree) → length us ≡ length ds
    → spread_after before (us ++ args) (products ds (App f x)) ≡ domain_sizes (after Var before) ds us + size (sub (after (after Var before) us) (App f x))
spread_after-products before [] args [] f x e = let l = last-spread before args f x in omega (arith, l)
spread_after-products before [] args (d ∷ ds) f x e = absurd (omega (arith, e))
spread_after-products before (u ∷ us) args [] f x e = absurd (omega (arith, e))
spread_after-products before (u ∷ us) args (d ∷ ds) f x e =
    let rest = spread_after-products (before ++ u ∷ []) us args ds f x (omega (arith, e)) in
    let next : after Var (before ++ u ∷ []) ≡ cons u (after Var before) = after-append Var before (u ∷ []) in
    let moved = subst (λ s. spread_after (before ++ u ∷ []) (us ++ args) (products ds (App f x)) ≡ domain_sizes s ds us + size (sub (after s us) (App f x)))
    next rest in
    let first = ap size (put_all-after before d) in
    omega (arith, moved, first)

pub spread-products : (us args ds : List Tree) (f x : Tree) → length us ≡ length ds
    → spread (us ++ args) (products ds (App f x)) ≡ domain_sizes Var ds us + size (sub (after Var us) (App f x))
spread-products us args ds f x e = spread_after-products [] us args ds f x e

-- an operator's type spreads as its arguments are many
type-spread : (before args : List Tree) → spread_after before args types ≡ 1
type-spread before [] = refl
type-spread before (u ∷ us) = refl

pub operator-spread : (before us args : List Tree) (k : ℕ) → length us ≡ k → spread_after before (us ++ args) (products (replicate k types) types) ≡ k + 1
operator-spread before [] args zero e = type-spread before args
operator-spread before [] args (suc k) e = absurd (omega (arith, e))
operator-spread before (u ∷ us) args zero e = absurd (omega (arith, e))
operator-spread before (u ∷ us) args (suc k) e = let h = operator-spread (before ++ u ∷ []) us args k (omega (arith, e)) in omega (arith, h)

-- a tree of one node that stands in a scope
pub data Plain : Tree → Type 0 where
  variable : {n : ℕ} → Plain (Var n)
  truth : Plain bools
  nothing : Plain types

pub plain-size : (t : Tree) → Plain t → size t ≡ 1
plain-size (Var n) variable = refl
plain-size t truth = refl
plain-size t nothing = refl

pub plain-lift : (t : Tree) → Plain t → Plain (lift 1 t)
plain-lift (Var n) variable = variable
plain-lift t truth = truth
plain-lift t nothing = nothing

pub size-applied : (f : Tree) (xs : List Tree) → size (applied f xs) ≡ size f + sums (λ x. 1 + size x) xs
size-applied f [] = omega arith
size-applied f (x ∷ xs) = let h = size-applied (App f x) xs in omega (arith, h)

module _ (m : List Declaration) where
  -- the size of a tree with the spread of every symbol in it, where it stands at these arguments
  abbrev pub cost : List Tree → Tree → ℕ
  cost args t = size t + spreads m args t

  abbrev pub total : List Tree → ℕ
  total [] = 0
  total (x ∷ xs) = 1 + cost [] x + total xs

  pub cost-applied : (f : Tree) (xs args : List Tree) → cost args (applied f xs) ≡ cost (xs ++ args) f + total xs
  cost-applied f [] args = omega arith
  cost-applied f (x ∷ xs) args = let h = cost-applied (App f x) xs args in omega (arith, h)

  pub total-append : (xs ys : List Tree) → total (xs ++ ys) ≡ total xs + total ys
  total-append [] ys = omega arith
  total-append (x ∷ xs) ys = let h = total-append xs ys in omega (arith, h)

  pub cost-products : (ds : List Tree) (t : Tree) → cost [] (products ds t) ≡ total ds + cost [] t
  cost-products [] t = omega arith
  cost-products (d ∷ ds) t = let h = cost-products ds t in omega (arith, h)

  pub cost-abstractions : (ds : List Tree) (t : Tree) → cost [] (abstractions ds t) ≡ total ds + cost [] t
  cost-abstractions [] t = omega arith
  cost-abstractions (d ∷ ds) t = let h = cost-abstractions ds t in omega (arith, h)

  lone-sort : (args : List Tree) → spread args SortType ≡ 1
  lone-sort [] = refl
  lone-sort (u ∷ us) = refl

  pub plain-cost : (args : List Tree) (t : Tree) → Plain t → cost args t ≤ 2
  plain-cost args (Var n) variable = omega arith
  plain-cost args t truth = let l = type-spread [] args in omega (arith, l)
  plain-cost args t nothing = let l = lone-sort args in omega (arith, l)

  -- a symbol of this type
  pub symbol-cost : (s : ℕ) (args : List Tree) (A : Tree) → symbol_type m s ≡ Some A → cost args (Sym s) ≡ 1 + spread args A
  symbol-cost s args A e = ap (λ o. 1 + option_map_or (spread args) o 0) e
