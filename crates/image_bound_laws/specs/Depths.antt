-- Depths of trees: lifting keeps them, and an application is no deeper than its arguments are many and deep.
use Rattle.std.proofs.Common.{◌≡◌, ℕ, suc, ◌+◌, ◌≤◌, List, [], ◌∷◌, length, refl, arith}
use Rattle.std.specs.Prelude.{max}
use Rattle.std.specs.List.{AllByRecursion}
use Rattle.lp_spec.specs.Trees.{Tree, SortType, SortKind, Var, Sym, App, Lam, Pi, lift_at, lift, depth}
use Rattle.lp_spec.specs.Modules.{applied, products, abstractions}

-- these trees have at most this depth
abbrev pub AreShallowTrees : ℕ → List Tree → Type 0
AreShallowTrees d ts = AllByRecursion (λ t. depth t ≤ d) ts

pub depth-lift_at : (c k : ℕ) (t : Tree) → depth (lift_at c k t) ≡ depth t
depth-lift_at c k SortType = refl
depth-lift_at c k SortKind = refl
depth-lift_at c k (Var n) = refl
depth-lift_at c k (Sym s) = refl
depth-lift_at c k (App f x) = λ i. 1 + max (depth-lift_at c k f i) (depth-lift_at c k x i)
depth-lift_at c k (Lam a b) = λ i. 1 + max (depth-lift_at c k a i) (depth-lift_at (suc c) k b i)
depth-lift_at c k (Pi a b) = λ i. 1 + max (depth-lift_at c k a i) (depth-lift_at (suc c) k b i)

pub depth-lift : (k : ℕ) (t : Tree) → depth (lift k t) ≡ depth t
depth-lift k t = depth-lift_at 0 k t

pub applied-depth : (f : Tree) (xs : List Tree) (d : ℕ) → depth f ≤ d → AreShallowTrees d xs → depth (applied f xs) ≤ length xs + d
applied-depth f [] d h k = omega (arith, h)
applied-depth f (x ∷ xs) d h k =
    let rest = applied-depth (App f x) xs (suc d) (omega (arith, h, k.0)) (more xs d k.1) in
    omega (arith, rest)
  where
    more : (xs : List Tree) (d : ℕ) → AreShallowTrees d xs → AreShallowTrees (suc d) xs
    more [] d h = tt
    more (x ∷ xs) d h = (omega (arith, h.0), more xs d h.1)

pub products-depth : (domains : List Tree) (t : Tree) (d : ℕ) → AreShallowTrees d domains → depth t ≤ d → depth (products domains t) ≤ length domains + d
products-depth [] t d h k = omega (arith, k)
products-depth (a ∷ rest) t d h k = let below = products-depth rest t d h.1 k in omega (arith, below, h.0)

pub abstractions-depth : (domains : List Tree) (t : Tree) (d : ℕ) → AreShallowTrees d domains → depth t ≤ d
    → depth (abstractions domains t) ≤ length domains + d
abstractions-depth [] t d h k = omega (arith, k)
abstractions-depth (a ∷ rest) t d h k = let below = abstractions-depth rest t d h.1 k in omega (arith, below, h.0)
