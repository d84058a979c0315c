-- The domains of a sequent's binders, each made outside the binders of its kind.
use Rattle.std.specs.Prelude.{ℕ, suc, List, [], ◌∷◌}
use Rattle.lp_spec.specs.Trees.{Tree, App, Sym, lift}

-- what a symbol gives at the tree of each, which is lifted over the binders of those before it, so many of which stand outside
abbrev pub lifted_domains : {A : Type 0} → ℕ → (A → Tree) → ℕ → List A → List Tree
lifted_domains symbol tree outside [] = []
lifted_domains symbol tree outside (x ∷ xs) = App (Sym symbol) (lift outside (tree x)) ∷ lifted_domains symbol tree (suc outside) xs
