-- What stands for the parameters of a sequent under its binders, by their numbers.
use Rattle.std.specs.Prelude.{ℕ, ◌-◌, Bool, List, [], ◌∷◌, if◌then◌else◌}
use Rattle.lp_spec.specs.Trees.{Tree, Var}

-- the binders from the outermost of so many on stand for these, each for one
module _ {A : Type 0} (same : A → A → Bool) where
  abbrev pub placed : ℕ → List A → (A → Tree) → A → Tree
  placed depth [] scope = scope
  placed depth (x ∷ xs) scope = placed (depth - 1) xs (λ y. if same y x then Var (depth - 1) else scope y)
