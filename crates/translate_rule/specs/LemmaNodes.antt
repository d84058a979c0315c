-- Trees that are told by nodes, each with its parts by their places among the nodes.
use Rattle.std.specs.Prelude.{ℕ, ◌+◌, ◌++◌, ◌&&◌, Bool, true, List, [], ◌∷◌, Some}
use Rattle.holide_sig.specs.Nodes.{parts_below}
use Rattle.lp_spec.specs.declared.form.Form.TheVariants.{Thm}
use Rattle.lp_spec.specs.Modules.{Declaration}
use Rattle.lp_spec.specs.Trees.{Tree}
use Rattle.lp_term.specs.declared.LpNode.{LpNode}
use Rattle.lp_term.specs.Tables.{tree_at}

-- the parts of each node come before it, after so many
abbrev pub are_ordered : ℕ → List LpNode → Bool
are_ordered n [] = true
are_ordered n (x ∷ xs) = parts_below n x && are_ordered (n + 1) xs

-- the theorem whose type and body have these places among trees
abbrev pub theorem_at : List Tree → List ℕ → ℕ → ℕ → Declaration
theorem_at trees name ty body = record { name = name; form = Thm; ty = tree_at trees ty; body = Some (tree_at trees body) }

-- declarations, and this theorem
abbrev pub with_theorem : List Declaration → List Tree → List ℕ → ℕ → ℕ → List Declaration
with_theorem ds trees name ty body = ds ++ theorem_at trees name ty body ∷ []
