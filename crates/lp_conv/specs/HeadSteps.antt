-- Head steps by numbers.
use Rattle.std.specs.Prelude.{◌≡◌, ◌<◌, List, Option, Some, None, length}
use Rattle.std.specs.Option.{IfSome}
use Rattle.lp_spec.specs.Trees.{Tree}
use Rattle.lp_spec.specs.Conversion.{Steps}
use Rattle.lp_term.specs.declared.LpId.{LpId}
use Rattle.lp_term.specs.Tables.{tree_at}
use Rattle.holide_sig.specs.declared.module.Module.{Module}
use Rattle.holide_sig.specs.Modules.{declarations_of}
use Rattle.lp_spec.specs.HeadSteps.{head_step}

-- the number, where there is one, is of the table
abbrev pub IsKnownIf : List Tree → Option LpId → Type 0
IsKnownIf ts None = Unit {0}
IsKnownIf ts (Some id) = id.0 < length ts

-- the tree of the number, where there is one
abbrev pub tree_if : List Tree → Option LpId → Option Tree
tree_if ts None = None
tree_if ts (Some id) = Some (tree_at ts id.0)

-- what was made of the tree is its head step, and nothing where it has none
abbrev pub IsHeadStep : Module → LpId → Module → Option LpId → Type 0
IsHeadStep old id new made = tree_if new.table made ≡ head_step (declarations_of old) (tree_at old.table id.0)

-- a chain of steps goes from the tree to what was made of it
abbrev pub StepsTo : Module → LpId → Module → Option LpId → Type 0
StepsTo old id new made = IfSome made (λ u. Steps (declarations_of old) (tree_at old.table id.0) (tree_at new.table u.0))
