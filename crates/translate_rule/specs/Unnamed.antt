-- What the declaration of a step has beside its name.
use Rattle.std.specs.Prelude.{ℕ, ◌<◌, List, length, option_map}
use Rattle.lp_spec.specs.Trees.{Tree}
use Rattle.lp_spec.specs.Modules.{Declaration}
use Rattle.lp_term.specs.Tables.{tree_at}
use Rattle.holide_sig.specs.Modules.{IsBodyKnown}
use Rattle.translate_rule.specs.declared.declaration.Unnamed.{Unnamed}

-- the declaration of this name, over these trees
abbrev pub named_in : List Tree → List ℕ → Unnamed → Declaration
named_in trees name x = record { name = name; form = x.form; ty = tree_at trees x.ty.0; body = option_map (λ id. tree_at trees id.0) x.body }

-- its numbers are of the table
pub record IsUnnamedKnown (trees : List Tree) (x : Unnamed) : Type 0 where
  pub ty : x.ty.0 < length trees
  pub body : IsBodyKnown trees x.body
