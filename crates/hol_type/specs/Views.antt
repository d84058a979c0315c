-- What the head of a type says of it.
use Rattle.std.specs.Prelude.{ℕ, ◌<◌, List, [], ◌∷◌}
use Rattle.hol_spec.specs.Types.{HolType, variable, operator, types_of}
use Rattle.hol_type.specs.declared.table.TypeId.{TypeId}
use Rattle.hol_type.specs.declared.table.TypeView.{TypeView}
use Rattle.hol_type.specs.declared.table.TypeView.TheVariants as view
use Rattle.hol_type.specs.Tables.{types_at}

-- the type of a head whose arguments have these numbers
abbrev pub tree_of_view : List HolType → TypeView → HolType
tree_of_view trees (view.Var name) = variable name.now
tree_of_view trees (view.Op name args) = operator name.now (types_of (types_at trees args.now))

-- the numbers are below n
abbrev pub AreBelow : ℕ → List TypeId → Type 0
AreBelow n [] = Unit {0}
AreBelow n (id ∷ ids) = (id.0 < n) × AreBelow n ids

-- the arguments have numbers below n
abbrev pub ViewBelow : ℕ → TypeView → Type 0
ViewBelow n (view.Var name) = Unit {0}
ViewBelow n (view.Op name args) = AreBelow n args.now
