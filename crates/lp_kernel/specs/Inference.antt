-- What is found of a tree: the answer of the directed rules within a budget, and what it means.
use Rattle.std.specs.Prelude.{ℕ, ◌<◌, ◌-◌, Bool, true, List, length, take}
use Rattle.lp_spec.specs.Trees.{Tree}
use Rattle.lp_spec.specs.Modules.{Declaration}
use Rattle.lp_spec.specs.ModuleOrder.{IsModule}
use Rattle.lp_spec.specs.Typing.{Typed, IsContext, WellTyped}
use Rattle.lp_term.specs.declared.LpId.{LpId}
use Rattle.lp_term.specs.Tables.{tree_at, trees_at}
use Rattle.holide_sig.specs.declared.module.Module.{Module}
use Rattle.holide_sig.specs.Modules.{declarations_of}
use Rattle.lp_check_laws.specs.EarlierDeclarations.{IsTreeOver, IsContextOver}
use Rattle.lp_spec.specs.Check.{Infer, Found, No, Plan, reach, alone}
use Rattle.lp_conv.specs.Answers.{Answered, IsOver}
use Rattle.lp_kernel.specs.declared.inference.Inferred.{Inferred}
use Rattle.lp_kernel.specs.declared.inference.Inferred.TheVariants as inferred

-- the type of a tree in a context
abbrev pub typing : List Tree → Tree → Plan
typing G t = alone (Infer G t)

-- the plan ends as the answer says, with rechecks of sorts or without, whose number is of this table, where the budget fell from old to new
abbrev pub IsFound : Bool → List Declaration → List Tree → Plan → ℕ → ℕ → Inferred → Type 0
IsFound rechecks ds ts p old new (inferred.Found id) = Answered ds rechecks p (Found (tree_at ts id.0)) (old - new)
IsFound rechecks ds ts p old new inferred.No = Answered ds rechecks p No (old - new)
IsFound rechecks ds ts p old new inferred.Over = IsOver ds rechecks p old

-- the answer to the question for a tree's type is that of the directed rules
abbrev pub IsInferred : Bool → Module → List LpId → LpId → List Tree → ℕ → ℕ → Inferred → Type 0
IsInferred rechecks m c id ts old new r = IsFound rechecks (declarations_of m) ts (typing (trees_at m.table c) (tree_at m.table id.0)) old new r

-- the answer to the question for the product that head steps reach is that of the directed rules
abbrev pub IsProduct : Module → LpId → Module → ℕ → ℕ → Inferred → Type 0
IsProduct from id m old new r = IsFound true (declarations_of m) m.table (reach (declarations_of m) (tree_at from.table id.0)) old new r

-- the number that was found is of the table
abbrev pub IsKnownType : List Tree → Inferred → Type 0
IsKnownType ts (inferred.Found id) = id.0 < length ts
IsKnownType ts inferred.No = Unit {0}
IsKnownType ts inferred.Over = Unit {0}

-- the declarations are well typed, the tree and the context are over them, and the entries of the context are types
pub record IsContextOf (ds : List Declaration) (G : List Tree) (t : Tree) : Type 0 where
  pub well_typed : WellTyped ds
  pub types : IsContext ds G
  pub types_over : IsContextOver ds G
  pub tree_over : IsTreeOver ds t

-- what was found is the type of the tree, over any first declarations of a module that it and its context do not reach past
abbrev pub IsTypeOf : Module → List LpId → LpId → List Tree → Inferred → Type 0
IsTypeOf m c id ts (inferred.Found r) =
    let G = trees_at m.table c in
    let t = tree_at m.table id.0 in
    IsModule (declarations_of m) → (count : ℕ) → IsContextOf (take count (declarations_of m)) G t → Typed (take count (declarations_of m)) G t (tree_at ts r.0)
IsTypeOf m c id ts inferred.No = Unit {0}
IsTypeOf m c id ts inferred.Over = Unit {0}
