-- A matching of a general type to an instance, as a stack of pairs that are still to be matched.
use Rattle.std.specs.Prelude.{◌≡◌, ◌⊎◌, ℕ, ◌+◌, ◌<◌, List, [], ◌∷◌, length, Some, Bool, true, false}
use Rattle.std.specs.Map.{lookup}
use Rattle.hol_spec.specs.Names.{Name}
use Rattle.hol_spec.specs.NameEquality.{name_eq}
use Rattle.hol_spec.specs.Types.{HolType, variable, operator, types_of}
use Rattle.hol_spec.specs.Limits.{type_size}
use Rattle.hol_spec.specs.Substitution.{TypePairs, substitute}
use Rattle.hol_type.specs.declared.table.TypeId.{TypeId}
use Rattle.hol_type.specs.Tables.{tree_at, types_at, ArePairsKnown, Holds, IsDistinct}
use Rattle.hol_type.specs.Views.{AreBelow}
use Rattle.hol_type.specs.Walks.{IsNoted}

-- the substitution makes of the first number's type the second's
abbrev pub Meets : TypePairs → List HolType → TypeId → TypeId → Type 0
Meets s trees part image = substitute s (tree_at trees part.0) ≡ tree_at trees image.0

-- the pairs of parts and images, on these
abbrev pub with_pairs : List TypeId → List TypeId → List (TypeId × TypeId) → List (TypeId × TypeId)
with_pairs [] images tasks = tasks
with_pairs (p ∷ parts) [] tasks = tasks
with_pairs (p ∷ parts) (i ∷ images) tasks = with_pairs parts images ((p, i) ∷ tasks)

-- each part and its image are met or a task
abbrev pub ArePaired : List (TypeId × TypeId) → List (TypeId × TypeId) → List TypeId → List TypeId → Type 0
ArePaired tasks met [] [] = Unit {0}
ArePaired tasks met (p ∷ parts) (i ∷ images) = (IsNoted met p i ⊎ IsNoted tasks p i) × ArePaired tasks met parts images
ArePaired tasks met [] (i ∷ images) = ⊥
ArePaired tasks met (p ∷ parts) [] = ⊥

-- a variable for which its image was found
pub record IsFound (trees : List HolType) (found : List (Name × TypeId)) (part image : TypeId) : Type 0 where
  pub name : Name
  pub is : Holds trees part.0 (variable name)
  pub at : lookup (name_eq name) found ≡ Some image

-- an operator whose arguments are paired
pub record IsOpened (trees : List HolType) (tasks met : List (TypeId × TypeId)) (part image : TypeId) : Type 0 where
  pub name : Name
  pub parts : List TypeId
  pub images : List TypeId
  pub is : Holds trees part.0 (operator name (types_of (types_at trees parts)))
  pub becomes : Holds trees image.0 (operator name (types_of (types_at trees images)))
  pub lower : AreBelow part.0 parts
  pub paired : ArePaired tasks met parts images

-- all of a matching
pub record IsMatching (general instance : TypeId) (trees : List HolType) (tasks : List (TypeId × TypeId)) (found : List (Name × TypeId))
    (met : List (TypeId × TypeId)) : Type 0 where
  pub distinct : IsDistinct trees
  pub known : (part image : TypeId) → IsNoted met part image ⊎ IsNoted tasks part image → (part.0 < length trees) × (image.0 < length trees)
  pub found_known : ArePairsKnown trees found
  pub needs : (s : TypePairs) → Meets s trees general instance → (part image : TypeId) → IsNoted met part image ⊎ IsNoted tasks part image
      → Meets s trees part image
  pub closed : (part image : TypeId) → IsNoted met part image → IsFound trees found part image ⊎ IsOpened trees tasks met part image
  pub sources : (name : Name) (image : TypeId) → lookup (name_eq name) found ≡ Some image → (part : TypeId) × Holds trees part.0 (variable name)
      × IsNoted met part image
  pub root : IsNoted met general instance ⊎ IsNoted tasks general instance

-- after a turn the matching goes on, or no substitution makes of the general type the instance
abbrev pub GoesOn : Bool → TypeId → TypeId → List HolType → List (TypeId × TypeId) → List (Name × TypeId) → List (TypeId × TypeId) → Type 0
GoesOn true general instance trees tasks found met = IsMatching general instance trees tasks found met
GoesOn false general instance trees tasks found met = (s : TypePairs) → Meets s trees general instance → ⊥

-- how many turns the tasks take at most
abbrev pub total : List HolType → List (TypeId × TypeId) → ℕ
total trees [] = 0
total trees (task ∷ tasks) = type_size (tree_at trees task.0.0) + total trees tasks
