-- A walk that finds the type of a tree under binders.
use Rattle.std.specs.Prelude.{◌≡◌, ℕ, ◌+◌, ◌*◌, List, [], ◌∷◌, Option}
use Rattle.std.specs.Option.{option_map}
use Rattle.hol_spec.specs.Types.{HolType}
use Rattle.hol_spec.specs.Primitives.{function}
use Rattle.hol_spec.specs.Terms.{Term, application_type}
use Rattle.hol_spec.specs.Limits.{term_size}
use Rattle.hol_type.specs.declared.table.TypeId.{TypeId}
use Rattle.hol_type.specs.Tables as type
use Rattle.hol_term.specs.declared.seats.Seat.{Seat}
use Rattle.hol_term.specs.declared.seats.Step.{Step}
use Rattle.hol_term.specs.declared.seats.Step.TheVariants.{Visit, Apply, Abstract}
use Rattle.hol_term.specs.Tables.{Trees, term_in, IsTypeNumber}
use Rattle.hol_term.specs.Typing.{seat_type, IsSeat, AreTypings}

-- the seat's tree has this type under the seat's binders, or none
abbrev pub HasSeatType : Trees → List (List TypeId) → Seat → Option HolType → Type 0
HasSeatType trees lists seat o = IsSeat trees lists seat × (seat_type trees lists seat ≡ o)

-- the numbers are those of these types
abbrev pub AreTypeNumbers : List HolType → List (Option TypeId) → List (Option HolType) → Type 0
AreTypeNumbers types [] [] = Unit {0}
AreTypeNumbers types (id ∷ ids) (o ∷ os) = IsTypeNumber types id o × AreTypeNumbers types ids os
AreTypeNumbers types [] (o ∷ os) = ⊥
AreTypeNumbers types (id ∷ ids) [] = ⊥

-- with these types found last, the steps come to the root's: a step takes up what it is found from, and puts the type of its seat
abbrev pub Ends : Trees → List (List TypeId) → Option HolType → List Step → List (Option HolType) → Type 0
Ends trees lists root [] found = found ≡ root ∷ []
Ends trees lists root (Visit s ∷ rest) found = (o : Option HolType) × HasSeatType trees lists s o × Ends trees lists root rest (o ∷ found)
Ends trees lists root (Apply s ∷ rest) (x ∷ f ∷ found) =
    HasSeatType trees lists s (application_type f x) × Ends trees lists root rest (application_type f x ∷ found)
Ends trees lists root (Apply s ∷ rest) (x ∷ []) = ⊥
Ends trees lists root (Apply s ∷ rest) [] = ⊥
Ends trees lists root (Abstract s ty ∷ rest) (b ∷ found) =
    (t : HolType) × type.Holds trees.types ty.0 t × HasSeatType trees lists s (option_map (function t) b)
    × Ends trees lists root rest (option_map (function t) b ∷ found)
Ends trees lists root (Abstract s ty ∷ rest) [] = ⊥

-- a walk that is to find the root's type
pub record IsInferring (root : Option HolType) (trees : Trees) (lists : List (List TypeId)) (found : List (Seat × Option TypeId)) (steps : List Step)
    (types : List (Option TypeId)) : Type 0 where
  pub typings : AreTypings trees lists found
  pub values : List (Option HolType)
  pub numbers : AreTypeNumbers trees.types types values
  pub ends : Ends trees lists root steps values

-- how many steps it takes at most
abbrev pub count : List Term → List Step → ℕ
count terms [] = 0
count terms (Visit s ∷ rest) = 2 * term_size (term_in terms s.id.0) + count terms rest
count terms (Apply s ∷ rest) = 1 + count terms rest
count terms (Abstract s ty ∷ rest) = 1 + count terms rest
