-- What the pairs give for a variable, from the first pair to the last.
use Rattle.std.proofs.Common.{◌≡◌, refl, sym, ap, ◌∙◌, List, [], ◌∷◌, Some, true, false}
use Rattle.hol_spec.specs.Names.{Name}
use Rattle.hol_spec.specs.NameEquality.{name_eq}
use Rattle.hol_spec.specs.Types.{HolType, variable}
use Rattle.hol_spec.specs.Substitution.{image}
use Rattle.hol_type.specs.declared.table.TypeId.{TypeId}
use Rattle.hol_type.specs.Tables.{tree_at, pairs_at, ArePairsKnown, Holds}
use Rattle.hol_type.specs.TableLaws.{tree_at-Holds}

-- in every table the rest of the pairs gives for the variable what all of them give
abbrev pub Skips : List (Name × TypeId) → List (Name × TypeId) → Name → Type 0
Skips pairs rest n = (trees : List HolType) → ArePairsKnown trees pairs → ArePairsKnown trees rest
    × (image (pairs_at trees rest) n ≡ image (pairs_at trees pairs) n)

pub skips_none : (pairs : List (Name × TypeId)) (n : Name) → Skips pairs pairs n
skips_none pairs n trees h = (h, refl)

pub skips_other : (pairs rest : List (Name × TypeId)) (p : Name × TypeId) (n : Name) → name_eq n p.0 ≡ false → Skips pairs (p ∷ rest) n → Skips pairs rest n
skips_other pairs rest p n e s trees h =
    let w = s trees h in
    let other : image (pairs_at trees (p ∷ rest)) n ≡ image (pairs_at trees rest) n = rw e refl in
    (w.0.1, sym other ∙ w.1)

-- what is to hold of the number that stands for a variable
abbrev pub Replaces : List (Name × TypeId) → TypeId → Name → TypeId → Type 0
Replaces pairs id n r = (trees : List HolType) → ArePairsKnown trees pairs → Holds trees id.0 (variable n) → Holds trees r.0 (image (pairs_at trees pairs) n)

pub replaces_by : (pairs rest : List (Name × TypeId)) (p : Name × TypeId) (id : TypeId) (n : Name) → name_eq n p.0 ≡ true → Skips pairs (p ∷ rest) n
    → Replaces pairs id n p.1
replaces_by pairs rest p id n e s trees h v =
    let w = s trees h in
    let this : image (pairs_at trees (p ∷ rest)) n ≡ tree_at trees p.1.0 = rw e refl in
    tree_at-Holds trees p.1.0 w.0.0 ∙ ap Some (sym this ∙ w.1)

pub replaces_itself : (pairs : List (Name × TypeId)) (id : TypeId) (n : Name) → Skips pairs [] n → Replaces pairs id n id
replaces_itself pairs id n s trees h v = v ∙ ap Some (s trees h).1
