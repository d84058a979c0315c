-- What a walk over the nodes of a type or a term answers.
use Rattle.std.specs.Prelude.{◌≡◌, ℕ, suc, Bool, true, ◌&&◌, ◌≤◌, ◌/◌, ◌%◌, List, [], ◌∷◌, Option, None, Some}
use Rattle.hol_spec.specs.Names.{Name}
use Rattle.hol_spec.specs.NameEquality.{name_eq}
use Rattle.hol_spec.specs.Types.{types_of}
use Rattle.hol_spec.specs.Limits.{greatest_size, greatest_depth, type_size, type_depth}
use Rattle.hol_spec.specs.ClosedForm.{ClosedType, ClosedTypes}
use Rattle.hol_type.specs.declared.table.TypeId.{TypeId}
use Rattle.hol_type.specs.Tables.{types_at}
use Rattle.hol_type.specs.Tables as type
use Rattle.hol_term.specs.Tables.{Trees}
use Rattle.translate_spec.specs.TypeEnc.{place}
use Rattle.translate_spec.specs.TypeEnc as enc
use Rattle.decode_spec.specs.Opened.{open_type, open_types}
use Rattle.decode_spec.specs.Decode.{Constant, constant_with}
use Rattle.decode_back.specs.declared.places.Place.{Place}
use Rattle.decode_back.specs.declared.constants.Constant.{Constant as ConstantFound}

-- the greatest number of a parameter that has a name
abbrev pub greatest_number : ℕ
greatest_number = 1048576

-- the name of a parameter: one component of three bytes, the last of which takes what is left
abbrev pub parameter_name : ℕ → Name
parameter_name i = (i % 256 ∷ i / 256 % 256 ∷ i / 65536 ∷ []) ∷ []

-- names are those of the parameters from a number on
abbrev pub numbered_from : ℕ → List Name → Bool
numbered_from i [] = true
numbered_from i (n ∷ ns) = name_eq n (parameter_name i) && numbered_from (suc i) ns

-- the place that a place of the code is
abbrev pub at_place : Place → enc.Place
at_place p = place p.type_variables p.free_variables p.hypotheses p.binders

-- there is no type of at most the greatest size and this depth
abbrev pub NoTypeWithin : ℕ → Option ClosedType → Type 0
NoTypeWithin level o =
    (t : ClosedType) → o ≡ Some t → type_size (open_type parameter_name t) ≤ greatest_size → type_depth (open_type parameter_name t) ≤ level → ⊥

-- the type is in the table, or there is none of at most the greatest size and this depth
abbrev pub IsTypeFound : ℕ → Option ClosedType → Trees → Option TypeId → Type 0
IsTypeFound level o trees None = NoTypeWithin level o
IsTypeFound level o trees (Some id) = (t : ClosedType) × (o ≡ Some t) × type.Holds trees.types id.0 (open_type parameter_name t)

-- the numbers of arguments are those of these types
abbrev pub AreArguments : Trees → List TypeId → ClosedTypes → Type 0
AreArguments trees args acc = types_of (types_at trees.types args) ≡ open_types parameter_name acc

-- the constant is this one, with its generic type in the table
abbrev pub IsConstant : Option Constant → Trees → ConstantFound → Type 0
IsConstant o trees found =
    (t : ClosedType) × (o ≡ Some (constant_with found.name found.variables t)) × type.Holds trees.types found.generic.0 (open_type parameter_name t)

-- the constant is found, or there is none whose generic type has at most this size and the greatest depth
abbrev pub IsConstantFound : ℕ → Option Constant → Trees → Option ConstantFound → Type 0
IsConstantFound limit o trees None =
    (c : Constant) → o ≡ Some c → type_size (open_type parameter_name c.generic) ≤ limit
    → type_depth (open_type parameter_name c.generic) ≤ greatest_depth → ⊥
IsConstantFound limit o trees (Some found) = IsConstant o trees found

-- the number of variables and the generic type are found, or there is no generic type of at most this size and the greatest depth
abbrev pub IsGenericFound : ℕ → Option (ℕ × ClosedType) → Trees → Option (ℕ × TypeId) → Type 0
IsGenericFound limit o trees None =
    (k : ℕ) (t : ClosedType) → o ≡ Some (k, t) → type_size (open_type parameter_name t) ≤ limit
    → type_depth (open_type parameter_name t) ≤ greatest_depth → ⊥
IsGenericFound limit o trees (Some found) = (t : ClosedType) × (o ≡ Some (found.0, t)) × type.Holds trees.types found.1.0 (open_type parameter_name t)
