-- Lists that are read as sets, in the order of first occurrence. The test `same` says when two elements are one.
use Rattle.std.specs.Prelude.{◌≡◌, ◌⊎◌, List, [], ◌∷◌, ◌++◌, Bool, not, if◌then◌else◌}
use Rattle.std.specs.List.{filter, list_any}

-- Whether an element is in a list.
abbrev pub is_in : {A : Type 0} → (A → A → Bool) → A → List A → Bool
is_in same x xs = list_any (same x) xs

-- An element is in a list.
abbrev pub IsIn : {A : Type 0} → List A → A → Type 0
IsIn [] x = ⊥
IsIn (y ∷ ys) x = (x ≡ y) ⊎ IsIn ys x

-- The union: the first list, followed by what is new of the second.
abbrev pub union : {A : Type 0} → (A → A → Bool) → List A → List A → List A
union same xs [] = xs
union same xs (y ∷ ys) = union same (if is_in same y xs then xs else xs ++ y ∷ []) ys

-- The elements, each where it occurs first.
abbrev pub distinct : {A : Type 0} → (A → A → Bool) → List A → List A
distinct same xs = union same [] xs

-- The list without an element; the rest keeps its order.
abbrev pub without : {A : Type 0} → (A → A → Bool) → List A → A → List A
without same xs x = filter (λ y. not (same x y)) xs
