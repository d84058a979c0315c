-- What is found by the order of names and of operators is what is found by comparing them.
use Rattle.std.proofs.Common.{◌≡◌, ℕ, Bool, true, false, refl, sym, ap, ◌∙◌}
use Rattle.std.specs.Prelude.{◌==◌, ◌&&◌, Option}
use Rattle.std.specs.BTreeMap.{BTreeMap, get}
use Rattle.std.specs.Cmp.{unsigned_ties}
use Rattle.std.specs.Cmp.Lexicographic.{lists_ties, slice_cmp, texts_ties}
use Rattle.std.specs.Map.{lookup}
use Rattle.std.specs.Ordering.{is_eq, nat_cmp, ordering_then}
use Rattle.std.specs.declared.cmp.Ordering.{Ordering}
use Rattle.std.specs.declared.cmp.Ordering.TheVariants.{Less, Equal, Greater}
use Rattle.hol_spec.specs.Names.{Name}
use Rattle.hol_spec.specs.NameEquality.{name_eq}
use Rattle.translate_reach.specs.Indexes.{same_operator}

-- the order of names
abbrev pub name_cmp : Name → Name → Ordering
name_cmp = slice_cmp (slice_cmp nat_cmp)

-- operators are ordered by their names, and then by how many arguments they take
abbrev pub operator_cmp : Name × ℕ → Name × ℕ → Ordering
operator_cmp f g = ordering_then (name_cmp f.0 g.0) (nat_cmp f.1 g.1)

-- names are equal in their order where they are the same
pub is_eq-name_cmp : (m n : Name) → is_eq (name_cmp m n) ≡ name_eq m n
is_eq-name_cmp m n = sym (lists_ties (slice_cmp nat_cmp) texts_ties m n)

is_eq-nat_cmp : (i j : ℕ) → is_eq (nat_cmp i j) ≡ (i == j)
is_eq-nat_cmp i j = sym (unsigned_ties i j)

is_eq-then : (one two : Ordering) → is_eq (ordering_then one two) ≡ (is_eq one && is_eq two)
is_eq-then Less two = refl
is_eq-then Equal two = refl
is_eq-then Greater two = refl

pub is_eq-operator_cmp : (f g : Name × ℕ) → is_eq (operator_cmp f g) ≡ same_operator f g
is_eq-operator_cmp f g = is_eq-then (name_cmp f.0 g.0) (nat_cmp f.1 g.1) ∙ (λ i. is_eq-name_cmp f.0 g.0 i && is_eq-nat_cmp f.1 g.1 i)

-- what a tree has at a name
pub get-name : (n : Name) (m : BTreeMap Name ℕ) → get name_cmp m n ≡ lookup (name_eq n) m.entries
get-name n m = λ i. lookup (λ k. is_eq-name_cmp n k i) m.entries

-- what a tree has at an operator
pub get-operator : (f : Name × ℕ) (m : BTreeMap (Name × ℕ) ℕ) → get operator_cmp m f ≡ lookup (same_operator f) m.entries
get-operator f m = λ i. lookup (λ k. is_eq-operator_cmp f k i) m.entries
