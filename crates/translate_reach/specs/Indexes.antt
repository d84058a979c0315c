-- Which item gives a constant or an operator.
use Rattle.std.specs.Prelude.{◌≡◌, ℕ, ◌==◌, ◌<◌, List, length, Bool, false, Option, None, Some, ◌&&◌}
use Rattle.std.specs.Map.{lookup}
use Rattle.hol_spec.specs.Lists.{IsIn}
use Rattle.hol_spec.specs.Names.{Name}
use Rattle.hol_spec.specs.NameEquality.{name_eq}
use Rattle.translate_spec.specs.Items.{Item}
use Rattle.translate_spec.specs.Reach.{Key, operator_key, constant_key, number_key, gives, key_eq}
use Rattle.translate_reach.specs.declared.index.Index.{Index}

-- whether two operators are one, with one number of arguments
abbrev pub same_operator : Name × ℕ → Name × ℕ → Bool
same_operator f g = name_eq f.0 g.0 && (f.1 == g.1)

-- the item that is found for a key; steps are not in the index
abbrev pub found : Index → Key → Option ℕ
found index (operator_key n k) = lookup (same_operator (n, k)) index.operators.entries
found index (constant_key n) = lookup (name_eq n) index.constants.entries
found index (number_key i) = None

-- whether this is the number
abbrev pub is_at : ℕ → Option ℕ → Bool
is_at i None = false
is_at i (Some j) = i == j

-- the key of an operator or of a constant
abbrev pub IsNamedKey : Key → Type 0
IsNamedKey (operator_key n k) = Unit {0}
IsNamedKey (constant_key n) = Unit {0}
IsNamedKey (number_key i) = ⊥

-- items have numbers below their count, and what is found is the one item that gives the key
pub record IsIndex (items : List Item) (index : Index) : Type 0 where
  pub below : (x : Item) → IsIn items x → x.symbol < length items
  pub each : (x : Item) → IsIn items x → (q : Key) → IsNamedKey q → key_eq (gives x) q ≡ is_at x.symbol (found index q)
  pub within : (q : Key) (i : ℕ) → found index q ≡ Some i → i < length items
