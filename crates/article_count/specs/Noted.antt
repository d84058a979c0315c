-- The places that are noted, with their numbers.
use Rattle.std.specs.Prelude.{◌≡◌, ℕ, Option, Some}
use Rattle.std.specs.BTreeMap.{get}
use Rattle.std.specs.declared.cmp.Ordering.{Ordering}
use Rattle.std.specs.Ordering.{nat_cmp, ordering_then}
use Rattle.article_count.specs.declared.memo.Place.{Place}
use Rattle.article_count.specs.declared.memo.Memo.{Memo}

-- places are ordered by the numbers of their terms, and then by how many binders they stand under
abbrev pub key_cmp : ℕ × ℕ → ℕ × ℕ → Ordering
key_cmp x y = ordering_then (nat_cmp x.0 y.0) (nat_cmp x.1 y.1)

abbrev pub noted_at : Memo → ℕ × ℕ → Option ℕ
noted_at memo key = get key_cmp memo.entries key

-- this number is noted for a place
abbrev pub IsNoted : Memo → Place → ℕ → Type 0
IsNoted memo p n = noted_at memo (p.id.0, p.depth) ≡ Some n
