-- Keys by the number of the type, the term or the theorem that has them.
use Rattle.std.specs.Prelude.{◌≡◌, ℕ, zero, suc, ◌+◌, ◌<◌, ◌==◌, ◌^◌, if◌then◌else◌, List, [], ◌∷◌, ◌++◌, length, Option, None, Some, slice_index_or, slice_set, replicate}
use Rattle.std.specs.List.{position_from}
use Rattle.article_lines.specs.declared.keys.Thing.{Thing}
use Rattle.article_lines.specs.declared.keys.Thing.TheVariants as thing
use Rattle.article_lines.specs.Things.{Keyed, IsOneOf, thing_key}

-- what stands for no key: the greatest u64
abbrev pub no_key : ℕ
no_key = 18446744073709551615

pub record AllSlots : Type 0 where
  pub types : List ℕ
  pub terms : List ℕ
  pub theorems : List ℕ

-- no key at any of so many places
abbrev pub none_put : ℕ → ℕ → ℕ → AllSlots
none_put types terms theorems = record { types = replicate types no_key; terms = replicate terms no_key; theorems = replicate theorems no_key }

-- it has a place
abbrev pub HasPlace : AllSlots → Thing → Type 0
HasPlace s x = IsOneOf (length s.types) (length s.terms) (length s.theorems) x

-- what stands at a thing's place
abbrev pub slot : AllSlots → Thing → ℕ
slot s (thing.Type a) = slice_index_or s.types a.0 no_key
slot s (thing.Term t) = slice_index_or s.terms t.0 no_key
slot s (thing.Theorem i) = slice_index_or s.theorems i no_key

abbrev pub slot_key : ℕ → Option ℕ
slot_key n = if n == no_key then None else Some n

abbrev pub put : Thing → ℕ → AllSlots → AllSlots
put (thing.Type a) n s = record s { types = slice_set s.types a.0 n }
put (thing.Term t) n s = record s { terms = slice_set s.terms t.0 n }
put (thing.Theorem i) n s = record s { theorems = slice_set s.theorems i n }

-- the thing that has a key: the first type, or else the first term, or else the first theorem
abbrev pub first_of : Option ℕ → Option ℕ → Option ℕ → Thing
first_of (Some i) o p = thing.Type (record { 0 = i })
first_of None (Some i) p = thing.Term (record { 0 = i })
first_of None None (Some i) = thing.Theorem i
first_of None None None = thing.Theorem 0

abbrev pub place_of : ℕ → List ℕ → Option ℕ
place_of n ns = position_from (λ m. m == n) 0 ns

abbrev pub thing_at : AllSlots → ℕ → Thing
thing_at s n = first_of (place_of n s.types) (place_of n s.terms) (place_of n s.theorems)

-- the things of the keys below n
abbrev pub things_to : AllSlots → ℕ → List Thing
things_to s zero = []
things_to s (suc n) = things_to s n ++ thing_at s n ∷ []

abbrev pub keyed : AllSlots → ℕ → Keyed
keyed s n = record { things = things_to s n; types = length s.types; terms = length s.terms; theorems = length s.theorems }

-- how many places have no key
abbrev pub free : List ℕ → ℕ
free [] = 0
free (n ∷ ns) = if n == no_key then suc (free ns) else free ns

abbrev pub all_free : AllSlots → ℕ
all_free s = free s.types + free s.terms + free s.theorems

abbrev pub all_places : AllSlots → ℕ
all_places s = length s.types + length s.terms + length s.theorems

-- each key stands at its thing, each number below n is a key, and there are no more keys than places
pub record AreKeys (s : AllSlots) (n : ℕ) : Type 0 where
  pub each : (x : Thing) → HasPlace s x → slot_key (slot s x) ≡ thing_key (keyed s n) x
  pub places : n + all_free s ≡ all_places s
  pub small : all_places s < 2 ^ 64
