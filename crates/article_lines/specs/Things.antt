-- The things that have keys, by their numbers in a proof, in the order of their keys.
use Rattle.std.specs.Prelude.{ℕ, ◌<◌, ◌==◌, Bool, false, List, [], ◌∷◌, ◌++◌, Option}
use Rattle.std.specs.List.{position_from}
use Rattle.article_lines.specs.declared.keys.Thing.{Thing}
use Rattle.article_lines.specs.declared.keys.Thing.TheVariants as thing

abbrev pub thing_eq : Thing → Thing → Bool
thing_eq (thing.Type a) (thing.Type b) = a.0 == b.0
thing_eq (thing.Term t) (thing.Term u) = t.0 == u.0
thing_eq (thing.Theorem i) (thing.Theorem j) = i == j
thing_eq x y = false

-- the things that have keys, and for how many types, terms and theorems there is room
pub record Keyed : Type 0 where
  pub things : List Thing
  pub types : ℕ
  pub terms : ℕ
  pub theorems : ℕ

abbrev pub none_keyed : ℕ → ℕ → ℕ → Keyed
none_keyed types terms theorems = record { things = []; types = types; terms = terms; theorems = theorems }

-- one of so many types, terms and theorems
abbrev pub IsOneOf : ℕ → ℕ → ℕ → Thing → Type 0
IsOneOf types terms theorems (thing.Type a) = a.0 < types
IsOneOf types terms theorems (thing.Term t) = t.0 < terms
IsOneOf types terms theorems (thing.Theorem i) = i < theorems

-- there is room for its key
abbrev pub HasRoom : Keyed → Thing → Type 0
HasRoom k x = IsOneOf k.types k.terms k.theorems x

-- the keys are the places
abbrev pub thing_key : Keyed → Thing → Option ℕ
thing_key k x = position_from (thing_eq x) 0 k.things

abbrev pub with_thing : Thing → Keyed → Keyed
with_thing x k = record k { things = k.things ++ x ∷ [] }
