-- An article as far as it is counted, by the numbers of a proof.
use Rattle.std.specs.Prelude.{◌≡◌, ℕ, ◌+◌, length, unwrap_or, Option, None, Some}
use Rattle.std.specs.List.{AllByRecursion}
use Rattle.hol_spec.specs.Names.{Name}
use Rattle.hol_spec.specs.Types.{HolType}
use Rattle.hol_type.specs.declared.table.TypeId.{TypeId}
use Rattle.hol_term.specs.Tables.{Trees, type_at}
use Rattle.article_spec.specs.declared.commands.Word.TheVariants as word
use Rattle.article_write_spec.specs.Lengths.{Tally, add, name_length, word_length, told_length, capped}
use Rattle.article_write_spec.specs.TermLengths.{count_type, count_variable}
use Rattle.article_count.specs.declared.tally.Count.{Count}
use Rattle.article_lines.specs.declared.keys.Thing.{Thing}
use Rattle.article_lines.specs.declared.keys.Thing.TheVariants as thing
use Rattle.article_lines.specs.Greatest.{greatest_length}
use Rattle.article_lines.specs.Things.{thing_key, with_thing}
use Rattle.article_lines.specs.KeptThings.{all_kept_at, IsThing, AreDistinct}

-- so much is added
abbrev pub added : ℕ → Count → Count
added n c = record c { length = capped greatest_length (c.length + n) }

-- a thing gets the next key
abbrev pub noted : Thing → Count → Count
noted x c = added (told_length (length c.keys.things)) (record c { keys = with_thing x c.keys })

-- a thing is told by its key, if it has one
abbrev pub told : Option ℕ → Count → Count
told None c = c
told (Some n) c = added n c

-- What is counted is this tally: the things that have keys are those that are kept, and the length is the tally's, up to the greatest number.
-- There is room for the keys of all types, all terms and so many theorems.
pub record IsTally (trees : Trees) (steps : ℕ) (c : Count) (m : Tally) : Type 0 where
  pub kept : all_kept_at trees c.keys.things ≡ m.kept
  pub counted : c.length ≡ capped greatest_length m.length
  pub things : AllByRecursion (IsThing trees steps) c.keys.things
  pub types : c.keys.types ≡ length trees.types
  pub terms : c.keys.terms ≡ length trees.terms
  pub theorems : c.keys.theorems ≡ steps
  pub distinct : AreDistinct trees

-- what is counted is some tally
abbrev pub CanCount : Trees → Count → Type 0
CanCount trees c = (steps : ℕ) × (m : Tally) × IsTally trees steps c m

-- this was counted
abbrev pub Counts : Trees → Count → Count → (Tally → Tally) → Type 0
Counts trees c d f = (steps : ℕ) (m : Tally) → IsTally trees steps c m → IsTally trees steps d (f m)

-- a variable of this type was counted, with a name of this length
abbrev pub CountsVariable : Trees → Count → Count → ℕ → TypeId → Type 0
CountsVariable trees c d length ty =
    (n : Name) → capped greatest_length length ≡ capped greatest_length (name_length n) → Counts trees c d (count_variable n (type_at trees ty.0))

-- a constant that has no key
abbrev pub count_new_constant : Name → HolType → Tally → Tally
count_new_constant n a m = add (word_length word.ConstTerm) (count_type a (add (name_length n + word_length word.Const) m))

-- how long what tells a type by its key is
abbrev pub type_told : Count → TypeId → ℕ
type_told c ty = told_length (unwrap_or (thing_key c.keys (thing.Type ty)) 0)
