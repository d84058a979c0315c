-- The length of an article, counted without its text: what lines add to it, and an article as far as it is counted.
use Rattle.std.specs.Prelude.{ℕ, suc, pos, ◌+◌, min, List, [], ◌∷◌, ◌++◌, length, Option, None, Some, unwrap_or}
use Rattle.std.specs.List.{position_from, sum_by}
use Rattle.hol_spec.specs.Names.{Name}
use Rattle.article_spec.specs.declared.commands.Item.{Item}
use Rattle.article_spec.specs.declared.commands.Item.TheVariants as item
use Rattle.article_spec.specs.declared.commands.Word.{Word}
use Rattle.article_spec.specs.declared.commands.Word.TheVariants as word
use Rattle.article_write_spec.specs.ItemTexts.{item_text}
use Rattle.article_write_spec.specs.Drafts.{Kept, kept_eq}

-- a command with the end of its line
abbrev pub item_length : Item → ℕ
item_length i = suc (length (item_text i))

abbrev pub items_length : List Item → ℕ
items_length items = sum_by item_length items

abbrev pub name_length : Name → ℕ
name_length n = item_length (item.Name n)

abbrev pub word_length : Word → ℕ
word_length w = item_length (item.Word w)

-- a key and `ref`, or a key and `def`, which is as long
abbrev pub told_length : ℕ → ℕ
told_length k = item_length (item.Number (pos k)) + word_length word.Ref

-- an article as far as it is counted: what its keys stand for, and its length
pub record Tally : Type 0 where
  pub kept : List Kept
  pub length : ℕ

abbrev pub key_in : List Kept → Kept → Option ℕ
key_in kept x = position_from (kept_eq x) 0 kept

-- the length of what tells a thing by its key
abbrev pub key_length : List Kept → Kept → ℕ
key_length kept x = told_length (unwrap_or (key_in kept x) 0)

abbrev pub add : ℕ → Tally → Tally
add n m = record m { length = m.length + n }

-- a thing gets the next key
abbrev pub note : Kept → Tally → Tally
note x m = record { kept = m.kept ++ x ∷ []; length = m.length + told_length (length m.kept) }

-- at its first place a thing is counted as it is built, later by its key
abbrev pub count_once_at : Option ℕ → Kept → (Tally → Tally) → Tally → Tally
count_once_at None x build m = note x (build m)
count_once_at (Some k) x build m = add (told_length k) m

abbrev pub count_once : Kept → (Tally → Tally) → Tally → Tally
count_once x build m = count_once_at (key_in m.kept x) x build m

abbrev pub count_each : {A : Type 0} → (A → Tally → Tally) → List A → Tally → Tally
count_each count [] m = m
count_each count (x ∷ xs) m = count_each count xs (count x m)

-- a number of at most this, and this for every greater one
abbrev pub capped : ℕ → ℕ → ℕ
capped most n = min n most
