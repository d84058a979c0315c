-- A line of bytes that writes a name writes one whose components are bytes; and the name items of a text of bytes have such names.
use Rattle.std.proofs.Common.{◌≡◌, ℕ, ◌+◌, ℤ, List, [], ◌∷◌, length, reverse, Bool, true, false, cond, Option, None, Some, refl, sym, subst}
use Rattle.std.specs.Prelude.{◌==◌, unwrap_or}
use Rattle.std.specs.Option.{option_map, option_or}
use Rattle.std.specs.List.{AllByRecursion}
use Rattle.std.proofs.lemmas.List.{reverse-append}
use Rattle.hol_spec.specs.Mangling.{AreBytes, IsName}
use Rattle.hol_spec.specs.Names.{Name, quote, dot, IsComponent, nothing, plain, escaped, AreComponents, one, dotted}
use Rattle.hol_spec.specs.NameOf.{name_of}
use Rattle.hol_laws.specs.Members.{All-append, All-left, All-right}
use Rattle.hol_laws.specs.NameLaws.{name_of-IsNameLine}
use Rattle.common.specs.declared.faults.Kind.TheVariants as kind
use Rattle.article_spec.specs.declared.commands.Command.{Command}
use Rattle.article_spec.specs.declared.commands.Item.{Item}
use Rattle.article_spec.specs.declared.commands.Item.TheVariants as item
use Rattle.article_spec.specs.Numbers.{number_of, is_in_range}
use Rattle.article_spec.specs.Words.{word_of}
use Rattle.article_spec.specs.Contents.{Content, skipped, command, faulty, is_blank, drop_blanks, trimmed, number_sign, number_content, as_name, as_word, item_content, said, content}
use Rattle.article_laws.specs.KeptRuns.{ItemHas}
use Rattle.article_spec.specs.Lines.{newline, command_at, EndedLine, Opens, open_line, skips, gives, End, ended, refused, Lines, last_skipped, last_gives, last_faults, stops}

-- the components that a text of bytes writes
component-bytes : {text bytes : List ℕ} → IsComponent text bytes → AreBytes text → AreBytes bytes
component-bytes nothing h = tt
component-bytes (plain p c) h = (h.0, component-bytes c h.1)
component-bytes (escaped c) h = (h.1.0, component-bytes c h.1.1)

-- the components of a name, and a text of them
name-all : (name : Name) → IsName name → AllByRecursion AreBytes name
name-all [] h = absurd h
name-all (bytes ∷ name) h = h

components-name : {text : List ℕ} {name : Name} → AreComponents text name → AreBytes text → IsName name
components-name (one c) h = (component-bytes c h, tt {0})
components-name (dotted {text = text} {more = more} {name = name} c e rest) h =
    let k = subst AreBytes e h in
    (component-bytes c (All-left _ text (dot ∷ more) k), name-all name (components-name rest (All-right _ text (dot ∷ more) k).1))

-- The name of a line of bytes
name_of-name : (line : List ℕ) (name : Name) → AreBytes line → name_of line ≡ Some name → IsName name
name_of-name line name h e =
    let l = (name_of-IsNameLine line name).0 e in
    components-name l.components (All-left _ l.inner (quote ∷ []) (subst AreBytes l.quoted h).1)

-- a line without the blanks at its ends
reverse-bytes : (bytes : List ℕ) → AreBytes bytes → AreBytes (reverse bytes)
reverse-bytes [] h = tt
reverse-bytes (b ∷ bytes) h = subst AreBytes (sym (reverse-append (b ∷ []) bytes))
    (All-append _ (reverse bytes) (b ∷ []) (reverse-bytes bytes h.1) (h.0, tt {0}))

drop_blanks-bytes : (bytes : List ℕ) → AreBytes bytes → AreBytes (drop_blanks bytes)
drop_blanks-bytes [] h = tt
drop_blanks-bytes (b ∷ bytes) h = go (is_blank b) (drop_blanks-bytes bytes h.1)
  where
    go : (c : Bool) → AreBytes (drop_blanks bytes) → AreBytes (cond c (drop_blanks bytes) (b ∷ bytes))
    go true later = later
    go false later = h

trimmed-bytes : (line : List ℕ) → AreBytes line → AreBytes (trimmed line)
trimmed-bytes line h = reverse-bytes _ (drop_blanks-bytes _ (reverse-bytes _ (drop_blanks-bytes line h)))

-- an item whose name, where it is one, is of bytes
abbrev pub IsNamedItem : Item → Type 0
IsNamedItem x = ItemHas IsName x

-- what a line says, where it is a command with such an item
abbrev IsNamedContent : Content → Type 0
IsNamedContent skipped = Unit {0}
IsNamedContent (command i) = IsNamedItem i
IsNamedContent (faulty k) = Unit {0}

-- what a number, what any line that is not skipped, and what a line without blanks says
number-named : (z : ℤ) → IsNamedContent (number_content z)
number-named z = go (is_in_range z)
  where
    go : (b : Bool) → IsNamedContent (cond b (command (item.Number z)) (faulty kind.NumberRange))
    go true = tt
    go false = tt

item_content-named : (line : List ℕ) → AreBytes line → IsNamedContent (item_content line)
item_content-named line h = by_number (number_of line)
  where
    by_word : (o : Option _) → IsNamedContent (unwrap_or (option_map (λ word. command (item.Word word)) o) (faulty kind.BadLine))
    by_word None = tt
    by_word (Some w) = tt

    by_name : (o : Option Name) → name_of line ≡ o
        → IsNamedContent (unwrap_or (option_or (option_map (λ name. command (item.Name name)) o) (as_word line)) (faulty kind.BadLine))
    by_name None e = by_word (word_of line)
    by_name (Some n) e = name_of-name line n h e

    by_number : (o : Option ℤ)
        → IsNamedContent (unwrap_or (option_or (option_map number_content o) (option_or (as_name line) (as_word line))) (faulty kind.BadLine))
    by_number None = by_name (name_of line) refl
    by_number (Some z) = number-named z

said-named : (line : List ℕ) → AreBytes line → IsNamedContent (said line)
said-named [] h = tt
said-named (b ∷ text) h = go (b == number_sign)
  where
    go : (c : Bool) → IsNamedContent (cond c skipped (item_content (b ∷ text)))
    go true = tt
    go false = item_content-named (b ∷ text) h

-- The item of a line of bytes
content-named : (line : List ℕ) (i : Item) → AreBytes line → content line ≡ command i → IsNamedItem i
content-named line i h e = subst IsNamedContent e (said-named (trimmed line) (trimmed-bytes line h))

-- commands with such items
abbrev pub AreNamedCommands : List Command → Type 0
AreNamedCommands commands = AllByRecursion (λ (c : Command). IsNamedItem c.item) commands

-- the line of a text, and the text behind it
line-bytes : {o : ℕ} {text line more : List ℕ} {says : Content} → EndedLine o text line more says → AreBytes text → AreBytes line × AreBytes more
line-bytes {line = line} {more = more} l h =
    let k = subst AreBytes l.is h in (All-left _ line (newline ∷ more) k, (All-right _ line (newline ∷ more) k).1)

-- the commands of the ended lines, and the open line
opens-named : (n o : ℕ) (text : List ℕ) (commands : List Command) (m p : ℕ) (rest : List ℕ) → Opens n o text commands m p rest → AreBytes text
    → AreNamedCommands commands × AreBytes rest
opens-named n o text commands m p rest (open_line l) h = (tt {0}, h)
opens-named n o text commands m p rest (skips {line = line} {more = more} l r) h =
    opens-named (n + 1) (o + length line + 1) more commands m p rest r (line-bytes l h).1
opens-named n o text commands m p rest (gives {line = line} {more = more} {i = i} {commands = cs} l r) h =
    let b = line-bytes l h in
    let later = opens-named (n + 1) (o + length line + 1) more cs m p rest r b.1 in
    ((content-named line i b.0 l.means, later.0), later.1)

-- the end of a text without a line at fault
abbrev pub IsEnded : End → Type 0
IsEnded (ended n) = Unit {0}
IsEnded (refused n k) = ⊥

-- The commands of a text of bytes
pub lines-named : (text : List ℕ) (commands : List Command) (end : End) → Lines text commands end → IsEnded end → AreBytes text → AreNamedCommands commands
lines-named text commands end (last_skipped {line = line} {n = n} {o = o} l e) h k = (opens-named 1 0 text commands n o line l k).0
lines-named text commands end (last_gives {line = line} {commands = cs} {n = n} {o = o} {i = i} l e all) h k =
    let front = opens-named 1 0 text cs n o line l k in
    subst AreNamedCommands (sym all) (All-append _ cs (command_at n i ∷ []) front.0 (content-named line i front.1 e, tt {0}))
lines-named text commands end (last_faults l e) h k = absurd h
lines-named text commands end (stops l) h k = absurd h
