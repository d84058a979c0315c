-- The names that lines write can be written again: of a line that writes a name, the shortest is no longer.
use Rattle.std.proofs.Common.{◌≡◌, ◌≢◌, ℕ, suc, ◌+◌, ◌≤◌, ◌==◌, ℤ, List, [], ◌∷◌, ◌++◌, length, reverse, Bool, true, false, cond, Option, None, Some, refl, sym, ap, subst, ◌∙◌, arith, length-append}
use Rattle.std.specs.Prelude.{unwrap_or}
use Rattle.std.specs.Option.{option_map, option_or}
use Rattle.std.specs.List.{AllByRecursion}
use Rattle.std.proofs.lemmas.List.{reverse-append}
use Rattle.std.proofs.lemmas.Bool.Decides.{nat_tests}
use Rattle.hol_spec.specs.Names.{Name, quote, dot, backslash, IsPlain, IsComponent, nothing, plain, escaped, AreComponents, one, dotted}
use Rattle.hol_spec.specs.NameOf.{name_of}
use Rattle.hol_laws.specs.Members.{All-append, All-left, All-right}
use Rattle.hol_laws.specs.NameLaws.{name_of-IsNameLine}
use Rattle.common.specs.declared.faults.Kind.TheVariants as kind
use Rattle.article_spec.specs.declared.commands.Command.{Command}
use Rattle.article_spec.specs.declared.commands.Item.{Item}
use Rattle.article_spec.specs.declared.commands.Item.TheVariants as item
use Rattle.article_spec.specs.Numbers.{number_of, is_in_range}
use Rattle.article_spec.specs.Words.{word_of}
use Rattle.article_spec.specs.Contents.{Content, skipped, command, faulty, is_blank, drop_blanks, trimmed, number_sign, number_content, as_name, as_word, item_content, said, content}
use Rattle.article_spec.specs.Lines.{newline, max_line, IsLine, command_at, Opens, open_line, skips, gives, End, ended, refused, Lines, last_skipped, last_gives, last_faults, stops}
use Rattle.article_laws.specs.KeptRuns.{ItemHas}
use Rattle.article_write_spec.specs.ItemTexts.{is_escaped, component_text, components_text, name_text}
use Rattle.article_write_laws.specs.ItemLaws.{IsWritableName}

-- The shortest text
plain-unescaped : (b : ℕ) → IsPlain b → is_escaped b ≡ false
plain-unescaped b p = grind (arith, nat_tests, p.no_quote, p.no_dot, p.no_backslash)

component-shortest : {text bytes : List ℕ} → IsComponent text bytes → length (component_text bytes) ≤ length text
component-shortest nothing = omega arith
component-shortest (plain {b = b} {text = text} {bytes = bytes} p c) =
    let e : length (component_text (b ∷ bytes)) ≡ suc (length (component_text bytes)) =
    ap (λ x. length (cond x (backslash ∷ b ∷ component_text bytes) (b ∷ component_text bytes))) (plain-unescaped b p) in
    omega (arith, e, component-shortest c)
component-shortest (escaped {b = b} {text = text} {bytes = bytes} c) = go (is_escaped b) (component-shortest c)
  where
    go : (x : Bool) → length (component_text bytes) ≤ length text
        → length (cond x (backslash ∷ b ∷ component_text bytes) (b ∷ component_text bytes)) ≤ suc (suc (length text))
    go true h = omega (arith, h)
    go false h = omega (arith, h)

component-line : {text bytes : List ℕ} → IsComponent text bytes → IsLine text → IsLine bytes
component-line nothing h = tt
component-line (plain p c) h = (h.0, component-line c h.1)
component-line (escaped c) h = (h.1.0, component-line c h.1.1)

-- a name that a text writes
record IsWritten (text : List ℕ) (name : Name) : Type 0 where
  front : List ℕ
  rest : Name
  some : name ≡ front ∷ rest
  short : length (components_text name) ≤ length text
  lines : AllByRecursion IsLine name

components-written : {text : List ℕ} {name : Name} → AreComponents text name → IsLine text → IsWritten text name
components-written (one {bytes = bytes} c) h = record
    { front = bytes; rest = []; some = refl; short = component-shortest c; lines = (component-line c h, tt {0}) }
components-written (dotted {text = text} {more = more} {bytes = bytes} {name = name} c e rest) h =
    let k = subst IsLine e h in
    let w = components-written rest (All-right (λ b. b ≢ newline) text (dot ∷ more) k).1 in
    record {
      front = bytes;
      rest = name;
      some = refl;
      short = (let s : length (components_text (bytes ∷ name)) ≡ length (component_text bytes) + suc (length (components_text name)) =
          ap (λ n. length (components_text (bytes ∷ n))) w.some ∙ length-append (component_text bytes) (dot ∷ components_text (w.front ∷ w.rest))
          ∙ ap (λ n. length (component_text bytes) + suc (length (components_text n))) (sym w.some) in
          let l = ap length e ∙ length-append text (dot ∷ more) in
          omega (arith, s, l, component-shortest c, w.short));
      lines = (component-line c (All-left (λ b. b ≢ newline) text (dot ∷ more) k), w.lines);
    }

line-name : (line : List ℕ) (name : Name) → IsLine line → length line ≤ max_line → name_of line ≡ Some name → IsWritableName name
line-name line name h s e =
    let l = (name_of-IsNameLine line name).0 e in
    let k = subst IsLine l.quoted h in
    let w = components-written l.components (All-left (λ b. b ≢ newline) l.inner (quote ∷ []) k.1) in
    let long = ap length l.quoted ∙ ap suc (length-append l.inner (quote ∷ [])) in
    let text : length (name_text name) ≡ suc (length (components_text name) + 1) = ap suc (length-append (components_text name) (quote ∷ [])) in
    record { front = w.front; rest = w.rest; some = w.some; one_line = w.lines; short = omega (arith, s, long, text, w.short) }

-- Trimmed lines
record IsShort (line whole : List ℕ) : Type 0 where
  one_line : IsLine line
  short : length line ≤ length whole

reverse-line : (line : List ℕ) → IsLine line → IsShort (reverse line) line
reverse-line [] h = record { one_line = tt; short = omega arith }
reverse-line (b ∷ line) h =
    let r = reverse-line line h.1 in
    let e : reverse (b ∷ line) ≡ reverse line ++ b ∷ [] = reverse-append (b ∷ []) line in
    record {
      one_line = subst IsLine (sym e) (All-append (λ b. b ≢ newline) (reverse line) (b ∷ []) r.one_line (h.0, tt {0}));
      short = (let l = ap length e ∙ length-append (reverse line) (b ∷ []) in omega (arith, l, r.short));
    }

drop_blanks-line : (line : List ℕ) → IsLine line → IsShort (drop_blanks line) line
drop_blanks-line [] h = record { one_line = tt; short = omega arith }
drop_blanks-line (b ∷ line) h = go (is_blank b) (drop_blanks-line line h.1)
  where
    go : (c : Bool) → IsShort (drop_blanks line) line → IsShort (cond c (drop_blanks line) (b ∷ line)) (b ∷ line)
    go true later = record { one_line = later.one_line; short = omega (arith, later.short) }
    go false later = record { one_line = h; short = omega arith }

trimmed-line : (line : List ℕ) → IsLine line → IsShort (trimmed line) line
trimmed-line line h =
    let a = drop_blanks-line line h in
    let b = reverse-line (drop_blanks line) a.one_line in
    let c = drop_blanks-line (reverse (drop_blanks line)) b.one_line in
    let d = reverse-line (drop_blanks (reverse (drop_blanks line))) c.one_line in
    record { one_line = d.one_line; short = omega (arith, a.short, b.short, c.short, d.short) }

-- an item whose name, where it is one, can be written
abbrev pub IsGoodItem : Item → Type 0
IsGoodItem i = ItemHas IsWritableName i

abbrev IsGoodContent : Content → Type 0
IsGoodContent skipped = Unit {0}
IsGoodContent (command i) = IsGoodItem i
IsGoodContent (faulty k) = Unit {0}

number-good : (z : ℤ) → IsGoodContent (number_content z)
number-good z = go (is_in_range z)
  where
    go : (b : Bool) → IsGoodContent (cond b (command (item.Number z)) (faulty kind.NumberRange))
    go true = tt
    go false = tt

item_content-good : (line : List ℕ) → IsLine line → length line ≤ max_line → IsGoodContent (item_content line)
item_content-good line h s = by_number (number_of line)
  where
    by_word : (o : Option _) → IsGoodContent (unwrap_or (option_map (λ word. command (item.Word word)) o) (faulty kind.BadLine))
    by_word None = tt
    by_word (Some w) = tt

    by_name : (o : Option Name) → name_of line ≡ o
        → IsGoodContent (unwrap_or (option_or (option_map (λ name. command (item.Name name)) o) (as_word line)) (faulty kind.BadLine))
    by_name None e = by_word (word_of line)
    by_name (Some n) e = line-name line n h s e

    by_number : (o : Option ℤ)
        → IsGoodContent (unwrap_or (option_or (option_map number_content o) (option_or (as_name line) (as_word line))) (faulty kind.BadLine))
    by_number None = by_name (name_of line) refl
    by_number (Some z) = number-good z

said-good : (line : List ℕ) → IsLine line → length line ≤ max_line → IsGoodContent (said line)
said-good [] h s = tt
said-good (b ∷ text) h s = go (b == number_sign)
  where
    go : (c : Bool) → IsGoodContent (cond c skipped (item_content (b ∷ text)))
    go true = tt
    go false = item_content-good (b ∷ text) h s

content-good : (line : List ℕ) (i : Item) → IsLine line → length line ≤ max_line → content line ≡ command i → IsGoodItem i
content-good line i h s e = let t = trimmed-line line h in subst IsGoodContent e (said-good (trimmed line) t.one_line (omega (arith, s, t.short)))

abbrev pub AreGoodCommands : List Command → Type 0
AreGoodCommands commands = AllByRecursion (λ (c : Command). IsGoodItem c.item) commands

opens-good : (n o : ℕ) (text : List ℕ) (commands : List Command) (m p : ℕ) (rest : List ℕ) → Opens n o text commands m p rest
    → AreGoodCommands commands × (IsLine rest × (length rest ≤ max_line))
opens-good n o text commands m p rest (open_line l) = (tt {0}, (l.one_line, l.short))
opens-good n o text commands m p rest (skips {line = line} {more = more} l r) = opens-good (n + 1) (o + length line + 1) more commands m p rest r
opens-good n o text commands m p rest (gives {line = line} {more = more} {i = i} {commands = cs} l r) =
    let later = opens-good (n + 1) (o + length line + 1) more cs m p rest r in
    ((content-good line i l.one_line l.short l.means, later.0), later.1)

abbrev pub IsEnded : End → Type 0
IsEnded (ended n) = Unit {0}
IsEnded (refused n k) = ⊥

-- The commands of a text
pub lines-good : (text : List ℕ) (commands : List Command) (end : End) → Lines text commands end → IsEnded end → AreGoodCommands commands
lines-good text commands end (last_skipped {line = line} {n = n} {o = o} l e) h = (opens-good 1 0 text commands n o line l).0
lines-good text commands end (last_gives {line = line} {commands = cs} {n = n} {o = o} {i = i} l e all) h =
    let front = opens-good 1 0 text cs n o line l in
    subst AreGoodCommands (sym all)
    (All-append (λ (c : Command). IsGoodItem c.item) cs (command_at n i ∷ []) front.0 (content-good line i front.1.0 front.1.1 e, tt {0}))
lines-good text commands end (last_faults l e) h = absurd h
lines-good text commands end (stops l) h = absurd h
