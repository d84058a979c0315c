-- The lines of words, and the commands that they give.
use Rattle.std.proofs.Common.{◌≡◌, ◌≢◌, ℕ, ◌+◌, ◌<◌, ◌≤◌, ◌==◌, nat_le, nat_lt, Bool, true, not, ◌&&◌, List, [], ◌∷◌, ◌++◌, map, length, refl, sym, ap, ◌∙◌, arith, append_assoc, length-append}
use Rattle.std.specs.List.{list_all, flat_map}
use Rattle.std.proofs.lemmas.List.{map-append}
use Rattle.std.proofs.lemmas.List.Folds.{list_all-append}
use Rattle.std.proofs.lemmas.Bool.Decides.{nat_tests}
use Rattle.std.proofs.lemmas.Bool.{and_parts}
use Rattle.hol_spec.specs.Mangling.{AreBytes}
use Rattle.hol_laws.specs.Members.{All-append}
use Rattle.article_spec.specs.declared.commands.Command.{Command}
use Rattle.article_spec.specs.declared.commands.Item.{Item}
use Rattle.article_spec.specs.Contents.{Content, skipped, command, faulty, content}
use Rattle.article_spec.specs.Lines.{newline, max_article, command_at, IsLine, Opens, open_line, gives, Lines, last_skipped, ended}
use Rattle.article_spec.specs.Trial.{lines, words}

-- a byte can stand on a line
abbrev pub can_stand : ℕ → Bool
can_stand b = not (b == newline) && nat_lt b 256

-- a word can be a line
abbrev pub is_line : List ℕ → Bool
is_line word = list_all can_stand word && nat_le (length word) 100

-- the words stand on lines, and give these commands
pub record Says (words : List (List ℕ)) (items : List Item) : Type 0 where
  pub lines : list_all is_line words ≡ true
  pub means : map content words ≡ map command items

-- the commands that are found in words, and that they are all that the words say
abbrev item_in : Content → List Item
item_in skipped = []
item_in (command i) = i ∷ []
item_in (faulty k) = []

abbrev pub items_in : List (List ℕ) → List Item
items_in words = flat_map (λ word. item_in (content word)) words

-- the commands of a text of words, with a blank between any two
abbrev pub said : List ℕ → List Item
said text = items_in (words text)

pub Says-append : (xs ys : List (List ℕ)) (is js : List Item) → Says xs is → Says ys js → Says (xs ++ ys) (is ++ js)
Says-append xs ys is js g h = record {
  lines = list_all-append is_line xs ys ∙ ap (λ b. b && list_all is_line ys) g.lines ∙ h.lines;
  means = map-append content xs ys ∙ ap (λ l. l ++ map content ys) g.means ∙ ap (λ l. map command is ++ l) h.means ∙ sym (map-append command is js);
}

-- what can stand on a line is a line, and bytes
all-IsLine : (word : List ℕ) → list_all can_stand word ≡ true → IsLine word
all-IsLine [] e = tt
all-IsLine (b ∷ word) e = let h = and_parts (can_stand b) _ e in (other b (and_parts (not (b == newline)) (nat_lt b 256) h.0).0, all-IsLine word h.1)
  where
    other : (b : ℕ) → not (b == newline) ≡ true → b ≢ newline
    other b f is = absurd (grind (arith, nat_tests, f, is))

all-AreBytes : (word : List ℕ) → list_all can_stand word ≡ true → AreBytes word
all-AreBytes [] e = tt
all-AreBytes (b ∷ word) e = let h = and_parts (can_stand b) _ e in (byte b (and_parts (not (b == newline)) (nat_lt b 256) h.0).1, all-AreBytes word h.1)
  where
    byte : (b : ℕ) → nat_lt b 256 ≡ true → b < 256
    byte b f = grind (arith, nat_tests, f)

-- the text of such lines has bytes alone
pub lines-AreBytes : (words : List (List ℕ)) → list_all is_line words ≡ true → AreBytes (lines words)
lines-AreBytes [] e = tt
lines-AreBytes (w ∷ ws) e =
    let tests = and_parts (is_line w) (list_all is_line ws) e in
    let end : AreBytes (newline ∷ []) = (omega arith, tt) in
    All-append (λ b. b < 256) (w ++ newline ∷ []) (lines ws)
    (All-append (λ b. b < 256) w (newline ∷ []) (all-AreBytes w (and_parts (list_all can_stand w) (nat_le (length w) 100) tests.0).0) end)
    (lines-AreBytes ws tests.1)

-- the commands of lines, from line n on
abbrev pub numbered : ℕ → List Item → List Command
numbered n [] = []
numbered n (i ∷ is) = command_at n i ∷ numbered (n + 1) is

-- from line n at offset o on, a text is ended lines that give these commands
pub record Reads (n o : ℕ) (text : List ℕ) (commands : List Command) : Type 0 where
  pub line : ℕ
  pub offset : ℕ
  pub opens : Opens n o text commands line offset []

-- words give their commands, where the text is within its limit
pub reads : (words : List (List ℕ)) (items : List Item) (n o : ℕ) → Says words items → o + length (lines words) < max_article
    → Reads n o (lines words) (numbered n items)
reads [] [] n o h small = record { line = n; offset = o; opens = open_line (record { one_line = tt; short = omega arith; within = omega arith }) }
reads [] (i ∷ is) n o h small = absurd (let e = h.means in cc)
reads (w ∷ ws) [] n o h small = absurd (let e = h.means in cc)
reads (w ∷ ws) (i ∷ is) n o h small =
    let tests = and_parts (is_line w) (list_all is_line ws) h.lines in
    let own = and_parts (list_all can_stand w) (nat_le (length w) 100) tests.0 in
    let long : length (lines (w ∷ ws)) ≡ length w + 1 + length (lines ws) =
    length-append (w ++ newline ∷ []) (lines ws) ∙ ap (λ k. k + length (lines ws)) (length-append w (newline ∷ [])) in
    let short : length w ≤ 100 = grind (arith, nat_tests, own.1) in
    let e : content w ∷ map content ws ≡ command i ∷ map command is = h.means in
    let says : content w ≡ command i = cc in
    let rest : map content ws ≡ map command is = cc in
    let more = reads ws is (n + 1) (o + length w + 1) (record { lines = tests.1; means = rest }) (omega (arith, small, long)) in
    record {
      line = more.line;
      offset = more.offset;
      opens = gives (record {
        is = append_assoc w (newline ∷ []) (lines ws);
        one_line = all-IsLine w own.0;
        short = omega (arith, short);
        within = omega (arith, small, long);
        means = says;
      }) more.opens;
    }

-- an article of words gives their commands
pub lines_of : (words : List (List ℕ)) (items : List Item) → Says words items → length (lines words) < max_article
    → (m : ℕ) × Lines (lines words) (numbered 1 items) (ended m)
lines_of words items h small = let r = reads words items 1 0 h (omega (arith, small)) in (r.line, last_skipped r.opens refl)
