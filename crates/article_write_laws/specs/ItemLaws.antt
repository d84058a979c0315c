-- The line that writes a command says it; and what can be written.
use Rattle.std.proofs.Common.{◌≡◌, ◌≢◌, ℕ, ◌<◌, ◌≤◌, ◌^◌, nat_le, Bool, true, false, ◌&&◌, cond, ℤ, pos, List, [], ◌∷◌, length, refl, sym, subst, arith, decimal}
use Rattle.std.specs.List.{list_all, AllByRecursion}
use Rattle.std.proofs.lemmas.Fmt.{length-decimal-le}
use Rattle.std.proofs.lemmas.Bool.Decides.{nat_tests}
use Rattle.std.proofs.lemmas.Bool.{and_parts}
use Rattle.hol_spec.specs.Names.{Name, quote, dot, backslash}
use Rattle.hol_laws.specs.Members.{All-append}
use Rattle.article_spec.specs.declared.commands.Item.{Item}
use Rattle.article_spec.specs.declared.commands.Item.TheVariants as item
use Rattle.article_spec.specs.declared.commands.Word.{Word}
use Rattle.article_spec.specs.declared.commands.Word.TheVariants as word
use Rattle.article_spec.specs.Numbers.{is_digit}
use Rattle.article_spec.specs.Contents.{command, content}
use Rattle.article_spec.specs.Lines.{newline, max_line, IsLine}
use Rattle.article_write_spec.specs.ItemTexts.{is_escaped, component_text, components_text, name_text, word_text, item_text}
use Rattle.article_write_laws.specs.NumberTextLaws.{decimal-HasValue, content-number}
use Rattle.article_write_laws.specs.NameTextLaws.{content-name}

-- A name that a line can write: it has a component, no byte of it ends the line, and its line is short enough.
pub record IsWritableName (n : Name) : Type 0 where
  pub front : List ℕ
  pub rest : Name
  pub some : n ≡ front ∷ rest
  pub one_line : AllByRecursion IsLine n
  pub short : length (name_text n) ≤ max_line

-- a key
pub record IsKey (z : ℤ) : Type 0 where
  pub key : ℕ
  pub is : z ≡ pos key
  pub in_range : key < 2 ^ 63

-- a command that a line can write
abbrev pub IsWritable : Item → Type 0
IsWritable (item.Number z) = IsKey z
IsWritable (item.Name n) = IsWritableName n
IsWritable (item.Word w) = Unit {0}

pub content-word : (w : Word) → content (word_text w) ≡ command (item.Word w)
content-word word.Version = refl
content-word word.Nil = refl
content-word word.Cons = refl
content-word word.HdTl = refl
content-word word.TypeOp = refl
content-word word.VarType = refl
content-word word.OpType = refl
content-word word.Const = refl
content-word word.ConstTerm = refl
content-word word.Var = refl
content-word word.VarTerm = refl
content-word word.AppTerm = refl
content-word word.AbsTerm = refl
content-word word.Def = refl
content-word word.Ref = refl
content-word word.Remove = refl
content-word word.Pop = refl
content-word word.Pragma = refl
content-word word.Refl = refl
content-word word.Assume = refl
content-word word.EqMp = refl
content-word word.AbsThm = refl
content-word word.AppThm = refl
content-word word.DeductAntisym = refl
content-word word.BetaConv = refl
content-word word.Sym = refl
content-word word.Trans = refl
content-word word.ProveHyp = refl
content-word word.Subst = refl
content-word word.DefineConst = refl
content-word word.DefineConstList = refl
content-word word.DefineTypeOp = refl
content-word word.Axiom = refl
content-word word.Thm = refl

-- What a line says
pub content-item : (i : Item) → IsWritable i → content (item_text i) ≡ command i
content-item (item.Number z) h =
    subst (λ x. content (item_text (item.Number x)) ≡ command (item.Number x)) (sym h.is) (content-number h.key h.in_range)
content-item (item.Name n) h = subst (λ m. content (name_text m) ≡ command (item.Name m)) (sym h.some) (content-name h.front h.rest)
content-item (item.Word w) h = content-word w

-- digits, and what is written of a component, stand on one line
pub digits-IsLine : (ds : List ℕ) → list_all is_digit ds ≡ true → IsLine ds
digits-IsLine [] h = tt
digits-IsLine (d ∷ ds) h = let k = and_parts (is_digit d) (list_all is_digit ds) h in ((λ e. absurd (grind (arith, nat_tests, k.0, e))), digits-IsLine ds k.1)

component-IsLine : (bytes : List ℕ) → IsLine bytes → IsLine (component_text bytes)
component-IsLine [] h = tt
component-IsLine (b ∷ bytes) h = go (is_escaped b) (component-IsLine bytes h.1)
  where
    go : (x : Bool) → IsLine (component_text bytes) → IsLine (cond x (backslash ∷ b ∷ component_text bytes) (b ∷ component_text bytes))
    go true rest = ((λ e. absurd (omega (arith, e))), (h.0, rest))
    go false rest = (h.0, rest)

components-IsLine : (n : Name) → AllByRecursion IsLine n → IsLine (components_text n)
components-IsLine [] h = tt
components-IsLine (bytes ∷ []) h = component-IsLine bytes h.0
components-IsLine (bytes ∷ more ∷ name) h =
    All-append (λ b. b ≢ newline) (component_text bytes) (dot ∷ components_text (more ∷ name)) (component-IsLine bytes h.0)
    ((λ e. absurd (omega (arith, e))), components-IsLine (more ∷ name) h.1)

name-IsLine : (n : Name) → AllByRecursion IsLine n → IsLine (name_text n)
name-IsLine n h = (
  (λ e. absurd (omega (arith, e))),
  All-append (λ b. b ≢ newline) (components_text n) (quote ∷ []) (components-IsLine n h)
      ((λ e. absurd (omega (arith, e))), tt {0}),
)

-- a command's line
pub record IsShortLine (line : List ℕ) : Type 0 where
  pub one_line : IsLine line
  pub short : length line ≤ max_line

plain : (line : List ℕ) → list_all (λ b. nat_le 11 b) line ≡ true → IsLine line
plain [] e = tt
plain (b ∷ line) e = let k = and_parts (nat_le 11 b) (list_all (λ b. nat_le 11 b) line) e in ((λ f. absurd (grind (arith, nat_tests, k.0, f))), plain line k.1)

short-plain : (line : List ℕ) → (list_all (λ b. nat_le 11 b) line && nat_le (length line) 20) ≡ true → IsShortLine line
short-plain line e = let k = and_parts (list_all (λ b. nat_le 11 b) line) (nat_le (length line) 20) e in record
    { one_line = plain line k.0; short = (let s : length line ≤ 20 = grind (arith, nat_tests, k.1) in omega (arith, s)) }

word-short : (w : Word) → (list_all (λ b. nat_le 11 b) (word_text w) && nat_le (length (word_text w)) 20) ≡ true
word-short word.Version = refl
word-short word.Nil = refl
word-short word.Cons = refl
word-short word.HdTl = refl
word-short word.TypeOp = refl
word-short word.VarType = refl
word-short word.OpType = refl
word-short word.Const = refl
word-short word.ConstTerm = refl
word-short word.Var = refl
word-short word.VarTerm = refl
word-short word.AppTerm = refl
word-short word.AbsTerm = refl
word-short word.Def = refl
word-short word.Ref = refl
word-short word.Remove = refl
word-short word.Pop = refl
word-short word.Pragma = refl
word-short word.Refl = refl
word-short word.Assume = refl
word-short word.EqMp = refl
word-short word.AbsThm = refl
word-short word.AppThm = refl
word-short word.DeductAntisym = refl
word-short word.BetaConv = refl
word-short word.Sym = refl
word-short word.Trans = refl
word-short word.ProveHyp = refl
word-short word.Subst = refl
word-short word.DefineConst = refl
word-short word.DefineConstList = refl
word-short word.DefineTypeOp = refl
word-short word.Axiom = refl
word-short word.Thm = refl

number-short : (n : ℕ) → n < 2 ^ 63 → IsShortLine (decimal n)
number-short n h =
    let v = decimal-HasValue n (omega (arith, h)) in
    let short : length (decimal n) ≤ 20 = length-decimal-le 20 n (omega arith) (omega (arith, h)) (omega (arith, h)) in
    record { one_line = digits-IsLine (decimal n) v.digits; short = omega (arith, short) }

pub item-short : (i : Item) → IsWritable i → IsShortLine (item_text i)
item-short (item.Number z) h = subst (λ x. IsShortLine (item_text (item.Number x))) (sym h.is) (number-short h.key h.in_range)
item-short (item.Name n) h = record { one_line = name-IsLine n h.one_line; short = h.short }
item-short (item.Word w) h = short-plain (word_text w) (word-short w)
