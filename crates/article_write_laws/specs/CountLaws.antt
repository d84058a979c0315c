-- What is counted with each command is the length of what is written by it. A part that is counted may owe some of its length, which is counted later.
use Rattle.std.proofs.Common.{◌≡◌, ℕ, zero, suc, ◌+◌, ◌*◌, List, [], ◌∷◌, ◌++◌, length, Option, None, Some, ap, subst, arith, pos}
use Rattle.std.specs.List.{AllByRecursion}
use Rattle.hol_spec.specs.Names.{Name}
use Rattle.hol_spec.specs.Types.{HolType, HolTypes, count}
use Rattle.hol_spec.specs.Terms.{Variable}
use Rattle.article_spec.specs.declared.commands.Item.{Item}
use Rattle.article_spec.specs.declared.commands.Item.TheVariants as item
use Rattle.article_spec.specs.declared.commands.Word.{Word}
use Rattle.article_spec.specs.declared.commands.Word.TheVariants as word
use Rattle.article_write_spec.specs.Drafts.{Kept, Draft, key_of, say, say_name, say_word, keep, refer, once_at, once, conses, write_each, write_list, write_pair}
use Rattle.article_write_spec.specs.WrittenTypes.{write_type, write_types, write_variable}
use Rattle.article_write_spec.specs.Lengths.{item_length, items_length, name_length, word_length, told_length, Tally, key_in, add, note, count_once_at, count_once, count_each}
use Rattle.article_write_spec.specs.TermLengths.{count_type, count_types, count_variable}
use Rattle.article_write_spec.specs.ArticleLength.{list_length, count_list, count_pair}
use Rattle.article_write_laws.specs.LengthLaws.{items_length-said}

-- with what is owed, what is counted is what is written
pub record Counts (owed : ℕ) (m : Tally) (d : Draft) : Type 0 where
  pub kept : m.kept ≡ d.kept
  pub length : m.length + owed ≡ items_length d.commands

pub counts-said : {owed : ℕ} {m : Tally} {d : Draft} (i : Item) → Counts owed m d → Counts owed (add (item_length i) m) (say i d)
counts-said {owed = owed} {m = m} {d = d} i c = record { kept = c.kept; length = omega (arith, c.length, items_length-said d.commands i) }

-- two commands at once
pub counts-two : {owed : ℕ} {m : Tally} {d : Draft} (i j : Item) → Counts owed m d → Counts owed (add (item_length i + item_length j) m) (say j (say i d))
counts-two {owed = owed} {m = m} {d = d} i j c = record {
  kept = c.kept;
  length = (let a = items_length-said d.commands i in let b = items_length-said (d.commands ++ i ∷ []) j in omega (arith, c.length, a, b));
}

pub counts-conses : {owed : ℕ} (k : ℕ) (m : Tally) (d : Draft) → Counts owed m d → Counts owed (add (k * word_length word.Cons) m) (conses k d)
counts-conses {owed = owed} zero m d c = record { kept = c.kept; length = omega (arith, c.length) }
counts-conses {owed = owed} (suc k) m d c =
    let r = counts-conses k (add (word_length word.Cons) m) (say_word word.Cons d) (counts-said (item.Word word.Cons) c) in
    record {
      kept = r.kept;
      length =
          (let e : suc k * word_length word.Cons ≡ word_length word.Cons + k * word_length word.Cons = omega arith in omega (arith, r.length, e));
    }

-- a list behind its elements
pub counts-listed : {owed : ℕ} {m : Tally} {d : Draft} (k : ℕ) → Counts owed m d → Counts owed (add (list_length k) m) (conses k (say_word word.Nil d))
counts-listed {owed = owed} {m = m} {d = d} k c =
    let r = counts-conses k (add (word_length word.Nil) m) (say_word word.Nil d) (counts-said (item.Word word.Nil) c) in
    record { kept = r.kept; length = omega (arith, r.length) }

pub counts-noted : {owed : ℕ} {m : Tally} {d : Draft} (x : Kept) → Counts owed m d → Counts owed (note x m) (keep x d)
counts-noted {owed = owed} {m = m} {d = d} x c =
    let number = item.Number (pos (length d.kept)) in
    let a = items_length-said d.commands number in
    let b = items_length-said (d.commands ++ number ∷ []) (item.Word word.Def) in
    let same : told_length (length m.kept) ≡ item_length number + word_length word.Def = ap (λ (l : List Kept). told_length (length l)) c.kept in
    record { kept = ap (λ l. l ++ x ∷ []) c.kept; length = omega (arith, c.length, a, b, same) }

pub counts-referred : {owed : ℕ} {m : Tally} {d : Draft} (k : ℕ) → Counts owed m d → Counts owed (add (told_length k) m) (refer k d)
counts-referred k c = counts-two (item.Number (pos k)) (item.Word word.Ref) c

pub counts-once : {owed : ℕ} {m : Tally} {d : Draft} (x : Kept) (build : Draft → Draft) (built : Tally → Tally) → Counts owed m d
    → Counts owed (built m) (build d) → Counts owed (count_once x built m) (once x build d)
counts-once {owed = owed} {m = m} {d = d} x build built c b =
    subst (λ o. Counts owed (count_once_at o x built m) (once x build d)) (ap (λ (l : List Kept). key_in l x) (let e : d.kept ≡ m.kept = cc in e))
    (go (key_of x d))
  where
    go : (o : Option ℕ) → Counts owed (count_once_at o x built m) (once_at o x build d)
    go None = counts-noted x b
    go (Some k) = counts-referred k c

-- Writers
abbrev pub Counted : (Tally → Tally) → (Draft → Draft) → Type 0
Counted f g = (owed : ℕ) (m : Tally) (d : Draft) → Counts owed m d → Counts owed (f m) (g d)

pub counted-each : {A : Type 0} (P : A → Type 0) (f : A → Tally → Tally) (g : A → Draft → Draft) → ((x : A) → P x → Counted (f x) (g x)) → (xs : List A)
    → AllByRecursion P xs → Counted (count_each f xs) (write_each g xs)
counted-each P f g h [] all owed m d c = c
counted-each P f g h (x ∷ xs) all owed m d c = counted-each P f g h xs all.1 owed (f x m) (g x d) (h x all.0 owed m d c)

pub counted-list : {A : Type 0} (P : A → Type 0) (f : A → Tally → Tally) (g : A → Draft → Draft) → ((x : A) → P x → Counted (f x) (g x)) → (xs : List A)
    → AllByRecursion P xs → Counted (count_list f xs) (write_list g xs)
counted-list P f g h xs all owed m d c = counts-listed (length xs) (counted-each P f g h xs all owed m d c)

pub counted-pair : (f k : Tally → Tally) (g l : Draft → Draft) → Counted f g → Counted k l → Counted (count_pair f k) (write_pair g l)
counted-pair f k g l a b owed m d c = counts-listed 2 (b owed (f m) (g d) (a owed m d c))

pub counted-name : (n : Name) → Counted (add (name_length n)) (say_name n)
counted-name n owed m d c = counts-said (item.Name n) c

-- Types
mutual
  pub counted-type : (t : HolType) → Counted (count_type t) (write_type t)
  counted-type (HolType.variable n) owed m d c = counts-once (Kept.type (HolType.variable n)) (λ e. say_word word.VarType (say_name n e))
      (add (name_length n + word_length word.VarType)) c (counts-two (item.Name n) (item.Word word.VarType) c)
  counted-type (HolType.operator n ts) owed m d c =
      let first = counts-two (item.Name n) (item.Word word.TypeOp) c in
      let parts = counted-types ts owed (add (name_length n + word_length word.TypeOp) m) (say_word word.TypeOp (say_name n d)) first in
      let listed = counts-said (item.Word word.OpType) (counts-listed (count ts) parts) in
      counts-once (Kept.type (HolType.operator n ts))
      (λ e. say_word word.OpType (conses (count ts) (say_word word.Nil (write_types ts (say_word word.TypeOp (say_name n e))))))
      (λ e. add (word_length word.Nil + count ts * word_length word.Cons + word_length word.OpType)
      (count_types ts (add (name_length n + word_length word.TypeOp) e))) c
      (record { kept = listed.kept; length = omega (arith, listed.length) })

  pub counted-types : (ts : HolTypes) → Counted (count_types ts) (write_types ts)
  counted-types HolTypes.none owed m d c = c
  counted-types (HolTypes.more t ts) owed m d c = counted-types ts owed (count_type t m) (write_type t d) (counted-type t owed m d c)

pub counted-variable : (v : Variable) → Counted (count_variable v.0 v.1) (write_variable v)
counted-variable v owed m d c = counts-said (item.Word word.Var)
    (counted-type v.1 owed (add (name_length v.0) m) (say_name v.0 d) (counts-said (item.Name v.0) c))
