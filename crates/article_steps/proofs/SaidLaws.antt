-- Writers that write the same behind any commands, and what is said by one after another.
use Rattle.std.proofs.Common.{◌≡◌, ℕ, zero, suc, ◌==◌, Bool, true, false, List, [], ◌∷◌, ◌++◌, length, Option, None, Some, Result, Ok, Err, IsErr, OnOk, refl, sym, ap, ◌∙◌, append_assoc, pos, arith}
use Rattle.std.proofs.lemmas.Bool.Decides.{nat_tests}
use Rattle.std.proofs.lemmas.List.{append-nil}
use Rattle.std.proofs.lemmas.List.Concat.{flat_map-append}
use Rattle.hol_spec.specs.Types.{HolType, HolTypes, count}
use Rattle.hol_spec.specs.Terms.{Term, Variable}
use Rattle.hol_spec.specs.TermBinding.{loose}
use Rattle.article_spec.specs.declared.commands.Item.{Item}
use Rattle.article_spec.specs.declared.commands.Item.TheVariants as item
use Rattle.article_spec.specs.declared.commands.Word.TheVariants as word
use Rattle.article_spec.specs.Lines.{newline}
use Rattle.article_write_spec.specs.ItemTexts.{text_of, item_text}
use Rattle.article_write_spec.specs.Drafts.{Kept, Draft, key_of, say, say_name, say_word, keep, refer, once_at, once, conses, write_each, write_list, write_pair}
use Rattle.article_write_spec.specs.WrittenTypes.{write_type, write_types, write_variable}
use Rattle.article_write_spec.specs.WrittenTerms.{binder_at, next_binder, once_closed, shared, write_under}
use Rattle.article_lines.specs.Writing.{Writes, line}
use Rattle.article_steps.specs.Parts.{build_type, build_under}
use Rattle.article_steps.specs.Said.{fresh, said, kept_by, behind, IsAppending, Tells}
use Rattle.article_lines.specs.WritingLaws.{writes_then, writes_stop, writes_same}

-- Writers that append
pub appends-none : IsAppending (λ d. d)
appends-none = record { each = λ items d. refl }

pub appends-then : (f g : Draft → Draft) → IsAppending f → IsAppending g → IsAppending (λ d. g (f d))
appends-then f g a b = record { each = λ items d. ap g (a.each items d) ∙ b.each items (f d) }

pub appends-say : (i : Item) → IsAppending (say i)
appends-say i = record { each = λ items d. ap (λ l. record { commands = l; kept = d.kept }) (append_assoc items d.commands (i ∷ [])) }

pub appends-keep : (x : Kept) → IsAppending (keep x)
appends-keep x = record {
  each = λ items d. ap (λ (e : Draft). record e { kept = d.kept ++ x ∷ [] })
      ((appends-then (say (item.Number (pos (length d.kept)))) (say_word word.Def) (appends-say (item.Number (pos (length d.kept))))
      (appends-say (item.Word word.Def))).each items d);
}

pub appends-refer : (k : ℕ) → IsAppending (refer k)
appends-refer k = appends-then (say (item.Number (pos k))) (say_word word.Ref) (appends-say (item.Number (pos k))) (appends-say (item.Word word.Ref))

pub appends-once_at : (o : Option ℕ) (x : Kept) (build : Draft → Draft) → IsAppending build → IsAppending (once_at o x build)
appends-once_at None x build a = appends-then build (keep x) a (appends-keep x)
appends-once_at (Some k) x build a = appends-refer k

pub appends-once : (x : Kept) (build : Draft → Draft) → IsAppending build → IsAppending (once x build)
appends-once x build a = record { each = λ items d. (appends-once_at (key_of x d) x build a).each items d }

pub appends-conses : (k : ℕ) → IsAppending (conses k)
appends-conses zero = appends-none
appends-conses (suc k) = appends-then (say_word word.Cons) (conses k) (appends-say (item.Word word.Cons)) (appends-conses k)

pub appends-each : {A : Type 0} (write : A → Draft → Draft) → ((x : A) → IsAppending (write x)) → (xs : List A) → IsAppending (write_each write xs)
appends-each write a [] = appends-none
appends-each write a (x ∷ xs) = appends-then (write x) (write_each write xs) (a x) (appends-each write a xs)

-- `nil` and so many times `cons`
pub appends-listed : (k : ℕ) → IsAppending (λ d. conses k (say_word word.Nil d))
appends-listed k = appends-then (say_word word.Nil) (conses k) (appends-say (item.Word word.Nil)) (appends-conses k)

pub appends-list : {A : Type 0} (write : A → Draft → Draft) → ((x : A) → IsAppending (write x)) → (xs : List A) → IsAppending (write_list write xs)
appends-list write a xs = appends-then (write_each write xs) (λ d. conses (length xs) (say_word word.Nil d)) (appends-each write a xs)
    (appends-listed (length xs))

pub appends-pair : (one two : Draft → Draft) → IsAppending one → IsAppending two → IsAppending (write_pair one two)
appends-pair one two a b = appends-then (λ d. two (one d)) (λ d. conses 2 (say_word word.Nil d)) (appends-then one two a b) (appends-listed 2)

-- a type is written once, by its parts
pub write_type-once : (t : HolType) (d : Draft) → write_type t d ≡ once (Kept.type t) (build_type t) d
write_type-once (HolType.variable n) d = refl
write_type-once (HolType.operator n ts) d = refl

appends-built : (t : HolType) → IsAppending (build_type t) → IsAppending (write_type t)
appends-built t a = record {
  each = λ items d. write_type-once t (behind items d) ∙ (appends-once (Kept.type t) (build_type t) a).each items d
      ∙ ap (behind items) (sym (write_type-once t d));
}

mutual
  pub appends-build_type : (t : HolType) → IsAppending (build_type t)
  appends-build_type (HolType.variable n) = appends-then (say_name n) (say_word word.VarType) (appends-say (item.Name n)) (appends-say (item.Word word.VarType))
  appends-build_type (HolType.operator n ts) =
      appends-then (λ e. conses (count ts) (say_word word.Nil (write_types ts (say_word word.TypeOp (say_name n e))))) (say_word word.OpType)
      (appends-then (λ e. write_types ts (say_word word.TypeOp (say_name n e))) (λ e. conses (count ts) (say_word word.Nil e))
      (appends-then (λ e. say_word word.TypeOp (say_name n e)) (write_types ts)
      (appends-then (say_name n) (say_word word.TypeOp) (appends-say (item.Name n)) (appends-say (item.Word word.TypeOp)))
      (appends-types ts)) (appends-listed (count ts))) (appends-say (item.Word word.OpType))

  appends-types : (ts : HolTypes) → IsAppending (write_types ts)
  appends-types HolTypes.none = appends-none
  appends-types (HolTypes.more t ts) = appends-then (write_type t) (write_types ts) (appends-built t (appends-build_type t)) (appends-types ts)

pub appends-type : (t : HolType) → IsAppending (write_type t)
appends-type t = appends-built t (appends-build_type t)

pub appends-variable : (v : Variable) → IsAppending (write_variable v)
appends-variable v =
    appends-then (λ d. write_type v.1 (say_name v.0 d)) (say_word word.Var)
    (appends-then (say_name v.0) (write_type v.1) (appends-say (item.Name v.0)) (appends-type v.1)) (appends-say (item.Word word.Var))

appends-shared : (t : Term) (build : Draft → Draft) → IsAppending build → IsAppending (shared t build)
appends-shared t build a = go (loose t == 0)
  where
    go : (b : Bool) → IsAppending (once_closed b t build)
    go true = appends-once (Kept.term t) build a
    go false = a

-- a number has no key
bound-open : (k : ℕ) → (suc k == 0) ≡ false
bound-open k = grind (arith, nat_tests)

-- a term is written by its parts, once where nothing is loose
pub write_under-shared : (q : ℕ) (vs : List Variable) (t : Term) (d : Draft) → write_under q vs t d ≡ shared t (build_under q vs t) d
write_under-shared q vs (Term.free n a) d = refl
write_under-shared q vs (Term.bound k) d = sym (ap (λ b. once_closed b (Term.bound k) (build_under q vs (Term.bound k)) d) (bound-open k))
write_under-shared q vs (Term.constant n a) d = refl
write_under-shared q vs (Term.app f x) d = refl
write_under-shared q vs (Term.lam a b) d = refl

appends-part : (q : ℕ) (vs : List Variable) (t : Term) → IsAppending (build_under q vs t) → IsAppending (write_under q vs t)
appends-part q vs t a = record {
  each = λ items d. write_under-shared q vs t (behind items d) ∙ (appends-shared t (build_under q vs t) a).each items d
      ∙ ap (behind items) (sym (write_under-shared q vs t d));
}

pub appends-build_under : (q : ℕ) (t : Term) (vs : List Variable) → IsAppending (build_under q vs t)
appends-build_under q (Term.free n a) vs = appends-then (write_variable (n, a)) (say_word word.VarTerm) (appends-variable (n, a))
    (appends-say (item.Word word.VarTerm))
appends-build_under q (Term.bound k) vs = appends-then (write_variable (binder_at vs k)) (say_word word.VarTerm) (appends-variable (binder_at vs k))
    (appends-say (item.Word word.VarTerm))
appends-build_under q (Term.constant n a) vs =
    appends-then (λ e. write_type a (say_word word.Const (say_name n e))) (say_word word.ConstTerm)
    (appends-then (λ e. say_word word.Const (say_name n e)) (write_type a)
    (appends-then (say_name n) (say_word word.Const) (appends-say (item.Name n)) (appends-say (item.Word word.Const))) (appends-type a))
    (appends-say (item.Word word.ConstTerm))
appends-build_under q (Term.app f x) vs =
    appends-then (λ e. write_under q vs x (write_under q vs f e)) (say_word word.AppTerm)
    (appends-then (write_under q vs f) (write_under q vs x) (appends-part q vs f (appends-build_under q f vs))
    (appends-part q vs x (appends-build_under q x vs)))
    (appends-say (item.Word word.AppTerm))
appends-build_under q (Term.lam a b) vs =
    let v : Variable = next_binder q vs a in
    appends-then (λ e. write_under q (v ∷ vs) b (write_variable v e)) (say_word word.AbsTerm)
    (appends-then (write_variable v) (write_under q (v ∷ vs) b) (appends-variable v) (appends-part q (v ∷ vs) b (appends-build_under q b (v ∷ vs))))
    (appends-say (item.Word word.AbsTerm))

pub appends-under : (q : ℕ) (vs : List Variable) (t : Term) → IsAppending (write_under q vs t)
appends-under q vs t = appends-part q vs t (appends-build_under q t vs)

-- What is said
pub text-append : (xs ys : List Item) → text_of (xs ++ ys) ≡ text_of xs ++ text_of ys
text-append xs ys = flat_map-append (λ i. item_text i ++ newline ∷ []) xs ys

-- a draft is a fresh one behind its commands
pub behind-fresh : (d : Draft) → behind d.commands (fresh d.kept) ≡ d
behind-fresh d = ap (λ l. record { commands = l; kept = d.kept }) (append-nil d.commands)

pub appended : (g : Draft → Draft) (d : Draft) → IsAppending g → g d ≡ behind d.commands (g (fresh d.kept))
appended g d a = sym (ap g (behind-fresh d)) ∙ a.each d.commands (fresh d.kept)

-- what is kept depends on what is kept before alone
pub kept-same : (g : Draft → Draft) (d e : Draft) → IsAppending g → d.kept ≡ e.kept → (g d).kept ≡ (g e).kept
kept-same g d e a same = ap (λ (x : Draft). x.kept) (appended g d a) ∙ ap (λ l. (g (fresh l)).kept) same ∙ sym (ap (λ (x : Draft). x.kept) (appended g e a))

pub said-then : (f g : Draft → Draft) (kept : List Kept) → IsAppending g → said (λ d. g (f d)) kept ≡ said f kept ++ said g (kept_by f kept)
unfolding said kept_by
said-then f g kept a = ap (λ (x : Draft). text_of x.commands) (appended g (f (fresh kept)) a) ∙ text-append (f (fresh kept)).commands
    (g (fresh (f (fresh kept)).kept)).commands

pub kept_by-then : (f g : Draft → Draft) (kept : List Kept) → IsAppending g → kept_by (λ d. g (f d)) kept ≡ kept_by g (kept_by f kept)
unfolding kept_by
kept_by-then f g kept a = ap (λ (x : Draft). x.kept) (appended g (f (fresh kept)) a)

-- the text of one command
pub one-line : (i : Item) → text_of (i ∷ []) ≡ line i
one-line i = append-nil (line i)

pub said-say : (i : Item) (kept : List Kept) → said (say i) kept ≡ line i
unfolding said
said-say i kept = append-nil (line i)

pub said-behind : (g : Draft → Draft) (items : List Item) (kept : List Kept) → IsAppending g → text_of (g (record { commands = items; kept = kept })).commands
    ≡ text_of items ++ said g kept
unfolding said
said-behind g items kept a = ap (λ (x : Draft). text_of x.commands) (appended g (record { commands = items; kept = kept }) a) ∙ text-append items
    (g (fresh kept)).commands

pub on_ok : {U F P Q : Type 0} (s : Result U F) → (P → Q) → OnOk s P → OnOk s Q
on_ok (Ok v) f h = f h
on_ok (Err x) f h = tt

module _ {T U E F : Type 0} where
  -- one writer after another
  pub tells-then : (f g : Draft → Draft) (k l m : List Kept) (a b c : Option (List ℕ)) (i j n : ℕ) (r : Result T E) (s : Result U F) (v : T)
      → IsAppending g → r ≡ Ok v → Tells f k a i l b j r → Tells g l b j m c n s → Tells (λ d. g (f d)) k a i m c n s
  tells-then f g k l m a b c i j n (Ok w) s v h e first second = record {
    writes = writes_same _ _ (said-then f g k h ∙ ap (λ x. said f k ++ said g x) (sym first.keeps))
        (writes_then a b c i j n (said f k) (said g l) (Ok w) s w refl first.writes second.writes);
    keeps = on_ok s (λ same. same ∙ ap (kept_by g) first.keeps ∙ sym (kept_by-then f g k h)) second.keeps;
  }
  tells-then f g k l m a b c i j n (Err x) s v h e first second = absurd (cc)

  -- the first of two failed
  pub tells-stop : (f g : Draft → Draft) (k l m : List Kept) (a b : Option (List ℕ)) (i j : ℕ) (r : Result T E) (s : Result U F) (x : E)
      → IsAppending g → r ≡ Err x → IsErr s → Tells f k a i l b j r → Tells (λ d. g (f d)) k a i m b j s
  tells-stop f g k l m a b i j (Err y) (Err z) x h e u first =
      record {
        writes = writes_same _ _ (said-then f g k h) (writes_stop a b i j (said f k) (said g (kept_by f k)) (Err y) (Err z) y refl u first.writes);
        keeps = tt;
      }
  tells-stop f g k l m a b i j (Err y) (Ok z) x h e u first = absurd (cc)
  tells-stop f g k l m a b i j (Ok y) s x h e u first = absurd (cc)

-- one command
pub tells-say : {T E : Type 0} (i : Item) (k : List Kept) (a b : Option (List ℕ)) (f g : ℕ) (r : Result T E) → Writes a f (line i) b g r
    → Tells (say i) k a f k b g r
unfolding kept_by
tells-say i k a b f g (Ok v) w = record { writes = writes_same _ _ (said-say i k) w; keeps = refl }
tells-say i k a b f g (Err x) w = record { writes = writes_same _ _ (said-say i k) w; keeps = tt }
