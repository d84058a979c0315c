-- What is counted of a term, part by part.
use Rattle.std.proofs.Common.{◌≡◌, ◌≢◌, ℕ, suc, ◌+◌, ◌==◌, Bool, true, false, List, [], ◌∷◌, ◌++◌, length, None, Some, refl, sym, ap, subst, ◌∙◌, arith}
use Rattle.std.specs.Prelude.{IsSome, unwrap_or}
use Rattle.std.proofs.lemmas.Bool.Decides.{nat_tests}
use Rattle.hol_laws.specs.Members.{All-weaker}
use Rattle.hol_laws.specs.TermLaws.{term_eq-Decides}
use Rattle.hol_spec.specs.Names.{Name}
use Rattle.hol_spec.specs.Types.{HolType}
use Rattle.hol_spec.specs.Limits.{type_size}
use Rattle.hol_spec.specs.Terms.{Term}
use Rattle.hol_spec.specs.TermBinding.{loose}
use Rattle.hol_term.specs.Tables.{Trees, term_at}
use Rattle.article_spec.specs.declared.commands.Word.TheVariants as word
use Rattle.article_write_spec.specs.BinderNames.{binder_name}
use Rattle.article_write_spec.specs.Drafts.{Kept, kept_eq}
use Rattle.article_write_spec.specs.Lengths.{name_length, word_length, told_length, Tally, key_in, key_length, add, note, count_once_at, capped}
use Rattle.article_write_spec.specs.TermLengths.{count_type, count_variable, binder_length, count_binder, closed_or, count_closed, count_under, place_length, HasKey, closed_has, AreKept}
use Rattle.article_write_laws.specs.KeptOnce.{no-key, new-place, IsTypeUpTo}
use Rattle.article_write_laws.specs.CountedOnce.{type-notes, term-notes, app-unnoted, lam-unnoted, place-stays, count-placed, kept-counted, kept-stay}
use Rattle.article_count.specs.declared.memo.Memo.{Memo}
use Rattle.article_lines.specs.Greatest.{greatest_length}
use Rattle.article_count.specs.TermTasks.{ArePlaces, behind, note_if, term_made, IsFinishing, ArePartsMade}

-- Terms without loose numbers
is-closed : (n : ℕ) → n ≡ 0 → (n == 0) ≡ true
is-closed n e = grind (arith, nat_tests, e)

pub closed-AreKept : (kept : List Kept) (t : Term) → loose t ≡ 0 → HasKey kept (Kept.term t) → AreKept kept t
closed-AreKept kept (Term.free n a) e h = h
closed-AreKept kept (Term.bound k) e h = tt
closed-AreKept kept (Term.constant n a) e h = h
closed-AreKept kept (Term.app f x) e h = subst (λ b. closed_has b (HasKey kept (Kept.term (Term.app f x))) (AreKept kept f × AreKept kept x))
    (sym (is-closed (loose (Term.app f x)) e)) h
closed-AreKept kept (Term.lam a b) e h = subst (λ z. closed_has z (HasKey kept (Kept.term (Term.lam a b))) (HasKey kept (Kept.type a) × AreKept kept b))
    (sym (is-closed (loose (Term.lam a b)) e)) h

pub closed-place : (q : ℕ) (kept : List Kept) (d : ℕ) (t : Term) → loose t ≡ 0 → place_length q kept d t ≡ key_length kept (Kept.term t)
closed-place q kept d (Term.free n a) e = refl
closed-place q kept d (Term.bound k) e = absurd (omega (arith, e))
closed-place q kept d (Term.constant n a) e = refl
closed-place q kept d (Term.app f x) e =
    ap (λ b. closed_or b (key_length kept (Kept.term (Term.app f x))) (place_length q kept d f + place_length q kept d x + word_length word.AppTerm))
    (is-closed (loose (Term.app f x)) e)
closed-place q kept d (Term.lam a b) e =
    ap (λ z. closed_or z (key_length kept (Kept.term (Term.lam a b)))
    (name_length (binder_name q d) + key_length kept (Kept.type a) + word_length word.Var + place_length q kept (suc d) b + binder_length kept a b))
    (is-closed (loose (Term.lam a b)) e)

-- one that has a key is told by it
pub closed-told : (q : ℕ) (t : Term) (d : ℕ) (m : Tally) (k : ℕ) → loose t ≡ 0 → key_in m.kept (Kept.term t) ≡ Some k
    → (count_under q d t m ≡ add (told_length k) m) × (place_length q (count_under q d t m).kept d t ≡ told_length k)
closed-told q t d m k e key =
    let has : HasKey m.kept (Kept.term t) = subst IsSome (sym key) refl in
    let place : place_length q m.kept d t ≡ told_length k = closed-place q m.kept d t e ∙ ap (λ o. told_length (unwrap_or o 0)) key in
    let placed : count_under q d t m ≡ add (told_length k) m = count-placed q t d m (closed-AreKept m.kept t e has) ∙ ap (λ n. add n m) place in
    (placed, ap (λ (l : Tally). place_length q l.kept d t) placed ∙ place)

-- one whose place is known
pub known-placed : (q : ℕ) (t : Term) (d : ℕ) (m : Tally) → AreKept m.kept t → (count_under q d t m ≡ add (place_length q m.kept d t) m)
    × (place_length q (count_under q d t m).kept d t ≡ place_length q m.kept d t)
known-placed q t d m h = let placed = count-placed q t d m h in (placed, ap (λ (l : Tally). place_length q l.kept d t) placed)

-- A new key
own-term : (t : Term) → kept_eq (Kept.term t) (Kept.term t) ≡ true
own-term t = (term_eq-Decides t t).1 refl

pub new-length : (kept : List Kept) (t : Term) → key_in kept (Kept.term t) ≡ None → key_length (kept ++ Kept.term t ∷ []) (Kept.term t)
    ≡ told_length (length kept)
new-length kept t none =
    ap (λ o. told_length (unwrap_or o 0)) (new-place (Kept.term t) 0 kept (own-term t) none)
    ∙ (let z : 0 + length kept ≡ length kept = omega arith in ap told_length z)

-- types that are kept more give no term a key
no-type : (t : Term) (n : ℕ) (y : Kept) → IsTypeUpTo n y → kept_eq (Kept.term t) y ≡ false
no-type t n (Kept.type a) h = refl
no-type t n (Kept.term u) h = absurd h
no-type t n (Kept.theorem i) h = absurd h

pub type-no-term : (t : Term) (a : HolType) (m : Tally) → key_in m.kept (Kept.term t) ≡ None → key_in (count_type a m).kept (Kept.term t) ≡ None
type-no-term t a m none =
    let notes = type-notes a m in
    ap (λ l. key_in l (Kept.term t)) notes.is ∙ no-key (Kept.term t) 0 m.kept notes.new none
    (All-weaker (IsTypeUpTo (type_size a)) (λ y. kept_eq (Kept.term t) y ≡ false) (no-type t (type_size a)) notes.new notes.all)

-- Variables and constants
pub free-new : (q d : ℕ) (n : Name) (a : HolType) (m : Tally) → key_in m.kept (Kept.term (Term.free n a)) ≡ None
    → count_under q d (Term.free n a) m ≡ note (Kept.term (Term.free n a)) (add (word_length word.VarTerm) (count_variable n a m))
free-new q d n a m none = ap (λ o. count_once_at o (Kept.term (Term.free n a)) (λ e. add (word_length word.VarTerm) (count_variable n a e)) m) none

pub constant-new : (q d : ℕ) (n : Name) (a : HolType) (m : Tally) → key_in m.kept (Kept.term (Term.constant n a)) ≡ None
    → count_under q d (Term.constant n a) m ≡ note (Kept.term (Term.constant n a))
    (add (word_length word.ConstTerm) (count_type a (add (name_length n + word_length word.Const) m)))
constant-new q d n a m none = ap
    (λ o. count_once_at o (Kept.term (Term.constant n a))
    (λ e. add (word_length word.ConstTerm) (count_type a (add (name_length n + word_length word.Const) e))) m) none

-- Applications and abstractions
pub app-new : (q d : ℕ) (f x : Term) (m : Tally) → (loose (Term.app f x) ≡ 0 → key_in m.kept (Kept.term (Term.app f x)) ≡ None)
    → count_under q d (Term.app f x) m ≡ term_made (Term.app f x) (count_under q d x (count_under q d f m))
app-new q d f x m none = go (loose (Term.app f x) == 0) refl
  where
    go : (b : Bool) → (loose (Term.app f x) == 0) ≡ b
        → count_closed b (Term.app f x) (λ e. add (word_length word.AppTerm) (count_under q d x (count_under q d f e))) m
        ≡ note_if b (Term.app f x) (add (word_length word.AppTerm) (count_under q d x (count_under q d f m)))
    go false e = refl
    go true e = ap (λ o. count_once_at o (Kept.term (Term.app f x)) (λ e. add (word_length word.AppTerm) (count_under q d x (count_under q d f e))) m)
        (none (grind (arith, nat_tests, e)))

pub lam-new : (q d : ℕ) (a : HolType) (b : Term) (m : Tally) → (loose (Term.lam a b) ≡ 0 → key_in m.kept (Kept.term (Term.lam a b)) ≡ None)
    → count_under q d (Term.lam a b) m ≡ term_made (Term.lam a b) (count_under q (suc d) b (count_variable (binder_name q d) a m))
lam-new q d a b m none = go (loose (Term.lam a b) == 0) refl
  where
    go : (z : Bool) → (loose (Term.lam a b) == 0) ≡ z
        → count_closed z (Term.lam a b) (λ e. count_binder a b (count_under q (suc d) b (count_variable (binder_name q d) a e))) m
        ≡ note_if z (Term.lam a b) (count_binder a b (count_under q (suc d) b (count_variable (binder_name q d) a m)))
    go false e = refl
    go true e = ap (λ o. count_once_at o (Kept.term (Term.lam a b)) (λ e. count_binder a b (count_under q (suc d) b (count_variable (binder_name q d) a e))) m)
        (none (grind (arith, nat_tests, e)))

-- what is ready when the parts of an application are counted
pub app-IsFinishing : (q d : ℕ) (f x : Term) (m : Tally) → (loose (Term.app f x) ≡ 0 → key_in m.kept (Kept.term (Term.app f x)) ≡ None)
    → IsFinishing (Term.app f x) (count_under q d x (count_under q d f m))
app-IsFinishing q d f x m none = record {
  new = λ e. app-unnoted q d f x m (none e);
  kept = subst (λ (l : Tally). AreKept l.kept (Term.app f x)) (app-new q d f x m none) (kept-counted q (Term.app f x) d m);
}

pub app-parts : (q d : ℕ) (f x : Term) (m : Tally) (vs : List ℕ)
    → ArePartsMade q d (Term.app f x) (count_under q d x (count_under q d f m))
    (place_length q (count_under q d x (count_under q d f m)).kept d x ∷ place_length q (count_under q d f m).kept d f ∷ vs)
app-parts q d f x m vs =
    let one = count_under q d f m in
    let notes = term-notes q x d one in
    (refl, sym (ap (λ l. place_length q l d f) notes.is ∙ place-stays q one.kept notes.new f d (kept-counted q f d m)))

pub lam-IsFinishing : (q d : ℕ) (a : HolType) (b : Term) (m : Tally) → (loose (Term.lam a b) ≡ 0 → key_in m.kept (Kept.term (Term.lam a b)) ≡ None)
    → IsFinishing (Term.lam a b) (count_under q (suc d) b (count_variable (binder_name q d) a m))
lam-IsFinishing q d a b m none = record {
  new = λ e. lam-unnoted q d a b m (none e);
  kept = subst (λ (l : Tally). AreKept l.kept (Term.lam a b)) (lam-new q d a b m none) (kept-counted q (Term.lam a b) d m);
}

-- Places stay
pub ArePlaces-more : (trees : Trees) (q : ℕ) (kept new : List Kept) (memo : Memo) → ArePlaces trees q kept memo → ArePlaces trees q (kept ++ new) memo
ArePlaces-more trees q kept new memo h p n i =
    let k = h p n i in
    (kept-stay kept new (term_at trees p.id.0) k.0, k.1 ∙ ap (capped greatest_length) (sym (place-stays q kept new (term_at trees p.id.0) p.depth k.0)))

-- What a place adds once its parts are counted
-- of a term without loose numbers its key
pub finished-closed : (q d : ℕ) (t : Term) (m : Tally) → loose t ≡ 0 → key_in m.kept (Kept.term t) ≡ None → (behind t m).kept ≡ m.kept
    → place_length q (term_made t m).kept d t ≡ told_length (length m.kept)
finished-closed q d t m e none same =
    let is : (term_made t m).kept ≡ m.kept ++ Kept.term t ∷ [] =
    ap (λ b. (note_if b t (behind t m)).kept) (is-closed (loose t) e) ∙ ap (λ l. l ++ Kept.term t ∷ []) same in
    ap (λ l. place_length q l d t) is ∙ closed-place q (m.kept ++ Kept.term t ∷ []) d t e ∙ new-length m.kept t none

pub behind-kept : (t : Term) (m : Tally) → (behind t m).kept ≡ m.kept
behind-kept (Term.free n a) m = refl
behind-kept (Term.bound k) m = refl
behind-kept (Term.constant n a) m = refl
behind-kept (Term.app f x) m = refl
behind-kept (Term.lam a b) m = refl

-- of any other what its parts add
pub app-open : (q d : ℕ) (f x : Term) (m : Tally) → loose (Term.app f x) ≢ 0 → place_length q (term_made (Term.app f x) m).kept d (Term.app f x)
    ≡ place_length q m.kept d f + place_length q m.kept d x + word_length word.AppTerm
app-open q d f x m loose_one =
    let off : (loose (Term.app f x) == 0) ≡ false = grind (arith, nat_tests, loose_one) in
    ap (λ b. place_length q (note_if b (Term.app f x) (behind (Term.app f x) m)).kept d (Term.app f x)) off
    ∙ ap (λ b. closed_or b (key_length m.kept (Kept.term (Term.app f x))) (place_length q m.kept d f + place_length q m.kept d x + word_length word.AppTerm))
    off

pub lam-open : (q d : ℕ) (a : HolType) (b : Term) (m : Tally) → loose (Term.lam a b) ≢ 0
    → place_length q (term_made (Term.lam a b) m).kept d (Term.lam a b)
    ≡ name_length (binder_name q d) + key_length m.kept (Kept.type a) + word_length word.Var + place_length q m.kept (suc d) b + binder_length m.kept a b
lam-open q d a b m loose_one =
    let off : (loose (Term.lam a b) == 0) ≡ false = grind (arith, nat_tests, loose_one) in
    ap (λ z. place_length q (note_if z (Term.lam a b) (behind (Term.lam a b) m)).kept d (Term.lam a b)) off
    ∙ ap (λ z. closed_or z (key_length m.kept (Kept.term (Term.lam a b)))
    (name_length (binder_name q d) + key_length m.kept (Kept.type a) + word_length word.Var + place_length q m.kept (suc d) b + binder_length m.kept a b))
    off
