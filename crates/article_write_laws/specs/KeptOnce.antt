-- Each thing is kept once: what is built for a thing that has no key keeps smaller things alone, so that the thing has none when it is built. (For code that holds keys by node.)
use Rattle.std.proofs.Common.{◌≡◌, ℕ, zero, suc, ◌+◌, ◌<◌, ◌≤◌, ◌==◌, Bool, true, false, cond, List, [], ◌∷◌, ◌++◌, length, Option, None, Some, refl, sym, ap, ◌∙◌, arith, append_assoc}
use Rattle.std.specs.List.{AllByRecursion, position_from}
use Rattle.hol_laws.specs.Members.{All-append, All-weaker}
use Rattle.hol_laws.specs.TypeLaws.{type_eq-Decides}
use Rattle.hol_laws.specs.TermLaws.{term_eq-Decides}
use Rattle.hol_spec.specs.Names.{Name}
use Rattle.hol_spec.specs.Types.{HolType, HolTypes, type_eq, count}
use Rattle.hol_spec.specs.Limits.{type_size, types_size, term_size}
use Rattle.hol_spec.specs.Terms.{Term, Variable, term_eq}
use Rattle.hol_spec.specs.TermBinding.{loose}
use Rattle.article_spec.specs.declared.commands.Item.{Item}
use Rattle.article_spec.specs.declared.commands.Word.TheVariants as word
use Rattle.article_write_spec.specs.Drafts.{Kept, kept_eq, Draft, key_of, say, say_name, say_word, keep, refer, once_at, once, conses}
use Rattle.article_write_spec.specs.WrittenTypes.{write_type, write_types, write_variable}
use Rattle.article_write_spec.specs.WrittenTerms.{binder_at, next_binder, once_closed, shared, write_under}
use Rattle.article_write_laws.specs.SymbolUses.{nil-append}

-- what is kept more, and of what kind
pub record Adds (P : Kept → Type 0) (d e : Draft) : Type 0 where
  pub new : List Kept
  pub is : e.kept ≡ d.kept ++ new
  pub all : AllByRecursion P new

-- nothing is kept more
pub adds-none : {P : Kept → Type 0} (d e : Draft) → e.kept ≡ d.kept → Adds P d e
adds-none d e same = record { new = []; is = same ∙ sym (nil-append d.kept); all = tt {0} }

-- one after another
pub adds-then : {P : Kept → Type 0} {d e f : Draft} → Adds P d e → Adds P e f → Adds P d f
adds-then {P = P} {d = d} a b = record
    { new = a.new ++ b.new; is = b.is ∙ ap (λ l. l ++ b.new) a.is ∙ append_assoc d.kept a.new b.new; all = All-append P a.new b.new a.all b.all }

adds-weaker : {P Q : Kept → Type 0} {d e : Draft} → ((x : Kept) → P x → Q x) → Adds P d e → Adds Q d e
adds-weaker {P = P} {Q = Q} f a = record { new = a.new; is = a.is; all = All-weaker P Q f a.new a.all }

adds-kept : {P : Kept → Type 0} {d e : Draft} (x : Kept) → P x → Adds P d e → Adds P d (keep x e)
adds-kept {P = P} {d = d} x p a = record
    { new = a.new ++ x ∷ []; is = ap (λ l. l ++ x ∷ []) a.is ∙ append_assoc d.kept a.new (x ∷ []); all = All-append P a.new (x ∷ []) a.all (p, tt {0}) }

adds-once : {P : Kept → Type 0} (d : Draft) (x : Kept) (build : Draft → Draft) → P x → Adds P d (build d) → Adds P d (once x build d)
adds-once {P = P} d x build p a = go (key_of x d)
  where
    go : (o : Option ℕ) → Adds P d (once_at o x build d)
    go None = adds-kept x p a
    go (Some k) = adds-none d (refer k d) refl

pub kept-conses : (k : ℕ) (d : Draft) → (conses k d).kept ≡ d.kept
kept-conses zero d = refl
kept-conses (suc k) d = kept-conses k (say_word word.Cons d)

-- Keys after that
pub no-key : (x : Kept) (start : ℕ) (xs ys : List Kept) → position_from (kept_eq x) start xs ≡ None → AllByRecursion (λ y. kept_eq x y ≡ false) ys
    → position_from (kept_eq x) start (xs ++ ys) ≡ None
no-key x start [] [] e h = refl
no-key x start [] (y ∷ ys) e h = ap (λ b. cond b (Some start) (position_from (kept_eq x) (start + 1) ys)) h.0 ∙ no-key x (start + 1) [] ys refl h.1
no-key x start (z ∷ xs) ys e h = go (kept_eq x z) e (no-key x (start + 1) xs ys)
  where
    go : (b : Bool) → cond b (Some start) (position_from (kept_eq x) (start + 1) xs) ≡ None
        → (position_from (kept_eq x) (start + 1) xs ≡ None → AllByRecursion (λ y. kept_eq x y ≡ false) ys → position_from (kept_eq x) (start + 1) (xs ++ ys)
        ≡ None)
        → cond b (Some start) (position_from (kept_eq x) (start + 1) (xs ++ ys)) ≡ None
    go true f g = absurd (cc)
    go false f g = g f h

pub still-no-key : (P : Kept → Type 0) (x : Kept) (d e : Draft) → key_of x d ≡ None → Adds P d e → ((y : Kept) → P y → kept_eq x y ≡ false) → key_of x e ≡ None
still-no-key P x d e none a f = ap (position_from (kept_eq x) 0) a.is ∙ no-key x 0 d.kept a.new none (All-weaker P (λ y. kept_eq x y ≡ false) f a.new a.all)

pub new-place : (x : Kept) (start : ℕ) (xs : List Kept) → kept_eq x x ≡ true → position_from (kept_eq x) start xs ≡ None
    → position_from (kept_eq x) start (xs ++ x ∷ []) ≡ Some (start + length xs)
new-place x start [] own e = ap (λ b. cond b (Some start) None) own ∙ (let z : start ≡ start + 0 = omega arith in ap Some z)
new-place x start (y ∷ xs) own e = go (kept_eq x y) e (new-place x (start + 1) xs own)
  where
    go : (b : Bool) → cond b (Some start) (position_from (kept_eq x) (start + 1) xs) ≡ None
        → (position_from (kept_eq x) (start + 1) xs ≡ None → position_from (kept_eq x) (start + 1) (xs ++ x ∷ []) ≡ Some (start + 1 + length xs))
        → cond b (Some start) (position_from (kept_eq x) (start + 1) (xs ++ x ∷ [])) ≡ Some (start + suc (length xs))
    go true f g = absurd (cc)
    go false f g = g f ∙ (let z : start + 1 + length xs ≡ start + suc (length xs) = omega arith in ap Some z)

-- what had no key gets the next one
pub new-key : (x : Kept) (d : Draft) → kept_eq x x ≡ true → key_of x d ≡ None → key_of x (keep x d) ≡ Some (length d.kept)
new-key x d own e = new-place x 0 d.kept own e ∙ (let z : 0 + length d.kept ≡ length d.kept = omega arith in ap Some z)

-- Types
abbrev pub IsTypeUpTo : ℕ → Kept → Type 0
IsTypeUpTo m (Kept.type a) = type_size a ≤ m
IsTypeUpTo m (Kept.term t) = ⊥
IsTypeUpTo m (Kept.theorem i) = ⊥

pub up : (m n : ℕ) → m ≤ n → (x : Kept) → IsTypeUpTo m x → IsTypeUpTo n x
up m n le (Kept.type a) h = omega (arith, le, h)
up m n le (Kept.term t) h = absurd h
up m n le (Kept.theorem i) h = absurd h

-- what is built for an operator keeps its arguments' parts alone
built-from : (n : Name) (ts : HolTypes) (d : Draft)
    → Adds (IsTypeUpTo (types_size ts)) (say_word word.TypeOp (say_name n d)) (write_types ts (say_word word.TypeOp (say_name n d)))
    → Adds (IsTypeUpTo (types_size ts)) d (say_word word.OpType (conses (count ts) (say_word word.Nil (write_types ts (say_word word.TypeOp (say_name n d))))))
built-from n ts d a = record
    { new = a.new; is = kept-conses (count ts) (say_word word.Nil (write_types ts (say_word word.TypeOp (say_name n d)))) ∙ a.is; all = a.all }

mutual
  pub type-adds : (t : HolType) (d : Draft) → Adds (IsTypeUpTo (type_size t)) d (write_type t d)
  type-adds (HolType.variable n) d =
      adds-once d (Kept.type (HolType.variable n)) (λ e. say_word word.VarType (say_name n e)) (omega arith)
      (adds-none d (say_word word.VarType (say_name n d)) refl)
  type-adds (HolType.operator n ts) d =
      adds-once d (Kept.type (HolType.operator n ts))
      (λ e. say_word word.OpType (conses (count ts) (say_word word.Nil (write_types ts (say_word word.TypeOp (say_name n e)))))) (omega arith)
      (adds-weaker (up (types_size ts) (type_size (HolType.operator n ts)) (omega arith))
      (built-from n ts d (types-add ts (say_word word.TypeOp (say_name n d)))))

  pub types-add : (ts : HolTypes) (d : Draft) → Adds (IsTypeUpTo (types_size ts)) d (write_types ts d)
  types-add HolTypes.none d = adds-none d d refl
  types-add (HolTypes.more t ts) d =
      adds-then (adds-weaker (up (type_size t) (types_size (HolTypes.more t ts)) (omega arith)) (type-adds t d))
      (adds-weaker (up (types_size ts) (types_size (HolTypes.more t ts)) (omega arith)) (types-add ts (write_type t d)))

pub smaller-type : (t : HolType) (m : ℕ) → m < type_size t → (y : Kept) → IsTypeUpTo m y → kept_eq (Kept.type t) y ≡ false
smaller-type t m less (Kept.type a) h = go (type_eq t a) (type_eq-Decides t a).0
  where
    go : (b : Bool) → (b ≡ true → t ≡ a) → b ≡ false
    go false f = refl
    go true f = absurd (let e = ap type_size (f refl) in omega (arith, e, less, h))
smaller-type t m less (Kept.term u) h = absurd h
smaller-type t m less (Kept.theorem i) h = absurd h

-- so an operator has no key when it is built
pub type-built : (n : _) (ts : HolTypes) (d : Draft) → key_of (Kept.type (HolType.operator n ts)) d ≡ None
    → key_of (Kept.type (HolType.operator n ts))
    (say_word word.OpType (conses (count ts) (say_word word.Nil (write_types ts (say_word word.TypeOp (say_name n d)))))) ≡ None
type-built n ts d none =
    still-no-key (IsTypeUpTo (types_size ts)) (Kept.type (HolType.operator n ts)) d
    (say_word word.OpType (conses (count ts) (say_word word.Nil (write_types ts (say_word word.TypeOp (say_name n d)))))) none
    (built-from n ts d (types-add ts (say_word word.TypeOp (say_name n d))))
    (smaller-type (HolType.operator n ts) (types_size ts) (omega arith))

-- Terms
abbrev pub IsTermUpTo : ℕ → Kept → Type 0
IsTermUpTo m (Kept.type a) = Unit {0}
IsTermUpTo m (Kept.term t) = term_size t ≤ m
IsTermUpTo m (Kept.theorem i) = ⊥

pub term-up : (m n : ℕ) → m ≤ n → (x : Kept) → IsTermUpTo m x → IsTermUpTo n x
term-up m n le (Kept.type a) h = tt
term-up m n le (Kept.term t) h = omega (arith, le, h)
term-up m n le (Kept.theorem i) h = absurd h

pub any-type : (m n : ℕ) (x : Kept) → IsTypeUpTo m x → IsTermUpTo n x
any-type m n (Kept.type a) h = tt
any-type m n (Kept.term t) h = absurd h
any-type m n (Kept.theorem i) h = absurd h

variable-adds : (n : ℕ) (v : Variable) (d : Draft) → Adds (IsTermUpTo n) d (write_variable v d)
variable-adds n v d = let a = type-adds v.1 (say_name v.0 d) in adds-weaker {d = d} {e = write_variable v d} (any-type (type_size v.1) n)
    (record { new = a.new; is = a.is; all = a.all })

-- what is said behind keeps nothing
said-behind : {P : Kept → Type 0} {d e : Draft} (i : Item) → Adds P d e → Adds P d (say i e)
said-behind i a = record { new = a.new; is = a.is; all = a.all }

adds-shared : {P : Kept → Type 0} (d : Draft) (t : Term) (build : Draft → Draft) → P (Kept.term t) → Adds P d (build d) → Adds P d (shared t build d)
adds-shared {P = P} d t build p a = go (loose t == 0)
  where
    go : (b : Bool) → Adds P d (once_closed b t build d)
    go true = adds-once d (Kept.term t) build p a
    go false = a

-- what is built for an application, and for an abstraction
app-from : (q : ℕ) (f x : Term) (vs : List Variable) (d : Draft) → Adds (IsTermUpTo (term_size f)) d (write_under q vs f d)
    → Adds (IsTermUpTo (term_size x)) (write_under q vs f d) (write_under q vs x (write_under q vs f d))
    → Adds (IsTermUpTo (term_size f + term_size x)) d (say_word word.AppTerm (write_under q vs x (write_under q vs f d)))
app-from q f x vs d a b = said-behind _
    (adds-then (adds-weaker (term-up (term_size f) (term_size f + term_size x) (omega arith)) a)
    (adds-weaker (term-up (term_size x) (term_size f + term_size x) (omega arith)) b))

lam-from : (q : ℕ) (a : HolType) (b : Term) (vs : List Variable) (d : Draft)
    → Adds (IsTermUpTo (term_size b)) (write_variable (next_binder q vs a) d)
    (write_under q (next_binder q vs a ∷ vs) b (write_variable (next_binder q vs a) d))
    → Adds (IsTermUpTo (term_size b)) d (say_word word.AbsTerm (write_under q (next_binder q vs a ∷ vs) b (write_variable (next_binder q vs a) d)))
lam-from q a b vs d h = said-behind _ (adds-then (variable-adds (term_size b) (next_binder q vs a) d) h)

pub term-adds : (q : ℕ) (t : Term) (vs : List Variable) (d : Draft) → Adds (IsTermUpTo (term_size t)) d (write_under q vs t d)
term-adds q (Term.free n a) vs d = adds-shared d (Term.free n a) (λ e. say_word word.VarTerm (write_variable (n, a) e)) (omega arith)
    (said-behind _ (variable-adds (term_size (Term.free n a)) (n, a) d))
term-adds q (Term.bound k) vs d = said-behind _ (variable-adds 1 (binder_at vs k) d)
term-adds q (Term.constant n a) vs d =
    let b = type-adds a (say_word word.Const (say_name n d)) in
    adds-shared d (Term.constant n a) (λ e. say_word word.ConstTerm (write_type a (say_word word.Const (say_name n e)))) (omega arith)
    (said-behind _ (adds-weaker {d = d} {e = write_type a (say_word word.Const (say_name n d))} (any-type (type_size a) (term_size (Term.constant n a)))
    (record { new = b.new; is = b.is; all = b.all })))
term-adds q (Term.app f x) vs d =
    adds-shared d (Term.app f x) (λ e. say_word word.AppTerm (write_under q vs x (write_under q vs f e))) (omega arith)
    (adds-weaker (term-up (term_size f + term_size x) (term_size (Term.app f x)) (omega arith))
    (app-from q f x vs d (term-adds q f vs d) (term-adds q x vs (write_under q vs f d))))
term-adds q (Term.lam a b) vs d =
    let v : Variable = next_binder q vs a in
    adds-shared d (Term.lam a b) (λ e. say_word word.AbsTerm (write_under q (v ∷ vs) b (write_variable v e))) (omega arith)
    (adds-weaker (term-up (term_size b) (term_size (Term.lam a b)) (omega arith)) (lam-from q a b vs d (term-adds q b (v ∷ vs) (write_variable v d))))

pub smaller-term : (t : Term) (m : ℕ) → m < term_size t → (y : Kept) → IsTermUpTo m y → kept_eq (Kept.term t) y ≡ false
smaller-term t m less (Kept.type a) h = refl
smaller-term t m less (Kept.term u) h = go (term_eq t u) (term_eq-Decides t u).0
  where
    go : (b : Bool) → (b ≡ true → t ≡ u) → b ≡ false
    go false f = refl
    go true f = absurd (let e = ap term_size (f refl) in omega (arith, e, less, h))
smaller-term t m less (Kept.theorem i) h = absurd h

-- so neither has a key when it is built
pub app-built : (q : ℕ) (f x : Term) (vs : List Variable) (d : Draft) → key_of (Kept.term (Term.app f x)) d ≡ None
    → key_of (Kept.term (Term.app f x)) (say_word word.AppTerm (write_under q vs x (write_under q vs f d))) ≡ None
app-built q f x vs d none =
    still-no-key (IsTermUpTo (term_size f + term_size x)) (Kept.term (Term.app f x)) d (say_word word.AppTerm (write_under q vs x (write_under q vs f d))) none
    (app-from q f x vs d (term-adds q f vs d) (term-adds q x vs (write_under q vs f d)))
    (smaller-term (Term.app f x) (term_size f + term_size x) (omega arith))

pub lam-built : (q : ℕ) (a : HolType) (b : Term) (vs : List Variable) (d : Draft) → key_of (Kept.term (Term.lam a b)) d ≡ None
    → key_of (Kept.term (Term.lam a b)) (say_word word.AbsTerm (write_under q (next_binder q vs a ∷ vs) b (write_variable (next_binder q vs a) d))) ≡ None
lam-built q a b vs d none =
    still-no-key (IsTermUpTo (term_size b)) (Kept.term (Term.lam a b)) d
    (say_word word.AbsTerm (write_under q (next_binder q vs a ∷ vs) b (write_variable (next_binder q vs a) d))) none
    (lam-from q a b vs d (term-adds q b (next_binder q vs a ∷ vs) (write_variable (next_binder q vs a) d)))
    (smaller-term (Term.lam a b) (term_size b) (omega arith))
