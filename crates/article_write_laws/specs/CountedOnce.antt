-- For code that counts an article with the keys held by node: a type, and a term without loose numbers, has no key when it is built; what has keys for all
-- that it tells by keys adds the length of its place, and keeps nothing; and what was counted has such keys from then on.
use Rattle.std.proofs.Common.{◌≡◌, ℕ, suc, ◌+◌, ◌*◌, ◌==◌, Bool, true, false, List, [], ◌∷◌, ◌++◌, length, Option, None, Some, refl, sym, ap, ap₂, subst, ◌∙◌, arith, append_assoc}
use Rattle.std.specs.Prelude.{IsSome, unwrap_or}
use Rattle.std.specs.List.{AllByRecursion}
use Rattle.hol_laws.specs.Members.{All-append, All-weaker}
use Rattle.hol_spec.specs.Names.{Name}
use Rattle.hol_spec.specs.Types.{HolType, HolTypes, count}
use Rattle.hol_spec.specs.Limits.{type_size, types_size, term_size}
use Rattle.hol_spec.specs.Terms.{Term}
use Rattle.hol_spec.specs.TermBinding.{loose}
use Rattle.hol_laws.specs.TermLaws.{term_eq-Decides}
use Rattle.article_spec.specs.declared.commands.Word.TheVariants as word
use Rattle.article_write_spec.specs.BinderNames.{binder_name}
use Rattle.article_write_spec.specs.Drafts.{Kept, kept_eq}
use Rattle.article_write_spec.specs.Lengths.{name_length, word_length, told_length, Tally, key_in, key_length, add, count_once_at, count_once}
use Rattle.article_write_spec.specs.TermLengths.{count_type, count_types, count_variable, uses, binder_length, count_binder, closed_or, count_closed, count_shared, count_under, place_length, HasKey, closed_has, AreKept}
use Rattle.article_write_laws.specs.KeptOnce.{no-key, IsTypeUpTo, IsTermUpTo, up, term-up, any-type, smaller-type, smaller-term}
use Rattle.article_write_laws.specs.GivenWriting.{position-more}
use Rattle.article_write_laws.specs.SymbolUses.{nil-append}
use Rattle.article_write_laws.specs.CountedTerms.{some-last, own-type}

-- What is kept more
pub record Notes (P : Kept → Type 0) (xs ys : List Kept) : Type 0 where
  pub new : List Kept
  pub is : ys ≡ xs ++ new
  pub all : AllByRecursion P new

notes-none : {P : Kept → Type 0} (xs : List Kept) → Notes P xs xs
notes-none xs = record { new = []; is = sym (nil-append xs); all = tt {0} }

notes-then : {P : Kept → Type 0} {xs ys zs : List Kept} → Notes P xs ys → Notes P ys zs → Notes P xs zs
notes-then {P = P} {xs = xs} a b = record
    { new = a.new ++ b.new; is = b.is ∙ ap (λ l. l ++ b.new) a.is ∙ append_assoc xs a.new b.new; all = All-append P a.new b.new a.all b.all }

notes-weaker : {P Q : Kept → Type 0} {xs ys : List Kept} → ((x : Kept) → P x → Q x) → Notes P xs ys → Notes Q xs ys
notes-weaker {P = P} {Q = Q} f a = record { new = a.new; is = a.is; all = All-weaker P Q f a.new a.all }

notes-one : {P : Kept → Type 0} {xs ys : List Kept} (x : Kept) → P x → Notes P xs ys → Notes P xs (ys ++ x ∷ [])
notes-one {P = P} {xs = xs} x p a = record
    { new = a.new ++ x ∷ []; is = ap (λ l. l ++ x ∷ []) a.is ∙ append_assoc xs a.new (x ∷ []); all = All-append P a.new (x ∷ []) a.all (p, tt {0}) }

notes-once : {P : Kept → Type 0} (m : Tally) (x : Kept) (build : Tally → Tally) → P x → Notes P m.kept (build m).kept
    → Notes P m.kept (count_once x build m).kept
notes-once {P = P} m x build p a = go (key_in m.kept x)
  where
    go : (o : Option ℕ) → Notes P m.kept (count_once_at o x build m).kept
    go None = notes-one x p a
    go (Some k) = notes-none m.kept

-- what had no key has none after smaller things were kept
still-none : {P : Kept → Type 0} {xs ys : List Kept} (x : Kept) → key_in xs x ≡ None → Notes P xs ys → ((y : Kept) → P y → kept_eq x y ≡ false)
    → key_in ys x ≡ None
still-none {P = P} {xs = xs} x none a f = ap (λ l. key_in l x) a.is ∙ no-key x 0 xs a.new none (All-weaker P (λ y. kept_eq x y ≡ false) f a.new a.all)

-- Types
mutual
  pub type-notes : (t : HolType) (m : Tally) → Notes (IsTypeUpTo (type_size t)) m.kept (count_type t m).kept
  type-notes (HolType.variable n) m = notes-once m (Kept.type (HolType.variable n)) (add (name_length n + word_length word.VarType)) (omega arith)
      (notes-none m.kept)
  type-notes (HolType.operator n ts) m =
      notes-once m (Kept.type (HolType.operator n ts))
      (λ e. add (word_length word.Nil + count ts * word_length word.Cons + word_length word.OpType)
      (count_types ts (add (name_length n + word_length word.TypeOp) e))) (omega arith)
      (notes-weaker (up (types_size ts) (type_size (HolType.operator n ts)) (omega arith)) (types-note ts (add (name_length n + word_length word.TypeOp) m)))

  pub types-note : (ts : HolTypes) (m : Tally) → Notes (IsTypeUpTo (types_size ts)) m.kept (count_types ts m).kept
  types-note HolTypes.none m = notes-none m.kept
  types-note (HolTypes.more t ts) m =
      notes-then (notes-weaker (up (type_size t) (types_size (HolTypes.more t ts)) (omega arith)) (type-notes t m))
      (notes-weaker (up (types_size ts) (types_size (HolTypes.more t ts)) (omega arith)) (types-note ts (count_type t m)))

-- so an operator has no key when its arguments are counted
pub type-unnoted : (n : Name) (ts : HolTypes) (m : Tally) (k : ℕ) → key_in m.kept (Kept.type (HolType.operator n ts)) ≡ None
    → key_in (count_types ts (add k m)).kept (Kept.type (HolType.operator n ts)) ≡ None
type-unnoted n ts m k none = still-none (Kept.type (HolType.operator n ts)) none (types-note ts (add k m))
    (smaller-type (HolType.operator n ts) (types_size ts) (omega arith))

-- Terms
variable-notes : (k : ℕ) (n : Name) (a : HolType) (m : Tally) → Notes (IsTermUpTo k) m.kept (count_variable n a m).kept
variable-notes k n a m = notes-weaker (any-type (type_size a) k) (type-notes a (add (name_length n) m))

notes-shared : {P : Kept → Type 0} (m : Tally) (t : Term) (build : Tally → Tally) → P (Kept.term t) → Notes P m.kept (build m).kept
    → Notes P m.kept (count_shared t build m).kept
notes-shared {P = P} m t build p a = go (loose t == 0)
  where
    go : (b : Bool) → Notes P m.kept (count_closed b t build m).kept
    go true = notes-once m (Kept.term t) build p a
    go false = a

app-from : (f x : Term) {xs ys zs : List Kept} → Notes (IsTermUpTo (term_size f)) xs ys → Notes (IsTermUpTo (term_size x)) ys zs
    → Notes (IsTermUpTo (term_size f + term_size x)) xs zs
app-from f x a b = notes-then (notes-weaker (term-up (term_size f) (term_size f + term_size x) (omega arith)) a)
    (notes-weaker (term-up (term_size x) (term_size f + term_size x) (omega arith)) b)

module _ (q : ℕ) where
  pub term-notes : (t : Term) (d : ℕ) (m : Tally) → Notes (IsTermUpTo (term_size t)) m.kept (count_under q d t m).kept
  term-notes (Term.free n a) d m = notes-shared m (Term.free n a) (λ e. add (word_length word.VarTerm) (count_variable n a e)) (omega arith)
      (variable-notes (term_size (Term.free n a)) n a m)
  term-notes (Term.bound k) d m = notes-none m.kept
  term-notes (Term.constant n a) d m =
      notes-shared m (Term.constant n a) (λ e. add (word_length word.ConstTerm) (count_type a (add (name_length n + word_length word.Const) e))) (omega arith)
      (notes-weaker (any-type (type_size a) (term_size (Term.constant n a))) (type-notes a (add (name_length n + word_length word.Const) m)))
  term-notes (Term.app f x) d m =
      notes-shared m (Term.app f x) (λ e. add (word_length word.AppTerm) (count_under q d x (count_under q d f e))) (omega arith)
      (notes-weaker (term-up (term_size f + term_size x) (term_size (Term.app f x)) (omega arith))
      (app-from f x (term-notes f d m) (term-notes x d (count_under q d f m))))
  term-notes (Term.lam a b) d m =
      notes-shared m (Term.lam a b) (λ e. count_binder a b (count_under q (suc d) b (count_variable (binder_name q d) a e))) (omega arith)
      (notes-weaker (term-up (term_size b) (term_size (Term.lam a b)) (omega arith))
      (notes-then (variable-notes (term_size b) (binder_name q d) a m) (term-notes b (suc d) (count_variable (binder_name q d) a m))))

  -- so neither has a key when its parts are counted
  pub app-unnoted : (d : ℕ) (f x : Term) (m : Tally) → key_in m.kept (Kept.term (Term.app f x)) ≡ None
      → key_in (count_under q d x (count_under q d f m)).kept (Kept.term (Term.app f x)) ≡ None
  app-unnoted d f x m none =
      still-none (Kept.term (Term.app f x)) none (app-from f x (term-notes f d m) (term-notes x d (count_under q d f m)))
      (smaller-term (Term.app f x) (term_size f + term_size x) (omega arith))

  pub lam-unnoted : (d : ℕ) (a : HolType) (b : Term) (m : Tally) → key_in m.kept (Kept.term (Term.lam a b)) ≡ None
      → key_in (count_under q (suc d) b (count_variable (binder_name q d) a m)).kept (Kept.term (Term.lam a b)) ≡ None
  lam-unnoted d a b m none =
      still-none (Kept.term (Term.lam a b)) none
      (notes-then (variable-notes (term_size b) (binder_name q d) a m) (term-notes b (suc d) (count_variable (binder_name q d) a m)))
      (smaller-term (Term.lam a b) (term_size b) (omega arith))

-- What has keys for all that it tells by keys
has-key : (kept : List Kept) (x : Kept) → HasKey kept x → (k : ℕ) × (key_in kept x ≡ Some k)
has-key kept x h = go (key_in kept x) h
  where
    go : (o : Option ℕ) → IsSome o → (k : ℕ) × (o ≡ Some k)
    go None i = absurd (cc)
    go (Some k) i = (k, refl)

pub key-more : (kept new : List Kept) (x : Kept) (k : ℕ) → key_in kept x ≡ Some k → key_in (kept ++ new) x ≡ Some k
key-more kept new x k e = position-more x 0 kept new k e

pub has-more : (kept new : List Kept) (x : Kept) → HasKey kept x → HasKey (kept ++ new) x
has-more kept new x h = let k = has-key kept x h in subst IsSome (sym (key-more kept new x k.0 k.1)) refl

-- and they stay
pub length-more : (kept new : List Kept) (x : Kept) → HasKey kept x → key_length (kept ++ new) x ≡ key_length kept x
length-more kept new x h = let k = has-key kept x h in ap (λ o. told_length (unwrap_or o 0)) (key-more kept new x k.0 k.1 ∙ sym k.1)

closed-more : (b : Bool) (P Q R S : Type 0) → (P → R) → (Q → S) → closed_has b P Q → closed_has b R S
closed-more true P Q R S f g h = f h
closed-more false P Q R S f g h = g h

pub kept-stay : (kept new : List Kept) (t : Term) → AreKept kept t → AreKept (kept ++ new) t
kept-stay kept new (Term.free n a) h = has-more kept new (Kept.term (Term.free n a)) h
kept-stay kept new (Term.bound k) h = tt
kept-stay kept new (Term.constant n a) h = has-more kept new (Kept.term (Term.constant n a)) h
kept-stay kept new (Term.app f x) h =
    closed-more (loose (Term.app f x) == 0) (HasKey kept (Kept.term (Term.app f x))) (AreKept kept f × AreKept kept x)
    (HasKey (kept ++ new) (Kept.term (Term.app f x))) (AreKept (kept ++ new) f × AreKept (kept ++ new) x)
    (has-more kept new (Kept.term (Term.app f x))) (λ p. (kept-stay kept new f p.0, kept-stay kept new x p.1)) h
kept-stay kept new (Term.lam a b) h =
    closed-more (loose (Term.lam a b) == 0) (HasKey kept (Kept.term (Term.lam a b))) (HasKey kept (Kept.type a) × AreKept kept b)
    (HasKey (kept ++ new) (Kept.term (Term.lam a b))) (HasKey (kept ++ new) (Kept.type a) × AreKept (kept ++ new) b)
    (has-more kept new (Kept.term (Term.lam a b))) (λ p. (has-more kept new (Kept.type a) p.0, kept-stay kept new b p.1)) h

module _ (q : ℕ) where
  -- the length of a place stays
  pub place-stays : (kept new : List Kept) (t : Term) (d : ℕ) → AreKept kept t → place_length q (kept ++ new) d t ≡ place_length q kept d t
  place-stays kept new (Term.free n a) d h = length-more kept new (Kept.term (Term.free n a)) h
  place-stays kept new (Term.bound k) d h = refl
  place-stays kept new (Term.constant n a) d h = length-more kept new (Kept.term (Term.constant n a)) h
  place-stays kept new (Term.app f x) d h = go (loose (Term.app f x) == 0) h (place-stays kept new f d) (place-stays kept new x d)
    where
      go : (b : Bool) → closed_has b (HasKey kept (Kept.term (Term.app f x))) (AreKept kept f × AreKept kept x)
          → (AreKept kept f → place_length q (kept ++ new) d f ≡ place_length q kept d f)
          → (AreKept kept x → place_length q (kept ++ new) d x ≡ place_length q kept d x)
          → closed_or b (key_length (kept ++ new) (Kept.term (Term.app f x)))
          (place_length q (kept ++ new) d f + place_length q (kept ++ new) d x + word_length word.AppTerm)
          ≡ closed_or b (key_length kept (Kept.term (Term.app f x))) (place_length q kept d f + place_length q kept d x + word_length word.AppTerm)
      go true h one two = length-more kept new (Kept.term (Term.app f x)) h
      go false h one two = ap₂ (λ m n. m + n + word_length word.AppTerm) (one h.0) (two h.1)
  place-stays kept new (Term.lam a b) d h = go (loose (Term.lam a b) == 0) h (place-stays kept new b (suc d))
    where
      go : (z : Bool) → closed_has z (HasKey kept (Kept.term (Term.lam a b))) (HasKey kept (Kept.type a) × AreKept kept b)
          → (AreKept kept b → place_length q (kept ++ new) (suc d) b ≡ place_length q kept (suc d) b)
          → closed_or z (key_length (kept ++ new) (Kept.term (Term.lam a b)))
          (name_length (binder_name q d) + key_length (kept ++ new) (Kept.type a) + word_length word.Var + place_length q (kept ++ new) (suc d) b +
          binder_length (kept ++ new) a b)
          ≡ closed_or z (key_length kept (Kept.term (Term.lam a b)))
          (name_length (binder_name q d) + key_length kept (Kept.type a) + word_length word.Var + place_length q kept (suc d) b + binder_length kept a b)
      go true h one = length-more kept new (Kept.term (Term.lam a b)) h
      go false h one =
          ap₂ (λ m n. name_length (binder_name q d) + m + word_length word.Var + n + (uses 0 b * m + word_length word.AbsTerm))
          (length-more kept new (Kept.type a) h.0) (one h.1)

  -- A place adds its length, and keeps nothing
  counted-once : (x : Kept) (build : Tally → Tally) (m : Tally) → HasKey m.kept x → count_once x build m ≡ add (key_length m.kept x) m
  counted-once x build m h =
      let k = has-key m.kept x h in
      ap (λ o. count_once_at o x build m) k.1 ∙ ap (λ o. add (told_length (unwrap_or o 0)) m) (sym k.1)

  pub type-placed : (a : HolType) (m : Tally) → HasKey m.kept (Kept.type a) → count_type a m ≡ add (key_length m.kept (Kept.type a)) m
  type-placed (HolType.variable n) m h = counted-once (Kept.type (HolType.variable n)) _ m h
  type-placed (HolType.operator n ts) m h = counted-once (Kept.type (HolType.operator n ts)) _ m h

  added : (k n : ℕ) (m : Tally) → k ≡ n → add k m ≡ add n m
  added k n m e = ap (λ i. add i m) e

  free-closed : (t : Term) (build : Tally → Tally) (m : Tally) → loose t ≡ 0 → HasKey m.kept (Kept.term t)
      → count_shared t build m ≡ add (key_length m.kept (Kept.term t)) m
  free-closed t build m e h = ap (λ l. count_closed (l == 0) t build m) e ∙ counted-once (Kept.term t) build m h

  pub count-placed : (t : Term) (d : ℕ) (m : Tally) → AreKept m.kept t → count_under q d t m ≡ add (place_length q m.kept d t) m
  count-placed (Term.free n a) d m h = free-closed (Term.free n a) (λ e. add (word_length word.VarTerm) (count_variable n a e)) m refl h
  count-placed (Term.bound k) d m h = refl
  count-placed (Term.constant n a) d m h = free-closed (Term.constant n a)
      (λ e. add (word_length word.ConstTerm) (count_type a (add (name_length n + word_length word.Const) e))) m refl h
  count-placed (Term.app f x) d m h = go (loose (Term.app f x) == 0) h (count-placed f d m) (λ n. count-placed x d (add n m))
    where
      build : Tally → Tally
      build e = add (word_length word.AppTerm) (count_under q d x (count_under q d f e))

      go : (b : Bool) → closed_has b (HasKey m.kept (Kept.term (Term.app f x))) (AreKept m.kept f × AreKept m.kept x)
          → (AreKept m.kept f → count_under q d f m ≡ add (place_length q m.kept d f) m)
          → ((n : ℕ) → AreKept m.kept x → count_under q d x (add n m) ≡ add (place_length q m.kept d x) (add n m))
          → count_closed b (Term.app f x) (λ e. add (word_length word.AppTerm) (count_under q d x (count_under q d f e))) m
          ≡ add (closed_or b (key_length m.kept (Kept.term (Term.app f x))) (place_length q m.kept d f + place_length q m.kept d x + word_length word.AppTerm))
          m
      go true h one two = counted-once (Kept.term (Term.app f x)) _ m h
      go false h one two =
          ap (λ e. add (word_length word.AppTerm) (count_under q d x e)) (one h.0) ∙ ap (add (word_length word.AppTerm)) (two (place_length q m.kept d f) h.1)
          ∙ ap (λ n. record m { length = n }) (let z : m.length + place_length q m.kept d f + place_length q m.kept d x + word_length word.AppTerm
          ≡ m.length + (place_length q m.kept d f + place_length q m.kept d x + word_length word.AppTerm) = omega arith in z)
  count-placed (Term.lam a b) d m h = go (loose (Term.lam a b) == 0) h (λ n. count-placed b (suc d) (add n m))
    where
      go : (z : Bool) → closed_has z (HasKey m.kept (Kept.term (Term.lam a b))) (HasKey m.kept (Kept.type a) × AreKept m.kept b)
          → ((n : ℕ) → AreKept m.kept b → count_under q (suc d) b (add n m) ≡ add (place_length q m.kept (suc d) b) (add n m))
          → count_closed z (Term.lam a b) (λ e. count_binder a b (count_under q (suc d) b (count_variable (binder_name q d) a e))) m
          ≡ add (closed_or z (key_length m.kept (Kept.term (Term.lam a b)))
          (name_length (binder_name q d) + key_length m.kept (Kept.type a) + word_length word.Var + place_length q m.kept (suc d) b + binder_length m.kept a
          b)) m
      go true h one = counted-once (Kept.term (Term.lam a b)) _ m h
      go false h one =
          let i = name_length (binder_name q d) in
          let k = key_length m.kept (Kept.type a) in
          let v = word_length word.Var in
          let p = place_length q m.kept (suc d) b in
          let w = binder_length m.kept a b in
          let variable : count_variable (binder_name q d) a m ≡ add (i + k + v) m =
          ap (add v) (type-placed a (add i m) h.0)
          ∙ ap (λ n. record m { length = n }) (let z : m.length + i + k + v ≡ m.length + (i + k + v) = omega arith in z) in
          ap (λ e. count_binder a b (count_under q (suc d) b e)) variable ∙ ap (count_binder a b) (one (i + k + v) h.1)
          ∙ ap (λ n. record m { length = n }) (let z : m.length + (i + k + v) + p + w ≡ m.length + (i + k + v + p + w) = omega arith in z)

-- What was counted has such keys
pub has-after : {P : Kept → Type 0} {xs ys : List Kept} (x : Kept) → Notes P xs ys → HasKey xs x → HasKey ys x
has-after {xs = xs} x a h = subst (λ l. HasKey l x) (sym a.is) (has-more xs a.new x h)

pub kept-after : {P : Kept → Type 0} {xs ys : List Kept} (t : Term) → Notes P xs ys → AreKept xs t → AreKept ys t
kept-after {xs = xs} t a h = subst (λ l. AreKept l t) (sym a.is) (kept-stay xs a.new t h)

once-has : (x : Kept) (build : Tally → Tally) (m : Tally) → kept_eq x x ≡ true → HasKey (count_once x build m).kept x
once-has x build m own = go (key_in m.kept x) refl
  where
    go : (o : Option ℕ) → key_in m.kept x ≡ o → HasKey (count_once_at o x build m).kept x
    go None e = let k = some-last x 0 (build m).kept own in subst IsSome (sym k.1) refl
    go (Some k) e = subst IsSome (sym e) refl

pub type-has : (a : HolType) (m : Tally) → HasKey (count_type a m).kept (Kept.type a)
type-has (HolType.variable n) m = once-has (Kept.type (HolType.variable n)) _ m (own-type (HolType.variable n))
type-has (HolType.operator n ts) m = once-has (Kept.type (HolType.operator n ts)) _ m (own-type (HolType.operator n ts))

own-term : (t : Term) → kept_eq (Kept.term t) (Kept.term t) ≡ true
own-term t = (term_eq-Decides t t).1 refl

module _ (q : ℕ) where
  pub kept-counted : (t : Term) (d : ℕ) (m : Tally) → AreKept (count_under q d t m).kept t
  kept-counted (Term.free n a) d m = once-has (Kept.term (Term.free n a)) (λ e. add (word_length word.VarTerm) (count_variable n a e)) m
      (own-term (Term.free n a))
  kept-counted (Term.bound k) d m = tt
  kept-counted (Term.constant n a) d m =
      once-has (Kept.term (Term.constant n a)) (λ e. add (word_length word.ConstTerm) (count_type a (add (name_length n + word_length word.Const) e))) m
      (own-term (Term.constant n a))
  kept-counted (Term.app f x) d m = go (loose (Term.app f x) == 0) (kept-counted f d m) (kept-counted x d (count_under q d f m))
    where
      go : (b : Bool) → AreKept (count_under q d f m).kept f → AreKept (count_under q d x (count_under q d f m)).kept x
          → closed_has b
          (HasKey (count_closed b (Term.app f x) (λ e. add (word_length word.AppTerm) (count_under q d x (count_under q d f e))) m).kept
          (Kept.term (Term.app f x)))
          (AreKept (count_closed b (Term.app f x) (λ e. add (word_length word.AppTerm) (count_under q d x (count_under q d f e))) m).kept f
          × AreKept (count_closed b (Term.app f x) (λ e. add (word_length word.AppTerm) (count_under q d x (count_under q d f e))) m).kept x)
      go true one two = once-has (Kept.term (Term.app f x)) _ m (own-term (Term.app f x))
      go false one two = (kept-after f (term-notes q x d (count_under q d f m)) one, two)
  kept-counted (Term.lam a b) d m = go (loose (Term.lam a b) == 0) (kept-counted b (suc d) (count_variable (binder_name q d) a m))
    where
      go : (z : Bool) → AreKept (count_under q (suc d) b (count_variable (binder_name q d) a m)).kept b
          → closed_has z
          (HasKey (count_closed z (Term.lam a b) (λ e. count_binder a b (count_under q (suc d) b (count_variable (binder_name q d) a e))) m).kept
          (Kept.term (Term.lam a b)))
          (HasKey (count_closed z (Term.lam a b) (λ e. count_binder a b (count_under q (suc d) b (count_variable (binder_name q d) a e))) m).kept (Kept.type a)
          × AreKept (count_closed z (Term.lam a b) (λ e. count_binder a b (count_under q (suc d) b (count_variable (binder_name q d) a e))) m).kept b)
      go true one = once-has (Kept.term (Term.lam a b)) _ m (own-term (Term.lam a b))
      go false one =
          (has-after (Kept.type a) (term-notes q b (suc d) (count_variable (binder_name q d) a m)) (type-has a (add (name_length (binder_name q d)) m)), one)
