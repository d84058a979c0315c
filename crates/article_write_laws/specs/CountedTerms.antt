-- What is counted of a term is the length of what is written of it. Under binders the types of the variables for which its loose numbers stand are owed.
use Rattle.std.proofs.Common.{◌≡◌, ℕ, zero, suc, ◌+◌, ◌-◌, ◌*◌, ◌<◌, ◌≤◌, ◌==◌, Bool, true, false, cond, List, [], ◌∷◌, ◌++◌, length, Option, None, Some, refl, sym, ap, subst, ◌∙◌, arith}
use Rattle.std.specs.Prelude.{slice_index_or, unwrap_or}
use Rattle.std.specs.List.{position_from}
use Rattle.std.proofs.lemmas.Bool.Decides.{nat_tests}
use Rattle.hol_spec.specs.Types.{HolType}
use Rattle.hol_spec.specs.Terms.{Term, Variable}
use Rattle.hol_spec.specs.TermBinding.{loose}
use Rattle.hol_laws.specs.TypeLaws.{type_eq-Decides}
use Rattle.article_spec.specs.declared.commands.Item.TheVariants as item
use Rattle.article_spec.specs.declared.commands.Word.TheVariants as word
use Rattle.article_write_spec.specs.BinderNames.{binder_name}
use Rattle.article_write_spec.specs.Drafts.{Kept, kept_eq, Draft, key_of, say_name, say_word, refer, once_at, once}
use Rattle.article_write_spec.specs.WrittenTypes.{write_type, write_variable}
use Rattle.article_write_spec.specs.WrittenTerms.{binder_at, next_binder, once_closed, shared, write_under, write_term}
use Rattle.article_write_spec.specs.Lengths.{name_length, word_length, told_length, Tally, key_in, key_length, add}
use Rattle.article_write_spec.specs.TermLengths.{count_type, count_variable, uses, count_binder, count_closed, count_shared, count_under}
use Rattle.article_write_laws.specs.GivenWriting.{position-more}
use Rattle.article_write_laws.specs.KeptOnce.{Adds, type-adds, term-adds}
use Rattle.article_write_laws.specs.CountLaws.{Counts, Counted, counts-said, counts-two, counts-once, counts-referred, counted-type, counted-variable}

-- Loose numbers
-- what the loose numbers of a term add, where each of these is added for a number by the binders that it passes
abbrev pub outer : List ℕ → Term → ℕ
outer ws (Term.free n a) = 0
outer ws (Term.bound k) = slice_index_or ws k 0
outer ws (Term.constant n a) = 0
outer ws (Term.app f x) = outer ws f + outer ws x
outer ws (Term.lam a b) = outer (0 ∷ ws) b

at-seam : (xs ys : List ℕ) (v k : ℕ) → slice_index_or (xs ++ v ∷ ys) k 0 ≡ cond (k == length xs) 1 0 * v + slice_index_or (xs ++ 0 ∷ ys) k 0
at-seam [] ys v zero = omega arith
at-seam [] ys v (suc k) = let e : (suc k == 0) ≡ false =
    grind (arith, nat_tests) in (let z : slice_index_or ys k 0 ≡ 0 * v + slice_index_or ys k 0 = omega arith in z)
    ∙ ap (λ b. cond b 1 0 * v + slice_index_or ys k 0) (sym e)
at-seam (x ∷ xs) ys v zero = let e : (0 == suc (length xs)) ≡ false =
    grind (arith, nat_tests) in (let z : x ≡ 0 * v + x = omega arith in z) ∙ ap (λ b. cond b 1 0 * v + x) (sym e)
at-seam (x ∷ xs) ys v (suc k) = at-seam xs ys v k ∙ ap (λ b. cond b 1 0 * v + slice_index_or (xs ++ 0 ∷ ys) k 0)
    (let e : (k == length xs) ≡ (suc k == suc (length xs)) = grind (arith, nat_tests) in e)

-- one binder's part
pub outer-uses : (xs ys : List ℕ) (v : ℕ) (t : Term) → outer (xs ++ v ∷ ys) t ≡ uses (length xs) t * v + outer (xs ++ 0 ∷ ys) t
outer-uses xs ys v (Term.free n a) = omega arith
outer-uses xs ys v (Term.bound k) = at-seam xs ys v k
outer-uses xs ys v (Term.constant n a) = omega arith
outer-uses xs ys v (Term.app f x) =
    let a = outer-uses xs ys v f in
    let b = outer-uses xs ys v x in
    let e : (uses (length xs) f + uses (length xs) x) * v ≡ uses (length xs) f * v + uses (length xs) x * v = omega arith in
    omega (arith, a, b, e)
outer-uses xs ys v (Term.lam a b) = outer-uses (0 ∷ xs) ys v b

-- so many numbers for which nothing is added
abbrev zeros : ℕ → List ℕ → List ℕ
zeros zero ws = ws
zeros (suc n) ws = 0 ∷ zeros n ws

at-zero : (n k : ℕ) (ws : List ℕ) → k < n → slice_index_or (zeros n ws) k 0 ≡ 0
at-zero zero k ws h = absurd (omega (arith, h))
at-zero (suc n) zero ws h = refl
at-zero (suc n) (suc k) ws h = at-zero n k ws (omega (arith, h))

outer-zeros : (n : ℕ) (ws : List ℕ) (t : Term) → loose t ≤ n → outer (zeros n ws) t ≡ 0
outer-zeros n ws (Term.free m a) h = refl
outer-zeros n ws (Term.bound k) h = at-zero n k ws (omega (arith, h))
outer-zeros n ws (Term.constant m a) h = refl
outer-zeros n ws (Term.app f x) h = let a = outer-zeros n ws f (omega (arith, h)) in let b = outer-zeros n ws x (omega (arith, h)) in omega (arith, a, b)
outer-zeros n ws (Term.lam a b) h = outer-zeros (suc n) ws b (omega (arith, h))

-- a number that passes so many binders that the term leaves none loose stands nowhere
pub uses-none : (i : ℕ) (t : Term) → loose t ≤ i → uses i t ≡ 0
uses-none i (Term.free n a) h = refl
uses-none i (Term.bound k) h = let e : (k == i) ≡ false = grind (arith, nat_tests, h) in ap (λ b. cond b 1 0) e
uses-none i (Term.constant n a) h = refl
uses-none i (Term.app f x) h = let a = uses-none i f (omega (arith, h)) in let b = uses-none i x (omega (arith, h)) in omega (arith, a, b)
uses-none i (Term.lam a b) h = uses-none (suc i) b (omega (arith, h))

-- a term without loose numbers owes nothing
pub outer-closed : (ws : List ℕ) (t : Term) → loose t ≡ 0 → outer ws t ≡ 0
outer-closed ws t h = outer-zeros 0 ws t (omega (arith, h))

-- Keys
told-key : (o : Option ℕ) (x : Kept) (build : Draft → Draft) (d : Draft) (k : ℕ) → o ≡ Some k → once_at o x build d ≡ refer k d
told-key o x build d k e = ap (λ p. once_at p x build d) e

-- a type that has a key is told by it
pub type-told : (a : HolType) (d : Draft) (k : ℕ) → key_of (Kept.type a) d ≡ Some k → write_type a d ≡ refer k d
type-told (HolType.variable n) d k e = told-key (key_of (Kept.type (HolType.variable n)) d) (Kept.type (HolType.variable n)) _ d k e
type-told (HolType.operator n ts) d k e = told-key (key_of (Kept.type (HolType.operator n ts)) d) (Kept.type (HolType.operator n ts)) _ d k e

pub some-last : (x : Kept) (start : ℕ) (kept : List Kept) → kept_eq x x ≡ true → (k : ℕ) × (position_from (kept_eq x) start (kept ++ x ∷ []) ≡ Some k)
some-last x start [] own = (start, ap (λ b. cond b (Some start) None) own)
some-last x start (y ∷ kept) own = go (kept_eq x y) (some-last x (start + 1) kept own)
  where
    go : (b : Bool) → ((k : ℕ) × (position_from (kept_eq x) (start + 1) (kept ++ x ∷ []) ≡ Some k))
        → (k : ℕ) × (cond b (Some start) (position_from (kept_eq x) (start + 1) (kept ++ x ∷ [])) ≡ Some k)
    go true h = (start, refl)
    go false h = h

once-key : (x : Kept) (build : Draft → Draft) (d : Draft) → kept_eq x x ≡ true → (k : ℕ) × (key_of x (once x build d) ≡ Some k)
once-key x build d own = go (key_of x d) refl
  where
    go : (o : Option ℕ) → key_of x d ≡ o → (k : ℕ) × (key_of x (once_at o x build d) ≡ Some k)
    go None e = some-last x 0 (build d).kept own
    go (Some k) e = (k, e)

pub own-type : (a : HolType) → kept_eq (Kept.type a) (Kept.type a) ≡ true
own-type a = (type_eq-Decides a a).1 refl

-- a type that was written has a key
pub type-key : (a : HolType) (d : Draft) → (k : ℕ) × (key_of (Kept.type a) (write_type a d) ≡ Some k)
type-key (HolType.variable n) d = once-key (Kept.type (HolType.variable n)) _ d (own-type (HolType.variable n))
type-key (HolType.operator n ts) d = once-key (Kept.type (HolType.operator n ts)) _ d (own-type (HolType.operator n ts))

-- Binders
-- the variable of a binder under n others has its name, and its type a key, by which it is told in so many bytes
pub record IsBound (q : ℕ) (kept : List Kept) (n : ℕ) (v : Variable) (w : ℕ) : Type 0 where
  pub key : ℕ
  pub name : v.0 ≡ binder_name q n
  pub at : key_in kept (Kept.type v.1) ≡ Some key
  pub told : w ≡ told_length key

abbrev pub AreBound : ℕ → List Kept → List Variable → List ℕ → Type 0
AreBound q kept [] [] = Unit {0}
AreBound q kept (v ∷ vs) (w ∷ ws) = IsBound q kept (length vs) v w × AreBound q kept vs ws
AreBound q kept [] (w ∷ ws) = ⊥
AreBound q kept (v ∷ vs) [] = ⊥

pub bound-more : (q : ℕ) (kept new : List Kept) (vs : List Variable) (ws : List ℕ) → AreBound q kept vs ws → AreBound q (kept ++ new) vs ws
bound-more q kept new [] [] h = tt
bound-more q kept new [] (w ∷ ws) h = absurd h
bound-more q kept new (v ∷ vs) [] h = absurd h
bound-more q kept new (v ∷ vs) (w ∷ ws) h =
    (record { key = h.0.key; name = h.0.name; at = position-more (Kept.type v.1) 0 kept new h.0.key h.0.at; told = h.0.told }, bound-more q kept new vs ws h.1)

bound-at : (q : ℕ) (kept : List Kept) (vs : List Variable) (ws : List ℕ) (i : ℕ) → AreBound q kept vs ws → i < length vs
    → IsBound q kept (length vs - suc i) (binder_at vs i) (slice_index_or ws i 0)
bound-at q kept [] ws i h low = absurd (omega (arith, low))
bound-at q kept (v ∷ vs) [] i h low = absurd h
bound-at q kept (v ∷ vs) (w ∷ ws) zero h low = let e : length vs ≡ suc (length vs) - 1 = omega arith in subst (λ n. IsBound q kept n v w) e h.0
bound-at q kept (v ∷ vs) (w ∷ ws) (suc i) h low =
    let e : length vs - suc i ≡ suc (length vs) - suc (suc i) = omega arith in
    subst (λ n. IsBound q kept n (binder_at vs i) (slice_index_or ws i 0)) e (bound-at q kept vs ws i h.1 (omega (arith, low)))

-- A term under binders
counts-shared : {owed : ℕ} {m : Tally} {d : Draft} (t : Term) (more : ℕ) (build : Draft → Draft) (built : Tally → Tally) → (loose t ≡ 0 → more ≡ 0)
    → Counts owed m d → Counts (owed + more) (built m) (build d)
    → Counts (owed + more) (count_shared t built m) (shared t build d)
counts-shared {owed = owed} {m = m} {d = d} t more build built closed c b = go (loose t == 0) refl
  where
    go : (z : Bool) → (loose t == 0) ≡ z → Counts (owed + more) (count_closed z t built m) (once_closed z t build d)
    go true e = counts-once (Kept.term t) build built
        (let n = closed (let l : loose t ≡ 0 = grind (arith, nat_tests, e) in l) in record { kept = c.kept; length = omega (arith, c.length, n) }) b
    go false e = b

grown : {P : Kept → Type 0} {d e : Draft} (q : ℕ) (vs : List Variable) (ws : List ℕ) → Adds P d e → AreBound q d.kept vs ws → AreBound q e.kept vs ws
grown {d = d} q vs ws a h = subst (λ l. AreBound q l vs ws) (sym a.is) (bound-more q d.kept a.new vs ws h)

key-grown : {P : Kept → Type 0} {d e : Draft} (x : Kept) (k : ℕ) → Adds P d e → key_of x d ≡ Some k → key_of x e ≡ Some k
key-grown {d = d} x k a h = ap (λ l. position_from (kept_eq x) 0 l) a.is ∙ position-more x 0 d.kept a.new k h

module _ (q : ℕ) where
  -- a bound number is written as its binder's variable
  counts-bound : {owed : ℕ} {m : Tally} {d : Draft} (n w : ℕ) (v : Variable) → IsBound q d.kept n v w → Counts owed m d
      → Counts (owed + w) (add (name_length (binder_name q n) + word_length word.Var + word_length word.VarTerm) m) (say_word word.VarTerm (write_variable v d))
  counts-bound {owed = owed} {m = m} {d = d} n w v b c =
      let named : Counts owed (add (name_length v.0) m) (say_name v.0 d) = counts-said (item.Name v.0) c in
      let told = counts-said (item.Word word.VarTerm) (counts-said (item.Word word.Var) (counts-referred b.key named)) in
      let same : write_type v.1 (say_name v.0 d) ≡ refer b.key (say_name v.0 d) = type-told v.1 (say_name v.0 d) b.key b.at in
      let name : name_length v.0 ≡ name_length (binder_name q n) = ap name_length b.name in
      subst (λ e. Counts (owed + w) (add (name_length (binder_name q n) + word_length word.Var + word_length word.VarTerm) m)
      (say_word word.VarTerm (say_word word.Var e))) (sym same)
      (record { kept = told.kept; length = (let l = told.length in let t = b.told in omega (arith, l, t, name)) })

  pub counted-under : (t : Term) (vs : List Variable) (ws : List ℕ) → loose t ≤ length vs → (owed : ℕ) (m : Tally) (d : Draft) → AreBound q d.kept vs ws
      → Counts owed m d
      → Counts (owed + outer ws t) (count_under q (length vs) t m) (write_under q vs t d)
  counted-under (Term.free n a) vs ws low owed m d h c =
      let z : Counts (owed + 0) m d = record { kept = c.kept; length = omega (arith, c.length) } in
      counts-shared (Term.free n a) 0 (λ e. say_word word.VarTerm (write_variable (n, a) e)) (λ e. add (word_length word.VarTerm) (count_variable n a e))
      (λ e. refl) c
      (counts-said (item.Word word.VarTerm) (counted-variable (n, a) (owed + 0) m d z))
  counted-under (Term.bound k) vs ws low owed m d h c =
      counts-bound (length vs - suc k) (slice_index_or ws k 0) (binder_at vs k) (bound-at q d.kept vs ws k h (omega (arith, low))) c
  counted-under (Term.constant n a) vs ws low owed m d h c =
      let z : Counts (owed + 0) m d = record { kept = c.kept; length = omega (arith, c.length) } in
      counts-shared (Term.constant n a) 0 (λ e. say_word word.ConstTerm (write_type a (say_word word.Const (say_name n e))))
      (λ e. add (word_length word.ConstTerm) (count_type a (add (name_length n + word_length word.Const) e))) (λ e. refl) c
      (counts-said (item.Word word.ConstTerm)
      (counted-type a (owed + 0) (add (name_length n + word_length word.Const) m) (say_word word.Const (say_name n d))
      (counts-two (item.Name n) (item.Word word.Const) z)))
  counted-under (Term.app f x) vs ws low owed m d h c =
      let one = counted-under f vs ws (omega (arith, low)) owed m d h c in
      let d1 = write_under q vs f d in
      let two = counted-under x vs ws (omega (arith, low)) (owed + outer ws f) (count_under q (length vs) f m) d1 (grown q vs ws (term-adds q f vs d) h) one in
      let both = counts-said (item.Word word.AppTerm) two in
      counts-shared (Term.app f x) (outer ws f + outer ws x) (λ e. say_word word.AppTerm (write_under q vs x (write_under q vs f e)))
      (λ e. add (word_length word.AppTerm) (count_under q (length vs) x (count_under q (length vs) f e)))
      (outer-closed ws (Term.app f x)) c (record { kept = both.kept; length = omega (arith, both.length) })
  counted-under (Term.lam a b) vs ws low owed m d h c =
      let v : Variable = next_binder q vs a in
      let d1 = write_variable v d in
      let m1 = count_variable (binder_name q (length vs)) a m in
      let first = counted-variable v owed m d c in
      let key = type-key a (say_name v.0 d) in
      let adds = type-adds a (say_name v.0 d) in
      let more : AreBound q d1.kept vs ws = subst (λ l. AreBound q l vs ws) (sym adds.is) (bound-more q d.kept adds.new vs ws h) in
      let w = told_length key.0 in
      let mine : IsBound q d1.kept (length vs) v w = record { key = key.0; name = refl; at = key.1; told = refl } in
      let body = counted-under b (v ∷ vs) (w ∷ ws) (omega (arith, low)) owed m1 d1 (mine, more) first in
      let d2 = write_under q (v ∷ vs) b d1 in
      let m2 = count_under q (suc (length vs)) b m1 in
      let stays : key_of (Kept.type a) d2 ≡ Some key.0 = key-grown {d = d1} {e = d2} (Kept.type a) key.0 (term-adds q b (v ∷ vs) d1) key.1 in
      let told : key_length m2.kept (Kept.type a) ≡ w = ap (λ l. key_length l (Kept.type a)) body.kept ∙ ap (λ o. told_length (unwrap_or o 0)) stays in
      let own : uses 0 b * key_length m2.kept (Kept.type a) ≡ uses 0 b * w = ap (λ k. uses 0 b * k) told in
      let split : outer (w ∷ ws) b ≡ uses 0 b * w + outer (0 ∷ ws) b = outer-uses [] ws w b in
      let said = counts-said (item.Word word.AbsTerm) body in
      let whole : Counts (owed + outer (0 ∷ ws) b) (count_binder a b m2) (say_word word.AbsTerm d2) =
      record { kept = said.kept; length = (let l = said.length in omega (arith, l, own, split)) } in
      counts-shared (Term.lam a b) (outer (0 ∷ ws) b) (λ e. say_word word.AbsTerm (write_under q (v ∷ vs) b (write_variable v e)))
      (λ e. count_binder a b (count_under q (suc (length vs)) b (count_variable (binder_name q (length vs)) a e)))
      (outer-closed ws (Term.lam a b)) c whole

  -- A term without loose numbers
  pub counted-term : (t : Term) → loose t ≡ 0 → Counted (count_under q 0 t) (write_term q t)
  counted-term t closed owed m d c =
      let r = counted-under t [] [] (omega (arith, closed)) owed m d (tt {0}) c in
      let none = outer-closed [] t closed in
      record { kept = r.kept; length = omega (arith, r.length, none) }
