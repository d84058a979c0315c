-- What one key more does to the places, and to the things that have keys.
use Rattle.std.proofs.Common.{◌≡◌, ℕ, zero, suc, ◌+◌, ◌<◌, ◌≤◌, ◌^◌, ◌==◌, Bool, true, false, cond, List, [], ◌∷◌, ◌++◌, length, length-append, None, Some, refl, sym, ap, subst, ◌∙◌, arith}
use Rattle.std.specs.Prelude.{slice_index_or, slice_set, replicate}
use Rattle.std.specs.List.{position_from}
use Rattle.std.proofs.lemmas.Bool.Decides.{nat_tests}
use Rattle.std.proofs.lemmas.List.{length-set, length-replicate, get_or-replicate}
use Rattle.article_lines.specs.declared.keys.Thing.{Thing}
use Rattle.article_lines.specs.declared.keys.Thing.TheVariants as thing
use Rattle.article_lines.specs.Things.{thing_eq, IsOneOf, thing_key, with_thing}
use Rattle.article_lines.specs.Slots.{AllSlots, no_key, none_put, HasPlace, slot, slot_key, put, first_of, place_of, thing_at, things_to, keyed, free, all_free, all_places, AreKeys}

-- Places
push-other : {A : Type 0} (p : A → Bool) (start : ℕ) (xs : List A) (y : A) → p y ≡ false → position_from p start (xs ++ y ∷ []) ≡ position_from p start xs
push-other p start [] y e = ap (λ b. cond b (Some start) None) e
push-other p start (x ∷ xs) y e = ap (λ o. cond (p x) (Some start) o) (push-other p (start + 1) xs y e)

push-new : {A : Type 0} (p : A → Bool) (start : ℕ) (xs : List A) (y : A) → p y ≡ true → position_from p start xs ≡ None → position_from p start (xs ++ y ∷ [])
    ≡ Some (start + length xs)
push-new p start [] y e none = ap (λ b. cond b (Some start) None) e ∙ (let z : start ≡ start + 0 = omega arith in ap Some z)
push-new p start (x ∷ xs) y e none = go (p x) none (push-new p (start + 1) xs y e)
  where
    go : (b : Bool) → cond b (Some start) (position_from p (start + 1) xs) ≡ None
        → (position_from p (start + 1) xs ≡ None → position_from p (start + 1) (xs ++ y ∷ []) ≡ Some (start + 1 + length xs))
        → cond b (Some start) (position_from p (start + 1) (xs ++ y ∷ [])) ≡ Some (start + suc (length xs))
    go true f g = absurd (cc)
    go false f g = g f ∙ (let z : start + 1 + length xs ≡ start + suc (length xs) = omega arith in ap Some z)

pub position_from-below : {A : Type 0} (p : A → Bool) (start : ℕ) (xs : List A) (k : ℕ) → position_from p start xs ≡ Some k → k < start + length xs
position_from-below p start [] k e = absurd (cc)
position_from-below p start (x ∷ xs) k e = go (p x) e (position_from-below p (start + 1) xs k)
  where
    go : (b : Bool) → cond b (Some start) (position_from p (start + 1) xs) ≡ Some k → (position_from p (start + 1) xs ≡ Some k → k < start + 1 + length xs)
        → k < start + suc (length xs)
    go true f g = let same : start ≡ k = cc in omega (arith, same)
    go false f g = let h = g f in omega (arith, h)

-- Numbers at places
index-put : (ns : List ℕ) (i j n : ℕ) → i < length ns → slice_index_or (slice_set ns i n) j no_key ≡ cond (j == i) n (slice_index_or ns j no_key)
index-put [] i j n low = absurd (omega (arith, low))
index-put (m ∷ ns) zero zero n low = refl
index-put (m ∷ ns) zero (suc j) n low = let e : (suc j == 0) ≡ false = grind (arith, nat_tests) in ap (λ b. cond b n (slice_index_or ns j no_key)) (sym e)
index-put (m ∷ ns) (suc i) zero n low = let e : (0 == suc i) ≡ false = grind (arith, nat_tests) in ap (λ b. cond b n m) (sym e)
index-put (m ∷ ns) (suc i) (suc j) n low =
    index-put ns i j n (omega (arith, low))
    ∙ (let e : (j == i) ≡ (suc j == suc i) = grind (arith, nat_tests) in ap (λ b. cond b n (slice_index_or ns j no_key)) e)

place-other : (k n start : ℕ) (ns : List ℕ) (i : ℕ) → (n == k) ≡ false → (slice_index_or ns i no_key == k) ≡ false
    → position_from (λ m. m == k) start (slice_set ns i n) ≡ position_from (λ m. m == k) start ns
place-other k n start [] i e h = refl
place-other k n start (m ∷ ns) zero e h = ap (λ b. cond b (Some start) (position_from (λ m. m == k) (start + 1) ns)) (e ∙ sym h)
place-other k n start (m ∷ ns) (suc i) e h = ap (λ o. cond (m == k) (Some start) o) (place-other k n (start + 1) ns i e h)

place-new : (k start : ℕ) (ns : List ℕ) (i : ℕ) → position_from (λ m. m == k) start ns ≡ None → i < length ns
    → position_from (λ m. m == k) start (slice_set ns i k) ≡ Some (start + i)
place-new k start [] i none low = absurd (omega (arith, low))
place-new k start (m ∷ ns) zero none low =
    let e : (k == k) ≡ true = grind (arith, nat_tests) in
    ap (λ b. cond b (Some start) (position_from (λ m. m == k) (start + 1) ns)) e ∙ (let z : start ≡ start + 0 = omega arith in ap Some z)
place-new k start (m ∷ ns) (suc i) none low = go (m == k) none (λ e. place-new k (start + 1) ns i e (omega (arith, low)))
  where
    go : (b : Bool) → cond b (Some start) (position_from (λ m. m == k) (start + 1) ns) ≡ None
        → (position_from (λ m. m == k) (start + 1) ns ≡ None → position_from (λ m. m == k) (start + 1) (slice_set ns i k) ≡ Some (start + 1 + i))
        → cond b (Some start) (position_from (λ m. m == k) (start + 1) (slice_set ns i k)) ≡ Some (start + suc i)
    go true f g = absurd (cc)
    go false f g = g f ∙ (let z : start + 1 + i ≡ start + suc i = omega arith in ap Some z)

-- what stands at no place has none
none-there : (k start : ℕ) (ns : List ℕ) → ((i : ℕ) → i < length ns → (slice_index_or ns i no_key == k) ≡ false) → position_from (λ m. m == k) start ns ≡ None
none-there k start [] h = refl
none-there k start (m ∷ ns) h =
    ap (λ b. cond b (Some start) (position_from (λ m. m == k) (start + 1) ns)) (h 0 (omega arith))
    ∙ none-there k (start + 1) ns (λ i low. h (suc i) (omega (arith, low)))

free-put : (ns : List ℕ) (i n : ℕ) → i < length ns → slice_index_or ns i no_key ≡ no_key → (n == no_key) ≡ false → free ns ≡ suc (free (slice_set ns i n))
free-put [] i n low e new = absurd (omega (arith, low))
free-put (m ∷ ns) zero n low e new =
    let same : (m == no_key) ≡ true = grind (arith, nat_tests, e) in
    ap (λ b. cond b (suc (free ns)) (free ns)) same ∙ ap (λ b. suc (cond b (suc (free ns)) (free ns))) (sym new)
free-put (m ∷ ns) (suc i) n low e new = go (m == no_key) (free-put ns i n (omega (arith, low)) e new)
  where
    go : (b : Bool) → free ns ≡ suc (free (slice_set ns i n)) → cond b (suc (free ns)) (free ns)
        ≡ suc (cond b (suc (free (slice_set ns i n))) (free (slice_set ns i n)))
    go true f = ap suc f
    go false f = f

free-none : (n : ℕ) → free (replicate n no_key) ≡ n
free-none zero = refl
free-none (suc n) = ap suc (free-none n)

-- Things
pub own-thing : (x : Thing) → thing_eq x x ≡ true
own-thing (thing.Type a) = grind (arith, nat_tests)
own-thing (thing.Term t) = grind (arith, nat_tests)
own-thing (thing.Theorem i) = grind (arith, nat_tests)

pub thing_eq-same : (x y : Thing) → thing_eq x y ≡ true → x ≡ y
thing_eq-same (thing.Type a) (thing.Type b) e = let same : a.0 ≡ b.0 = grind (arith, nat_tests, e) in ap (λ i. thing.Type (record { 0 = i })) same
thing_eq-same (thing.Type a) (thing.Term u) e = absurd (cc)
thing_eq-same (thing.Type a) (thing.Theorem j) e = absurd (cc)
thing_eq-same (thing.Term t) (thing.Type b) e = absurd (cc)
thing_eq-same (thing.Term t) (thing.Term u) e = let same : t.0 ≡ u.0 = grind (arith, nat_tests, e) in ap (λ i. thing.Term (record { 0 = i })) same
thing_eq-same (thing.Term t) (thing.Theorem j) e = absurd (cc)
thing_eq-same (thing.Theorem i) (thing.Type b) e = absurd (cc)
thing_eq-same (thing.Theorem i) (thing.Term u) e = absurd (cc)
thing_eq-same (thing.Theorem i) (thing.Theorem j) e = let same : i ≡ j = grind (arith, nat_tests, e) in ap thing.Theorem same

slot-put : (s : AllSlots) (x y : Thing) (n : ℕ) → HasPlace s x → slot (put x n s) y ≡ cond (thing_eq y x) n (slot s y)
slot-put s (thing.Type a) (thing.Type b) n low = index-put s.types a.0 b.0 n low
slot-put s (thing.Type a) (thing.Term u) n low = refl
slot-put s (thing.Type a) (thing.Theorem j) n low = refl
slot-put s (thing.Term t) (thing.Type b) n low = refl
slot-put s (thing.Term t) (thing.Term u) n low = index-put s.terms t.0 u.0 n low
slot-put s (thing.Term t) (thing.Theorem j) n low = refl
slot-put s (thing.Theorem i) (thing.Type b) n low = refl
slot-put s (thing.Theorem i) (thing.Term u) n low = refl
slot-put s (thing.Theorem i) (thing.Theorem j) n low = index-put s.theorems i j n low

place-put : (s : AllSlots) (x y : Thing) (n : ℕ) → HasPlace (put x n s) y → HasPlace s y
place-put s (thing.Type a) y n h = subst (λ l. IsOneOf l (length s.terms) (length s.theorems) y) (length-set s.types a.0 n) h
place-put s (thing.Term t) y n h = subst (λ l. IsOneOf (length s.types) l (length s.theorems) y) (length-set s.terms t.0 n) h
place-put s (thing.Theorem i) y n h = subst (λ l. IsOneOf (length s.types) (length s.terms) l y) (length-set s.theorems i n) h

places-put : (s : AllSlots) (x : Thing) (n : ℕ) → all_places (put x n s) ≡ all_places s
places-put s (thing.Type a) n = let e = length-set s.types a.0 n in omega (arith, e)
places-put s (thing.Term t) n = let e = length-set s.terms t.0 n in omega (arith, e)
places-put s (thing.Theorem i) n = let e = length-set s.theorems i n in omega (arith, e)

all_free-put : (s : AllSlots) (x : Thing) (n : ℕ) → HasPlace s x → slot s x ≡ no_key → (n == no_key) ≡ false → all_free s ≡ suc (all_free (put x n s))
all_free-put s (thing.Type a) n low e new = let f = free-put s.types a.0 n low e new in omega (arith, f)
all_free-put s (thing.Term t) n low e new = let f = free-put s.terms t.0 n low e new in omega (arith, f)
all_free-put s (thing.Theorem i) n low e new = let f = free-put s.theorems i n low e new in omega (arith, f)

thing-stays : (s : AllSlots) (x : Thing) (n k : ℕ) → (n == k) ≡ false → (slot s x == k) ≡ false → thing_at (put x n s) k ≡ thing_at s k
thing-stays s (thing.Type a) n k e h = ap (λ o. first_of o (place_of k s.terms) (place_of k s.theorems)) (place-other k n 0 s.types a.0 e h)
thing-stays s (thing.Term t) n k e h = ap (λ o. first_of (place_of k s.types) o (place_of k s.theorems)) (place-other k n 0 s.terms t.0 e h)
thing-stays s (thing.Theorem i) n k e h = ap (λ o. first_of (place_of k s.types) (place_of k s.terms) o) (place-other k n 0 s.theorems i e h)

things-stay : (s : AllSlots) (x : Thing) (n m : ℕ) → m ≤ n → n < no_key → slot s x ≡ no_key → things_to (put x n s) m ≡ things_to s m
things-stay s x n zero low small e = refl
things-stay s x n (suc m) low small e =
    let other : (n == m) ≡ false = grind (arith, nat_tests, low) in
    let none : (slot s x == m) ≡ false = grind (arith, nat_tests, low, small, e) in
    ap (λ l. l ++ thing_at (put x n s) m ∷ []) (things-stay s x n m (omega (arith, low)) small e)
    ∙ ap (λ z. things_to s m ++ z ∷ []) (thing-stays s x n m other none)

-- no place has the next key
abbrev IsNew : AllSlots → ℕ → Type 0
IsNew s n = (y : Thing) → HasPlace s y → (slot s y == n) ≡ false

no-type : (s : AllSlots) (n : ℕ) → IsNew s n → place_of n s.types ≡ None
no-type s n h = none-there n 0 s.types (λ i low. h (thing.Type (record { 0 = i })) low)

no-term : (s : AllSlots) (n : ℕ) → IsNew s n → place_of n s.terms ≡ None
no-term s n h = none-there n 0 s.terms (λ i low. h (thing.Term (record { 0 = i })) low)

no-theorem : (s : AllSlots) (n : ℕ) → IsNew s n → place_of n s.theorems ≡ None
no-theorem s n h = none-there n 0 s.theorems (λ i low. h (thing.Theorem i) low)

thing-new : (s : AllSlots) (x : Thing) (n : ℕ) → HasPlace s x → IsNew s n → thing_at (put x n s) n ≡ x
thing-new s (thing.Type a) n low h =
    ap (λ o. first_of o (place_of n s.terms) (place_of n s.theorems)) (place-new n 0 s.types a.0 (no-type s n h) low)
    ∙ (let z : 0 + a.0 ≡ a.0 = omega arith in ap (λ i. thing.Type (record { 0 = i })) z)
thing-new s (thing.Term t) n low h =
    ap (λ o. first_of o (place_of n (slice_set s.terms t.0 n)) (place_of n s.theorems)) (no-type s n h)
    ∙ ap (λ o. first_of None o (place_of n s.theorems)) (place-new n 0 s.terms t.0 (no-term s n h) low)
    ∙ (let z : 0 + t.0 ≡ t.0 = omega arith in ap (λ i. thing.Term (record { 0 = i })) z)
thing-new s (thing.Theorem i) n low h =
    ap (λ o. first_of o (place_of n s.terms) (place_of n (slice_set s.theorems i n))) (no-type s n h)
    ∙ ap (λ o. first_of None o (place_of n (slice_set s.theorems i n))) (no-term s n h)
    ∙ ap (λ o. first_of None None o) (place-new n 0 s.theorems i (no-theorem s n h) low) ∙ (let z : 0 + i ≡ i = omega arith in ap thing.Theorem z)

pub length-things : (s : AllSlots) (n : ℕ) → length (things_to s n) ≡ n
length-things s zero = refl
length-things s (suc n) = let a = length-append (things_to s n) (thing_at s n ∷ []) in let e = length-things s n in omega (arith, a, e)

-- What one key more does
slot_key-None : (n : ℕ) → slot_key n ≡ None → n ≡ no_key
slot_key-None n e = go (n == no_key) refl e
  where
    go : (b : Bool) → (n == no_key) ≡ b → cond b None (Some n) ≡ None → n ≡ no_key
    go true f g = grind (arith, nat_tests, f)
    go false f g = absurd (cc)

slot_key-Some : (n : ℕ) → n < no_key → slot_key n ≡ Some n
slot_key-Some n low = let e : (n == no_key) ≡ false = grind (arith, nat_tests, low) in ap (λ b. cond b None (Some n)) e

-- the place of a thing that has no key
pub thing_key-None : (s : AllSlots) (n : ℕ) (x : Thing) → AreKeys s n → HasPlace s x → thing_key (keyed s n) x ≡ None → slot s x ≡ no_key
thing_key-None s n x k low none = slot_key-None (slot s x) (k.each x low ∙ none)

pub next-small : (s : AllSlots) (n : ℕ) (x : Thing) → AreKeys s n → HasPlace s x → thing_key (keyed s n) x ≡ None → n < no_key
next-small s n x k low none =
    let f = all_free-put s x 0 low (thing_key-None s n x k low none) refl in
    let p = k.places in
    let z = k.small in
    omega (arith, f, p, z)

slots-new : (s : AllSlots) (n : ℕ) → AreKeys s n → n < no_key → IsNew s n
slots-new s n k small y low = go (slot s y == n) refl
  where
    go : (b : Bool) → (slot s y == n) ≡ b → b ≡ false
    go false e = refl
    go true e =
        let same : slot s y ≡ n = grind (arith, nat_tests, e) in
        let at : thing_key (keyed s n) y ≡ Some n = sym (k.each y low) ∙ ap slot_key same ∙ slot_key-Some n small in
        let below = position_from-below (thing_eq y) 0 (things_to s n) n at in
        let l = length-things s n in
        absurd (omega (arith, below, l))

things-put : (s : AllSlots) (n : ℕ) (x : Thing) → AreKeys s n → HasPlace s x → thing_key (keyed s n) x ≡ None → things_to (put x n s) (suc n) ≡ things_to s n
    ++ x ∷ []
things-put s n x k low none =
    let small = next-small s n x k low none in
    ap (λ l. l ++ thing_at (put x n s) n ∷ []) (things-stay s x n n (omega arith) small (thing_key-None s n x k low none))
    ∙ ap (λ z. things_to s n ++ z ∷ []) (thing-new s x n low (slots-new s n k small))

pub AreKeys-put : (s : AllSlots) (n : ℕ) (x : Thing) → AreKeys s n → HasPlace s x → thing_key (keyed s n) x ≡ None → AreKeys (put x n s) (n + 1)
AreKeys-put s n x k low none = subst (AreKeys (put x n s)) next
    (record { each = each; places = omega (arith, f, p, l); small = (let z = k.small in omega (arith, z, l)) })
  where
    next : suc n ≡ n + 1
    next = omega arith

    small : n < no_key
    small = next-small s n x k low none

    f : all_free s ≡ suc (all_free (put x n s))
    f = all_free-put s x n low (thing_key-None s n x k low none) (grind (arith, nat_tests, small))

    p : n + all_free s ≡ all_places s
    p = k.places

    l : all_places (put x n s) ≡ all_places s
    l = places-put s x n

    go : (y : Thing) → HasPlace s y → (b : Bool) → thing_eq y x ≡ b → slot_key (cond b n (slot s y)) ≡ position_from (thing_eq y) 0 (things_to s n ++ x ∷ [])
    go y h false e = k.each y h ∙ sym (push-other (thing_eq y) 0 (things_to s n) x e)
    go y h true e =
        let same : y ≡ x = thing_eq-same y x e in
        let old : thing_key (keyed s n) y ≡ None = subst (λ z. thing_key (keyed s n) z ≡ None) (sym same) none in
        slot_key-Some n small ∙ (let z : n ≡ 0 + length (things_to s n) = (let j = length-things s n in omega (arith, j)) in ap Some z)
        ∙ sym (push-new (thing_eq y) 0 (things_to s n) x e old)

    each : (y : Thing) → HasPlace (put x n s) y → slot_key (slot (put x n s) y) ≡ thing_key (keyed (put x n s) (suc n)) y
    each y h =
        ap slot_key (slot-put s x y n low) ∙ go y (place-put s x y n h) (thing_eq y x) refl
        ∙ ap (λ (l : List Thing). position_from (thing_eq y) 0 l) (sym (things-put s n x k low none))

room-put : (s : AllSlots) (n m : ℕ) (x : Thing) → keyed (put x n s) m ≡ record (keyed s m) { things = things_to (put x n s) m }
room-put s n m (thing.Type a) = ap (λ l. record (keyed s m) { things = things_to (put (thing.Type a) n s) m; types = l }) (length-set s.types a.0 n)
room-put s n m (thing.Term t) = ap (λ l. record (keyed s m) { things = things_to (put (thing.Term t) n s) m; terms = l }) (length-set s.terms t.0 n)
room-put s n m (thing.Theorem i) = ap (λ l. record (keyed s m) { things = things_to (put (thing.Theorem i) n s) m; theorems = l }) (length-set s.theorems i n)

pub keyed-put : (s : AllSlots) (n : ℕ) (x : Thing) → AreKeys s n → HasPlace s x → thing_key (keyed s n) x ≡ None → keyed (put x n s) (n + 1)
    ≡ with_thing x (keyed s n)
keyed-put s n x k low none =
    let next : n + 1 ≡ suc n = omega arith in
    ap (keyed (put x n s)) next ∙ room-put s n (suc n) x ∙ ap (λ l. record (keyed s n) { things = l }) (things-put s n x k low none)

-- No keys
pub none-AreKeys : (types terms theorems : ℕ) → types + terms + theorems < 2 ^ 64 → AreKeys (none_put types terms theorems) 0
none-AreKeys types terms theorems small = record { each = each; places = omega (arith, a, b, c, d, e, f); small = omega (arith, d, e, f, small) }
  where
    a : free (replicate types no_key) ≡ types
    a = free-none types

    b : free (replicate terms no_key) ≡ terms
    b = free-none terms

    c : free (replicate theorems no_key) ≡ theorems
    c = free-none theorems

    d : length (replicate types no_key) ≡ types
    d = length-replicate types no_key

    e : length (replicate terms no_key) ≡ terms
    e = length-replicate terms no_key

    f : length (replicate theorems no_key) ≡ theorems
    f = length-replicate theorems no_key

    each : (x : Thing) → HasPlace (none_put types terms theorems) x → slot_key (slot (none_put types terms theorems) x) ≡ None
    each (thing.Type i) low = ap slot_key (get_or-replicate types i.0 no_key no_key (omega (arith, low, d)))
    each (thing.Term i) low = ap slot_key (get_or-replicate terms i.0 no_key no_key (omega (arith, low, e)))
    each (thing.Theorem i) low = ap slot_key (get_or-replicate theorems i no_key no_key (omega (arith, low, f)))
