-- Short names and their numbers.
use Rattle.std.proofs.Common.{◌≡◌, ℕ, zero, suc, ◌+◌, ◌*◌, ◌<◌, ◌≤◌, refl, sym, ap, ◌∙◌, subst, arith, Bool, true, false, List, [], ◌∷◌, ◌++◌, length, take, get_or, ◌-◌, length-append, append_assoc, append-nil}
use Rattle.std.specs.Prelude.{◌^◌, ◌%◌, ◌/◌}
use Rattle.std.specs.Str.{bytes_eq}
use Rattle.std.specs.Cmp.Lexicographic.{same_text}
use Rattle.std.proofs.Math.Path.{ap₂}
use Rattle.std.proofs.Math.Nat.{mod-lt, pow-le-pow_right}
use Rattle.std.proofs.lemmas.Nat.{div-mul-add, mod-mul-add}
use Rattle.name_table.specs.Spellings.{packed, digits}
use Rattle.std.proofs.lemmas.Cmp.{nat_list_eq_equiv}

-- each number is that of a byte
abbrev pub AreBytes : List ℕ → Type 0
AreBytes [] = Unit {0}
AreBytes (b ∷ bs) = (b < 256) × AreBytes bs

-- the digits of a name's number are its bytes
pub digits-packed : (count : ℕ) (x : List ℕ) → length x ≤ count → AreBytes x → digits count (packed x) ≡ x
digits-packed zero [] h a = refl
digits-packed (suc count) [] h a = refl
digits-packed zero (b ∷ bs) h a = absurd (omega (arith, h))
digits-packed (suc count) (b ∷ bs) h a =
    ap₂ (λ c l. c ∷ l) (mod-mul-add (packed bs) 256 b a.0)
    (ap (digits count) (div-mul-add (packed bs) 256 b a.0) ∙ digits-packed count bs (omega (arith, h)) a.1)

-- a number has at most so many digits, and each is a byte
pub length-digits : (count n : ℕ) → length (digits count n) ≤ count
length-digits zero n = omega arith
length-digits (suc count) zero = omega arith
length-digits (suc count) (suc n) = omega (arith, length-digits count (n / 256))

pub digits-AreBytes : (count n : ℕ) → AreBytes (digits count n)
digits-AreBytes zero n = tt
digits-AreBytes (suc count) zero = tt
digits-AreBytes (suc count) (suc n) = (mod-lt n (omega arith), digits-AreBytes count (n / 256))

-- how large the number of a name is
pub packed-bound : (x : List ℕ) → AreBytes x → 255 * packed x + 256 ≤ 256 ^ suc (length x)
packed-bound [] a = omega arith
packed-bound (b ∷ bs) a = omega (arith, a.0, packed-bound bs a.1)

pub packed-few : (x : List ℕ) → AreBytes x → length x ≤ 14 → 255 * packed x + 256 ≤ 2 ^ 120
packed-few x a h = omega (arith, packed-bound x a, pow-le-pow_right {n = 256} (omega arith) {i = suc (length x)} {j = 15} (omega (arith, h)))

-- a test that tells whether two names are the same is that of their bytes
pub tells-bytes_eq : (x y : List ℕ) (b : Bool) → (b ≡ true → x ≡ y) → (x ≡ y → b ≡ true) → b ≡ bytes_eq x y
tells-bytes_eq x y b f g = go (bytes_eq x y) refl b f g
  where
    go : (c : Bool) → bytes_eq x y ≡ c → (b : Bool) → (b ≡ true → x ≡ y) → (x ≡ y → b ≡ true) → b ≡ c
    go true h b f g = g (same_text x y (sym h))
    go false h true f g = absurd (let e = subst (λ z. bytes_eq x z ≡ true) (f refl) (nat_list_eq_equiv.refl x) in let w = sym e ∙ h in cc)
    go false h false f g = refl

-- bytes that are read at each place are bytes
pub get_or-AreBytes : (x : List ℕ) → ((i : ℕ) → get_or x i 0 < 256) → AreBytes x
get_or-AreBytes [] f = tt
get_or-AreBytes (b ∷ bs) f = (f 0, get_or-AreBytes bs (λ i. f (suc i)))

-- both parts of bytes are bytes
AreBytes-append : (xs ys : List ℕ) → AreBytes (xs ++ ys) → AreBytes xs × AreBytes ys
AreBytes-append [] ys a = (tt, a)
AreBytes-append (x ∷ xs) ys a = let r = AreBytes-append xs ys a.1 in ((a.0, r.0), r.1)

-- a list is its front and its last item
front-last : (xs : List ℕ) (n : ℕ) → length xs ≡ suc n → xs ≡ take n xs ++ get_or xs n 0 ∷ []
front-last [] n h = absurd (omega (arith, h))
front-last (x ∷ []) zero h = refl
front-last (x ∷ []) (suc n) h = absurd (omega (arith, h))
front-last (x ∷ y ∷ xs) zero h = absurd (omega (arith, h))
front-last (x ∷ y ∷ xs) (suc n) h = ap (λ l. x ∷ l) (front-last (y ∷ xs) n (omega (arith, h)))

-- one more byte of a name is counted in
pub move_last : (name left back : List ℕ) → name ≡ left ++ back → 1 ≤ length left → name ≡ take (length left - 1) left ++ get_or left (length left - 1) 0 ∷ back
move_last name left back e h = e ∙ ap (λ l. l ++ back) (front-last left (length left - 1) (omega (arith, h))) ∙ append_assoc (take (length left - 1) left)
    (get_or left (length left - 1) 0 ∷ []) back

-- the number so far leaves room for one more byte, which is one
pub room : (name left back : List ℕ) (n : ℕ) → AreBytes name → name ≡ left ++ back → n ≡ packed back → length name ≤ 15 → 1 ≤ length left
    → (255 * n + 256 ≤ 2 ^ 120) × (get_or left (length left - 1) 0 < 256)
room name left back n a e m h l =
    let f = move_last name left back e l in
    let r = AreBytes-append (take (length left - 1) left) (get_or left (length left - 1) 0 ∷ back) (subst AreBytes f a) in
    let few = packed-few back r.1.1 (omega (arith, ap length e, length-append left back, h, l)) in
    (omega (arith, m, few), r.1.0)

-- a name of which nothing is left is what is behind
pub nothing_left : (name left back : List ℕ) → name ≡ left ++ back → length left < 1 → name ≡ back
nothing_left name [] back e h = e
nothing_left name (x ∷ left) back e h = absurd (omega (arith, h))

-- the digits that are to come, where some are left
pub digits_left : (all front back : List ℕ) (n : ℕ) → all ≡ front ++ back → n ≡ packed back → AreBytes back → 0 < n → (rest : List ℕ)
    × (all ≡ (front ++ (n - 1) % 256 ∷ []) ++ rest) × ((n - 1) / 256 ≡ packed rest) × AreBytes rest
digits_left all front [] n e m a h = absurd (omega (arith, m, h))
digits_left all front (b ∷ bs) n e m a h =
    let p : n - 1 ≡ packed bs * 256 + b = omega (arith, m) in
    let q : (n - 1) % 256 ≡ b = ap (λ k. k % 256) p ∙ mod-mul-add (packed bs) 256 b a.0 in
    (bs, e ∙ sym (append_assoc front (b ∷ []) bs) ∙ ap (λ c. (front ++ c ∷ []) ++ bs) (sym q), ap (λ k. k / 256) p ∙ div-mul-add (packed bs) 256 b a.0, a.1)

-- none are to come where nothing is left
pub no_digits_left : (all front back : List ℕ) → all ≡ front ++ back → 0 ≡ packed back → front ≡ all
no_digits_left all front [] e m = sym (e ∙ append-nil front)
no_digits_left all front (b ∷ bs) e m = absurd (omega (arith, m))
