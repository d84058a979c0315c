-- Different names have different mangled texts.
use Rattle.std.proofs.Common.{◌≡◌, ℕ, ◌<◌, ◌⊎◌, inl, inr, List, [], ◌∷◌, ◌++◌, Bool, true, false, cond, refl, sym, ap, ◌∙◌, arith}
use Rattle.std.specs.Prelude.{◌/◌, ◌%◌}
use Rattle.std.specs.List.{AllByRecursion}
use Rattle.std.specs.Char.{is_ascii_alphanumeric}
use Rattle.hol_spec.specs.Names.{Name}
use Rattle.hol_spec.specs.Mangling.{underscore, hex_digit, mangled_before, mangled_more, mangled, AreBytes, IsName}

hex_digit-injective : (m n : ℕ) → m < 16 → n < 16 → hex_digit m ≡ hex_digit n → m ≡ n
hex_digit-injective m n h k e = grind (arith, h, k, e)

hex_digit-underscore : (n : ℕ) → n < 16 → hex_digit n ≡ underscore → ⊥
hex_digit-underscore n h e = grind (arith, h, e)

halves : (b c : ℕ) → b / 16 ≡ c / 16 → b % 16 ≡ c % 16 → b ≡ c
halves b c e f = omega (arith, e, f)

not_underscore : (b : ℕ) → is_ascii_alphanumeric b ≡ true → b ≡ underscore → ⊥
not_underscore b h e = let f : is_ascii_alphanumeric underscore ≡ true = sym (ap is_ascii_alphanumeric e) ∙ h in cc

-- what may follow a component: nothing or a boundary
abbrev pub Follows : List ℕ → Type 0
Follows rest = (rest ≡ []) ⊎ ((more : List ℕ) × (rest ≡ underscore ∷ underscore ∷ more))

pub first-is : (a b : ℕ) (xs ys : List ℕ) → a ∷ xs ≡ b ∷ ys → a ≡ b
first-is a b xs ys e = cc

rest-is : (a b : ℕ) (xs ys : List ℕ) → a ∷ xs ≡ b ∷ ys → xs ≡ ys
rest-is a b xs ys e = cc

plain-before : (b : ℕ) (bs r : List ℕ) → is_ascii_alphanumeric b ≡ true → mangled_before (b ∷ bs) r ≡ b ∷ mangled_before bs r
plain-before b bs r h = rw h refl

other-before : (b : ℕ) (bs r : List ℕ) → is_ascii_alphanumeric b ≡ false
    → mangled_before (b ∷ bs) r ≡ underscore ∷ hex_digit (b / 16) ∷ hex_digit (b % 16) ∷ mangled_before bs r
other-before b bs r h = rw h refl

-- no byte of a component begins the text
pub record IsByteless (text : List ℕ) : Type 0 where
  pub none : (b : ℕ) (bs q : List ℕ) → b < 256 → text ≡ mangled_before (b ∷ bs) q → ⊥

-- no byte of a component begins what follows one
not_followed : (r : List ℕ) (b : ℕ) (bs q : List ℕ) → b < 256 → Follows r → r ≡ mangled_before (b ∷ bs) q → ⊥
not_followed r b bs q small f e = go (is_ascii_alphanumeric b) refl f
  where
    go : (t : Bool) → is_ascii_alphanumeric b ≡ t → Follows r → ⊥
    go true h (inl w) = let g : [] ≡ b ∷ mangled_before bs q = sym w ∙ e ∙ plain-before b bs q h in cc
    go true h (inr w) =
        not_underscore b h (sym (first-is underscore b (underscore ∷ w.0) (mangled_before bs q) (sym w.1 ∙ e ∙ plain-before b bs q h)))
    go false h (inl w) =
        let g : [] ≡ underscore ∷ hex_digit (b / 16) ∷ hex_digit (b % 16) ∷ mangled_before bs q = sym w ∙ e ∙ other-before b bs q h in cc
    go false h (inr w) =
        let smaller : b / 16 < 16 = omega (arith, small) in
        let after = rest-is underscore underscore (underscore ∷ w.0) (hex_digit (b / 16) ∷ hex_digit (b % 16) ∷ mangled_before bs q)
        (sym w.1 ∙ e ∙ other-before b bs q h) in
        hex_digit-underscore (b / 16) smaller (sym (first-is underscore (hex_digit (b / 16)) w.0 (hex_digit (b % 16) ∷ mangled_before bs q) after))

pub follows-byteless : (r : List ℕ) → Follows r → IsByteless r
follows-byteless r f = record { none = λ b bs q small e. not_followed r b bs q small f e }

-- a first byte and what comes after it
same_first : (b c : ℕ) (bs cs r q : List ℕ) → b < 256 → c < 256 → mangled_before (b ∷ bs) r ≡ mangled_before (c ∷ cs) q
    → (b ≡ c) × (mangled_before bs r ≡ mangled_before cs q)
same_first b c bs cs r q l m e = go (is_ascii_alphanumeric b) (is_ascii_alphanumeric c) refl refl
  where
    go : (t u : Bool) → is_ascii_alphanumeric b ≡ t → is_ascii_alphanumeric c ≡ u → (b ≡ c) × (mangled_before bs r ≡ mangled_before cs q)
    go true true h k =
        let g = sym (plain-before b bs r h) ∙ e ∙ plain-before c cs q k in
        (first-is b c (mangled_before bs r) (mangled_before cs q) g, rest-is b c (mangled_before bs r) (mangled_before cs q) g)
    go true false h k =
        let g = sym (plain-before b bs r h) ∙ e ∙ other-before c cs q k in
        absurd (not_underscore b h (first-is b underscore (mangled_before bs r) (hex_digit (c / 16) ∷ hex_digit (c % 16) ∷ mangled_before cs q) g))
    go false true h k =
        let g = sym (plain-before c cs q k) ∙ sym e ∙ other-before b bs r h in
        absurd (not_underscore c k (first-is c underscore (mangled_before cs q) (hex_digit (b / 16) ∷ hex_digit (b % 16) ∷ mangled_before bs r) g))
    go false false h k =
        let g = rest-is underscore underscore (hex_digit (b / 16) ∷ hex_digit (b % 16) ∷ mangled_before bs r)
        (hex_digit (c / 16) ∷ hex_digit (c % 16) ∷ mangled_before cs q)
        (sym (other-before b bs r h) ∙ e ∙ other-before c cs q k) in
        let high = first-is (hex_digit (b / 16)) (hex_digit (c / 16)) (hex_digit (b % 16) ∷ mangled_before bs r) (hex_digit (c % 16) ∷ mangled_before cs q) g in
        let after = rest-is (hex_digit (b / 16)) (hex_digit (c / 16)) (hex_digit (b % 16) ∷ mangled_before bs r) (hex_digit (c % 16) ∷ mangled_before cs q) g in
        let low = first-is (hex_digit (b % 16)) (hex_digit (c % 16)) (mangled_before bs r) (mangled_before cs q) after in
        let lh : b / 16 < 16 = omega (arith, l) in
        let mh : c / 16 < 16 = omega (arith, m) in
        let ll : b % 16 < 16 = omega arith in
        let ml : c % 16 < 16 = omega arith in
        let eh : b / 16 ≡ c / 16 = hex_digit-injective (b / 16) (c / 16) lh mh high in
        let el : b % 16 ≡ c % 16 = hex_digit-injective (b % 16) (c % 16) ll ml low in
        (halves b c eh el, rest-is (hex_digit (b % 16)) (hex_digit (c % 16)) (mangled_before bs r) (mangled_before cs q) after)

-- a component is told from its text before what doesn't go on with a byte
pub same_component : (bs cs r q : List ℕ) → AreBytes bs → AreBytes cs → IsByteless r → IsByteless q → mangled_before bs r ≡ mangled_before cs q
    → (bs ≡ cs) × (r ≡ q)
same_component [] [] r q a b f g e = (refl, e)
same_component [] (c ∷ cs) r q a b f g e = absurd (f.none c cs q b.0 e)
same_component (b ∷ bs) [] r q a k f g e = absurd (g.none b bs r a.0 (sym e))
same_component (b ∷ bs) (c ∷ cs) r q a k f g e =
    let both = same_first b c bs cs r q a.0 k.0 e in
    let rest = same_component bs cs r q a.1 k.1 f g both.1 in
    ((λ i. both.0 i ∷ rest.0 i), rest.1)

-- what stands behind the first component is nothing or a boundary
pub follows-more : (name : Name) → Follows (mangled_more name)
follows-more [] = inl refl
follows-more (bytes ∷ name) = inr (mangled_before bytes (mangled_more name), refl)

pub mangled_more-byteless : (name : Name) → IsByteless (mangled_more name)
mangled_more-byteless name = follows-byteless (mangled_more name) (follows-more name)

same_more : (m n : Name) → AllByRecursion AreBytes m → AllByRecursion AreBytes n → mangled_more m ≡ mangled_more n → m ≡ n
same_more [] [] h k e = refl
same_more [] (c ∷ n) h k e = absurd (cc)
same_more (b ∷ m) [] h k e = absurd (cc)
same_more (b ∷ m) (c ∷ n) h k e =
    let after : mangled_before b (mangled_more m) ≡ mangled_before c (mangled_more n) = cc in
    let both = same_component b c (mangled_more m) (mangled_more n) h.0 k.0 (mangled_more-byteless m) (mangled_more-byteless n) after in
    let rest = same_more m n h.1 k.1 both.1 in
    λ i. both.0 i ∷ rest i

-- names with one mangled text are one
pub mangled-injective : (m n : Name) → IsName m → IsName n → mangled m ≡ mangled n → m ≡ n
mangled-injective [] n h k e = absurd h
mangled-injective (b ∷ m) [] h k e = absurd k
mangled-injective (b ∷ m) (c ∷ n) h k e =
    let both = same_component b c (mangled_more m) (mangled_more n) h.0 k.0 (mangled_more-byteless m) (mangled_more-byteless n) e in
    let rest = same_more m n h.1 k.1 both.1 in
    λ i. both.0 i ∷ rest i

byte-append : (t : Bool) (b : ℕ) (r q : List ℕ) → r ≡ q
    → cond t (b ∷ r) (underscore ∷ hex_digit (b / 16) ∷ hex_digit (b % 16) ∷ r) ≡ cond t (b ∷ q) (underscore ∷ hex_digit (b / 16) ∷ hex_digit (b % 16) ∷ q)
byte-append t b r q e = ap (λ x. cond t (b ∷ x) (underscore ∷ hex_digit (b / 16) ∷ hex_digit (b % 16) ∷ x)) e

-- two runs of bytes are written one after the other
pub mangled_before-append : (xs ys r : List ℕ) → mangled_before (xs ++ ys) r ≡ mangled_before xs (mangled_before ys r)
mangled_before-append [] ys r = refl
mangled_before-append (x ∷ xs) ys r = byte-append (is_ascii_alphanumeric x) x _ _ (mangled_before-append xs ys r)
