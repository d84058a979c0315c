-- The length of the text of commands is that of its lines; and numbers up to a greatest one.
use Rattle.std.proofs.Common.{◌≡◌, ℕ, zero, suc, ◌+◌, ◌*◌, ◌<◌, ◌≤◌, nat_le, Bool, true, false, List, [], ◌∷◌, ◌++◌, length, refl, ap, arith, length-append, min}
use Rattle.std.proofs.lemmas.List.Sums.{sum_by-cons, sum_by_push}
use Rattle.std.proofs.lemmas.Bool.Decides.{nat_tests}
use Rattle.article_spec.specs.declared.commands.Item.{Item}
use Rattle.article_spec.specs.Lines.{newline}
use Rattle.article_write_spec.specs.ItemTexts.{item_text, text_of}
use Rattle.article_write_spec.specs.Lengths.{item_length, items_length, capped}

pub text-length : (items : List Item) → length (text_of items) ≡ items_length items
text-length [] = refl
text-length (i ∷ is) =
    let whole : length (text_of (i ∷ is)) ≡ length (item_text i ++ newline ∷ []) + length (text_of is) =
    length-append (item_text i ++ newline ∷ []) (text_of is) in
    let line : length (item_text i ++ newline ∷ []) ≡ length (item_text i) + 1 = length-append (item_text i) (newline ∷ []) in
    let sum : items_length (i ∷ is) ≡ item_length i + items_length is = sum_by-cons item_length i is in
    omega (arith, whole, line, sum, text-length is)

pub items_length-said : (items : List Item) (i : Item) → items_length (items ++ i ∷ []) ≡ items_length items + item_length i
items_length-said items i = sum_by_push item_length items i

-- Numbers up to a greatest one
pub capped-small : (most n : ℕ) → n ≤ most → capped most n ≡ n
capped-small most n h = omega (arith, h)

-- a number of less than the greatest is told exactly
pub capped-exact : (most n : ℕ) → capped most n < most → n ≡ capped most n
capped-exact most n h = omega (arith, h)

-- a limit below the greatest number is passed by the one where it is by the other
pub capped-past : (most limit n : ℕ) → limit < most → limit < capped most n → limit < n
capped-past most limit n h k = omega (arith, h, k)

pub capped-within : (most limit n : ℕ) → limit < most → capped most n ≤ limit → capped most n ≡ n
capped-within most limit n h k = omega (arith, h, k)

-- sums and products of capped numbers
pub capped-plus : (most a b : ℕ) → capped most (capped most a + capped most b) ≡ capped most (a + b)
capped-plus most a b = omega arith

pub capped-times : (most a b : ℕ) → capped most (a * capped most b) ≡ capped most (a * b)
capped-times most zero b = ap (capped most) (let e : zero * capped most b ≡ zero * b = omega arith in e)
capped-times most (suc a) b = go (nat_le b most) refl
  where
    go : (d : Bool) → nat_le b most ≡ d → capped most (suc a * min b most) ≡ capped most (suc a * b)
    go true f = let z : b ≤ most = grind (arith, nat_tests, f) in ap (λ k. capped most (suc a * k)) (let e : min b most ≡ b = omega (arith, z) in e)
    go false f =
        let z : most ≤ b = grind (arith, nat_tests, f) in
        let same : suc a * min b most ≡ suc a * most = ap (λ k. suc a * k) (let e : min b most ≡ most = omega (arith, z) in e) in
        let one : suc a * most ≡ most + a * most = omega arith in
        let two : suc a * b ≡ b + a * b = omega arith in
        omega (arith, z, same, one, two)
