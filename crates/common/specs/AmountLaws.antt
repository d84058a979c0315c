-- The amount of a code where the large ones grow, or some are given up.
use Rattle.std.proofs.Common.{◌≡◌, ℕ, zero, suc, ◌+◌, ◌-◌, ◌≤◌, ◌<◌, ◌^◌, refl, sym, ap, ◌∙◌, arith, List, [], ◌∷◌, ◌++◌, length, Bool, true, false, get_or, take}
use Rattle.std.specs.Prelude.{nat_lt, if◌then◌else◌}
use Rattle.std.proofs.lemmas.List.{length-append, get_or_append_left, get_or-append-add}
use Rattle.common.specs.Amounts.{IsCode, amount_of, IsGrown}

-- the amount of a code stays where the large ones grow
pub amount_of-more : (large more : List ℕ) (code : ℕ) → IsCode (length large) code → amount_of (large ++ more) code ≡ amount_of large code
amount_of-more large more code h = go (nat_lt code (2 ^ 31)) refl
  where
    go : (b : Bool) → nat_lt code (2 ^ 31) ≡ b → (if nat_lt code (2 ^ 31) then code else get_or (large ++ more) (code - 2 ^ 31) 0)
        ≡ (if nat_lt code (2 ^ 31) then code else get_or large (code - 2 ^ 31) 0)
    go true e = rw e refl
    go false e = let above : 2 ^ 31 ≤ code = grind (arith, e) in rw e (get_or_append_left large more 0 (code - 2 ^ 31) (omega (arith, above, h)))

-- the amount of a code stays where the first large ones are kept, and it is among them
pub amount_of-take : (large : List ℕ) (count code : ℕ) → IsCode count code → amount_of (take count large) code ≡ amount_of large code
amount_of-take large count code h = go (nat_lt code (2 ^ 31)) refl
  where
    kept : (xs : List ℕ) (n i : ℕ) → i < n → get_or (take n xs) i 0 ≡ get_or xs i 0
    kept [] zero i l = refl
    kept [] (suc n) i l = refl
    kept (x ∷ xs) zero i l = absurd (omega (arith, l))
    kept (x ∷ xs) (suc n) zero l = refl
    kept (x ∷ xs) (suc n) (suc i) l = kept xs n i (omega (arith, l))

    go : (b : Bool) → nat_lt code (2 ^ 31) ≡ b → (if nat_lt code (2 ^ 31) then code else get_or (take count large) (code - 2 ^ 31) 0)
        ≡ (if nat_lt code (2 ^ 31) then code else get_or large (code - 2 ^ 31) 0)
    go true e = rw e refl
    go false e = let above : 2 ^ 31 ≤ code = grind (arith, e) in rw e (kept large count (code - 2 ^ 31) (omega (arith, above, h)))

-- a list that has grown is longer
pub grown-longer : (old new : List ℕ) → IsGrown old new → length old ≤ length new
grown-longer old new g = omega (arith, ap length g.1, length-append old g.0)

-- a list that has grown twice
pub grown-twice : (a b c : List ℕ) → IsGrown a b → IsGrown b c → IsGrown a c
grown-twice a b c g h = (g.0 ++ h.0, h.1 ∙ ap (λ w. w ++ h.0) g.1 ∙ regroup a g.0 h.0)
  where
    regroup : (a b c : List ℕ) → (a ++ b) ++ c ≡ a ++ (b ++ c)
    regroup [] b c = refl
    regroup (x ∷ a) b c = ap (λ w. x ∷ w) (regroup a b c)

-- the amount of a code stays on a list that has grown
pub grown-amount_of : (old new : List ℕ) (code : ℕ) → IsGrown old new → IsCode (length old) code → amount_of new code ≡ amount_of old code
grown-amount_of old new code g h = ap (λ w. amount_of w code) g.1 ∙ amount_of-more old g.0 code h

-- the code of an amount that is large
pub amount_of-large : (large : List ℕ) (amount code : ℕ) → code ≡ 2 ^ 31 + length large → amount_of (large ++ amount ∷ []) code ≡ amount
amount_of-large large amount code e = go (nat_lt code (2 ^ 31)) refl
  where
    go : (b : Bool) → nat_lt code (2 ^ 31) ≡ b → (if nat_lt code (2 ^ 31) then code else get_or (large ++ amount ∷ []) (code - 2 ^ 31) 0) ≡ amount
    go true h = absurd (grind (arith, h, e))
    go false h = let at : code - 2 ^ 31 ≡ length large + 0 = omega (arith, e) in rw (h, at) (get_or-append-add large (amount ∷ []) 0 0)
