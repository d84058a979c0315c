-- A loop that keeps what has a set flag, in place, and one that numbers it.
use Rattle.std.proofs.Common.{◌≡◌, ℕ, ◌+◌, ◌<◌, ◌≤◌, sym, ap, subst, ◌∙◌, arith, Bool, true, false, cond, List, [], ◌∷◌, ◌++◌, length, take, drop, set, map, get_or, append_assoc, add-one, drop-cons, ◌⊎◌, inl, inr}
use Rattle.std.specs.List.{items_where_true, swap}
use Rattle.std.proofs.Math.Path.{ap₂}
use Rattle.std.proofs.lemmas.Bool.{cases_lt}
use Rattle.std.proofs.lemmas.List.Edits.{swap_is, map_over_more}
use Rattle.std.proofs.Math.ListN.{drop_of_length-le}
use Rattle.std.proofs.lemmas.List.{append-nil, get_or_default, set-set, take-set-le, take_more_set, drop-set-lt}
use Rattle.stack_machine.specs.Collecting.{new_numbers}

-- the rest of a list begins with its item there
drop_here : {X : Type 0} (xs : List X) (i : ℕ) (d : X) → i < length xs → drop i xs ≡ get_or xs i d ∷ drop (i + 1) xs
drop_here xs i d l = rw add-one (drop-cons xs i d l)

-- an item that goes down to the end of what is kept: the items up to it, and those above
module _ {X : Type 0} (ys : List X) (k i : ℕ) (d : X) (l : i < length ys) (b : k ≤ i) where
  take-swapped : take (k + 1) (set (set ys k (get_or ys i d)) i (get_or ys k d)) ≡ take k ys ++ get_or ys i d ∷ []
  take-swapped = by_order (cases_lt k i)
    where
      by_order : (k < i) ⊎ (i ≤ k) → take (k + 1) (set (set ys k (get_or ys i d)) i (get_or ys k d)) ≡ take k ys ++ get_or ys i d ∷ []
      by_order (inl lt) = take-set-le (k + 1) (set ys k (get_or ys i d)) i (get_or ys k d) (omega arith) ∙ take_more_set ys k (get_or ys i d) (omega arith)
      by_order (inr ge) =
          let e : k ≡ i = omega arith in
          subst (λ j. take (j + 1) (set (set ys j (get_or ys i d)) i (get_or ys j d)) ≡ take j ys ++ get_or ys i d ∷ []) (sym e)
          (ap (take (i + 1)) (set-set ys i (get_or ys i d) (get_or ys i d)) ∙ take_more_set ys i (get_or ys i d) l)

  drop-swapped : drop (i + 1) (set (set ys k (get_or ys i d)) i (get_or ys k d)) ≡ drop (i + 1) ys
  drop-swapped = drop-set-lt (i + 1) (set ys k (get_or ys i d)) i (get_or ys k d) (omega arith) ∙ drop-set-lt (i + 1) ys k (get_or ys i d) (omega arith)

-- the loop's step where an item is kept, and where it is not
some_more : {X : Type 0} (flags : List Bool) (ys zs : List X) (k i : ℕ) (d : X) → i < length flags → length ys ≡ length flags → k ≤ i → get_or flags i false
    ≡ true → zs ≡ set (set ys k (get_or ys i d)) i (get_or ys k d)
    → take (k + 1) zs ++ items_where_true (drop (i + 1) flags) (drop (i + 1) zs) ≡ take k ys ++ items_where_true (drop i flags) (drop i ys)
some_more flags ys zs k i d l e b t s =
    let m : i < length ys = omega arith in
    rw s (ap₂ (λ us vs. us ++ items_where_true (drop (i + 1) flags) vs) (take-swapped ys k i d m b) (drop-swapped ys k i d m b)
    ∙ append_assoc (take k ys) (get_or ys i d ∷ []) (items_where_true (drop (i + 1) flags) (drop (i + 1) ys))
    ∙ ap₂ (λ us vs. take k ys ++ items_where_true us vs) (sym (drop_here flags i false l ∙ ap (λ x. x ∷ drop (i + 1) flags) t)) (sym (drop_here ys i d m)))

pub kept_more : {X : Type 0} (flags : List Bool) (ys zs : List X) (k i : ℕ) → i < length flags → length ys ≡ length flags → k ≤ i → get_or flags i false ≡ true
    → zs ≡ swap ys k i
    → take (k + 1) zs ++ items_where_true (drop (i + 1) flags) (drop (i + 1) zs) ≡ take k ys ++ items_where_true (drop i flags) (drop i ys)
kept_more flags [] zs k i l e b t s = absurd (omega arith)
kept_more flags (y ∷ ys) zs k i l e b t s = some_more flags (y ∷ ys) zs k i y l e b t (s ∙ sym (swap_is (y ∷ ys) k i y (omega arith) (omega arith)))

pub passed_more : {X : Type 0} (flags : List Bool) (ys : List X) (k i : ℕ) → i < length flags → length ys ≡ length flags → get_or flags i false ≡ false
    → take k ys ++ items_where_true (drop (i + 1) flags) (drop (i + 1) ys) ≡ take k ys ++ items_where_true (drop i flags) (drop i ys)
passed_more flags [] k i l e t = absurd (omega arith)
passed_more flags (y ∷ ys) k i l e t =
    let m : i < length (y ∷ ys) = omega arith in
    ap₂ (λ us vs. take k (y ∷ ys) ++ items_where_true us vs) (sym (drop_here flags i false l ∙ ap (λ x. x ∷ drop (i + 1) flags) t))
    (sym (drop_here (y ∷ ys) i y m))

-- one item more is rewritten
pub written_more : {X : Type 0} (f : X → X) (xs ys zs : List X) (i : ℕ) (d x : X) → zs ≡ xs → i < length zs → length ys ≡ length zs → ys ≡ map f (take i xs)
    ++ drop i xs → x ≡ f (get_or ys i d) → set ys i x ≡ map f (take (i + 1) xs) ++ drop (i + 1) xs
written_more f xs ys zs i d x s l n e w = rw w
    (map_over_more f xs ys i (get_or ys i d) (omega (arith, ap length s)) e (get_or_default ys i d (get_or ys i d) (omega arith)))

-- one number more, and all numbers
pub numbered_more : (flags : List Bool) (numbers more all : List ℕ) (i n m : ℕ) → i < length flags → cond (get_or flags i false) (n + 1) n ≡ m → more ≡ numbers
    ++ n ∷ [] → numbers ++ new_numbers n (drop i flags) ≡ all
    → more ++ new_numbers m (drop (i + 1) flags) ≡ all
numbered_more flags numbers more all i n m l g e h =
    let next : new_numbers n (drop i flags) ≡ n ∷ new_numbers m (drop (i + 1) flags) =
    ap (new_numbers n) (drop_here flags i false l) ∙ ap (λ k. n ∷ new_numbers k (drop (i + 1) flags)) g in
    ap (λ xs. xs ++ new_numbers m (drop (i + 1) flags)) e ∙ append_assoc numbers (n ∷ []) (new_numbers m (drop (i + 1) flags))
    ∙ ap (λ xs. numbers ++ xs) (sym next) ∙ h

pub numbered_all : (flags : List Bool) (numbers all : List ℕ) (i n : ℕ) → length flags ≤ i → numbers ++ new_numbers n (drop i flags) ≡ all → numbers ≡ all
numbered_all flags numbers all i n l h = sym (append-nil numbers) ∙ ap (λ bs. numbers ++ new_numbers n bs) (sym (drop_of_length-le flags l)) ∙ h
