-- How what is gained and given composes, and causes too; when a file is empty.
use Rattle.std.specs.Prelude.{ℕ, ◌≡◌, ◌+◌, ◌≤◌, List, [], ◌++◌, length, take, drop, Option, None, Some, IfSome, is_some, unwrap_or, false, Result, Ok, Err, refl}
use Rattle.std.proofs.Common.{sym, ap, subst, ◌∙◌, append_assoc, take-add, arith}
use Rattle.std.proofs.lemmas.List.{append-nil, length-append, take-append-le}
use Rattle.std.proofs.Math.Seq.{take-length, take-append-add}
use Rattle.bridge_base.specs.Outside.{Rose, HasCause, Files, has, file, Gains, GainsFront, Gives, Begins}
use Rattle.std.specs.Map.{lookup}
use Rattle.std.specs.Str.{bytes_eq}

-- what gains nothing stays as it was
pub gains_none : (a : Option (List ℕ)) → Gains a [] a
gains_none None = tt
gains_none (Some xs) = sym (append-nil xs)

-- what stays as it was gained nothing
pub gains_none_of_same : (a b : Option (List ℕ)) → b ≡ a → Gains a [] b
gains_none_of_same a b same = let P : Option (List ℕ) → Type 0 = λ z. Gains a [] z in subst P (sym same) (gains_none a)

-- two gains are a gain of both
pub gains_both : (a b c : Option (List ℕ)) (xs ys : List ℕ) → Gains a xs b → Gains b ys c → Gains a (xs ++ ys) c
gains_both None None None xs ys first second = tt
gains_both (Some a) (Some b) (Some c) xs ys first second = second ∙ ap (λ z. z ++ ys) first ∙ append_assoc a xs ys
gains_both None None (Some c) xs ys first second = second
gains_both None (Some b) c xs ys first second = absurd first
gains_both (Some a) None c xs ys first second = absurd first
gains_both (Some a) (Some b) None xs ys first second = second

-- a prefix, and then a prefix of what follows it, is a longer prefix
pub gains_more : (a b c : Option (List ℕ)) (xs : List ℕ) (d k : ℕ) → Gains a (take d xs) b → Gains b (take k (drop d xs)) c → Gains a (take (d + k) xs) c
gains_more a b c xs d k first second = subst (λ ys. Gains a ys c) (sym (take-add d k xs)) (gains_both a b c (take d xs) (take k (drop d xs)) first second)

-- the whole is a prefix of itself
pub front_of_whole : (a b : Option (List ℕ)) (xs : List ℕ) → Gains a xs b → GainsFront a xs b
front_of_whole a b xs gained = (length xs, omega arith, subst (λ ys. Gains a ys b) (sym (take-length xs)) gained)

-- nothing is a prefix of anything
pub front_of_none : (a : Option (List ℕ)) (xs : List ℕ) → GainsFront a xs a
front_of_none a xs = (0, omega arith, gains_none a)

-- what stays as it was gained a prefix of anything
pub front_of_same : (a b : Option (List ℕ)) (xs : List ℕ) → b ≡ a → GainsFront a xs b
front_of_same a b xs same = (0, omega arith, gains_none_of_same a b same)

-- a prefix of a first part is one of the whole
pub front_of_first : (a b : Option (List ℕ)) (xs ys : List ℕ) → GainsFront a xs b → GainsFront a (xs ++ ys) b
front_of_first a b xs ys front = (
  front.0,
  (let long : length (xs ++ ys) ≡ length xs + length ys = length-append xs ys in omega (arith, long, front.1)),
  subst (λ zs. Gains a zs b) (sym (take-append-le front.0 xs ys front.1)) front.2,
)

-- a first part, and then a prefix of the second, is a prefix of both
pub front_of_second : (a b c : Option (List ℕ)) (xs ys : List ℕ) → Gains a xs b → GainsFront b ys c → GainsFront a (xs ++ ys) c
front_of_second a b c xs ys first front = (
  length xs + front.0,
  (let long : length (xs ++ ys) ≡ length xs + length ys = length-append xs ys in omega (arith, long, front.1)),
  subst (λ zs. Gains a zs c) (sym (take-append-add xs ys front.0)) (gains_both a b c xs (take front.0 ys) first front.2),
)

-- what is given as nothing stays as it was
pub gives_none : (a : Option (List ℕ)) → Gives a [] a
gives_none None = tt
gives_none (Some xs) = refl

-- what is given in two parts is given as both
pub gives_both : (a b c : Option (List ℕ)) (xs ys : List ℕ) → Gives a xs b → Gives b ys c → Gives a (xs ++ ys) c
gives_both None None None xs ys first second = tt
gives_both (Some a) (Some b) (Some c) xs ys first second = first ∙ ap (λ z. xs ++ z) second ∙ sym (append_assoc xs ys c)
gives_both None None (Some c) xs ys first second = second
gives_both None (Some b) c xs ys first second = absurd first
gives_both (Some a) None c xs ys first second = absurd first
gives_both (Some a) (Some b) None xs ys first second = second

-- what tells the same began nothing
pub begins_none : (a : Option (List (List ℕ))) → Begins a [] a
begins_none None = tt
begins_none (Some names) = sym (append-nil names)

-- names begun in two parts were begun in order
pub begins_both : (a b c : Option (List (List ℕ))) (xs ys : List (List ℕ)) → Begins a xs b → Begins b ys c → Begins a (xs ++ ys) c
begins_both a b None xs ys first second = tt
begins_both (Some a) (Some b) (Some c) xs ys first second = second ∙ ap (λ z. z ++ ys) first ∙ append_assoc a xs ys
begins_both a None (Some c) xs ys first second = absurd second
begins_both None (Some b) (Some c) xs ys first second = absurd first

-- what was given until nothing is left is the whole
pub given_whole : (a b : Option (List ℕ)) (xs : List ℕ) → Gives a xs b → IfSome b (λ rest. rest ≡ []) → IfSome a (λ whole. whole ≡ xs)
given_whole None None xs given end = tt
given_whole (Some a) (Some b) xs given end = given ∙ ap (λ rest. xs ++ rest) end ∙ append-nil xs
given_whole None (Some b) xs given end = absurd given
given_whole (Some a) None xs given end = absurd given

-- a file of a name that no file has is empty
pub file-absent : (files : Files) (name : List ℕ) → has files name ≡ false → file files name ≡ []
file-absent files name absent =
    elim (lookup (bytes_eq name) files) as (λ found. is_some found ≡ false → unwrap_or found [] ≡ []) [ None ↦ (λ _. refl) | Some bytes ↦ (λ impossible. cc) ]
    absent

-- a count that rose after some calls rose in all of them
pub rose_after : (before middle now : ℕ) → before ≤ middle → Rose middle now → Rose before now
rose_after before middle now later rose = omega (arith, later, rose)

-- a count that rose before some calls rose in all of them
pub rose_before : (before middle now : ℕ) → Rose before middle → middle ≤ now → Rose before now
rose_before before middle now rose later = omega (arith, later, rose)

-- a cause in the last of some calls is one in all of them
pub cause_after : {T E : Type 0} (before middle now : ℕ) (result : Result T E) → before ≤ middle → HasCause middle now result → HasCause before now result
cause_after before middle now (Ok value) later cause = record { later = omega (arith, later, cause.later); failed = tt }
cause_after before middle now (Err error) later cause =
    record { later = omega (arith, later, cause.later); failed = rose_after before middle now later cause.failed }

-- a cause in the first of some calls is one in all of them
pub cause_before : {T E : Type 0} (before middle now : ℕ) (result : Result T E) → HasCause before middle result → middle ≤ now → HasCause before now result
cause_before before middle now (Ok value) cause later = record { later = omega (arith, later, cause.later); failed = tt }
cause_before before middle now (Err error) cause later =
    record { later = omega (arith, later, cause.later); failed = rose_before before middle now cause.failed later }
