-- What is waiting for a sink, as more is taken and as it is given.
use Rattle.std.proofs.Common.{◌≡◌, ℕ, ◌+◌, ◌-◌, ◌≤◌, refl, sym, ap, subst, ◌∙◌, arith, List, [], ◌∷◌, ◌++◌, length, length-append, take, drop, Option, None, Some, Result, Ok, Err, OnOk, append_assoc}
use Rattle.std.proofs.lemmas.List.{take-append-drop, drop-drop, drop-append-le, length-take, append-nil, take-take}
use Rattle.std.proofs.lemmas.List.Edits.{between_none}
use Rattle.std.proofs.lemmas.Slice.{between_is, take-put_mid}
use Rattle.std.proofs.Math.Seq.{take-append-add, take-append_seam}
use borrow.Rule.Slice.PartMut.{put_mid}
use Rattle.bridge_base.specs.Outside.{Gains, GainsFront, HasCause}
use Rattle.bridge_base.specs.Gaining.{cause_after}
use Rattle.article_lines.specs.Writing.{Writes}
use Rattle.article_write.specs.Gathering.{told_with, told_length, numbered, told_since}

-- a front of what was waiting is given
pub told_with-given : (old new : Option (List ℕ)) (xs : List ℕ) (k : ℕ) → Gains old (take k xs) new → told_with new (drop k xs) ≡ told_with old xs
told_with-given None None xs k g = refl
told_with-given (Some a) (Some b) xs k g =
    ap Some (ap (λ l. l ++ drop k xs) g ∙ append_assoc a (take k xs) (drop k xs) ∙ ap (λ l. a ++ l) (take-append-drop k xs))
told_with-given None (Some b) xs k g = absurd g
told_with-given (Some a) None xs k g = absurd g

-- more is waiting
pub told_with-taken : (told : Option (List ℕ)) (xs ys : List ℕ) → Gains (told_with told xs) ys (told_with told (xs ++ ys))
told_with-taken None xs ys = tt
told_with-taken (Some a) xs ys = sym (append_assoc a xs ys)

-- nothing is waiting
pub told_with-nothing : (told : Option (List ℕ)) → told_with told [] ≡ told
told_with-nothing None = refl
told_with-nothing (Some a) = ap Some (append-nil a)

-- what is told grows
pub gains_length : (old new : Option (List ℕ)) (bytes : List ℕ) → Gains old bytes new → told_length old ≤ told_length new
gains_length None None bytes g = omega arith
gains_length (Some a) (Some b) bytes g = let long = ap length g ∙ length-append a bytes in omega (arith, long)
gains_length None (Some b) bytes g = absurd g
gains_length (Some a) None bytes g = absurd g

-- a part that ends where it starts
pub nothing_between : (bytes : List ℕ) (start end : ℕ) → start ≡ end → drop start (take end bytes) ≡ []
nothing_between bytes start end e = ap (λ n. drop start (take n bytes)) (sym e) ∙ sym (between_is bytes start start) ∙ between_none bytes start

-- a piece is put behind a part
pub taken_behind : (bytes : List ℕ) (start end count : ℕ) (piece ys : List ℕ) → start ≤ end → end ≤ length bytes → count ≤ length piece → ys ≡ take count piece
    → drop start (take (end + count) (put_mid end (end + count - end) bytes ys)) ≡ drop start (take end bytes) ++ take count piece
taken_behind bytes start end count piece ys order room bound e =
    let long : length ys ≡ count = let l = ap length e in omega (arith, l, bound, length-take {A = ℕ}) in
    ap (drop start) (take-put_mid end (end + count - end) bytes ys (end + count) (omega (arith, long)) room)
    ∙ drop-append-le start (take end bytes) ys (omega (arith, order, room, length-take {A = ℕ}))
    ∙ ap (λ l. drop start (take end bytes) ++ l) e

-- the front of a part is given
pub given_between : (old new : Option (List ℕ)) (bytes : List ℕ) (start end count : ℕ) → Gains old (take count (take (end - start) (drop start bytes))) new
    → told_with new (drop (start + count) (take end bytes)) ≡ told_with old (drop start (take end bytes))
given_between old new bytes start end count g =
    let part : take (end - start) (drop start bytes) ≡ drop start (take end bytes) = between_is bytes start end in
    ap (told_with new) (sym (drop-drop count start (take end bytes)))
    ∙ told_with-given old new (drop start (take end bytes)) count (subst (λ l. Gains old (take count l) new) part g)

-- what is told with a number before it
pub numbered-gains : (n : ℕ) (old new : Option (List ℕ)) (bytes : List ℕ) → Gains old bytes new → Gains (numbered n old) bytes (numbered n new)
numbered-gains n None None bytes g = tt
numbered-gains n (Some a) (Some b) bytes g = ap (λ l. n ∷ l) g
numbered-gains n None (Some b) bytes g = absurd g
numbered-gains n (Some a) None bytes g = absurd g

-- a list without its first number, and its first number
abbrev others : List ℕ → List ℕ
others [] = []
others (x ∷ xs) = xs

abbrev first : List ℕ → ℕ
first [] = 0
first (x ∷ xs) = x

module _ (old begun got : Option (List ℕ)) (waiting text : List ℕ) where
  -- what is told since the beginning, without the number
  gains_since : Gains (told_since old old []) text (told_since begun got waiting) → Gains old text (told_with got waiting)
  gains_since g = elim old as (λ o. Gains (numbered (told_length o) (told_with o [])) text (told_since begun got waiting)
      → Gains o text (told_with got waiting)) [
        | None ↦ none got
        | Some a ↦ some a got
      ] g
    where
      none : (s : Option (List ℕ)) → Gains None text (told_since begun s waiting) → Gains None text (told_with s waiting)
      none None h = tt
      none (Some t) h = absurd h

      some : (a : List ℕ) (s : Option (List ℕ)) → Gains (Some (length a ∷ (a ++ []))) text (told_since begun s waiting)
          → Gains (Some a) text (told_with s waiting)
      some a None h = absurd h
      some a (Some t) h = ap others h ∙ ap (λ l. l ++ text) (append-nil a)

  -- the number is that of the beginning
  long_since : told_length begun ≤ told_length got → Gains (told_since old old []) text (told_since begun got waiting) → told_length old ≤ told_length got
  long_since grown g = elim old as
      (λ o. Gains (numbered (told_length o) (told_with o [])) text (told_since begun got waiting) → told_length o ≤ told_length got) [
        | None ↦ (λ _. omega arith)
        | Some a ↦ some a got grown
      ] g
    where
      some : (a : List ℕ) (s : Option (List ℕ)) → told_length begun ≤ told_length s → Gains (Some (length a ∷ (a ++ []))) text (told_since begun s waiting)
          → length a ≤ told_length s
      some a None h k = absurd k
      some a (Some t) h k = let same : told_length begun ≡ length a = ap first k in omega (arith, same, h)

-- what was told first is a front of what is told and waiting
front_of : (a t waiting text : List ℕ) → t ++ waiting ≡ a ++ text → length a ≤ length t → t ≡ a ++ take (length t - length a) text
front_of a t waiting text e h =
    let far : length t ≡ length a + (length t - length a) = omega (arith, h) in
    sym (take-append_seam t waiting) ∙ ap (take (length t)) e ∙ ap (λ n. take n (a ++ text)) far ∙ take-append-add a text (length t - length a)

front_since : (old got : Option (List ℕ)) (waiting text : List ℕ) → Gains old text (told_with got waiting) → told_length old ≤ told_length got
    → GainsFront old text got
front_since None None waiting text g h = (0, omega arith, tt)
front_since (Some a) (Some t) waiting text g h =
    let within : length t - length a ≤ length text =
    let l = ap length g in let m = length-append t waiting in let n = length-append a text in omega (arith, l, m, n) in
    (length t - length a, within, front_of a t waiting text g h)
front_since None (Some t) waiting text g h = absurd g
front_since (Some a) None waiting text g h = absurd g

-- a front of a front
front_front : (old new : Option (List ℕ)) (text : List ℕ) (k : ℕ) → GainsFront old (take k text) new → GainsFront old text new
front_front old new text k f =
    let within : f.0 ≤ k = let l = f.1 in omega (arith, l, length-take {A = ℕ}) in
    (f.0, (let l = f.1 in omega (arith, l, length-take {A = ℕ})), subst (λ l. Gains old l new) (take-take f.0 k text within) f.2)

module _ {E : Type 0} (old begun got : Option (List ℕ)) (waiting text : List ℕ) (faults i j : ℕ) where
  -- all was taken, and then what was waiting was given
  pub writes_given : (new : Option (List ℕ)) (left : List ℕ) (result : Result Unit E) → told_length begun ≤ told_length got
      → Writes {T = Unit} {E = E} (told_since old old []) faults text (told_since begun got waiting) i (Ok tt)
      → OnOk result (new ≡ told_with got waiting) → told_with new left ≡ told_with got waiting → told_length got ≤ told_length new → HasCause i j result
      → Writes old faults text new j result
  writes_given new left (Ok v) grown w ok kept more cause = record {
    ok = subst (Gains old text) (sym ok) (gains_since old begun got waiting text w.ok);
    err = tt;
    cause = cause_after faults i j (Ok v) w.cause.later cause;
  }
  writes_given new left (Err x) grown w ok kept more cause = record {
    ok = tt;
    err = front_since old new left text (subst (Gains old text) (sym kept) (gains_since old begun got waiting text w.ok))
        (let l = long_since old begun got waiting text grown w.ok in omega (arith, l, more));
    cause = cause_after faults i j (Err x) w.cause.later cause;
  }

  -- a call failed before
  pub writes_failed : (x : E) → told_length begun ≤ told_length got
      → Writes {T = Unit} {E = E} (told_since old old []) faults text (told_since begun got waiting) i (Err x)
      → Writes {T = Unit} {E = E} old faults text got i (Err x)
  writes_failed x grown w = record {
    ok = tt;
    err = let f = w.err in
        front_front old got text f.0
        (front_since old got waiting (take f.0 text) (gains_since old begun got waiting (take f.0 text) f.2)
        (long_since old begun got waiting (take f.0 text) grown f.2));
    cause = w.cause;
  }

-- what is written from the beginning
pub writes_begun : {T E : Type 0} (a b s : Option (List ℕ)) (waiting : List ℕ) (i faults : ℕ) (text : List ℕ) (new : Option (List ℕ)) (now : ℕ) (r : Result T E)
    → b ≡ a → s ≡ a → waiting ≡ [] → faults ≡ i
    → Writes (told_since b s waiting) faults text new now r → Writes (told_since a a []) i text new now r
writes_begun a b s waiting i faults text new now r e f g h w =
    subst (λ x. Writes (told_since x a []) i text new now r) e
    (subst (λ x. Writes (told_since b x []) i text new now r) f
    (subst (λ x. Writes (told_since b s x) i text new now r) g (subst (λ x. Writes (told_since b s waiting) x text new now r) h w)))
