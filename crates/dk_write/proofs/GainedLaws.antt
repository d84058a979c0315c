-- How parts of a text that are written compose. A sink tells a before a part, b after it and c after the next; the bytes gathered for it are before, middle and after.
use Rattle.std.proofs.Common.{◌≡◌, ℕ, ◌≤◌, refl, sym, ap, subst, ◌∙◌, arith, List, [], ◌++◌, Option, Result, Ok, Err, append_assoc}
use Rattle.std.specs.Result.{IsErr, OnErr, OnOk}
use Rattle.std.proofs.lemmas.List.{append-nil}
use Rattle.bridge_base.specs.Outside.{Gains, GainsFront, HasCause}
use Rattle.bridge_base.specs.Gaining.{gains_both, front_of_first, front_of_second, cause_after, rose_after}
use Rattle.dk_write.specs.Writing.{Writes, Gained}

-- the sink got more of what was left
pub gained_both : (a b c : Option (List ℕ)) (whole left rest : List ℕ) → Gained a whole left b → Gained b left rest c → Gained a whole rest c
gained_both a b c whole left rest g h = record {
  done = g.done ++ h.done;
  gains = gains_both a b c g.done h.done g.gains h.gains;
  rest = g.rest ∙ ap (λ l. g.done ++ l) h.rest ∙ sym (append_assoc g.done h.done rest);
}

-- the bytes gathered and a text, by the text's parts
whole_is : (before text xs rest : List ℕ) → text ≡ xs ++ rest → before ++ text ≡ (before ++ xs) ++ rest
whole_is before text xs rest e = ap (λ l. before ++ l) e ∙ sym (append_assoc before xs rest)

-- the first part of a text is written
pub gained_part : (a b : Option (List ℕ)) (before text after xs rest : List ℕ) → text ≡ xs ++ rest → Gained a (before ++ xs) after b
    → Gained a (before ++ text) (after ++ rest) b
gained_part a b before text after xs rest e g = record {
  done = g.done;
  gains = g.gains;
  rest = whole_is before text xs rest e ∙ ap (λ l. l ++ rest) g.rest ∙ append_assoc g.done after rest;
}

-- the first part of what was left is written
pub gained_more : (a b c : Option (List ℕ)) (whole before left after xs rest : List ℕ) → Gained a whole (before ++ left) b → left ≡ xs ++ rest
    → Gained b (before ++ xs) after c → Gained a whole (after ++ rest) c
gained_more a b c whole before left after xs rest g e h =
    gained_both a b c whole (before ++ left) (after ++ rest) g (gained_part b c before left after xs rest e h)

-- the sink got what was gathered and the first part of what was left
pub gained_handed : (a b c : Option (List ℕ)) (whole before left xs rest : List ℕ) → Gained a whole (before ++ left) b → left ≡ xs ++ rest
    → Gains b (before ++ xs) c → Gained a whole rest c
gained_handed a b c whole before left xs rest g e h =
    gained_both a b c whole (before ++ left) rest g (record { done = before ++ xs; gains = h; rest = whole_is before left xs rest e })

-- the sink got all that was left
pub gained_whole : (a b c : Option (List ℕ)) (whole after : List ℕ) → Gained a whole after b → Gains b after c → Gains a whole c
gained_whole a b c whole after g h = subst (λ l. Gains a l c) (sym g.rest) (gains_both a b c g.done after g.gains h)

-- nothing was left
pub gained_all : (a b : Option (List ℕ)) (whole left : List ℕ) → left ≡ [] → Gained a whole left b → Gains a whole b
gained_all a b whole left e g = subst (λ l. Gains a l b) (sym (g.rest ∙ ap (λ l. g.done ++ l) e ∙ append-nil g.done)) g.gains

-- a call failed in the first part of a text
pub front_part : (a b : Option (List ℕ)) (before text xs rest : List ℕ) → text ≡ xs ++ rest → GainsFront a (before ++ xs) b → GainsFront a (before ++ text) b
front_part a b before text xs rest e h = subst (λ l. GainsFront a l b) (sym (whole_is before text xs rest e)) (front_of_first a b (before ++ xs) rest h)

-- so it is where the call answers an error
pub on_err_front : {T E : Type 0} (r : Result T E) (a b : Option (List ℕ)) (before text xs rest : List ℕ) → text ≡ xs ++ rest → GainsFront a (before ++ xs) b
    → OnErr r (GainsFront a (before ++ text) b)
on_err_front (Ok v) a b before text xs rest e h = tt
on_err_front (Err x) a b before text xs rest e h = front_part a b before text xs rest e h

-- a call failed in what was left
pub gained_front : (a b c : Option (List ℕ)) (whole left : List ℕ) → Gained a whole left b → GainsFront b left c → GainsFront a whole c
gained_front a b c whole left g h = subst (λ l. GainsFront a l c) (sym g.rest) (front_of_second a b c g.done left g.gains h)

module _ {T U E F : Type 0} where
  -- one text after another
  pub writes_then : (a b c : Option (List ℕ)) (before middle after : List ℕ) (i j k : ℕ) (xs ys : List ℕ) (r : Result T E) (s : Result U F) (v : T)
      → r ≡ Ok v → Writes a before i xs b middle j r → Writes b middle j ys c after k s → Writes a before i (xs ++ ys) c after k s
  writes_then a b c before middle after i j k xs ys (Ok v) (Ok u) w e first second = record {
    ok = gained_both a b c (before ++ (xs ++ ys)) (middle ++ ys) after (gained_part a b before (xs ++ ys) middle xs ys refl first.ok) second.ok;
    err = tt;
    cause = cause_after i j k (Ok u) first.cause.later second.cause;
  }
  writes_then a b c before middle after i j k xs ys (Ok v) (Err u) w e first second = record {
    ok = tt;
    err = gained_front a b c (before ++ (xs ++ ys)) (middle ++ ys) (gained_part a b before (xs ++ ys) middle xs ys refl first.ok) second.err;
    cause = cause_after i j k (Err u) first.cause.later second.cause;
  }
  writes_then a b c before middle after i j k xs ys (Err x) s w e first second = absurd (cc)

  -- a text of which the first part failed
  pub writes_stop : (a b : Option (List ℕ)) (before after : List ℕ) (i j : ℕ) (xs ys : List ℕ) (r : Result T E) (s : Result U F) (x : E)
      → r ≡ Err x → IsErr s → Writes a before i xs b after j r → Writes a before i (xs ++ ys) b after j s
  writes_stop a b before after i j xs ys (Err x) (Err y) u e f first = record {
    ok = tt;
    err = front_part a b before (xs ++ ys) xs ys refl first.err;
    cause = record { later = first.cause.later; failed = first.cause.failed };
  }
  writes_stop a b before after i j xs ys (Ok v) s u e f first = absurd (cc)
  writes_stop a b before after i j xs ys (Err x) (Ok v) u e f first = absurd (cc)

  -- a call failed in what was left
  pub writes_failed : (a b c : Option (List ℕ)) (before after : List ℕ) (i j k : ℕ) (text left : List ℕ) (x : E) (s : Result U F)
      → IsErr s → Gained a (before ++ text) left b → i ≤ j → GainsFront b left c → HasCause {T = T} j k (Err x) → Writes a before i text c after k s
  writes_failed a b c before after i j k text left x (Err z) e g later h cause = record {
    ok = tt;
    err = gained_front a b c (before ++ text) left g h;
    cause = record { later = omega (arith, later, cause.later); failed = rose_after i j k later cause.failed };
  }
  writes_failed a b c before after i j k text left x (Ok v) e g later h cause = absurd (cc)

-- a text is written, and then all that is gathered
pub writes_flushed : {T E : Type 0} (a b c : Option (List ℕ)) (before middle after : List ℕ) (i j k : ℕ) (text : List ℕ) (r : Result T E)
    → Gained a (before ++ text) middle b → i ≤ j → OnOk r (after ≡ []) → OnOk r (Gains b middle c) → OnErr r (GainsFront b middle c) → HasCause j k r
    → Writes a before i text c after k r
writes_flushed a b c before middle after i j k text (Ok v) g later none ok err cause = record {
  ok = record {
    done = g.done ++ middle;
    gains = gains_both a b c g.done middle g.gains ok;
    rest = g.rest ∙ sym (ap (λ l. (g.done ++ middle) ++ l) none ∙ append-nil (g.done ++ middle));
  };
  err = tt;
  cause = cause_after i j k (Ok v) later cause;
}
writes_flushed a b c before middle after i j k text (Err x) g later none ok err cause = record {
  ok = tt;
  err = gained_front a b c (before ++ text) middle g err;
  cause = cause_after i j k (Err x) later cause;
}

-- the same text, written otherwise
pub writes_same : {T E : Type 0} {a c : Option (List ℕ)} {before after : List ℕ} {i k : ℕ} {s : Result T E} (xs ys : List ℕ) → xs ≡ ys
    → Writes a before i ys c after k s → Writes a before i xs c after k s
writes_same {a = a} {c = c} {before = before} {after = after} {i = i} {k = k} {s = s} xs ys e w = subst (λ l. Writes a before i l c after k s) (sym e) w

-- a fact, of an error alone
pub on_err : {T E P : Type 0} (r : Result T E) → P → OnErr r P
on_err (Ok v) p = tt
on_err (Err x) p = p
