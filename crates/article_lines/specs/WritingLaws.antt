-- How parts of a text that are written compose. A sink tells a before a part, b after it and c after the next.
use Rattle.std.proofs.Common.{◌≡◌, ℕ, ◌≤◌, le_trans, sym, subst, List, ◌++◌, Option, Result, Ok, Err, IsErr}
use Rattle.bridge_base.specs.Outside.{Gains, GainsFront}
use Rattle.bridge_base.specs.Gaining.{gains_both, front_of_first, front_of_second, cause_after, rose_after}
use Rattle.article_lines.specs.Writing.{Writes}

module _ {T U E F : Type 0} where
  -- one text after another
  pub writes_then : (a b c : Option (List ℕ)) (i j k : ℕ) (xs ys : List ℕ) (r : Result T E) (s : Result U F) (v : T)
      → r ≡ Ok v → Writes a i xs b j r → Writes b j ys c k s → Writes a i (xs ++ ys) c k s
  writes_then a b c i j k xs ys (Ok v) (Ok u) w e first second = record {
    ok = gains_both a b c xs ys first.ok second.ok;
    err = tt;
    cause = cause_after i j k (Ok u) first.cause.later second.cause;
  }
  writes_then a b c i j k xs ys (Ok v) (Err u) w e first second = record {
    ok = tt;
    err = front_of_second a b c xs ys first.ok second.err;
    cause = cause_after i j k (Err u) first.cause.later second.cause;
  }
  writes_then a b c i j k xs ys (Err x) s w e first second = absurd (cc)

  -- a text of which the first part failed
  pub writes_stop : (a b : Option (List ℕ)) (i j : ℕ) (xs ys : List ℕ) (r : Result T E) (s : Result U F) (x : E)
      → r ≡ Err x → IsErr s → Writes a i xs b j r → Writes a i (xs ++ ys) b j s
  writes_stop a b i j xs ys (Err x) (Err y) u e f first = record {
    ok = tt;
    err = front_of_first a b xs ys first.err;
    cause = record { later = first.cause.later; failed = first.cause.failed };
  }
  writes_stop a b i j xs ys (Ok v) s u e f first = absurd (cc)
  writes_stop a b i j xs ys (Err x) (Ok v) u e f first = absurd (cc)

  -- a text of which a front was written, and whose next part failed
  pub writes_failed : (a b c : Option (List ℕ)) (i j k : ℕ) (text done part rest : List ℕ) (r : Result T E) (s : Result U F) (x : E)
      → r ≡ Err x → IsErr s → text ≡ done ++ (part ++ rest) → Gains a done b → i ≤ j → Writes b j part c k r → Writes a i text c k s
  writes_failed a b c i j k text done part rest (Err x) (Err y) u e f is gained later next = record {
    ok = tt;
    err = subst (λ l. GainsFront a l c) (sym is) (front_of_second a b c done (part ++ rest) gained (front_of_first b c part rest next.err));
    cause = record { later = le_trans later next.cause.later; failed = rose_after i j k later next.cause.failed };
  }
  writes_failed a b c i j k text done part rest (Ok v) s u e f is gained later next = absurd (cc)
  writes_failed a b c i j k text done part rest (Err x) (Ok v) u e f is gained later next = absurd (cc)

-- the same text, written otherwise
pub writes_same : {T E : Type 0} {a c : Option (List ℕ)} {i k : ℕ} {s : Result T E} (xs ys : List ℕ) → xs ≡ ys → Writes a i ys c k s → Writes a i xs c k s
writes_same {a = a} {c = c} {i = i} {k = k} {s = s} xs ys e w = subst (λ l. Writes a i l c k s) (sym e) w
