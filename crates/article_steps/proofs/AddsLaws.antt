-- What is added by one writer after another.
use Rattle.std.proofs.Common.{◌≡◌, ℕ, List, Option, Result, Ok, Err, IsErr, refl, subst, ◌∙◌, arith}
use Rattle.bridge_base.specs.Gaining.{gains_none}
use Rattle.hol_term.specs.Tables.{Trees}
use Rattle.article_spec.specs.declared.commands.Item.{Item}
use Rattle.article_write_spec.specs.Drafts.{Draft, say}
use Rattle.article_steps.specs.Agenda.{Agenda}
use Rattle.article_lines.specs.Things.{Keyed}
use Rattle.article_steps.specs.Agendas.{do_jobs}
use Rattle.article_lines.specs.Writing.{Writes, line}
use Rattle.article_steps.specs.Said.{said, kept_by, IsAppending}
use Rattle.article_steps.specs.Left.{kept_of, IsOpen, Adds}
use Rattle.article_steps.proofs.SaidLaws.{appends-say, tells-then, tells-stop, tells-say}

module _ (trees : Trees) where
  module _ {T E U F : Type 0} where
    pub adds-then : (f g : Draft → Draft) (k l m : Keyed) (p o : ℕ) (a b c : Option (List ℕ)) (i j n : ℕ) (r : Result T E) (s : Result U F) (v : T)
        → IsAppending g → r ≡ Ok v → Adds trees f k a i l p b j r → Adds trees g l b j m o c n s → Adds trees (λ d. g (f d)) k a i m o c n s
    adds-then f g k l m p o a b c i j n (Ok w) (Ok u) v h e first second = record {
      tells = tells-then f g (kept_of trees k) (kept_of trees l) (kept_of trees m) a b c i j n (Ok w) (Ok u) w h refl first.tells second.tells;
      ready = second.ready;
      count = second.count ∙ first.count;
    }
    adds-then f g k l m p o a b c i j n (Ok w) (Err x) v h e first second = record {
      tells = tells-then f g (kept_of trees k) (kept_of trees l) (kept_of trees m) a b c i j n (Ok w) (Err x) w h refl first.tells second.tells;
      ready = tt;
      count = tt;
    }
    adds-then f g k l m p o a b c i j n (Err x) s v h e first second = absurd (cc)

    pub adds-stop : (f g : Draft → Draft) (k l : Keyed) (p o : ℕ) (a b : Option (List ℕ)) (i j : ℕ) (r : Result T E) (s : Result U F) (x : E)
        → IsAppending g → r ≡ Err x → IsErr s → Adds trees f k a i l p b j r → Adds trees (λ d. g (f d)) k a i l o b j s
    adds-stop f g k l p o a b i j (Err y) (Err z) x h e u first = record {
      tells = tells-stop f g (kept_of trees k) (kept_of trees l) (kept_of trees l) a b i j (Err y) (Err z) y h refl u first.tells;
      ready = tt;
      count = tt;
    }
    adds-stop f g k l p o a b i j (Err y) (Ok z) x h e u first = absurd (cc)
    adds-stop f g k l p o a b i j (Ok y) s x h e u first = absurd (cc)

  pub adds-say : {T E : Type 0} (i : Item) (k : Keyed) (p : ℕ) (a b : Option (List ℕ)) (f g : ℕ) (r : Result T E) → IsOpen trees k p → Writes a f (line i) b g r
      → Adds trees (say i) k a f k p b g r
  adds-say i k p a b f g (Ok v) o w = record { tells = tells-say i (kept_of trees k) a b f g (Ok v) w; ready = o; count = refl }
  adds-say i k p a b f g (Err x) o w = record { tells = tells-say i (kept_of trees k) a b f g (Err x) w; ready = tt; count = tt }

  -- what is open then
  pub open-of : {T E : Type 0} (f : Draft → Draft) (k l : Keyed) (p : ℕ) (a b : Option (List ℕ)) (i j : ℕ) (r : Result T E) (v : T) → r ≡ Ok v
      → Adds trees f k a i l p b j r → IsOpen trees l p
  open-of f k l p a b i j (Ok w) v e h = h.ready
  open-of f k l p a b i j (Err x) v e h = absurd (cc)

  pub count-of : {T E : Type 0} (f : Draft → Draft) (k l : Keyed) (p : ℕ) (a b : Option (List ℕ)) (i j : ℕ) (r : Result T E) (v : T) → r ≡ Ok v
      → Adds trees f k a i l p b j r → l.theorems ≡ k.theorems
  count-of f k l p a b i j (Ok w) v e h = h.count
  count-of f k l p a b i j (Err x) v e h = absurd (cc)

  pub keeps-of : {T E : Type 0} (f : Draft → Draft) (k l : Keyed) (p : ℕ) (a b : Option (List ℕ)) (i j : ℕ) (r : Result T E) (v : T) → r ≡ Ok v
      → Adds trees f k a i l p b j r → kept_of trees l ≡ kept_by f (kept_of trees k)
  keeps-of f k l p a b i j (Ok w) v e h = h.tells.keeps
  keeps-of f k l p a b i j (Err x) v e h = absurd (cc)

  -- the same over tables, told by an equation
  pub adds-moved : {T E : Type 0} (t : Trees) (w : Trees → Draft → Draft) (k l : Keyed) (p : ℕ) (a b : Option (List ℕ)) (i j : ℕ) (r : Result T E) → t ≡ trees
      → Adds t (w t) k a i l p b j r → Adds trees (w trees) k a i l p b j r
  adds-moved t w k l p a b i j r e h = subst (λ u. Adds u (w u) k a i l p b j r) e h

  -- one command more
  pub adds-then-say : {T E U F : Type 0} (f : Draft → Draft) (t : Item) (k l : Keyed) (p : ℕ) (a b c : Option (List ℕ)) (i j n : ℕ) (r : Result T E)
      (s : Result U F) (v : T)
      → r ≡ Ok v → Adds trees f k a i l p b j r → Writes b j (line t) c n s → Adds trees (λ d. say t (f d)) k a i l p c n s
  adds-then-say f t k l p a b c i j n r s v e first w =
      adds-then f (say t) k l l p p a b c i j n r s v (appends-say t) e first (adds-say t l p b c j n s (open-of f k l p a b i j r v e first) w)

  pub adds-stop-say : {T E U F : Type 0} (f : Draft → Draft) (t : Item) (k l : Keyed) (p o : ℕ) (a b : Option (List ℕ)) (i j : ℕ) (r : Result T E)
      (s : Result U F) (x : E)
      → r ≡ Err x → IsErr s → Adds trees f k a i l p b j r → Adds trees (λ d. say t (f d)) k a i l o b j s
  adds-stop-say f t k l p o a b i j r s x e u first = adds-stop f (say t) k l p o a b i j r s x (appends-say t) e u first

  pub adds-none : (k : Keyed) (p : ℕ) (a : Option (List ℕ)) (f : ℕ) → IsOpen trees k p → Adds {T = Unit {0}} {E = Unit {0}} trees (λ d. d) k a f k p a f (Ok tt)
  unfolding said kept_by
  adds-none k p a f o = record {
    tells = record { writes = record { ok = gains_none a; err = tt; cause = record { later = omega arith; failed = tt } }; keeps = refl };
    ready =
        o;
    count = refl;
  }

  -- an agenda, told by an equation
  pub adds-agenda : {T E : Type 0} (q : ℕ) (n is : Agenda) (k l : Keyed) (p : ℕ) (a b : Option (List ℕ)) (f g : ℕ) (r : Result T E) → n ≡ is
      → Adds trees (do_jobs trees q n.binders n.jobs) k a f l p b g r → Adds trees (do_jobs trees q is.binders is.jobs) k a f l p b g r
  adds-agenda q n is k l p a b f g r e h = subst (λ x. Adds trees (do_jobs trees q x.binders x.jobs) k a f l p b g r) e h

  -- nothing is added
  pub adds-nothing : {T E : Type 0} (k : Keyed) (p : ℕ) (a : Option (List ℕ)) (f : ℕ) (r : Result T E) (v : T) → r ≡ Ok v → IsOpen trees k p
      → Adds trees (λ d. d) k a f k p a f r
  unfolding said kept_by
  adds-nothing k p a f (Ok w) v e o = record {
    tells = record { writes = record { ok = gains_none a; err = tt; cause = record { later = omega arith; failed = tt } }; keeps = refl };
    ready =
        o;
    count = refl;
  }
  adds-nothing k p a f (Err x) v e o = absurd (cc)
