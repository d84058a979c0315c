-- Lists that are written element by element.
use Rattle.std.proofs.Common.{◌≡◌, ℕ, zero, suc, ◌+◌, List, [], ◌∷◌, length, map, take, drop, Option, Some, Result, Ok, Err, IsErr, refl, sym, ap, subst, ◌∙◌, arith}
use Rattle.std.specs.Prelude.{slice_get}
use Rattle.std.proofs.lemmas.List.{length-map}
use Rattle.hol_term.specs.Tables.{Trees}
use Rattle.article_spec.specs.declared.commands.Word.TheVariants as word
use Rattle.article_write_spec.specs.Drafts.{Draft, say_word, conses, write_each, write_list}
use Rattle.article_lines.specs.Things.{Keyed}
use Rattle.article_steps.specs.Said.{IsAppending}
use Rattle.article_steps.specs.Left.{IsOpen, Adds}
use Rattle.article_steps.proofs.SaidLaws.{appends-each}
use Rattle.article_steps.proofs.AddsLaws.{adds-then, adds-stop, adds-none}

-- the same writer, written otherwise
pub adds-same : {T E : Type 0} (trees : Trees) (f g : Draft → Draft) (k l : Keyed) (o : ℕ) (a b : Option (List ℕ)) (i j : ℕ) (r : Result T E)
    → ((d : Draft) → f d ≡ g d) → Adds trees f k a i l o b j r → Adds trees g k a i l o b j r
adds-same trees f g k l o a b i j r same h =
    let path : f ≡ g = λ x d. same d x in
    subst (λ w. Adds trees w k a i l o b j r) path h

module _ {A : Type 0} (write : A → Draft → Draft) where
  taken-each : (xs : List A) (i : ℕ) (x : A) → slice_get xs i ≡ Some x → (d : Draft) → write x (write_each write (take i xs) d)
      ≡ write_each write (take (i + 1) xs) d
  taken-each [] i x e d = absurd (cc)
  taken-each (y ∷ xs) zero x e d = let same : x ≡ y = cc in ap (λ z. write z d) same
  taken-each (y ∷ xs) (suc i) x e d =
      let next : suc (i + 1) ≡ suc i + 1 = omega arith in
      taken-each xs i x e (write y d) ∙ ap (λ k. write_each write (take k (y ∷ xs)) d) next

  parted-each : (xs : List A) (i : ℕ) (x : A) → slice_get xs i ≡ Some x → (d : Draft)
      → write_each write (drop (suc i) xs) (write x (write_each write (take i xs) d)) ≡ write_each write xs d
  parted-each [] i x e d = absurd (cc)
  parted-each (y ∷ xs) zero x e d = let same : x ≡ y = cc in ap (λ z. write_each write xs (write z d)) same
  parted-each (y ∷ xs) (suc i) x e d = parted-each xs i x e (write y d)

  all-each : (xs : List A) (i : ℕ) → length xs ≡ i → (d : Draft) → write_each write (take i xs) d ≡ write_each write xs d
  all-each [] zero e d = refl
  all-each [] (suc i) e d = refl
  all-each (y ∷ xs) zero e d = absurd (omega (arith, e))
  all-each (y ∷ xs) (suc i) e d = all-each xs i (omega (arith, e)) (write y d)

  module _ (appends : (x : A) → IsAppending (write x)) (trees : Trees) where
    pub each-first : (xs : List A) (k : Keyed) (p : ℕ) (a : Option (List ℕ)) (f : ℕ) → IsOpen trees k p
        → Adds {T = Unit {0}} {E = Unit {0}} trees (write_each write (take 0 xs)) k a f k p a f (Ok tt)
    each-first xs k p a f o = adds-none trees k p a f o

    -- one element more
    pub each-next : {T E : Type 0} (xs : List A) (i : ℕ) (x : A) (k l m : Keyed) (p o : ℕ) (a b c : Option (List ℕ)) (f g h : ℕ) (s : Result T E) (v : T)
        → slice_get xs i ≡ Some x → s ≡ Ok v
        → Adds {T = Unit {0}} {E = Unit {0}} trees (write_each write (take i xs)) k a f l p b g (Ok tt) → Adds trees (write x) l b g m o c h s
        → Adds {T = Unit {0}} {E = Unit {0}} trees (write_each write (take (i + 1) xs)) k a f m o c h (Ok tt)
    each-next xs i x k l m p o a b c f g h (Ok w) v e is first second =
        adds-same trees _ _ k m o a c f h (Ok tt) (taken-each xs i x e)
        (adds-then trees (write_each write (take i xs)) (write x) k l m p o a b c f g h (Ok tt) (Ok tt) tt (appends x) refl first
        (record {
          tells = record {
            writes =
                record { ok = second.tells.writes.ok; err = tt; cause = record { later = second.tells.writes.cause.later; failed = tt } };
            keeps =
                second.tells.keeps;
          };
          ready = second.ready;
          count = second.count;
        }))
    each-next xs i x k l m p o a b c f g h (Err w) v e is first second = absurd (cc)

    -- the writer of an element failed
    pub each-failed : {T E U F : Type 0} (xs : List A) (i : ℕ) (x : A) (k l m : Keyed) (p o n : ℕ) (a b c : Option (List ℕ)) (f g h : ℕ) (s : Result T E)
        (r : Result U F) (v : E) (behind : Draft → Draft) → IsAppending behind → slice_get xs i ≡ Some x → s ≡ Err v → IsErr r
        → Adds {T = Unit {0}} {E = Unit {0}} trees (write_each write (take i xs)) k a f l p b g (Ok tt) → Adds trees (write x) l b g m o c h s
        → Adds trees (λ d. behind (write_each write xs d)) k a f m n c h r
    each-failed xs i x k l m p o n a b c f g h s r v behind more e is u first second =
        adds-stop trees (write_each write xs) behind k m o n a c f h s r v more is u
        (adds-same trees _ _ k m o a c f h s (parted-each xs i x e)
        (adds-stop trees (λ d. write x (write_each write (take i xs) d)) (write_each write (drop (suc i) xs)) k m o o a c f h s s v
        (appends-each write appends (drop (suc i) xs)) is (subst IsErr (sym is) refl)
        (adds-then trees (write_each write (take i xs)) (write x) k l m p o a b c f g h (Ok tt) s tt (appends x) refl first second)))

    -- all of them, and what is behind them
    pub each-done : {T E : Type 0} (xs : List A) (i : ℕ) (k l m : Keyed) (p o : ℕ) (a b c : Option (List ℕ)) (f g h : ℕ) (s : Result T E)
        (behind : Draft → Draft) → IsAppending behind → length xs ≡ i
        → Adds {T = Unit {0}} {E = Unit {0}} trees (write_each write (take i xs)) k a f l p b g (Ok tt) → Adds trees behind l b g m o c h s
        → Adds trees (λ d. behind (write_each write xs d)) k a f m o c h s
    each-done xs i k l m p o a b c f g h s behind more e first second =
        adds-then trees (write_each write xs) behind k l m p o a b c f g h (Ok tt) s tt more refl
        (adds-same trees _ _ k l p a b f g (Ok tt) (all-each xs i e) first) second

-- a list of views
each-map : {A B : Type 0} (write : B → Draft → Draft) (view : A → B) (raw : List A) (d : Draft) → write_each (λ x. write (view x)) raw d
    ≡ write_each write (map view raw) d
each-map write view [] d = refl
each-map write view (y ∷ raw) d = each-map write view raw (write (view y) d)

pub each-viewed : {A B : Type 0} (write : B → Draft → Draft) (view : A → B) (raw : List A) (xs : List B) → xs ≡ map view raw → (d : Draft)
    → write_each (λ x. write (view x)) raw d ≡ write_each write xs d
each-viewed write view raw xs e d = each-map write view raw d ∙ ap (λ l. write_each write l d) (sym e)

pub list-viewed : {A B : Type 0} (write : B → Draft → Draft) (view : A → B) (raw : List A) (xs : List B) → xs ≡ map view raw
    → (d : Draft) → conses (length raw) (say_word word.Nil (write_each (λ x. write (view x)) raw d)) ≡ write_list write xs d
list-viewed write view raw xs e d =
    ap (λ z. conses (length raw) (say_word word.Nil z)) (each-viewed write view raw xs e d)
    ∙ ap (λ k. conses k (say_word word.Nil (write_each write xs d))) (sym (ap length e ∙ length-map raw view))
