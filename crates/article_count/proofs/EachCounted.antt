-- Lists, counted element by element.
use Rattle.std.proofs.Common.{◌≡◌, ℕ, ◌+◌, ◌<◌, ◌≤◌, List, [], ◌∷◌, length, drop, get_or, refl, sym, ap, subst, ◌∙◌}
use Rattle.std.proofs.lemmas.List.{drop_all, drop_more}
use Rattle.hol_term.specs.Tables.{Trees}
use Rattle.article_write_spec.specs.Lengths.{Tally, add, count_each, capped}
use Rattle.article_write_spec.specs.ArticleLength.{list_length, count_list}
use Rattle.article_lines.specs.Greatest.{greatest_length}
use Rattle.article_count.specs.declared.terms.TermCount.{TermCount}
use Rattle.article_count.specs.Counts.{added}
use Rattle.article_count.specs.TermTasks.{CanCountTerms, CountsTerms, IsTermTally}
use Rattle.article_count.proofs.TermWalks.{added-IsTermTally}

-- so much is added
pub adds-CountsTerms : {trees : Trees} {c : TermCount} (d : TermCount) (n k : ℕ) → d ≡ record c { count = added n c.count } → capped greatest_length n
    ≡ capped greatest_length k → CountsTerms trees c d (λ q. add k)
adds-CountsTerms {trees = trees} {c = c} d n k is same steps q m h =
    subst (λ x. IsTermTally trees steps q x (add k m)) (sym is) (added-IsTermTally (record c { count = added n c.count }) n k same refl refl refl refl h)

-- one after another
pub counts-then : {trees : Trees} {c d e : TermCount} (f g : ℕ → Tally → Tally) → CountsTerms trees c d f → CountsTerms trees d e g
    → CountsTerms trees c e (λ q m. g q (f q m))
counts-then f g one two steps q m h = two steps q (f q m) (one steps q m h)

pub can-then : {trees : Trees} {c d : TermCount} (f : ℕ → Tally → Tally) → CountsTerms trees c d f → CanCountTerms trees c → CanCountTerms trees d
can-then f one can = (can.0, can.1, f can.1 can.2, one can.0 can.1 can.2 can.3)

-- there is room for as many theorems as before
pub theorems-stay : {trees : Trees} {c d : TermCount} (f : ℕ → Tally → Tally) → CountsTerms trees c d f → CanCountTerms trees c → d.count.keys.theorems
    ≡ c.count.keys.theorems
theorems-stay f one can = (one can.0 can.1 can.2 can.3).tally.theorems ∙ sym can.3.tally.theorems

-- what is left of a list comes to the same as all of it
pub record IsEach {A B : Type 0} (trees : Trees) (P : List A → Type 0) (view : List A → List B) (f : ℕ → B → Tally → Tally) (c : TermCount) (all rest : List A)
    (d : TermCount) : Type 0 where
  pub known : P rest
  pub comes : (steps q : ℕ) (m : Tally) → IsTermTally trees steps q c m → (now : Tally) × IsTermTally trees steps q d now
      × (count_each (f q) (view rest) now ≡ count_each (f q) (view all) m)

pub each-begins : {A B : Type 0} {trees : Trees} {P : List A → Type 0} {view : List A → List B} {f : ℕ → B → Tally → Tally} {c : TermCount} {all : List A}
    → P all → IsEach trees P view f c all all c
each-begins k = record { known = k; comes = λ steps q m h. (m, h, refl) }

module _ {A B : Type 0} {trees : Trees} {P : List A → Type 0} {view : List A → List B} {f : ℕ → B → Tally → Tally} {c : TermCount} {all : List A} where
  -- the next element is the first that is left
  pub each-turn : {d : TermCount} (i : ℕ) (x : A) → i < length all → IsEach trees P view f c all (drop i all) d
      → IsEach trees P view f c all (get_or all i x ∷ drop (i + 1) all) d
  each-turn {d = d} i x low h = subst (λ l. IsEach trees P view f c all l d) (drop_more all i x low) h

  -- where the element is read
  pub each-item : {d : TermCount} (i : ℕ) (x : A) → x ≡ get_or all i x → i < length all → IsEach trees P view f c all (drop i all) d
      → IsEach trees P view f c all (x ∷ drop (i + 1) all) d
  each-item {d = d} i x is low h = subst (λ z. IsEach trees P view f c all (z ∷ drop (i + 1) all) d) (sym is) (each-turn i x low h)

  each-next : {d e : TermCount} (rest : List A) (x : A) (y : B) → view (x ∷ rest) ≡ y ∷ view rest → (P (x ∷ rest) → P rest) → CountsTerms trees d e (λ q. f q y)
      → IsEach trees P view f c all (x ∷ rest) d → IsEach trees P view f c all rest e
  each-next rest x y is tail counts h = record {
    known = tail h.known;
    comes = λ steps q m k. let now = h.comes steps q m k in (f q y now.0, counts steps q now.0 now.1, ap (λ l. count_each (f q) l now.0) (sym is) ∙ now.2);
  }

  -- and it is counted
  pub each-turned : {d e : TermCount} (i : ℕ) (x : A) (y : B) → i < length all → view (get_or all i x ∷ drop (i + 1) all) ≡ y ∷ view (drop (i + 1) all)
      → (P (get_or all i x ∷ drop (i + 1) all) → P (drop (i + 1) all)) → CountsTerms trees d e (λ q. f q y)
      → IsEach trees P view f c all (drop i all) d → IsEach trees P view f c all (drop (i + 1) all) e
  each-turned i x y low is tail counts h = each-next (drop (i + 1) all) (get_or all i x) y is tail counts (each-turn i x low h)

  pub item-turned : {d e : TermCount} (i : ℕ) (x : A) (y : B) → x ≡ get_or all i x → i < length all → view (x ∷ drop (i + 1) all) ≡ y ∷ view (drop (i + 1) all)
      → (P (x ∷ drop (i + 1) all) → P (drop (i + 1) all)) → CountsTerms trees d e (λ q. f q y)
      → IsEach trees P view f c all (drop i all) d → IsEach trees P view f c all (drop (i + 1) all) e
  item-turned i x y at low is tail counts h = each-next (drop (i + 1) all) x y is tail counts (each-item i x at low h)

  pub each-can : {rest : List A} {d : TermCount} → IsEach trees P view f c all rest d → CanCountTerms trees c → CanCountTerms trees d
  each-can h can = let now = h.comes can.0 can.1 can.2 can.3 in (can.0, can.1, now.0, now.1)

  -- all are counted
  pub each-ends : (i : ℕ) (d : TermCount) → length all ≤ i → view [] ≡ [] → IsEach trees P view f c all (drop i all) d
      → CountsTerms trees c d (λ q. count_each (f q) (view all))
  each-ends i d done none h steps q m k =
      let now = h.comes steps q m k in
      subst (IsTermTally trees steps q d) (ap (λ l. count_each (f q) l now.0) (sym (ap view (drop_all i all done) ∙ none)) ∙ now.2) now.1

  -- with what stands behind the elements
  pub list-ends : (i n : ℕ) (d e : TermCount) → length all ≤ i → view [] ≡ [] → n ≡ length (view all) → e ≡ record d { count = added (list_length n) d.count }
      → IsEach trees P view f c all (drop i all) d → CountsTerms trees c e (λ q. count_list (f q) (view all))
  list-ends i n d e done none same is h =
      counts-then (λ q. count_each (f q) (view all)) (λ q. add (list_length (length (view all)))) (each-ends i d done none h)
      (adds-CountsTerms e (list_length n) (list_length (length (view all))) is (ap (λ k. capped greatest_length (list_length k)) same))
