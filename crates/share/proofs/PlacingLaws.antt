-- The places of declarations among entries by numbers.
use Rattle.std.proofs.Common.{◌≡◌, ℕ, zero, suc, ◌+◌, ◌-◌, ◌<◌, ◌≤◌, refl, sym, ap, ◌∙◌, append_assoc, append-nil, Bool, true, false, List, [], ◌∷◌, ◌++◌, length, drop, Some, ltb-true, ltb-false, arith}
use Rattle.std.specs.Prelude.{if◌then◌else◌, nat_lt, slice_get, get_or}
use Rattle.std.proofs.Math.Path.{ap₂}
use Rattle.lp_spec.specs.Trees.{Tree, SortType, SortKind, Var, Sym, App, Lam, Pi}
use Rattle.lp_spec.specs.Modules.{Declaration, signature}
use Rattle.lp_term.specs.declared.LpId.{LpId}
use Rattle.share_spec.specs.MovedTrees.{moved, moved_symbol}
use Rattle.share_spec.specs.Folded.{entries_of, place_in}
use Rattle.share_laws.specs.FoldedModules.{kept_of, kept_of-entries_of}
use Rattle.share.specs.declared.listing.Listed.{Listed}
use Rattle.share.specs.declared.listing.Listed.TheVariants as listed
use Rattle.share.specs.Listings.{entries_in}
use Rattle.share.specs.Moving.{place_by, AreMade}
use Rattle.share.specs.Placings.{kept_places}
use Rattle.share.proofs.CountLaws.{drop-next, drop-past}

-- The loop
places-split : (es : List Listed) (i : ℕ) (e : Listed) → slice_get es i ≡ Some e → kept_places i (drop i es) ≡ kept_places i (e ∷ drop (i + 1) es)
places-split es i e f = ap (kept_places i) (drop-next es i e f ∙ (let n : suc i ≡ i + 1 = omega arith in ap (λ j. e ∷ drop j es) n))

pub places-kept : (es : List Listed) (i j : ℕ) (e : Listed) (places places' all : List ℕ) → slice_get es i ≡ Some e → e ≡ listed.Kept j → places' ≡ places
    ++ i ∷ [] → places ++ kept_places i (drop i es) ≡ all → places' ++ kept_places (i + 1) (drop (i + 1) es) ≡ all
places-kept es i j e places places' all f is g h =
    let rest = drop (i + 1) es in
    let n : i + 1 ≡ suc i = omega arith in
    ap₂ (λ x k. x ++ kept_places k rest) g n
    ∙ append_assoc places (i ∷ []) (kept_places (suc i) rest)
    ∙ ap (λ x. places ++ kept_places i (x ∷ rest)) (sym is)
    ∙ ap (λ x. places ++ x) (sym (places-split es i e f))
    ∙ h

pub places-abbreviated : (es : List Listed) (i : ℕ) (body ty : LpId) (e : Listed) (places all : List ℕ) → slice_get es i ≡ Some e → e
    ≡ listed.Abbreviated body ty → places ++ kept_places i (drop i es) ≡ all → places ++ kept_places (i + 1) (drop (i + 1) es) ≡ all
places-abbreviated es i body ty e places all f is h =
    let rest = drop (i + 1) es in
    let n : i + 1 ≡ suc i = omega arith in
    ap (λ k. places ++ kept_places k rest) n ∙ ap (λ x. places ++ kept_places i (x ∷ rest)) (sym is) ∙ ap (λ x. places ++ x) (sym (places-split es i e f)) ∙ h

pub places-last : (es : List Listed) (i : ℕ) (places all : List ℕ) → length es ≤ i → places ++ kept_places i (drop i es) ≡ all → places ≡ all
places-last es i places all l h = sym (append-nil places) ∙ ap (λ x. places ++ kept_places i x) (sym (drop-past es i l)) ∙ h

-- The places are those that the entries tell
module _ (m : List Declaration) (ts : List Tree) where
  place-known : (es : List Listed) (n i : ℕ) → i < length (kept_places n es) → get_or (kept_places n es) i 0 ≡ n + place_in (entries_in m ts es) i
  place-known [] n i l = absurd (omega (arith, l))
  place-known (listed.Kept j ∷ es) n zero l = omega arith
  place-known (listed.Kept j ∷ es) n (suc i) l = let e = place-known es (suc n) i (omega (arith, l)) in omega (arith, e)
  place-known (listed.Abbreviated body ty ∷ es) n i l = let e = place-known es (suc n) i l in omega (arith, e)

  place-beyond : (es : List Listed) (n i : ℕ) → length (kept_places n es) ≤ i → place_in (entries_in m ts es) i + length (kept_places n es) ≡ i + length es
  place-beyond [] n i l = refl
  place-beyond (listed.Kept j ∷ es) n zero l = absurd (omega (arith, l))
  place-beyond (listed.Kept j ∷ es) n (suc i) l = let e = place-beyond es (suc n) i (omega (arith, l)) in omega (arith, e)
  place-beyond (listed.Abbreviated body ty ∷ es) n i l = let e = place-beyond es (suc n) i l in omega (arith, e)

  kept-count : (es : List Listed) (n : ℕ) → length (kept_places n es) ≡ length (kept_of (entries_in m ts es))
  kept-count [] n = refl
  kept-count (listed.Kept j ∷ es) n = ap suc (kept-count es (suc n))
  kept-count (listed.Abbreviated body ty ∷ es) n = kept-count es (suc n)

  fewer-kept : (es : List Listed) → length (kept_of (entries_in m ts es)) ≤ length es
  fewer-kept [] = omega arith
  fewer-kept (listed.Kept j ∷ es) = omega (arith, fewer-kept es)
  fewer-kept (listed.Abbreviated body ty ∷ es) = omega (arith, fewer-kept es)

  -- there are no fewer entries than declarations
  pub entries-count : (es : List Listed) → entries_in m ts es ≡ entries_of m → length m ≤ length es
  entries-count es e = let n = ap length (kept_of-entries_of m) in let s = ap (λ l. length (kept_of l)) e in omega (arith, fewer-kept es, n, s)

  pub place_by-place_in : (es : List Listed) (places : List ℕ) (more : ℕ) → entries_in m ts es ≡ entries_of m → places ≡ kept_places 0 es → more + length m
      ≡ length es → (i : ℕ) → place_by places more i ≡ place_in (entries_of m) i
  place_by-place_in es places more e f g i = ap (λ x. place_by x more i) f ∙ go (nat_lt i (length (kept_places 0 es))) refl ∙ ap (λ x. place_in x i) e
    where
      count : length (kept_places 0 es) ≡ length m
      count = kept-count es 0 ∙ ap (λ l. length (kept_of l)) e ∙ ap length (kept_of-entries_of m)

      go : (b : Bool) → nat_lt i (length (kept_places 0 es)) ≡ b → (if b then get_or (kept_places 0 es) i 0 else i + more) ≡ place_in (entries_in m ts es) i
      go true h = let e = place-known es 0 i (ltb-true i (length (kept_places 0 es)) h) in omega (arith, e)
      go false h = let p = place-beyond es 0 i (ltb-false i (length (kept_places 0 es)) h) in omega (arith, p, g, count)

-- The same places
symbol-same : (g h : ℕ → ℕ) → ((i : ℕ) → g i ≡ h i) → (s : ℕ) → moved_symbol g s ≡ moved_symbol h s
symbol-same g h e s = go (nat_lt s (length signature))
  where
    go : (b : Bool) → (if b then s else length signature + g (s - length signature)) ≡ (if b then s else length signature + h (s - length signature))
    go true = refl
    go false = ap (λ n. length signature + n) (e (s - length signature))

moved-same : (g h : ℕ → ℕ) → ((i : ℕ) → g i ≡ h i) → (t : Tree) → moved g t ≡ moved h t
moved-same g h e SortType = refl
moved-same g h e SortKind = refl
moved-same g h e (Var n) = refl
moved-same g h e (Sym s) = ap Sym (symbol-same g h e s)
moved-same g h e (App f x) = ap₂ App (moved-same g h e f) (moved-same g h e x)
moved-same g h e (Lam a b) = ap₂ Lam (moved-same g h e a) (moved-same g h e b)
moved-same g h e (Pi a b) = ap₂ Pi (moved-same g h e a) (moved-same g h e b)

pub made-same : (g h : ℕ → ℕ) (source target : List Tree) (made : List LpId) → ((i : ℕ) → g i ≡ h i) → AreMade g source target made
    → AreMade h source target made
made-same g h source target made e a i id f = let p = a i id f in (p.0, p.1 ∙ moved-same g h e _)
