-- A folded module is a module: its names are new, its trees closed and over what comes before; no tree of it names an abbreviation, and it
-- can be written where the module can.
use Rattle.std.proofs.Common.{◌≡◌, ◌<◌, ℕ, suc, refl, sym, ap, subst, ◌∙◌, append_assoc, Bool, true, false, List, [], ◌∷◌, ◌++◌, length, map, Option, Some, None, arith}
use Rattle.std.specs.Prelude.{◌||◌, IsFalse, codes, bytes_eq, option_map, option_and_then, take, drop}
use Rattle.std.specs.List.{filter, flat_map}
use Rattle.std.proofs.Math.Path.{ap₂, subst₂}
use Rattle.std.proofs.lemmas.Bool.{or_from, false_from_ne_true}
use Rattle.std.proofs.lemmas.List.{take-append-drop}
use Rattle.std.proofs.lemmas.Slice.Eq.{bytes_eq-Decides}
use Rattle.lp_spec.specs.declared.form.Form.TheVariants.{Def}
use Rattle.lp_spec.specs.Trees.{Tree, SortType, SortKind, Var, Sym, App, Lam, Pi}
use Rattle.lp_spec.specs.Modules.{Declaration, signature, symbol_declaration}
use Rattle.lp_spec.specs.ModuleOrder.{is_declared, AreDeclared, IsModule}
use Rattle.lp_spec.specs.Lemmas.{lemmas}
use Rattle.lp_spec.specs.Numerals.{numeral}
use Rattle.dk_laws.specs.ReadTrees.{signature_unshort, NoneShort-append, short_body-None, unshort-at}
use Rattle.lp_spec.specs.ShortNames.{NoneShort, is_short_name, short_body, short_for, IsLong, IsBodyLong, AreLong}
use Rattle.lp_typing_laws.specs.Soundness.{IsSound, IsSound-after}
use Rattle.lp_typing_laws.specs.SignatureLaws.{signature_sound}
use Rattle.lp_check_laws.specs.ShapedPasses.{AreShaped, shaped-typed}
use Rattle.translate_laws.specs.OrderedModules.{shaped-over}
use Rattle.translate_laws.specs.NumeralLaws.{numeral-injective, is_numeral-numeral}
use Rattle.share_spec.specs.MovedTrees.{moved_symbol, moved, moved_declaration}
use Rattle.share_spec.specs.Folded.{Entry, kept, abbreviated, parts_in, firsts, is_shared, abbreviations, entries, entries_of, place_in, declarations, folded}
use Rattle.share_laws.specs.MovedLaws.{IsMoved, moved-symbol_declaration}
use Rattle.share_laws.specs.FoldedShapes.{IsPlaced, IsPlaced-IsMoved, IsPlaced-kept, IsPlaced-abbreviated, IsPlaced-first, folded-AreShaped}

-- the name of the abbreviation with a number
abbrev pub abbreviation_name : ℕ → List ℕ
abbreviation_name k = codes "X" ++ numeral k

pub abbreviation_name-short : (k : ℕ) → is_short_name (abbreviation_name k) ≡ true
abbreviation_name-short k = is_numeral-numeral k

tail_is : (a b : List ℕ) → ◌≡◌ {A = List ℕ} (88 ∷ a) (88 ∷ b) → a ≡ b
tail_is a b e = cc

pub abbreviation_name-injective : (j k : ℕ) → abbreviation_name j ≡ abbreviation_name k → j ≡ k
abbreviation_name-injective j k e = numeral-injective j k (tail_is (numeral j) (numeral k) e)

-- Names
other_bytes : (a b : List ℕ) → (a ≡ b → ⊥) → bytes_eq a b ≡ false
other_bytes a b h = false_from_ne_true (bytes_eq a b) (λ e. h ((bytes_eq-Decides a b).0 e))

not_declared-parts : (xs : List Declaration) (d : Declaration) (name : List ℕ) → IsFalse (is_declared (xs ++ d ∷ []) name)
    → IsFalse (is_declared xs name) × (bytes_eq d.name name ≡ false)
not_declared-parts [] d name e = (refl, grind (arith, e))
not_declared-parts (x ∷ xs) d name e = go (bytes_eq x.name name) refl e (λ i. not_declared-parts xs d name i)
  where
    go : (b : Bool) → bytes_eq x.name name ≡ b → IsFalse (b || is_declared (xs ++ d ∷ []) name)
        → (IsFalse (is_declared (xs ++ d ∷ []) name) → IsFalse (is_declared xs name) × (bytes_eq d.name name ≡ false))
        → IsFalse (is_declared (x ∷ xs) name) × (bytes_eq d.name name ≡ false)
    go true i j f = absurd (cc)
    go false i j f = let k = f j in (rw i k.0, k.1)

not_declared-from : (xs : List Declaration) (d : Declaration) (name : List ℕ) → IsFalse (is_declared xs name) → bytes_eq d.name name ≡ false
    → IsFalse (is_declared (xs ++ d ∷ []) name)
not_declared-from [] d name e f = rw f refl
not_declared-from (x ∷ xs) d name e f = go (bytes_eq x.name name) refl e (λ i. not_declared-from xs d name i f)
  where
    go : (b : Bool) → bytes_eq x.name name ≡ b → IsFalse (b || is_declared xs name)
        → (IsFalse (is_declared xs name) → IsFalse (is_declared (xs ++ d ∷ []) name)) → IsFalse (bytes_eq x.name name || is_declared (xs ++ d ∷ []) name)
    go true i j k = absurd (cc)
    go false i j k = rw i (k j)

-- what the declarations after a place are called: as those before, or as one of so many abbreviations
abbrev HaveNames : List Declaration → List Declaration → ℕ → Type 0
HaveNames before after k = (name : List ℕ) → IsFalse (is_declared before name) → ((j : ℕ) → j < k → abbreviation_name j ≡ name → ⊥) → IsFalse
    (is_declared after name)

names-kept : (g : ℕ → ℕ) (before after : List Declaration) (d : Declaration) (k : ℕ) → HaveNames before after k
    → HaveNames (before ++ d ∷ []) (after ++ moved_declaration g d ∷ []) k
names-kept g before after d k h name e f = let p = not_declared-parts before d name e in not_declared-from after (moved_declaration g d) name (h name p.0 f) p.1

names-abbreviated : (before after : List Declaration) (x : Declaration) (k : ℕ) → x.name ≡ abbreviation_name k → HaveNames before after k
    → HaveNames before (after ++ x ∷ []) (suc k)
names-abbreviated before after x k is h name e f =
    not_declared-from after x name (h name e (λ j l. f j (omega (arith, l)))) (other_bytes x.name name (λ s. f k (omega arith) (sym is ∙ s)))

none_declared : (ds : List Declaration) (k : ℕ) → NoneShort ds → IsFalse (is_declared ds (abbreviation_name k))
none_declared [] k h = refl
none_declared (d ∷ ds) k h =
    or_from (bytes_eq d.name (abbreviation_name k)) (is_declared ds (abbreviation_name k))
    (other_bytes d.name (abbreviation_name k) (λ e. absurd (let a = h.0 in let b = abbreviation_name-short k in let c = ap is_short_name e in cc)))
    (none_declared ds k h.1)

-- the declarations of entries that are kept
abbrev pub kept_of : List Entry → List Declaration
kept_of [] = []
kept_of (kept d ∷ es) = d ∷ kept_of es
kept_of (abbreviated t a ∷ es) = kept_of es

-- They are a module
module _ (g : ℕ → ℕ) where
  entries-AreDeclared : (before after : List Declaration) (es : List Entry) (k : ℕ) → HaveNames (signature ++ before) (signature ++ after) k
      → NoneShort (signature ++ before) → NoneShort (kept_of es) → AreDeclared (signature ++ before) (kept_of es) → IsSound after
      → AreShaped after (declarations g k es)
      → AreDeclared (signature ++ after) (declarations g k es)
  entries-AreDeclared before after [] k n u v h s p = tt
  entries-AreDeclared before after (kept d ∷ es) k n u v h s p =
      let d' = moved_declaration g d in
      let o = shaped-over after d' s p.0 in (
        record {
          new_name = n d.name h.0.new_name (λ j l e. absurd (let a = v.0 in let b = abbreviation_name-short j in let c = ap is_short_name e in cc));
          ty = o.0;
          body = o.1;
        },
        subst (λ w. AreDeclared w (declarations g k es)) (sym (append_assoc signature after (d' ∷ [])))
            (entries-AreDeclared (before ++ d ∷ []) (after ++ d' ∷ []) es k
            (subst₂ (λ x y. HaveNames x y k) (append_assoc signature before (d ∷ [])) (append_assoc signature after (d' ∷ []))
            (names-kept g (signature ++ before) (signature ++ after) d k n))
            (subst NoneShort (append_assoc signature before (d ∷ [])) (NoneShort-append (signature ++ before) (d ∷ []) u (v.0, tt)))
            v.1 (subst (λ w. AreDeclared w (kept_of es)) (append_assoc signature before (d ∷ [])) h.1) (IsSound-after after d' s (shaped-typed after d' s p.0))
            p.1),
      )
  entries-AreDeclared before after (abbreviated t a ∷ es) k n u v h s p =
      let x : Declaration = record { name = abbreviation_name k; form = Def; ty = moved g a; body = Some (moved g t) } in
      let o = shaped-over after x s p.0 in (
        record {
          new_name = n (abbreviation_name k) (none_declared (signature ++ before) k u)
              (λ j l e. absurd (let i = abbreviation_name-injective j k e in omega (arith, l, i)));
          ty = o.0;
          body = o.1;
        },
        subst (λ w. AreDeclared w (declarations g (suc k) es)) (sym (append_assoc signature after (x ∷ [])))
            (entries-AreDeclared before (after ++ x ∷ []) es (suc k)
            (subst (λ y. HaveNames (signature ++ before) y (suc k)) (append_assoc signature after (x ∷ []))
            (names-abbreviated (signature ++ before) (signature ++ after) x k refl n))
            u v h (IsSound-after after x s (shaped-typed after x s p.0)) p.1),
      )

kept_of-append : (xs : List Entry) (ys : List Entry) → kept_of (xs ++ ys) ≡ kept_of xs ++ kept_of ys
kept_of-append [] ys = refl
kept_of-append (kept d ∷ xs) ys = ap (λ l. d ∷ l) (kept_of-append xs ys)
kept_of-append (abbreviated t a ∷ xs) ys = kept_of-append xs ys

kept_of-kept : (ds : List Declaration) → kept_of (map kept ds) ≡ ds
kept_of-kept [] = refl
kept_of-kept (d ∷ ds) = ap (λ l. d ∷ l) (kept_of-kept ds)

kept_of-abbreviations : (before : List Declaration) (ts : List Tree) → kept_of (abbreviations before ts) ≡ []
kept_of-abbreviations before [] = refl
kept_of-abbreviations before (t ∷ ts) = kept_of-abbreviations before ts

kept_of-entries : (before : List Declaration) (all met : List Tree) (ds : List Declaration) → kept_of (entries before all met ds) ≡ ds
kept_of-entries before all met [] = refl
kept_of-entries before all met (d ∷ ds) =
    let ts = filter (is_shared before all) (firsts met (parts_in d)) in
    kept_of-append (abbreviations before ts) (kept d ∷ entries (before ++ d ∷ []) all (met ++ parts_in d) ds)
    ∙ ap (λ l. l ++ d ∷ kept_of (entries (before ++ d ∷ []) all (met ++ parts_in d) ds)) (kept_of-abbreviations before ts)
    ∙ ap (λ l. d ∷ l) (kept_of-entries (before ++ d ∷ []) all (met ++ parts_in d) ds)

-- what is kept is the module
pub kept_of-entries_of : (m : List Declaration) → kept_of (entries_of m) ≡ m
kept_of-entries_of m =
    let n = length lemmas in
    kept_of-append (map kept (take n m)) (entries (take n m) (flat_map parts_in (drop n m)) [] (drop n m))
    ∙ ap₂ (λ x y. x ++ y) (kept_of-kept (take n m)) (kept_of-entries (take n m) (flat_map parts_in (drop n m)) [] (drop n m))
    ∙ take-append-drop n m

-- A folded module is a module
pub folded-IsModule : (m : List Declaration) → IsModule m → NoneShort m → AreShaped [] m → IsModule (folded m)
folded-IsModule m h u s =
    let es = entries_of m in
    entries-AreDeclared (place_in es) [] [] es 0 (λ name e f. e) signature_unshort (subst NoneShort (sym (kept_of-entries_of m)) u)
    (subst (AreDeclared signature) (sym (kept_of-entries_of m)) h) signature_sound (folded-AreShaped m s)

-- No tree of it names an abbreviation
module _ (g : ℕ → ℕ) (before after : List Declaration) (h : IsMoved g before after) (u : NoneShort (signature ++ before)) where
  moved-short_for : (s : ℕ) → short_for after (moved_symbol g s) ≡ None
  moved-short_for s = ap (option_and_then short_body) (moved-symbol_declaration g before after h s) ∙ go (symbol_declaration before s) refl
    where
      go : (o : Option Declaration) → symbol_declaration before s ≡ o → option_and_then short_body (option_map (moved_declaration g) o) ≡ None
      go None e = refl
      go (Some d) e = short_body-None (moved_declaration g d) (unshort-at (signature ++ before) s d u e)

  pub moved-IsLong : (t : Tree) → IsLong after (moved g t)
  moved-IsLong SortType = tt
  moved-IsLong SortKind = tt
  moved-IsLong (Var n) = tt
  moved-IsLong (Sym s) = moved-short_for s
  moved-IsLong (App f x) = (moved-IsLong f, moved-IsLong x)
  moved-IsLong (Lam a b) = (moved-IsLong a, moved-IsLong b)
  moved-IsLong (Pi a b) = (moved-IsLong a, moved-IsLong b)

  moved-IsBodyLong : (body : Option Tree) → IsBodyLong after (option_map (moved g) body)
  moved-IsBodyLong None = tt
  moved-IsBodyLong (Some t) = moved-IsLong t

entries-AreLong : (g : ℕ → ℕ) (before after : List Declaration) (es : List Entry) (k : ℕ) → IsPlaced g before after es → NoneShort (signature ++ before)
    → NoneShort (kept_of es) → AreLong after (declarations g k es)
entries-AreLong g before after [] k p u v = tt
entries-AreLong g before after (kept d ∷ es) k p u v =
    let h = IsPlaced-IsMoved g before after (kept d ∷ es) p in (
      moved-IsLong g before after h u d.ty,
      moved-IsBodyLong g before after h u d.body,
      entries-AreLong g (before ++ d ∷ []) (after ++ moved_declaration g d ∷ []) es k (IsPlaced-kept g before after d es p)
          (subst NoneShort (append_assoc signature before (d ∷ [])) (NoneShort-append (signature ++ before) (d ∷ []) u (v.0, tt))) v.1,
    )
entries-AreLong g before after (abbreviated t a ∷ es) k p u v =
    let h = IsPlaced-IsMoved g before after (abbreviated t a ∷ es) p in (
      moved-IsLong g before after h u a,
      moved-IsLong g before after h u t,
      entries-AreLong g before (after ++ _ ∷ []) es (suc k) (IsPlaced-abbreviated g before after t a _ es p) u v,
    )

pub folded-AreLong : (m : List Declaration) → NoneShort m → AreLong [] (folded m)
folded-AreLong m u = let es = entries_of m in entries-AreLong (place_in es) [] [] es 0 (IsPlaced-first es) signature_unshort
    (subst NoneShort (sym (kept_of-entries_of m)) u)
