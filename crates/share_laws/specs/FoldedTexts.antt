-- The text of a folded module, by its short names, reads as the folded module and as no other.
use Rattle.std.proofs.Common.{◌≡◌, ◌≤◌, ℕ, suc, refl, sym, subst, Bool, true, false, List, [], ◌∷◌, ◌++◌, length, map, Option, Some, None, arith}
use Rattle.std.specs.Prelude.{if◌then◌else◌, option_map, take, drop, decimal}
use Rattle.std.specs.List.{list_all, filter, flat_map, AllByRecursion}
use Rattle.std.specs.Option.{is_some, unwrap_or, option_map_or}
use Rattle.std.proofs.lemmas.Grind.{common_steps}
use Rattle.std.proofs.lemmas.Bool.{and_parts, and_from}
use Rattle.std.proofs.lemmas.List.{take-append-drop}
use Rattle.lp_spec.specs.Trees.{Tree, SortType, SortKind, Var, Sym, App, Lam, Pi, depth}
use Rattle.lp_spec.specs.Modules.{Declaration, types}
use Rattle.lp_spec.specs.ModuleOrder.{IsModule}
use Rattle.lp_spec.specs.Lemmas.{lemmas}
use Rattle.lp_spec.specs.ShortNames.{NoneShort}
use Rattle.lp_spec.specs.Numerals.{numeral, is_decimal_digit}
use Rattle.lp_spec.specs.Tokens.{is_word_byte}
use Rattle.lp_spec.specs.Reading.{max_depth}
use Rattle.lp_spec.specs.TextLaws.{IsPlainName, ArePlain, IsBodyShallow, AreShallow, ReadsBack}
use Rattle.lp_check_laws.specs.ShapedPasses.{AreShaped}
use Rattle.dk_laws.specs.WrittenModules.{written_reads}
use Rattle.translate_laws.specs.NumeralLaws.{numeral-digits}
use Rattle.share_spec.specs.Abbreviations.{abbreviation}
use Rattle.share_spec.specs.MovedTrees.{moved}
use Rattle.share_spec.specs.Folded.{parts, parts_in, is_shared, is_in, firsts, Entry, kept, abbreviated, abbreviations, entries, entries_of, place_in, declarations, folded}
use Rattle.share_laws.specs.AbbreviationLaws.{abbreviation-Some, is_some-Some}
use Rattle.share_laws.specs.MovedLaws.{depth-moved}
use Rattle.share_laws.specs.FoldedModules.{abbreviation_name, kept_of, kept_of-entries_of, folded-IsModule, folded-AreLong}

-- Names
digit-word : (b : ℕ) → is_decimal_digit b ≡ true → is_word_byte b ≡ true
digit-word b e = grind (arith, common_steps, e)

digits-words : (bs : List ℕ) → list_all is_decimal_digit bs ≡ true → list_all is_word_byte bs ≡ true
digits-words [] e = refl
digits-words (b ∷ bs) e = let p = and_parts (is_decimal_digit b) (list_all is_decimal_digit bs) e in and_from (is_word_byte b) (list_all is_word_byte bs)
    (digit-word b p.0) (digits-words bs p.1)

no_binder : (more : List ℕ) (d : ℕ) → ◌≡◌ {A = List ℕ} (88 ∷ more) (118 ∷ decimal d) → ⊥
no_binder more d e = let f : ◌≡◌ {A = ℕ} 88 118 = cc in absurd (omega (arith, f))

abbreviation_name-IsPlainName : (k : ℕ) → IsPlainName (abbreviation_name k)
abbreviation_name-IsPlainName k = record {
  word = record { first = 88; more = numeral k; is = refl; letter = refl; bytes = digits-words (numeral k) (numeral-digits k) };
  no_key = refl;
  no_binder = λ d e. no_binder (numeral k) d e;
}

declarations-ArePlain : (g : ℕ → ℕ) (k : ℕ) (es : List Entry) → ArePlain (kept_of es) → ArePlain (declarations g k es)
declarations-ArePlain g k [] h = tt
declarations-ArePlain g k (kept d ∷ es) h = (h.0, declarations-ArePlain g k es h.1)
declarations-ArePlain g k (abbreviated t a ∷ es) h = (abbreviation_name-IsPlainName k, declarations-ArePlain g (suc k) es h)

pub folded-ArePlain : (m : List Declaration) → ArePlain m → ArePlain (folded m)
folded-ArePlain m h = let es = entries_of m in declarations-ArePlain (place_in es) 0 es (subst ArePlain (sym (kept_of-entries_of m)) h)

-- Depths
abbrev Shallow : List Tree → Type 0
Shallow ts = AllByRecursion (λ (t : Tree). depth t ≤ max_depth) ts

Shallow-append : (xs ys : List Tree) → Shallow xs → Shallow ys → Shallow (xs ++ ys)
Shallow-append [] ys h k = k
Shallow-append (x ∷ xs) ys h k = (h.0, Shallow-append xs ys h.1 k)

parts-Shallow : (t : Tree) → depth t ≤ max_depth → Shallow (parts t)
parts-Shallow (App f x) h = Shallow-append (parts f ++ parts x) (App f x ∷ [])
    (Shallow-append (parts f) (parts x) (parts-Shallow f (omega (arith, h))) (parts-Shallow x (omega (arith, h)))) (h, tt)
parts-Shallow (Lam f x) h = Shallow-append (parts f ++ parts x) (Lam f x ∷ [])
    (Shallow-append (parts f) (parts x) (parts-Shallow f (omega (arith, h))) (parts-Shallow x (omega (arith, h)))) (h, tt)
parts-Shallow (Pi f x) h = Shallow-append (parts f ++ parts x) (Pi f x ∷ [])
    (Shallow-append (parts f) (parts x) (parts-Shallow f (omega (arith, h))) (parts-Shallow x (omega (arith, h)))) (h, tt)
parts-Shallow SortType h = (h, tt)
parts-Shallow SortKind h = (h, tt)
parts-Shallow (Var n) h = (h, tt)
parts-Shallow (Sym s) h = (h, tt)

body-Shallow : (o : Option Tree) → IsBodyShallow o → Shallow (option_map_or parts o [])
body-Shallow None h = tt
body-Shallow (Some t) h = parts-Shallow t h

firsts-Shallow : (met ts : List Tree) → Shallow ts → Shallow (firsts met ts)
firsts-Shallow met [] h = tt
firsts-Shallow met (t ∷ ts) h = go (is_in t met) (firsts-Shallow met ts h.1) (firsts-Shallow (met ++ t ∷ []) ts h.1)
  where
    go : (b : Bool) → Shallow (firsts met ts) → Shallow (firsts (met ++ t ∷ []) ts) → Shallow (if b then firsts met ts else t ∷ firsts (met ++ t ∷ []) ts)
    go true x y = x
    go false x y = (h.0, y)

-- what entries need so that what they become isn't too deep
abbrev AreShallowEntries : List Entry → Type 0
AreShallowEntries [] = Unit {0}
AreShallowEntries (kept d ∷ es) = (depth d.ty ≤ max_depth) × IsBodyShallow d.body × AreShallowEntries es
AreShallowEntries (abbreviated t a ∷ es) = (depth t ≤ max_depth) × (depth a ≤ max_depth) × AreShallowEntries es

abbreviations-shallow : (before : List Declaration) (all ts : List Tree) (es : List Entry) → Shallow ts → AreShallowEntries es
    → AreShallowEntries (abbreviations before (filter (is_shared before all) ts) ++ es)
abbreviations-shallow before all [] es h k = k
abbreviations-shallow before all (t ∷ ts) es h k = go (is_shared before all t) refl (abbreviations-shallow before all ts es h.1 k)
  where
    go : (b : Bool) → is_shared before all t ≡ b → AreShallowEntries (abbreviations before (filter (is_shared before all) ts) ++ es)
        → AreShallowEntries (abbreviations before (if b then t ∷ filter (is_shared before all) ts else filter (is_shared before all) ts) ++ es)
    go true e x =
        let s = is_some-Some (abbreviation before t) (and_parts (is_some (abbreviation before t)) _ e).0 in
        (h.0, subst (λ o. depth (unwrap_or o types) ≤ max_depth) (sym s.1) (abbreviation-Some before t s.0 s.1).2, x)
    go false e x = x

entries-shallow : (before : List Declaration) (all met : List Tree) (ds : List Declaration) → AreShallow ds → AreShallowEntries (entries before all met ds)
entries-shallow before all met [] h = tt
entries-shallow before all met (d ∷ ds) h =
    abbreviations-shallow before all (firsts met (parts_in d)) (kept d ∷ entries (before ++ d ∷ []) all (met ++ parts_in d) ds)
    (firsts-Shallow met (parts_in d) (Shallow-append (parts d.ty) (option_map_or parts d.body []) (parts-Shallow d.ty h.0) (body-Shallow d.body h.1)))
    (h.0, h.1, entries-shallow (before ++ d ∷ []) all (met ++ parts_in d) ds h.2)

first-shallow : (ds es : List Declaration) (all : List Tree) (before : List Declaration) → AreShallow (ds ++ es)
    → AreShallowEntries (map kept ds ++ entries before all [] es)
first-shallow [] es all before h = entries-shallow before all [] es h
first-shallow (d ∷ ds) es all before h = (h.0, h.1, first-shallow ds es all before h.2)

moved-shallow : (g : ℕ → ℕ) (t : Tree) → depth t ≤ max_depth → depth (moved g t) ≤ max_depth
moved-shallow g t h = subst (λ n. n ≤ max_depth) (sym (depth-moved g t)) h

moved_body-shallow : (g : ℕ → ℕ) (o : Option Tree) → IsBodyShallow o → IsBodyShallow (option_map (moved g) o)
moved_body-shallow g None h = tt
moved_body-shallow g (Some t) h = moved-shallow g t h

declarations-AreShallow : (g : ℕ → ℕ) (k : ℕ) (es : List Entry) → AreShallowEntries es → AreShallow (declarations g k es)
declarations-AreShallow g k [] h = tt
declarations-AreShallow g k (kept d ∷ es) h = (moved-shallow g d.ty h.0, moved_body-shallow g d.body h.1, declarations-AreShallow g k es h.2)
declarations-AreShallow g k (abbreviated t a ∷ es) h = (moved-shallow g a h.1, moved-shallow g t h.0, declarations-AreShallow g (suc k) es h.2)

pub folded-AreShallow : (m : List Declaration) → AreShallow m → AreShallow (folded m)
folded-AreShallow m h =
    let n = length lemmas in
    declarations-AreShallow (place_in (entries_of m)) 0 (entries_of m)
    (first-shallow (take n m) (drop n m) (flat_map parts_in (drop n m)) (take n m) (subst AreShallow (sym (take-append-drop n m)) h))

-- The text of a folded module reads as it
pub folded-ReadsBack : (m : List Declaration) (bounds : List ℕ) → IsModule m → NoneShort m → AreShaped [] m → ArePlain m → AreShallow m
    → length bounds ≡ length (folded m) → ReadsBack (folded m) bounds
folded-ReadsBack m bounds h u s p d n = written_reads (folded m) bounds (folded-IsModule m h u s) (folded-AreLong m u) (folded-ArePlain m p)
    (folded-AreShallow m d) n
