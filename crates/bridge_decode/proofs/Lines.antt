-- The lines of the exports of a module, declaration by declaration.
use Rattle.std.proofs.Common.{◌≡◌, ℕ, zero, suc, ◌+◌, ◌<◌, List, [], ◌∷◌, ◌++◌, length, drop, Some, Bool, true, false, refl, sym, ap, subst, ◌∙◌, append_assoc, arith, ⊎_elim}
use Rattle.std.specs.Prelude.{codes, slice_get, if◌then◌else◌, Option, None, option_map, MatchOption}
use Rattle.std.proofs.lemmas.Bool.{cases_lt}
use Rattle.std.proofs.lemmas.List.{append-nil}
use Rattle.std.proofs.lemmas.Option.{slice_get-map, same_Some}
use Rattle.hol_spec.specs.ClosedForm.{ClosedSequent}
use Rattle.lp_spec.specs.Trees.{Tree}
use Rattle.lp_spec.specs.Modules.{Declaration}
use Rattle.translate_spec.specs.Enc.{Enc}
use Rattle.decode_spec.specs.ClosedText.{closed_text}
use Rattle.holide_sig.specs.declared.decls.Decl.{Decl}
use Rattle.holide_sig.specs.declared.module.Module.{Module}
use Rattle.holide_sig.specs.Modules.{declaration_in, declarations_of}
use Rattle.sequent.specs.declared.closed.Closed.{Closed}
use Rattle.sequent.specs.Closed.{closed_view}
use Rattle.bridge_spec.specs.FileExports.{exports_of, AreDecoded, SayBefore}
use Rattle.bridge_spec.specs.Texts.{export_line, export_lines}
use Rattle.bridge_decode.specs.Saying.{HasLines, AddsLine, IsOneSaid}

-- the pieces of a line, one after another
pub line_pieces : (old name : List ℕ) (s : ClosedSequent) → (((old ++ name) ++ codes ": ") ++ closed_text s) ++ codes "\n" ≡ old ++ export_line name s
line_pieces old name s = simp append_assoc

-- whatever the rest says, its lines after the text are those of the module
abbrev pub Continues : List Declaration → List Declaration → List ℕ → Type 0
Continues m rest text = (ss : List ClosedSequent) → AreDecoded m (exports_of rest) ss → HasLines m (exports_of m) (text ++ export_lines (exports_of rest) ss)

-- so it is before the first declaration
pub continues_first : (m : List Declaration) → Continues m m []
continues_first m ss h = record { said = ss; decoded = h; is = refl }

-- and behind the last there is nothing more
pub continues_last : (m : List Declaration) (text : List ℕ) → Continues m [] text → HasLines m (exports_of m) text
continues_last m text h = let r = h [] tt in record { said = r.said; decoded = r.decoded; is = sym (append-nil text) ∙ r.is }

-- a declaration that is no export changes nothing, and one that is adds its line
pub continues-AddsLine : (m : List Declaration) (d : Declaration) (rest : List Declaration) (old new : List ℕ) → AddsLine m d old new
    → Continues m (d ∷ rest) old → Continues m rest new
continues-AddsLine m d rest old new (AddsLine.other differs e) h ss a =
    let same : exports_of (d ∷ rest) ≡ exports_of rest = ap (λ b. if b then d ∷ exports_of rest else exports_of rest) differs in
    let r = h ss (subst (λ es. AreDecoded m es ss) (sym same) a) in
    record {
      said = r.said;
      decoded = r.decoded;
      is =
          ap (λ (t : List ℕ). t ++ export_lines (exports_of rest) ss) e ∙ ap (λ es. old ++ export_lines es ss) (sym same) ∙ r.is;
    }
continues-AddsLine m d rest old new (AddsLine.export s is enc e) h ss a =
    let more : exports_of (d ∷ rest) ≡ d ∷ exports_of rest = ap (λ b. if b then d ∷ exports_of rest else exports_of rest) is in
    let r = h (s ∷ ss) (subst (λ es. AreDecoded m es (s ∷ ss)) (sym more) (enc, a)) in
    record {
      said = r.said;
      decoded = r.decoded;
      is = ap (λ (t : List ℕ). t ++ export_lines (exports_of rest) ss) e
          ∙ append_assoc old (export_line d.name s) (export_lines (exports_of rest) ss)
          ∙ ap (λ es. old ++ export_lines es (s ∷ ss)) (sym more)
          ∙ r.is;
    }

-- so it is at each place
continues-suc : (m ds : List Declaration) (i : ℕ) (old new : List ℕ) → ((d : Declaration) → slice_get ds i ≡ Some d → AddsLine m d old new) → i < length ds
    → Continues m (drop i ds) old → Continues m (drop (suc i) ds) new
continues-suc m [] i old new adds w h = absurd (omega (arith, w))
continues-suc m (c ∷ cs) zero old new adds w h = continues-AddsLine m c cs old new (adds c refl) h
continues-suc m (c ∷ cs) (suc i) old new adds w h = continues-suc m cs i old new adds (omega (arith, w)) h

pub continues_next : (m ds : List Declaration) (i : ℕ) (old new : List ℕ) → ((d : Declaration) → slice_get ds i ≡ Some d → AddsLine m d old new) → i < length ds
    → Continues m (drop i ds) old → Continues m (drop (i + 1) ds) new
continues_next m ds i old new adds w h =
    let up : suc i ≡ i + 1 = omega arith in
    subst (λ k. Continues m (drop k ds) new) up (continues-suc m ds i old new adds w h)

-- what is added to a text that says something
pub says_more : (m : List Declaration) (i : ℕ) (old new : List ℕ) → SayBefore m i → ((d : Declaration) → slice_get m i ≡ Some d → AddsLine m d old new)
    → SayBefore m (i + 1)
says_more m i old new before adds k d less at export =
    ⊎_elim (λ below. before k d below at export) (λ no. here (omega (arith, less, no)) (adds d)) (cases_lt k i)
  where
    by : AddsLine m d old new → (s : ClosedSequent) × Enc m s d.ty
    by (AddsLine.other differs e) = absurd (cc)
    by (AddsLine.export s is enc e) = (s, enc)

    here : k ≡ i → (slice_get m i ≡ Some d → AddsLine m d old new) → (s : ClosedSequent) × Enc m s d.ty
    here e adds_here = by (adds_here (sym (ap (slice_get m) e) ∙ at))

-- a declaration by its numbers has its name
module _ (m : Module) (i : ℕ) (d : Decl) (at : slice_get m.decls i ≡ Some d) where
  pub declared : slice_get (declarations_of m) i ≡ Some (declaration_in m.table d)
  declared = slice_get-map (declaration_in m.table) m.decls i ∙ ap (option_map (declaration_in m.table)) at

  pub named : (e : Declaration) → slice_get (declarations_of m) i ≡ Some e → e ≡ declaration_in m.table d
  named e there = same_Some e (declaration_in m.table d) (sym there ∙ declared)

-- what is decoded of a type
module _ (m : List Declaration) (A : Tree) where
  pub decoded-Some : (found : Option Closed) (closed : Closed) → found ≡ Some closed
      → MatchOption found ((s : ClosedSequent) → Enc m s A → ⊥) (λ c. Enc m (closed_view c) A) → Enc m (closed_view closed) A
  decoded-Some None closed e h = absurd (cc)
  decoded-Some (Some c) closed e h = subst (λ x. Enc m (closed_view x) A) (same_Some c closed e) h

  pub decoded-None : (found : Option Closed) → found ≡ None → MatchOption found ((s : ClosedSequent) → Enc m s A → ⊥) (λ c. Enc m (closed_view c) A)
      → (s : ClosedSequent) → Enc m s A → ⊥
  decoded-None None e h = h
  decoded-None (Some c) e h = absurd (cc)

-- what a declaration that says something adds
pub said-true : (m : List Declaration) (i : ℕ) (old new : List ℕ) (b : Bool) → b ≡ true → IsOneSaid m i old new b → (d : Declaration) → slice_get m i ≡ Some d
    → AddsLine m d old new
said-true m i old new true e h = h
said-true m i old new false e h = absurd (cc)
