-- A text that reads as a module, handed to a reader line by line: nothing is refused.
use Rattle.std.proofs.Common.{◌≡◌, ℕ, ◌+◌, List, [], ◌++◌, drop, length, Option, None, Result, Err, refl, sym, ap, subst, ◌∙◌}
use Rattle.lp_spec.specs.ShortNames.{shortened_after}
use Rattle.lp_spec.specs.Modules.{Declaration}
use Rattle.lp_spec.specs.Reading.{Reads}
use Rattle.lp_spec.specs.Text.{declarations_text, prelude, written}
use Rattle.dk_read.specs.declared.faults.DkFault.{DkFault}
use Rattle.dk_read.specs.declared.faults.DkFault.TheVariants as fault
use Rattle.dk_read.specs.Readers.{Reading, IsFed, IsWithin, Feeds, Judges}
use Rattle.dk_write.specs.Lines.{line_at, text_before}
use Rattle.dk_write.specs.LineLaws.{text_before-first, text_before-next, text_before-end, written-text_before}

-- without a limit a text is within it
pub IsWithin-None : (limit : Option ℕ) (text : List ℕ) → limit ≡ None → IsWithin limit text
IsWithin-None limit text e = subst (λ l. IsWithin l text) (sym e) tt

-- a piece of a text that reads as a module is refused by no reader without a limit
pub judged-Memory : (old : Reading) (piece before rest : List ℕ) (m : List Declaration) (r : Result (Unit {0}) DkFault) (f : DkFault) → old.limit ≡ None
    → IsFed old before
    → Reads ((before ++ piece) ++ rest) m → Judges old piece r → r ≡ Err f → f ≡ fault.Memory
judged-Memory old piece before rest m r (fault.Refused p k) e fed reads judges is =
    let j = subst (Judges old piece) is judges in
    absurd ((j before fed).unread rest m (IsWithin-None old.limit ((before ++ piece) ++ rest) e) reads)
judged-Memory old piece before rest m r fault.Memory e fed reads judges is = refl

module _ (d : List Declaration) (bounds : List ℕ) where
  -- where the text of a module reads, so it does up to a declaration, with its line, and with the rest
  pub reads-line : (i : ℕ) (line : List ℕ) (m : List Declaration) → line ≡ line_at d bounds i → Reads (written d bounds) m
      → Reads ((text_before d bounds i ++ line) ++ declarations_text d (drop (i + 1) (shortened_after [] d)) (drop (i + 1) bounds)) m
  reads-line i line m e reads =
      let rest = declarations_text d (drop (i + 1) (shortened_after [] d)) (drop (i + 1) bounds) in
      subst (λ text. Reads text m) (written-text_before d bounds (i + 1)
      ∙ ap (λ l. l ++ rest) (text_before-next d bounds i ∙ ap (λ l. text_before d bounds i ++ l) (sym e))) reads

  -- a reader that was fed the prelude was fed the text up to the first declaration
  pub fed-first : (r : Reading) → IsFed r prelude → IsFed r (text_before d bounds 0)
  fed-first r fed = subst (IsFed r) (sym (text_before-first d bounds)) fed

  -- a reader that was fed the text up to a declaration was fed its line
  pub fed-line : (old new : Reading) (i : ℕ) (line : List ℕ) → line ≡ line_at d bounds i → IsFed old (text_before d bounds i) → Feeds old line new
      → IsFed new (text_before d bounds (i + 1))
  fed-line old new i line e fed feeds =
      subst (IsFed new) (sym (text_before-next d bounds i ∙ ap (λ l. text_before d bounds i ++ l) (sym e))) (feeds (text_before d bounds i) fed)

  -- at the end a reader was fed the whole text
  pub fed-written : (r : Reading) (i : ℕ) → i ≡ length d → i ≡ length bounds → IsFed r (text_before d bounds i) → IsFed r (written d bounds)
  fed-written r i e f fed = subst (IsFed r) (text_before-end d bounds i e f) fed
