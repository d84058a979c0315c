-- A text is refused at one of its bytes, or at its end.
use Rattle.std.proofs.Common.{◌≡◌, ℕ, ◌+◌, ◌<◌, ◌≤◌, refl, sym, ap, subst, List, [], ◌++◌, length, Option, None, Some, arith}
use Rattle.std.proofs.lemmas.List.{length-append}
use Rattle.lp_spec.specs.Trees.{Tree}
use Rattle.lp_spec.specs.Text.{prelude}
use Rattle.lp_spec.specs.Tokens.{Placed, End, ended, stuck}
use Rattle.lp_spec.specs.ReadingFaults.{Between, AfterKeyword, AfterName, AtTerm, AfterFirst, InApplication, Outcome, Goes, Stops, Refusal, meaning, broken_after, Answer, reads, refused, answers, answer}
use Rattle.lp_spec.specs.Faults.{tokens_after}
use Rattle.dk_laws.specs.FaultReach.{AreAscending, run}
use Rattle.dk_laws.specs.FaultLeast.{place_of}
use Rattle.dk_laws.specs.FaultPlaces.{IsEndBefore, tokens-ascending, tokens-end}
use Rattle.dk_laws.specs.FaultStands.{ended_before}
use Rattle.dk_laws.specs.FaultLaws.{IsShown, read_shown, answered, Opens, opens, differs, opens_by, differs_answer}

-- a refusal stands at this place at the latest
abbrev IsRefusedBy : ℕ → Answer → Type 0
IsRefusedBy n (reads m) = Unit {0}
IsRefusedBy n (refused r) = r.place ≤ n

broken_place : (q p : ℕ) (name : List ℕ) (x : Option Tree) → q < p → (broken_after q name x p).place ≤ p
broken_place q p name None h = omega (arith, h)
broken_place q p name (Some x) h = omega arith

-- what the tokens of a text come to is refused at their end at the latest
outcome_place : (all : List Placed) (o : Outcome) (end : End) → AreAscending (place_of end) all → IsShown (place_of end) all o
    → IsRefusedBy (place_of end) (answers o end)
outcome_place all (Stops r) (ended p) a s = omega (arith, s.1)
outcome_place all (Stops r) (stuck p) a s = omega (arith, s.1)
outcome_place all (Goes m Between) (ended p) a s = tt
outcome_place all (Goes m (AfterFirst h frames q name)) (ended p) a s = broken_place q p name (meaning m frames name) (ended_before p all a m h frames q name s)
outcome_place all (Goes m (AfterKeyword form)) (ended p) a s = omega arith
outcome_place all (Goes m (AfterName form name)) (ended p) a s = omega arith
outcome_place all (Goes m (AtTerm h frames)) (ended p) a s = omega arith
outcome_place all (Goes m (InApplication h frames f)) (ended p) a s = omega arith
outcome_place all (Goes m (AfterFirst h frames q name)) (stuck p) a s = broken_place q p name (meaning m frames name) (ended_before p all a m h frames q name s)
outcome_place all (Goes m Between) (stuck p) a s = omega arith
outcome_place all (Goes m (AfterKeyword form)) (stuck p) a s = omega arith
outcome_place all (Goes m (AfterName form name)) (stuck p) a s = omega arith
outcome_place all (Goes m (AtTerm h frames)) (stuck p) a s = omega arith
outcome_place all (Goes m (InApplication h frames f)) (stuck p) a s = omega arith

end_within : (n : ℕ) (end : End) → IsEndBefore n end → place_of end ≤ n
end_within n (ended p) h = h
end_within n (stuck p) h = omega (arith, h)

refused_by : (n e : ℕ) (a : Answer) → IsRefusedBy e a → e ≤ n → IsRefusedBy n a
refused_by n e (reads m) h l = tt
refused_by n e (refused r) h l = omega (arith, h, l)

text_place : (bytes text : List ℕ) → bytes ≡ prelude ++ text → IsRefusedBy (length bytes) (answer bytes)
text_place bytes text begun =
    let end = (tokens_after text).end in
    let in_order = tokens-ascending (length prelude) text in
    let before : place_of end ≤ length bytes = omega
    (arith, end_within (length prelude + length text) end (tokens-end (length prelude) text), ap length begun, length-append prelude text) in
    let by_end = outcome_place (tokens_after text).tokens (run [] Between (tokens_after text).tokens) end in_order
    (read_shown (place_of end) (tokens_after text).tokens in_order) in
    subst (IsRefusedBy (length bytes)) (sym (answered bytes text begun))
    (refused_by (length bytes) (place_of end) (answers (run [] Between (tokens_after text).tokens) end) by_end before)

opens_place : (bytes : List ℕ) → Opens bytes → IsRefusedBy (length bytes) (answer bytes)
opens_place bytes (opens text begun) = text_place bytes text begun
opens_place bytes (differs front wanted rest i k d) =
    let within : length front ≤ length bytes = omega (arith, ap length k, length-append front rest) in
    subst (IsRefusedBy (length bytes)) (sym (differs_answer bytes front wanted rest i k d)) within

-- So it is with every text.
pub answer-place : (bytes : List ℕ) (r : Refusal) → answer bytes ≡ refused r → r.place ≤ length bytes
answer-place bytes r h = subst (IsRefusedBy (length bytes)) h (opens_place bytes (opens_by [] prelude bytes refl refl))
