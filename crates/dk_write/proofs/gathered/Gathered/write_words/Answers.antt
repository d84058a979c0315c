use Rattle.std.proofs.Common.{◌≡◌, ℕ, ◌+◌, ◌<◌, ap, List, ◌∷◌, ◌++◌, length, get_or, drop, drop-cons, add-one, arith, Bor}
use Rattle.dk_write.specs.Writing.{words_text}
use Rattle.dk_write.proofs.GainedLaws.{front_part, gained_more, writes_failed}
use Rattle.dk_write.proofs.gathered.Gathered.write_words.Goals as goal

next_word : (words : List (Bor (List ℕ))) (i : ℕ) (d : Bor (List ℕ)) → i < length words → words_text (drop i words) ≡ (get_or words i d).now
    ++ words_text (drop (i + 1) words)
next_word words i d h = let e : drop i words ≡ get_or words i d ∷ drop (i + 1) words = rw add-one (drop-cons words i d h) in ap words_text e

pub returns-in_err-write : goal.returns-in_err-write
returns-in_err-write g c =
    writes_failed _ _ _ _ _ _ _ _ _ _ _ _ c.from_residual.ensures.0 c.loop-word.invariant.text c.loop-word.invariant.later
    (front_part _ _ _ _ _ _ (next_word c.args.words.now c.loop-word.word-index _ c.loop-word-test.true) c.in_err-write.ensures.err) c.in_err-write.ensures.cause

pub loop-word-preserved : goal.loop-word-preserved
loop-word-preserved g c = record {
  text = gained_more _ _ _ _ _ _ _ _ _ c.loop-word.invariant.text (next_word c.args.words.now c.loop-word.word-index _ c.loop-word-test.true)
      c.in_ok-write.ensures.ok;
  later = omega (arith, c.loop-word.invariant.later, c.in_ok-write.ensures.cause.later);
}
