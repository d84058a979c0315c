use Rattle.std.proofs.Common.{◌≡◌, map, take}
use Rattle.bridge_spec.specs.Calls.{names_in}
use Rattle.bridge_words.proofs.form.copied.Given as goal

abbrev pub invariant-loop-word : goal.invariant-loop-word
invariant-loop-word l = names_in l.files.items ≡ map (λ word. word.now) (take l.word-index l.words)
