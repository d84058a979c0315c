use Rattle.std.specs.Prelude.{◌≡◌, ◌++◌, drop}
use Rattle.bridge_spec.specs.Texts.{theorem_lines}
use Rattle.bridge_show.proofs.showing.add_theorems.Given as goal

abbrev pub invariant-loop-number : goal.invariant-loop-number
invariant-loop-number l = l.text.items ++ theorem_lines l.what l.proof.made l.number (drop l.number l.steps) ≡ l.fn.text.items ++ theorem_lines l.what
    l.proof.made 0 l.steps
