use Rattle.std.specs.Prelude.{drop}
use Rattle.hol_type.proofs.ImageLaws.{Skips}
use Rattle.hol_type.proofs.substitution.replaced.Given as goal

abbrev pub invariant-loop-replaced : goal.invariant-loop-replaced
invariant-loop-replaced l = Skips l.pairs (drop l.replaced-index l.pairs) l.name
