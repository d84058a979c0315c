use Rattle.std.specs.Prelude.{drop}
use Rattle.hol_spec.specs.Lists.{IsIn}
use Rattle.hol_term.specs.Tables.{terms_at}
use Rattle.translate_proof.specs.Images.{made_term}
use Rattle.translate_proof.proofs.images.own_hypothesis.Given as goal

abbrev pub invariant-loop-one : goal.invariant-loop-one
invariant-loop-one l = IsIn (terms_at l.table (drop l.one-index l.own)) (made_term l.table l.put l.hyp)
