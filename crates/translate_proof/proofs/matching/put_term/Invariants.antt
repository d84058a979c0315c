use Rattle.std.specs.Prelude.{drop}
use Rattle.translate_proof.specs.Images.{retyped}
use Rattle.translate_proof.proofs.MatchLaws.{IsLeft}
use Rattle.translate_proof.proofs.matching.put_term.Given as goal

abbrev pub invariant-loop-variable : goal.invariant-loop-variable
invariant-loop-variable l = IsLeft l.table (retyped l.table l.put l.name l.ty) l.put.terms.items (drop l.variable-index l.put.terms.items)
