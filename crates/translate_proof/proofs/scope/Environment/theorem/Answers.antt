use Rattle.std.proofs.lemmas.Result.{IfOk-weaker}
use Rattle.lp_spec.specs.Trees.{Sym}
use Rattle.translate_proof.proofs.scope.Environment.theorem.Goals as goal

pub theorem_with-requires-clause-proved : goal.theorem_with-requires-clause-proved
theorem_with-requires-clause-proved c = (Sym 0, tt)

pub returns-clause-made : goal.returns-clause-made
returns-clause-made c = IfOk-weaker c.theorem_with.result _ _ (λ r h given stands told. h given (Sym 0) stands tt told) c.theorem_with.ensures.made
