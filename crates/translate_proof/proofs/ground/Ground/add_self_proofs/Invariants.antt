use Rattle.std.specs.Prelude.{drop}
use Rattle.std.specs.List.{AllByRecursion}
use Rattle.hol_term.specs.Tables.{terms_at}
use Rattle.translate_spec.specs.ProofTrees.{self_proof}
use Rattle.translate_term.specs.Told.{TellsTerm}
use Rattle.translate_term.specs.Walks.{Grows}
use Rattle.translate_proof.specs.Environments.{Given, Ready}
use Rattle.translate_proof.proofs.AddLaws.{AddsUp}
use Rattle.translate_proof.proofs.ground.Ground.add_self_proofs.Given as goal

abbrev pub invariant-loop-hyp : goal.invariant-loop-hyp
invariant-loop-hyp l = record {
  grows : Grows l.fn.target l.target;
  adds : (given : Given) → AllByRecursion (TellsTerm given.declarations given.symbols) (terms_at l.self.proof.now.trees l.hyps)
      → AddsUp (self_proof given.symbols given.scope) (Ready given l.fn.target l.self.proof.now.trees l.self.env.now l.fn.args.items)
      (Ready given l.target l.self.proof.now.trees l.self.env.now l.args.items)
      (terms_at l.self.proof.now.trees l.hyps) (terms_at l.self.proof.now.trees (drop l.hyp-index l.hyps));
}
