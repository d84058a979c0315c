use Rattle.std.specs.Prelude.{drop}
use Rattle.hol_term.specs.Tables.{Trees, terms_at, AreKnown}
use Rattle.lp_spec.specs.Trees.{Tree}
use Rattle.translate_term.specs.Walks.{Grows}
use Rattle.translate_proof.specs.Environments.{Given, Ready}
use Rattle.translate_proof.specs.ProvedHypotheses.{proof_with, IsPut}
use Rattle.translate_proof.proofs.AddLaws.{AddsUp}
use Rattle.translate_proof.proofs.scope.Environment.add_hypotheses.Given as goal

abbrev pub invariant-loop-id : goal.invariant-loop-id
invariant-loop-id l = record {
  grows : Grows l.fn.target l.target;
  adds : (given : Given) (trees : Trees) (x : Tree) → AreKnown trees l.hyps → IsPut trees l.fn.target.table l.proved x
      → AddsUp (proof_with trees l.proved x given.scope.proofs) (Ready given l.fn.target trees l.self l.fn.args.items)
      (Ready given l.target trees l.self l.args.items)
      (terms_at trees l.hyps) (terms_at trees (drop l.id-index l.hyps));
}
