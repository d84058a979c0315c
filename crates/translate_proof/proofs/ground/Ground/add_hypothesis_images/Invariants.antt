use Rattle.std.specs.Prelude.{drop}
use Rattle.hol_term.specs.Tables.{terms_at}
use Rattle.translate_spec.specs.Scopes.{images}
use Rattle.translate_term.specs.Walks.{Grows}
use Rattle.translate_proof.specs.Environments.{Given, Ready}
use Rattle.translate_proof.specs.Images.{type_pairs, term_pairs}
use Rattle.translate_proof.proofs.AddLaws.{AddsUp}
use Rattle.translate_proof.proofs.ground.Ground.add_hypothesis_images.Given as goal

abbrev pub invariant-loop-hyp : goal.invariant-loop-hyp
invariant-loop-hyp l = record {
  grows : Grows l.fn.target l.target;
  adds : (given : Given) → AddsUp (images given.symbols (type_pairs l.self.proof.now.trees l.put) (term_pairs l.self.proof.now.trees l.put) given.scope).proofs
      (Ready given l.fn.target l.self.proof.now.trees l.self.env.now l.fn.args.items) (Ready given l.target l.self.proof.now.trees l.self.env.now l.args.items)
      (terms_at l.self.proof.now.trees l.hyps) (terms_at l.self.proof.now.trees (drop l.hyp-index l.hyps));
}
