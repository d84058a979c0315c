use Rattle.std.specs.Prelude.{drop}
use Rattle.std.specs.List.{AllByRecursion}
use Rattle.hol_spec.specs.Terms.{Variable}
use Rattle.hol_term.specs.Subterms.{variables_of}
use Rattle.translate_spec.specs.Scopes.{images}
use Rattle.translate_term.specs.Walks.{Grows}
use Rattle.translate_proof.specs.Environments.{Given, IsTold, Ready}
use Rattle.translate_proof.specs.Images.{type_pairs, term_pairs, variable_image}
use Rattle.translate_proof.proofs.AddLaws.{AddsUp}
use Rattle.translate_proof.proofs.ground.Ground.add_term_images.Given as goal

abbrev pub invariant-loop-variable : goal.invariant-loop-variable
invariant-loop-variable l = record {
  grows : Grows l.fn.target l.target;
  adds : (given : Given) → AllByRecursion (λ (v : Variable). IsTold given (variable_image l.self.proof.now.trees l.put v))
      (variables_of l.self.proof.now.trees l.variables)
      → AddsUp (images given.symbols (type_pairs l.self.proof.now.trees l.put) (term_pairs l.self.proof.now.trees l.put) given.scope).terms
      (Ready given l.fn.target l.self.proof.now.trees l.self.env.now l.fn.args.items)
      (Ready given l.target l.self.proof.now.trees l.self.env.now l.args.items)
      (variables_of l.self.proof.now.trees l.variables) (variables_of l.self.proof.now.trees (drop l.variable-index l.variables));
}
