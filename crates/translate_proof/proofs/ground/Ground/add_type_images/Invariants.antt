use Rattle.std.specs.Prelude.{drop}
use Rattle.std.specs.List.{AllByRecursion}
use Rattle.hol_spec.specs.Names.{Name}
use Rattle.hol_spec.specs.Substitution.{image}
use Rattle.translate_spec.specs.Scopes.{images}
use Rattle.translate_term.specs.Told.{TellsType}
use Rattle.translate_term.specs.Walks.{Grows}
use Rattle.translate_proof.specs.Environments.{Given, Ready}
use Rattle.translate_proof.specs.Images.{type_pairs, term_pairs}
use Rattle.translate_proof.proofs.AddLaws.{AddsUp}
use Rattle.translate_proof.proofs.ground.Ground.add_type_images.Given as goal

abbrev pub invariant-loop-name : goal.invariant-loop-name
invariant-loop-name l = record {
  grows : Grows l.fn.target l.target;
  adds : (given : Given) → AllByRecursion (λ (n : Name). TellsType given.declarations given.symbols (image (type_pairs l.self.proof.now.trees l.put) n)) l.names
      → AddsUp (images given.symbols (type_pairs l.self.proof.now.trees l.put) (term_pairs l.self.proof.now.trees l.put) given.scope).types
      (Ready given l.fn.target l.self.proof.now.trees l.self.env.now l.fn.args.items)
      (Ready given l.target l.self.proof.now.trees l.self.env.now l.args.items) l.names (drop l.name-index l.names);
}
