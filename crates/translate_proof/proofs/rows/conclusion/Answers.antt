use Rattle.std.proofs.Common.{◌∙◌, ap, Some}
use Rattle.std.proofs.lemmas.Result.{IfOk-weaker}
use Rattle.translate_spec.specs.Scopes.{term_tree}
use Rattle.translate_proof.proofs.ConclusionLaws.{conclusion-told, conclusion-same}
use Rattle.translate_proof.proofs.rows.conclusion.Goals as goal

pub term-requires-clause-told : goal.term-requires-clause-told
term-requires-clause-told c = (
  c.requires.told.0,
  c.requires.told.1,
  conclusion-told c.args.ground.proof.now c.args.id c.requires.id c.is_proof.ensures c.sequent.result.now
      c.sequent.ensures.is c.sequent.ensures.known c.requires.told.0 c.requires.told.2,
)

pub returns-clause-made : goal.returns-clause-made
returns-clause-made c =
    IfOk-weaker c.term.result _ _
    (λ r h given stands told.
    h given stands (conclusion-told c.args.ground.proof.now c.args.id c.requires.id c.is_proof.ensures c.sequent.result.now c.sequent.ensures.is
    c.sequent.ensures.known given told)
    ∙ ap (λ t. Some (term_tree given.symbols given.scope t)) (conclusion-same c.args.ground.proof.now c.args.id c.sequent.result.now c.sequent.ensures.is))
    c.term.ensures.made
