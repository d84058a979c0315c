use Rattle.std.proofs.Common.{◌∙◌, ap, Some}
use Rattle.std.proofs.lemmas.Result.{IfOk-weaker}
use Rattle.hol_term.specs.Tables.{term_at}
use Rattle.translate_proof.proofs.StandTrees.{declared-term, term-stands}
use Rattle.translate_proof.proofs.scope.Environment.term.Goals as goal

pub tm-requires-clause-told : goal.tm-requires-clause-told
tm-requires-clause-told c = rw c.terms.ensures (
  c.requires.told.0.symbols,
  declared-term c.requires.told.0 c.args.target.now c.args.proof.now.trees c.args.self.now c.requires.told.1
      (term_at c.args.proof.now.trees c.args.id.0) c.requires.told.2,
)

pub returns-clause-made : goal.returns-clause-made
returns-clause-made c =
    let made = rw c.terms.ensures at c.tm.ensures.made in
    IfOk-weaker c.tm.result _ _
    (λ r h given s k.
    h given.symbols (declared-term given c.args.target.now c.args.proof.now.trees c.args.self.now s (term_at c.args.proof.now.trees c.args.id.0) k)
    ∙ ap Some (term-stands given c.args.target.now c.args.proof.now.trees c.args.self.now s (term_at c.args.proof.now.trees c.args.id.0) k))
    made
