use Rattle.std.proofs.Common.{refl}
use Rattle.translate_term.specs.GrowLaws.{Grows-table}
use Rattle.translate_proof.proofs.SetLaws.{Represents-set_proof}
use Rattle.translate_proof.specs.EnvironmentLaws.{Represents-Grows}
use Rattle.translate_proof.proofs.scope.Environment.bind_proof.Goals as goal

pub returns-in_err-tree-clause-grows : goal.returns-in_err-tree-clause-grows
returns-in_err-tree-clause-grows c = Grows-table _ _ c.node.ensures.keeps

pub returns-in_err-set_proof-clause-grows : goal.returns-in_err-set_proof-clause-grows
returns-in_err-set_proof-clause-grows c = Grows-table _ _ c.node.ensures.keeps

pub returns-clause-bound : goal.returns-clause-bound
returns-clause-bound c = λ given trees stands known.
    Represents-set_proof given _ trees c.args.self.now _ c.args.id c.in_ok-tree.tree _ known c.in_ok-tree.ensures.made
    refl c.in_ok-set_proof.ensures
    (Represents-Grows (Grows-table _ _ c.in_ok-tree.ensures.keeps) given trees c.args.self.now stands)

pub returns-clause-grows : goal.returns-clause-grows
returns-clause-grows c = Grows-table _ _ c.node.ensures.keeps
