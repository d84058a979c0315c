use Rattle.std.proofs.Common.{refl}
use Rattle.translate_term.specs.GrowLaws.{Grows-table}
use Rattle.translate_proof.proofs.SetLaws.{Represents-set_term}
use Rattle.translate_proof.specs.EnvironmentLaws.{Represents-Grows}
use Rattle.translate_proof.proofs.scope.Environment.bind_variable.Goals as goal

pub returns-in_err-tree-clause-grows : goal.returns-in_err-tree-clause-grows
returns-in_err-tree-clause-grows c = Grows-table _ _ c.node.ensures.keeps

pub returns-in_err-set_term-clause-grows : goal.returns-in_err-set_term-clause-grows
returns-in_err-set_term-clause-grows c = Grows-table _ _ c.node.ensures.keeps

pub returns-clause-bound : goal.returns-clause-bound
returns-clause-bound c = λ given trees stands known.
    Represents-set_term given _ trees c.args.self.now _ c.args.variable.now c.in_ok-tree.tree _ known c.in_ok-tree.ensures.made
    refl refl c.in_ok-set_term.ensures
    (Represents-Grows (Grows-table _ _ c.in_ok-tree.ensures.keeps) given trees c.args.self.now stands)

pub returns-clause-grows : goal.returns-clause-grows
returns-clause-grows c = Grows-table _ _ c.node.ensures.keeps
