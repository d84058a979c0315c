use Rattle.translate_proof.proofs.StandTrees.{Ready-more}
use Rattle.translate_proof.proofs.scope.Environment.add_type_variable.Goals as goal

pub returns-clause-ready : goal.returns-clause-ready
returns-clause-ready c = λ given trees made h. Ready-more c.type_variable.ensures.grows given trees c.args.self.now c.args.args.now.items _ made
    c.in_ok-tree.tree _ (c.in_ok-tree.ensures.made given.scope.types h.stands.types) c.in_ok-push.ensures.items h
