use Rattle.translate_proof.proofs.StandTrees.{Ready-more}
use Rattle.translate_proof.proofs.scope.Environment.add_hypothesis.Goals as goal

pub returns-clause-ready : goal.returns-clause-ready
returns-clause-ready c = λ given trees made h known. Ready-more c.hypothesis.ensures.grows given trees c.args.self.now c.args.args.now.items _ made
    c.in_ok-tree.tree _ (c.in_ok-tree.ensures.made given trees h.stands known) c.in_ok-push.ensures.items h
