use Rattle.translate_proof.proofs.StandTrees.{Ready-more}
use Rattle.translate_proof.proofs.ground.Ground.add_free_variable.Goals as goal

pub returns-clause-ready : goal.returns-clause-ready
returns-clause-ready c = λ given made h told. Ready-more c.free_variable.ensures.grows given c.args.self.proof.now.trees c.args.self.env.now
    c.args.args.now.items _ made c.in_ok-tree.tree _ (c.in_ok-tree.ensures.made given h.stands told) c.in_ok-push.ensures.items h
