use Rattle.hol_rules.proofs.SideLaws.{numbered}
use Rattle.hol_rules.proofs.proof.Proof.hyps_of.Goals as goal

pub returns : goal.returns
returns c = numbered c.args.self.now.trees c.args.ids.now c.of.result (rw (← c.self.view_is) c.self.invariant.distinct) c.requires c.of.ensures.terms
    c.of.ensures.known
