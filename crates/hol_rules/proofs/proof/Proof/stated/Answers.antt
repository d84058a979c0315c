use Rattle.hol_rules.proofs.SideLaws.{known_term}
use Rattle.hol_rules.proofs.Truths.{AreTermsAt-known, stated_is}
use Rattle.hol_rules.proofs.proof.Proof.stated.Goals as goal

pub hyps_of-requires : goal.hyps_of-requires
hyps_of-requires c = AreTermsAt-known c.args.self.now.trees c.args.hyps.now c.requires.hyps

pub returns-clause-stated : goal.returns-clause-stated
returns-clause-stated c = stated_is c.args.self.now.trees c.args.hyps.now c.args.concl (known_term c.args.self.now.trees c.args.concl.0 c.requires.concl)
    c.in_ok-hyps.hyps c.in_ok-hyps.ensures
