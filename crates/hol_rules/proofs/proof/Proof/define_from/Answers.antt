use Rattle.hol_rules.proofs.ListEnds.{list_at-pairs, list_at-premise, list_at-follows, list_at-ended}
use Rattle.hol_rules.proofs.Concluded.{stopped-definition}
use Rattle.hol_rules.proofs.proof.Proof.define_from.Goals as goal

pub conclude_list-requires-clause-pairs : goal.conclude_list-requires-clause-pairs
conclude_list-requires-clause-pairs c =
    list_at-pairs c.args.self.now c.with_constants.new.self c.with_constants.ensures.grows c.args.pairs.now c.requires.pairs c.args.one c.args.premise.now
    c.requires.stated c.requires.typed

pub conclude_list-requires-clause-premise : goal.conclude_list-requires-clause-premise
conclude_list-requires-clause-premise c =
    list_at-premise c.args.self.now c.with_constants.new.self c.with_constants.ensures.grows c.args.pairs.now c.requires.pairs c.args.one c.args.premise.now
    c.requires.stated c.requires.typed

pub conclude_list-requires-clause-sequent : goal.conclude_list-requires-clause-sequent
conclude_list-requires-clause-sequent c = (c.in_ok-hyps.ensures.known, c.in_ok-concl.ensures.made.known)

pub conclude_list-requires-clause-follows : goal.conclude_list-requires-clause-follows
conclude_list-requires-clause-follows c =
    list_at-follows c.args.self.now c.with_constants.new.self c.with_constants.ensures.grows c.args.pairs.now c.requires.pairs c.args.one c.args.premise.now
    c.requires.stated c.requires.typed
    c.in_ok-concl.concl c.in_ok-concl.ensures.made c.in_ok-hyps.hyps c.in_ok-hyps.ensures c.requires.fits c.requires.one

pub returns : goal.returns
returns c =
    list_at-ended c.args.self.now c.with_constants.new.self c.with_constants.ensures.grows c.args.pairs.now c.requires.pairs c.args.one c.args.premise.now
    c.requires.stated c.requires.typed
    c.in_ok-concl.concl c.in_ok-concl.ensures.made c.in_ok-hyps.hyps c.in_ok-hyps.ensures c.requires.fits c.conclude_list.new.self c.conclude_list.result
    c.conclude_list.ensures

pub returns-in_err-concl : goal.returns-in_err-concl
returns-in_err-concl c = stopped-definition _ c.with_constants.ensures.grows _ c.from_residual.result c.from_residual.ensures.1

pub returns-in_err-hyps : goal.returns-in_err-hyps
returns-in_err-hyps c = stopped-definition _ c.with_constants.ensures.grows _ c.from_residual-in_err-hyps.result c.from_residual-in_err-hyps.ensures.1

pub with_constants-requires-clause-term : goal.with_constants-requires-clause-term
with_constants-requires-clause-term c = c.requires.stated.known.1
