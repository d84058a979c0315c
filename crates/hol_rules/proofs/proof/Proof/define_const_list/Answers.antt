use Rattle.hol_rules.proofs.Concluded.{Grows-refl, refused-definition, stopped-definition}
use Rattle.hol_rules.proofs.proof.Proof.define_const_list.Goals as goal

pub returns-in_err-judge_list : goal.returns-in_err-judge_list
returns-in_err-judge_list c = refused-definition _ (Grows-refl c.args.self.now) _ c.from_residual.result c.in_err-judge_list.field-0.0 c.from_residual.ensures.1
    (c.in_err-judge_list.ensures.refused)

pub returns-in_err-premise : goal.returns-in_err-premise
returns-in_err-premise c = stopped-definition _ (Grows-refl c.args.self.now) _ c.from_residual-in_err-premise.result c.from_residual-in_err-premise.ensures.1

pub define_from-made-requires-clause-pairs : goal.define_from-made-requires-clause-pairs
define_from-made-requires-clause-pairs c = c.requires.pairs

pub define_from-made-requires-clause-one : goal.define_from-made-requires-clause-one
define_from-made-requires-clause-one c = c.requires.one

pub define_from-made-requires-clause-stated : goal.define_from-made-requires-clause-stated
define_from-made-requires-clause-stated c = c.in_ok-premise.ensures.stated

pub define_from-made-requires-clause-typed : goal.define_from-made-requires-clause-typed
define_from-made-requires-clause-typed c = c.premise.ensures.typed

pub define_from-made-requires-clause-fits : goal.define_from-made-requires-clause-fits
define_from-made-requires-clause-fits c = c.in_ok-judge_list.ensures.fits

pub returns : goal.returns
returns c = c.define_from-made.ensures
