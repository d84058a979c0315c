use Rattle.std.proofs.Common.{refl}
use Rattle.hol_rules.proofs.conclude.keep_step.Goals as goal

pub push_reserved-requires : goal.push_reserved-requires
push_reserved-requires c = c.in_ok-id.ensures.room

pub returns-clause-kept : goal.returns-clause-kept
returns-clause-kept c = rw (c.push_reserved.ensures.items, c.noted_step.ensures.unchanged) refl
