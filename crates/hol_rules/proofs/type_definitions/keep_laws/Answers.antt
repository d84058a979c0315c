use Rattle.std.proofs.Common.{refl}
use Rattle.hol_rules.proofs.type_definitions.keep_laws.Goals as goal

pub returns-clause-kept : goal.returns-clause-kept
returns-clause-kept c = rw (c.push_reserved-2.ensures.items, c.push_reserved.ensures.items, c.take_before.ensures.unkept) refl
