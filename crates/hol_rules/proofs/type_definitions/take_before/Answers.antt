use Rattle.std.proofs.Common.{arith}
use Rattle.hol_term.specs.TableLaws.{Keeps-refl}
use Rattle.hol_rules.proofs.type_definitions.take_before.Goals as goal

pub take_type-requires-clause-number : goal.take_type-requires-clause-number
take_type-requires-clause-number c = omega (arith, c.len-first.ensures, c.reserve.ensures.len, c.in_ok-reserve.ensures.ok, c.reserve.new.self.small)

pub returns-in_err-reserve-clause-keeps : goal.returns-in_err-reserve-clause-keeps
returns-in_err-reserve-clause-keeps c = Keeps-refl c.args.terms.now
