use Rattle.hol_term.specs.TableLaws.{Keeps-refl}
use Rattle.hol_term.proofs.TermTable.step.Goals as goal

pub returns-in-Visit-clause-walk : goal.returns-in-Visit-clause-walk
returns-in-Visit-clause-walk c = rw c.in-Visit.is c.visit_seat.ensures.walk

pub returns-in-Visit-clause-less : goal.returns-in-Visit-clause-less
returns-in-Visit-clause-less c = rw c.in-Visit.is c.visit_seat.ensures.less

pub returns-in-Visit-clause-keeps : goal.returns-in-Visit-clause-keeps
returns-in-Visit-clause-keeps c = Keeps-refl c.args.self.now

pub returns-in-Apply-clause-walk : goal.returns-in-Apply-clause-walk
returns-in-Apply-clause-walk c = rw c.in-Apply.is c.apply_types.ensures.walk

pub returns-in-Apply-clause-less : goal.returns-in-Apply-clause-less
returns-in-Apply-clause-less c = rw c.in-Apply.is c.apply_types.ensures.less

pub returns-in-Apply-clause-keeps : goal.returns-in-Apply-clause-keeps
returns-in-Apply-clause-keeps c = Keeps-refl c.args.self.now

pub returns-in-Abstract-clause-walk : goal.returns-in-Abstract-clause-walk
returns-in-Abstract-clause-walk c = rw c.in-Abstract.is c.abstract_type.ensures.walk

pub returns-in-Abstract-clause-less : goal.returns-in-Abstract-clause-less
returns-in-Abstract-clause-less c = rw c.in-Abstract.is c.abstract_type.ensures.less
