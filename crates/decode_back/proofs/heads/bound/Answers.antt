use Rattle.hol_term.specs.TableLaws.{Keeps-refl}
use Rattle.decode_back.proofs.heads.bound.Goals as goal

pub returns-then-not-spend-clause-keeps : goal.returns-then-not-spend-clause-keeps
returns-then-not-spend-clause-keeps c = Keeps-refl c.args.table.now

pub returns-in-Ok-clause-keeps : goal.returns-in-Ok-clause-keeps
returns-in-Ok-clause-keeps c = c.lift.ensures.keeps

pub returns-in-Err-clause-keeps : goal.returns-in-Err-clause-keeps
returns-in-Err-clause-keeps c = c.lift.ensures.keeps
