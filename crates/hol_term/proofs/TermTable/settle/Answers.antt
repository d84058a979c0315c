use Rattle.std.proofs.Common.{subst, sym}
use Rattle.hol_term.specs.Tables.{Keeps}
use Rattle.hol_term.specs.TableLaws.{Keeps-refl}
use Rattle.hol_term.proofs.TermTable.settle.Goals as goal

pub cut-requires : goal.cut-requires
cut-requires c = c.requires.earlier

pub cut-requires-in-Err : goal.cut-requires-in-Err
cut-requires-in-Err c = c.requires.earlier

pub returns-in-Ok-check_limits-clause-keeps : goal.returns-in-Ok-check_limits-clause-keeps
returns-in-Ok-check_limits-clause-keeps c = λ before h. h.keeps

pub returns-in-Err-check_limits-clause-keeps : goal.returns-in-Err-check_limits-clause-keeps
returns-in-Err-check_limits-clause-keeps c = λ before h. subst (Keeps before) (sym (c.cut.ensures before h)) (Keeps-refl before)

pub returns-in-Err-clause-keeps : goal.returns-in-Err-clause-keeps
returns-in-Err-clause-keeps c = λ before h. subst (Keeps before) (sym (c.cut-in-Err.ensures before h)) (Keeps-refl before)
