use Rattle.hol_term.specs.TableLaws.{Keeps-trans}
use Rattle.hol_defs.specs.Symbols.{named_by}
use Rattle.hol_defs.proofs.OperatorLaws.{AreConstantTypes-made}
use Rattle.hol_defs.proofs.operators.constant_types.Goals as goal

pub returns-in_err-part-clause-keeps : goal.returns-in_err-part-clause-keeps
returns-in_err-part-clause-keeps c = c.in_err-part.ensures.keeps

pub returns-in_err-abs-clause-keeps : goal.returns-in_err-abs-clause-keeps
returns-in_err-abs-clause-keeps c = Keeps-trans c.in_ok-part.ensures.keeps c.in_err-abs.ensures.keeps

pub returns-in_err-rep-clause-keeps : goal.returns-in_err-rep-clause-keeps
returns-in_err-rep-clause-keeps c = Keeps-trans (Keeps-trans c.in_ok-part.ensures.keeps c.in_ok-abs.ensures.keeps) c.in_err-rep.ensures.keeps

pub returns-clause-types : goal.returns-clause-types
returns-clause-types c =
    AreConstantTypes-made c.in_ok-part.ensures.keeps c.in_ok-abs.ensures.keeps c.in_ok-rep.ensures.keeps (named_by c.args.given) c.args.whole c.in_ok-part.part
    c.in_ok-abs.abs c.in_ok-rep.rep c.requires c.in_ok-part.ensures.known
    c.in_ok-part.ensures.made c.in_ok-abs.ensures.known c.in_ok-abs.ensures.made c.in_ok-rep.ensures.known c.in_ok-rep.ensures.made

pub returns-clause-keeps : goal.returns-clause-keeps
returns-clause-keeps c = Keeps-trans (Keeps-trans c.in_ok-part.ensures.keeps c.in_ok-abs.ensures.keeps) c.in_ok-rep.ensures.keeps
