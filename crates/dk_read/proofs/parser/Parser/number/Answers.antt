use Rattle.lp_term.specs.TableLaws.{Keeps-refl}
use Rattle.dk_read.proofs.Grown.{grown}
use Rattle.dk_read.proofs.parser.Parser.number.Goals as goal

pub returns-in_err-number-clause-grows : goal.returns-in_err-number-clause-grows
returns-in_err-number-clause-grows c = grown c.args.self.now c.args.self.now.module.table c.number.new.self (Keeps-refl c.args.self.now.module.table)
    c.number.ensures.keeps c.number.ensures.same c.requires.sound

pub returns-clause-grows : goal.returns-clause-grows
returns-clause-grows c = grown c.args.self.now c.args.self.now.module.table c.number.new.self (Keeps-refl c.args.self.now.module.table) c.number.ensures.keeps
    c.number.ensures.same c.requires.sound
