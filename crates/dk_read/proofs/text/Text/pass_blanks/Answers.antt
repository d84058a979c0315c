use Rattle.std.proofs.Common.{◌+◌, refl, arith}
use Rattle.lp_term.specs.TableLaws.{Keeps-refl}
use Rattle.dk_read.specs.declared.text.Text.{Text}
use Rattle.dk_read.proofs.Taken.{passed_blanks}
use Rattle.dk_read.proofs.text.Text.pass_blanks.Goals as goal

pub returns-in-Nothing : goal.returns-in-Nothing
returns-in-Nothing c =
    let old = c.args.self.now in
    let n = c.blank_len-count.result in
    let new : Text = record { parser = old.parser; pending = old.pending; word = old.word; place = old.place + n } in
    passed_blanks old new c.args.piece.now n refl refl c.requires.reading c.in-Nothing.is c.in-Nothing.is c.blank_len-count.ensures.run

pub returns-in_default : goal.returns-in_default
returns-in_default c =
    let old = c.args.self.now in
    record {
      within = omega arith;
      taken = refl;
      place = omega arith;
      reading = c.requires.reading;
      keeps = Keeps-refl old.parser.module.table;
    }
