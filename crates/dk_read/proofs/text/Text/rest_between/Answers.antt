use Rattle.std.proofs.Common.{ap}
use Rattle.lp_spec.specs.Tokens as tokens
use Rattle.lp_spec.specs.ReadingFaults as reading
use Rattle.lp_term.specs.TableLaws.{Keeps-refl}
use Rattle.dk_read.specs.States.{before, state_in}
use Rattle.dk_read.proofs.Bytes.{ends_broken}
use Rattle.dk_read.proofs.text.Text.rest_between.Goals as goal

pub returns-in-Between : goal.returns-in-Between
returns-in-Between c =
    let p = c.args.self.now.parser in
    record {
      closes = ap (λ s. reading.answers (reading.Goes (before p) (state_in p s)) (tokens.ended c.args.self.now.place)) c.in-Between.is;
      reading = c.requires.reading;
      keeps = Keeps-refl p.module.table;
    }

pub returns-in_default : goal.returns-in_default
returns-in_default c =
    let old = c.args.self.now in
    record {
      closes = ends_broken old.parser (record { parser = c.stuck.new.self; pending = old.pending; word = old.word; place = old.place }) old.place c.stuck.result
          c.in_default.not-Between c.stuck.ensures;
      reading = tt;
      keeps = tt;
    }
