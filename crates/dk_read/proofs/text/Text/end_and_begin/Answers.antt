use Rattle.std.proofs.Common.{◌+◌, refl}
use Rattle.lp_spec.specs.Tokens as tokens
use Rattle.dk_read.specs.States.{before, state_of, token_in}
use Rattle.dk_read.proofs.Bytes.{token_stops, token_goes}
use Rattle.dk_read.proofs.Kept.{kept_on}
use Rattle.dk_read.proofs.text.Text.end_and_begin.Goals as goal

pub returns-in-Err : goal.returns-in-Err
returns-in-Err c =
    let old = c.args.self.now in
    record {
      takes = token_stops (old.place + 1) c.args.first (before old.parser) (state_of old.parser) (token_in old.parser.names c.args.token)
          (tokens.begins old.place c.args.byte) c.advance.new.self
          (record { parser = c.advance.new.self; pending = old.pending; word = old.word; place = old.place }) c.in-Err.stop refl c.in-Err.ensures.becomes;
      reading = tt;
      place = tt;
      keeps = tt;
    }

pub returns-in-Ok : goal.returns-in-Ok
returns-in-Ok c =
    let old = c.args.self.now in
    record {
      takes = token_goes (old.place + 1) c.args.first old.parser c.advance.new.self (token_in old.parser.names c.args.token)
          (tokens.begins old.place c.args.byte) c.begin.new.self c.begin.result c.in-Ok.ensures.becomes c.begin.ensures.takes;
      reading = c.begin.ensures.reading;
      place = c.begin.ensures.place;
      keeps = kept_on c.begin.result c.begin.new.self.parser.module.table c.in-Ok.ensures.keeps c.begin.ensures.keeps;
    }
