use Rattle.std.proofs.Common.{◌+◌, ◌∙◌, refl, sym, ap, Err}
use Rattle.lp_spec.specs.Tokens as tokens
use Rattle.lp_spec.specs.ReadingFaults as reading
use Rattle.dk_read.specs.States.{before, state_of}
use Rattle.dk_read.proofs.Bytes.{token_stops, token_goes}
use Rattle.dk_read.proofs.Declared.{becomes_as}
use Rattle.dk_read.proofs.Kept.{kept_on}
use Rattle.dk_read.proofs.text.Text.end_word.Goals as goal

pub returns-in-Err : goal.returns-in-Err
returns-in-Err c =
    let old = c.args.self.now in
    let same = ap (λ w. reading.advance (before old.parser) (state_of old.parser) c.args.first (tokens.word_token w)) (sym c.deref.ensures.value) in
    record {
      takes = token_stops (old.place + 1) c.args.first (before old.parser) (state_of old.parser) (tokens.word_token old.word.items)
          (tokens.begins old.place c.args.byte) c.word.new.self
          (record { parser = c.word.new.self; pending = old.pending; word = old.word; place = old.place }) c.in-Err.stop refl
          (becomes_as _ _ c.word.new.self (Err c.in-Err.stop) same c.in-Err.ensures.becomes);
      reading = tt;
      place = tt;
      keeps = tt;
    }

pub returns-in-Ok : goal.returns-in-Ok
returns-in-Ok c =
    let old = c.args.self.now in
    let same = ap (λ w. reading.advance (before old.parser) (state_of old.parser) c.args.first (tokens.word_token w)) (sym c.deref.ensures.value) in
    record {
      takes = token_goes (old.place + 1) c.args.first old.parser c.word.new.self (tokens.word_token old.word.items) (tokens.begins old.place c.args.byte)
          c.begin.new.self c.begin.result (same ∙ c.in-Ok.ensures.becomes) c.begin.ensures.takes;
      reading = c.begin.ensures.reading;
      place = c.begin.ensures.place;
      keeps = kept_on c.begin.result c.begin.new.self.parser.module.table c.in-Ok.ensures.keeps c.begin.ensures.keeps;
    }
