use Rattle.std.proofs.Common.{◌+◌, ap}
use Rattle.lp_spec.specs.Tokens as tokens
use Rattle.lp_spec.specs.ReadingFaults as reading
use Rattle.dk_read.specs.States.{before, state_of}
use Rattle.dk_read.proofs.Bytes.{takes_as}
use Rattle.dk_read.proofs.text.Text.begin.Goals as goal

pub returns-in-40 : goal.returns-in-40
returns-in-40 c =
    let old = c.args.self.now in
    record {
      takes = takes_as _ _ c.wait.new.self c.wait.result
          (ap (λ b. reading.after_byte (old.place + 1) (before old.parser) (state_of old.parser) (tokens.begins old.place b)) c.in-40.is) c.wait.ensures.takes;
      reading = c.wait.ensures.reading;
      place = c.wait.ensures.place;
      keeps = c.wait.ensures.keeps;
    }

pub returns-in-41 : goal.returns-in-41
returns-in-41 c =
    let old = c.args.self.now in
    record {
      takes = takes_as _ _ c.end_token.new.self c.end_token.result
          (ap (λ b. reading.after_byte (old.place + 1) (before old.parser) (state_of old.parser) (tokens.begins old.place b)) c.in-41.is)
          c.end_token.ensures.takes;
      reading = c.end_token.ensures.reading;
      place = c.end_token.ensures.place;
      keeps = c.end_token.ensures.keeps;
    }

pub returns-in-58 : goal.returns-in-58
returns-in-58 c =
    let old = c.args.self.now in
    record {
      takes = takes_as _ _ c.wait-in-58.new.self c.wait-in-58.result
          (ap (λ b. reading.after_byte (old.place + 1) (before old.parser) (state_of old.parser) (tokens.begins old.place b)) c.in-58.is)
          c.wait-in-58.ensures.takes;
      reading = c.wait-in-58.ensures.reading;
      place = c.wait-in-58.ensures.place;
      keeps = c.wait-in-58.ensures.keeps;
    }

pub returns-in-45 : goal.returns-in-45
returns-in-45 c =
    let old = c.args.self.now in
    record {
      takes = takes_as _ _ c.wait-in-45.new.self c.wait-in-45.result
          (ap (λ b. reading.after_byte (old.place + 1) (before old.parser) (state_of old.parser) (tokens.begins old.place b)) c.in-45.is)
          c.wait-in-45.ensures.takes;
      reading = c.wait-in-45.ensures.reading;
      place = c.wait-in-45.ensures.place;
      keeps = c.wait-in-45.ensures.keeps;
    }

pub returns-in-61 : goal.returns-in-61
returns-in-61 c =
    let old = c.args.self.now in
    record {
      takes = takes_as _ _ c.wait-in-61.new.self c.wait-in-61.result
          (ap (λ b. reading.after_byte (old.place + 1) (before old.parser) (state_of old.parser) (tokens.begins old.place b)) c.in-61.is)
          c.wait-in-61.ensures.takes;
      reading = c.wait-in-61.ensures.reading;
      place = c.wait-in-61.ensures.place;
      keeps = c.wait-in-61.ensures.keeps;
    }

pub returns-in-46 : goal.returns-in-46
returns-in-46 c =
    let old = c.args.self.now in
    record {
      takes = takes_as _ _ c.end_token-in-46.new.self c.end_token-in-46.result
          (ap (λ b. reading.after_byte (old.place + 1) (before old.parser) (state_of old.parser) (tokens.begins old.place b)) c.in-46.is)
          c.end_token-in-46.ensures.takes;
      reading = c.end_token-in-46.ensures.reading;
      place = c.end_token-in-46.ensures.place;
      keeps = c.end_token-in-46.ensures.keeps;
    }
