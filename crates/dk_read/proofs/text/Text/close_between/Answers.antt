use Rattle.dk_read.proofs.Bytes.{closes_as}
use Rattle.dk_read.proofs.Kept.{kept_on}
use Rattle.dk_read.proofs.text.Text.close_between.Goals as goal

pub returns-in-Ok : goal.returns-in-Ok
returns-in-Ok c = record {
  closes = closes_as _ _ c.rest_between.new.self c.rest_between.result c.in-Ok.ensures.ends c.rest_between.ensures.closes;
  reading = c.rest_between.ensures.reading;
  keeps = kept_on c.rest_between.result c.rest_between.new.self.parser.module.table c.in-Ok.ensures.keeps c.rest_between.ensures.keeps;
}

pub returns-in-Err : goal.returns-in-Err
returns-in-Err c = record { closes = c.in-Err.ensures.ends; reading = tt; keeps = tt }
