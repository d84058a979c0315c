use Rattle.std.proofs.Common.{◌+◌, refl}
use Rattle.dk_read.specs.declared.text.Text.{Text}
use Rattle.dk_read.proofs.Signs.{IsTokenKnown-sign}
use Rattle.dk_read.proofs.Taken.{took_sign, failed_sign}
use Rattle.dk_read.proofs.text.Text.take_token.Goals as goal

pub advance-requires-clause-token : goal.advance-requires-clause-token
advance-requires-clause-token c = IsTokenKnown-sign c.args.self.now.parser.names c.args.token c.requires.signs.known

pub returns-in-Ok : goal.returns-in-Ok
returns-in-Ok c =
    let old = c.args.self.now in
    let r = c.requires in
    let new : Text = record { parser = c.advance.new.self; pending = old.pending; word = old.word; place = old.place + c.args.count } in
    record {
      takes = took_sign old c.args.piece.now c.args.count c.args.token r.pending r.signs new c.in-Ok.ensures.becomes r.pending refl
          c.in-Ok.ensures.reading c.in-Ok.ensures.keeps;
    }

pub returns-in-Err : goal.returns-in-Err
returns-in-Err c =
    let old = c.args.self.now in
    let new : Text = record { parser = c.advance.new.self; pending = old.pending; word = old.word; place = old.place } in
    record {
      takes = failed_sign old c.args.piece.now c.args.count c.args.token c.requires.pending c.requires.signs new c.advance.new.self c.in-Err.stop refl
          c.in-Err.ensures.becomes;
    }
