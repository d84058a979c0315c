use Rattle.std.proofs.Common.{◌+◌, refl}
use Rattle.dk_read.specs.declared.text.Text.{Text}
use Rattle.dk_read.proofs.Taken.{ended_word, failed_word}
use Rattle.dk_read.proofs.text.Text.take_whole.Goals as goal

pub returns-in-Ok : goal.returns-in-Ok
returns-in-Ok c =
    let old = c.args.self.now in
    let r = c.requires in
    let new : Text = record { parser = c.word.new.self; pending = old.pending; word = old.word; place = old.place + c.args.count } in
    record {
      takes = ended_word old c.args.piece.now c.args.count r.pending r.count r.some r.letter r.ends new c.in-Ok.ensures.becomes r.pending refl
          c.in-Ok.ensures.reading c.in-Ok.ensures.keeps;
    }

pub returns-in-Err : goal.returns-in-Err
returns-in-Err c =
    let r = c.requires in
    record {
      takes = failed_word c.args.self.now c.args.piece.now c.args.count r.pending r.count r.some r.letter r.ends
          (record { parser = c.word.new.self; pending = c.args.self.now.pending; word = c.args.self.now.word; place = c.args.self.now.place }) c.word.new.self
          c.in-Err.stop refl c.in-Err.ensures.becomes;
    }
