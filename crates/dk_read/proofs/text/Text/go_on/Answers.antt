use Rattle.std.proofs.Common.{◌+◌, refl, arith}
use Rattle.dk_read.specs.declared.text.Text.{Text}
use Rattle.dk_read.proofs.Taken.{took_word}
use Rattle.dk_read.proofs.text.Text.go_on.Goals as goal

pub returns-in-Ok : goal.returns-in-Ok
returns-in-Ok c =
    let old = c.args.self.now in
    let n = c.word_len-count.result in
    let new : Text = record { parser = old.parser; pending = old.pending; word = c.extend_from_slice.new.self; place = old.place + n } in
    record {
      takes = took_word old new c.args.piece.now n (omega (arith, c.if-count-eq0.false)) refl refl c.requires.reading c.args.first c.requires.pending
          c.requires.pending c.word_len-count.ensures.run c.in-Ok.ensures.items;
    }
