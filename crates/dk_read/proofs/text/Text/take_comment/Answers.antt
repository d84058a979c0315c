use Rattle.std.proofs.Common.{◌+◌, refl, arith}
use Rattle.dk_read.specs.declared.text.Text.{Text}
use Rattle.dk_read.proofs.Taken.{took_comment}
use Rattle.dk_read.proofs.text.Text.take_comment.Goals as goal

pub returns : goal.returns
returns c =
    let old = c.args.self.now in
    let n = c.comment_len-count.result in
    let new : Text = record { parser = old.parser; pending = old.pending; word = c.args.self.now.word; place = old.place + n } in
    record {
      takes = took_comment old new c.args.piece.now n (omega (arith, c.if-count-eq0.false)) refl refl c.requires.reading c.args.first c.requires.pending
          c.requires.pending c.comment_len-count.ensures.run;
    }
