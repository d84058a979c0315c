use Rattle.std.proofs.Common.{subst}
use Rattle.dk_read.specs.Texts.{Passed}
use Rattle.dk_read.proofs.Taken.{took_more, rest-drop}
use Rattle.dk_read.proofs.text.Text.take_next.Goals as goal

pub returns : goal.returns
returns c =
    let took = c.in_ok-count.ensures.takes in
    record {
      takes = took_more c.args.self.now c.take_one.new.self c.pass_blanks-blanks.new.self c.args.piece.now c.in_ok-count.count c.pass_blanks-blanks.result took
          (subst (λ l. Passed c.take_one.new.self l c.pass_blanks-blanks.new.self c.pass_blanks-blanks.result)
          (rest-drop c.args.piece.now c.in_ok-count.count took.within) c.pass_blanks-blanks.ensures);
    }
