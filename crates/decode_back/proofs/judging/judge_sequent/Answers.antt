use Rattle.decode_back.proofs.JudgeLemmas.{not-told, judged-closed}
use Rattle.decode_back.proofs.judging.judge_sequent.Goals as goal

pub returns-then-not-open : goal.returns-then-not-open
returns-then-not-open c = record { judged = λ s made. not-told c.in_ok-open.open (c.in_ok-open.ensures s made) c.if-not-open.true }

pub returns : goal.returns
returns c = record {
  judged = λ s made. judged-closed c.args.table.now c.args.count c.args.variables.now c.args.ids.now c.args.sequent.now.concl s made.0 c.args.sequent.now.hyps
      made.1
      ((c.in_ok-open.ensures s made).0 c.if-not-open.false) c.in_ok-closed.closed c.in_ok-closed.ensures;
}
