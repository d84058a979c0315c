use Rattle.decode_back.proofs.TypeWalk.{IfOk-weaker}
use Rattle.decode_back.proofs.judging.check_sequent.Goals as goal

pub returns : goal.returns
returns c = record {
  judged = IfOk-weaker _ _ c.judge_sequent-found.result c.judge_sequent-found.ensures.judged
      (λ found h s made. h s (made, c.in_ok-hyps.ensures.terms c.args.table.now c.view-distinct.ensures.distinct c.requires.ids));
}

pub judge_sequent-found-requires-clause-known : goal.judge_sequent-found-requires-clause-known
judge_sequent-found-requires-clause-known c = (c.in_ok-hyps.ensures.known c.args.table.now c.requires.ids, c.requires.concl)
