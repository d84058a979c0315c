use Rattle.std.proofs.Common.{◌++◌, refl, sym, subst}
use Rattle.lp_spec.specs.Reading.{Reads}
use Rattle.dk_read.specs.Shared.{reading_over}
use Rattle.bridge_verify.proofs.Handed.{judged-Memory}
use Rattle.bridge_verify.proofs.checking.hand.Goals as goal

pub returns-in-Err-clause-memory : goal.returns-in-Err-clause-memory
returns-in-Err-clause-memory c =
    let before = c.requires.reads.0 in let rest = c.requires.reads.1 in let m = c.requires.reads.2 in
    let reads = subst (λ piece. Reads ((before ++ piece) ++ rest) m) (sym c.contents.ensures) c.requires.reads.4 in
    c.answer_of.ensures.memory
    (judged-Memory (reading_over c.args.reader.now c.args.table.now) c.contents.result.now before rest m c.feed-fed.result c.in-Err.fault refl
    c.requires.reads.3 reads c.feed-fed.ensures.judges c.in-Err.is)
