use Rattle.std.proofs.Common.{take}
use Rattle.holide_sig.specs.Modules.{declarations_of}
use Rattle.dk_write.proofs.GainedLaws.{writes_same, writes_stop, writes_then}
use Rattle.dk_write.proofs.DeclarationTexts.{body_parts}
use Rattle.dk_write.proofs.write_body.Goals as goal

pub returns-in_err-write_words-in-Some-clause-writes : goal.returns-in_err-write_words-in-Some-clause-writes
returns-in_err-write_words-in-Some-clause-writes g c =
    writes_same _ _ (body_parts (declarations_of c.args.source.now) (take c.args.before (declarations_of c.args.source.now)) c.args.source.now.table c.args.body
    c.in-Some.id c.in-Some.is)
    (writes_stop _ _ _ _ _ _ _ _ _ _ _ c.in_err-write_words-in-Some.was c.from_residual.ensures.0 c.write_words.ensures)

pub returns-in_ok-write_words-in-Some-clause-writes : goal.returns-in_ok-write_words-in-Some-clause-writes
returns-in_ok-write_words-in-Some-clause-writes g c =
    writes_same _ _ (body_parts (declarations_of c.args.source.now) (take c.args.before (declarations_of c.args.source.now)) c.args.source.now.table c.args.body
    c.in-Some.id c.in-Some.is)
    (writes_then _ _ _ _ _ _ _ _ _ _ _ _ _ _ c.in_ok-write_words-in-Some.was c.write_words.ensures c.write_tree.ensures.writes)
