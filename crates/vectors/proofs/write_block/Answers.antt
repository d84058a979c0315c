use Rattle.std.proofs.Common.{◌∙◌}
use Rattle.vectors.proofs.WritingLaws.{writes_same, writes_stop, writes_then}
use Rattle.vectors.proofs.TrialParts.{block_parts}
use Rattle.vectors.proofs.write_block.Goals as goal

pub returns-in_err-put : goal.returns-in_err-put
returns-in_err-put g c =
    writes_same _ _ (block_parts c.args.i _ (c.as_bytes-number.ensures.value ∙ c.format.ensures.text))
    (writes_stop _ _ _ _ _ _ _ _ _ c.in_err-put.was c.from_residual.ensures.0 c.put.ensures)

pub returns-in_err-put-2 : goal.returns-in_err-put-2
returns-in_err-put-2 g c =
    writes_same _ _ (block_parts c.args.i _ (c.as_bytes-number.ensures.value ∙ c.format.ensures.text))
    (writes_then _ _ _ _ _ _ _ _ _ _ _ c.in_ok-put.was c.put.ensures
    (writes_stop _ _ _ _ _ _ _ _ _ c.in_err-put-2.was c.from_residual-in_err-put-2.ensures.0 c.put-2.ensures))

pub returns-in_err-put-3 : goal.returns-in_err-put-3
returns-in_err-put-3 g c =
    writes_same _ _ (block_parts c.args.i _ (c.as_bytes-number.ensures.value ∙ c.format.ensures.text))
    (writes_then _ _ _ _ _ _ _ _ _ _ _ c.in_ok-put.was c.put.ensures
    (writes_then _ _ _ _ _ _ _ _ _ _ _ c.in_ok-put-2.was c.put-2.ensures
    (writes_stop _ _ _ _ _ _ _ _ _ c.in_err-put-3.was c.from_residual-in_err-put-3.ensures.0 c.put-3.ensures)))

pub returns-in_err-write_chained : goal.returns-in_err-write_chained
returns-in_err-write_chained g c =
    writes_same _ _ (block_parts c.args.i _ (c.as_bytes-number.ensures.value ∙ c.format.ensures.text))
    (writes_then _ _ _ _ _ _ _ _ _ _ _ c.in_ok-put.was c.put.ensures
    (writes_then _ _ _ _ _ _ _ _ _ _ _ c.in_ok-put-2.was c.put-2.ensures
    (writes_then _ _ _ _ _ _ _ _ _ _ _ c.in_ok-put-3.was c.put-3.ensures
    (writes_stop _ _ _ _ _ _ _ _ _ c.in_err-write_chained.was c.from_residual-in_err-write_chained.ensures.0 c.write_chained.ensures))))

pub returns : goal.returns
returns g c =
    writes_same _ _ (block_parts c.args.i _ (c.as_bytes-number.ensures.value ∙ c.format.ensures.text))
    (writes_then _ _ _ _ _ _ _ _ _ _ _ c.in_ok-put.was c.put.ensures
    (writes_then _ _ _ _ _ _ _ _ _ _ _ c.in_ok-put-2.was c.put-2.ensures
    (writes_then _ _ _ _ _ _ _ _ _ _ _ c.in_ok-put-3.was c.put-3.ensures
    (writes_then _ _ _ _ _ _ _ _ _ _ _ c.in_ok-write_chained.was c.write_chained.ensures c.put-4.ensures))))
