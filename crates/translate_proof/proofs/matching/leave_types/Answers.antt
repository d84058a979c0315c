use Rattle.std.proofs.Common.{◌∙◌, sym, ap}
use Rattle.std.specs.Prelude.{◌&&◌}
use Rattle.hol_type.specs.Tables.{pairs_at}
use Rattle.translate_proof.specs.Matching.{are_types_made}
use Rattle.translate_proof.proofs.MatchLaws.{no-types}
use Rattle.translate_proof.proofs.matching.leave_types.Goals as goal

pub returns-clause-made : goal.returns-clause-made
returns-clause-made c =
    let types = c.args.table.now in
    let ps = pairs_at types c.args.pairs.now in
    c.loop-rest.invariant.made ∙ ap (λ b. b && are_types_made types ps c.loop-rest.left)
    (sym (c.is_empty.ensures ∙ no-types types ps c.loop-rest.rest.now c.loop-rest.others.now c.in_default.len_below))
