use Rattle.std.proofs.Common.{◌-◌, length, arith}
use Rattle.std.proofs.lemmas.List.{length-take}
use Rattle.translate_proof.proofs.DomainLaws.{over_known, over_more, over_end}
use Rattle.translate_proof.proofs.ListSteps.{front-last, no-item}
use Rattle.translate_proof.proofs.trees.over.Goals as goal

pub node-requires : goal.node-requires
node-requires c =
    let split = front-last c.loop-rest.rest.now (record { 0 = 0 }) c.in-len1-up.len_at_least in
    (over_known _ _ c.loop-rest.rest.now _ _ c.loop-rest.made _ split c.loop-rest.invariant.over, c.loop-rest.invariant.over.made_known)

pub loop-rest-preserved : goal.loop-rest-preserved
loop-rest-preserved c =
    let split = front-last c.loop-rest.rest.now (record { 0 = 0 }) c.in-len1-up.len_at_least in
    record {
      over = over_more _ _ _ c.loop-rest.rest.now _ _ c.loop-rest.made c.in_ok-made.made _ split c.loop-rest.invariant.over c.in_ok-made.ensures.keeps
          c.in_ok-made.ensures.known c.in_ok-made.ensures.made;
      shorter = omega (arith, c.loop-rest.invariant.shorter, length-take (length c.loop-rest.rest.now - 1) c.loop-rest.rest.now);
    }

pub returns-clause-made : goal.returns-clause-made
returns-clause-made c = over_end _ _ c.loop-rest.rest.now c.loop-rest.made _ (no-item c.loop-rest.rest.now c.in_default.len_below) c.loop-rest.invariant.over
