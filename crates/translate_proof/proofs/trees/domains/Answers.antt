use Rattle.std.proofs.Common.{◌<◌, length, arith}
use Rattle.translate_proof.proofs.DomainLaws.{read_all, read_more, read_stops}
use Rattle.translate_proof.proofs.KeepLaws.{AreKnown-more}
use Rattle.translate_proof.proofs.trees.domains.Goals as goal

pub returns-in_default : goal.returns-in_default
returns-in_default c = record {
  known = c.loop-place.invariant.known;
  are = λ domains inside h e.
      absurd (read_stops c.args.table.now domains inside c.loop-place._place c.loop-place.domains.items c.loop-place.rest c.view.result
      (c.loop-place.invariant.read domains inside h e)
      (let l : c.loop-place._place < length domains = omega (arith, e, c.loop-place-test.true) in l) c.view.ensures.is c.in_default.not-Pi);
}

pub loop-place-preserved : goal.loop-place-preserved
loop-place-preserved c =
    rw c.in_ok-push.ensures.items (record {
      known = AreKnown-more c.args.table.now c.loop-place.domains.items c.in-Pi.domain c.loop-place.invariant.known
          (omega (arith, c.in-Pi.ensures.lower.0, c.loop-place.invariant.rest));
      rest = omega (arith, c.in-Pi.ensures.lower.1, c.loop-place.invariant.rest);
      read = λ domains inside h e.
          read_more c.args.table.now domains inside c.loop-place._place c.loop-place.domains.items c.loop-place.rest c.in-Pi.domain c.in-Pi.inside
          (omega (arith, c.in-Pi.ensures.lower.0, c.loop-place.invariant.rest))
          (omega (arith, c.in-Pi.ensures.lower.1, c.loop-place.invariant.rest)) (c.loop-place.invariant.read domains inside h e)
          (let l : c.loop-place._place < length domains = omega (arith, e, c.loop-place-test.true) in l) c.in-Pi.ensures.is;
    })

pub returns-clause-known : goal.returns-clause-known
returns-clause-known c = c.loop-place.invariant.known

pub returns-clause-are : goal.returns-clause-are
returns-clause-are c = λ domains inside h e.
    read_all c.args.table.now domains inside c.loop-place._place c.loop-place.domains.items c.loop-place.rest (c.loop-place.invariant.read domains inside h e)
    (omega (arith, e, c.loop-place-test.false))
