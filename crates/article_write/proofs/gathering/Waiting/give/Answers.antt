use Rattle.std.proofs.Common.{◌∙◌, ap, ℕ, arith}
use Rattle.std.proofs.lemmas.List.{length-take}
use Rattle.article_write.specs.Gathering.{told_with}
use Rattle.article_write.proofs.GatheringLaws.{given_between, gains_length}
use Rattle.article_write.proofs.gathering.Waiting.give.Goals as goal

pub loop-self-init : goal.loop-self-init
loop-self-init g c = record {
  order = c.self.invariant.0;
  room = c.self.invariant.1;
  kept = ap (told_with (g.S.Sink.got c.args.sink.now)) c.self.view_is;
  grown = omega arith;
  later = omega arith;
}

pub loop-self-preserved : goal.loop-self-preserved
loop-self-preserved g c = record {
  order = let bound = c.in_ok-self-inside.ensures.bound in let order = c.loop-self.invariant.order in omega (arith, bound, order, length-take {A = ℕ});
  room = c.loop-self.invariant.room;
  kept = given_between _ _ c.loop-self.self-inside.bytes c.loop-self.self-inside.start c.loop-self.self-inside.end c.in_ok-self-inside.field-0
      c.in_ok-self-inside.ensures.bytes ∙ c.loop-self.invariant.kept;
  grown = let more = gains_length _ _ _ c.in_ok-self-inside.ensures.bytes in omega (arith, c.loop-self.invariant.grown, more);
  later = omega (arith, c.loop-self.invariant.later, c.in_ok-self-inside.ensures.cause.later);
}
