use Rattle.std.proofs.Common.{take}
use Rattle.hol_spec.specs.Rules as rule
use Rattle.hol_defs.specs.Lists.{pairs_at as pairs_view}
use Rattle.translate_spec.specs.Reach.{given_keys}
use Rattle.translate_reach.specs.MadeItems.{IsWalkOf, WantsOf}
use Rattle.translate_reach.proofs.walk.Walk.want_pairs.Given as goal

abbrev pub invariant-loop-name : goal.invariant-loop-name
invariant-loop-name l = record {
  walk : IsWalkOf l.proof l.self;
  wants : WantsOf l.proof (given_keys (rule.Parameters.constants (pairs_view l.proof.trees (take l.name-index l.pairs)))) l.fn.self l.self;
}
