use Rattle.std.proofs.Common.{◌≡◌, take}
use Rattle.translate_reach.specs.MadeItems.{step_keys, IsWalkOf, WantsOf}
use Rattle.translate_reach.proofs.walk.Walk.want_steps.Given as goal

abbrev pub invariant-loop-id : goal.invariant-loop-id
invariant-loop-id l = record {
  walk : IsWalkOf l.proof l.self;
  tasks : l.self.tasks ≡ l.fn.self.tasks;
  wants : WantsOf l.proof (step_keys l.proof (take l.id-index l.ids)) l.fn.self l.self;
}
