use Rattle.std.proofs.Common.{rules}
use Rattle.std.proofs.lemmas.Map.Made.{map_same_pairs}
use Rattle.stack_machine.specs.Collecting.{numbered}
use Rattle.stack_machine.proofs.collect.Numbers.rewrite_values.Goals as goal

pub returns : goal.returns
returns c = map_same_pairs _ (numbered c.args.self.now) _ (λ k v b w f' t. search rules) _ _ c.retain.ensures.filtered
