use Rattle.std.proofs.Common.{◌≡◌, take, false}
use Rattle.std.specs.List.{list_any}
use Rattle.hol_spec.specs.Lists.{is_in}
use Rattle.hol_spec.specs.NameEquality.{name_eq}
use Rattle.article_reach.proofs.walk.Walk.is_constant_wanted.Given as goal

abbrev pub invariant-loop-pair : goal.invariant-loop-pair
invariant-loop-pair l = list_any (λ pair. is_in name_eq pair.0 l.self.constants) (take l.pair-index l.pairs) ≡ false
