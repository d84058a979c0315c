use Rattle.lp_weight.specs.Measures.{place_occurrences}
use Rattle.lp_weight.proofs.HeadLaws.{column-none}
use Rattle.lp_weight.proofs.weighing.Weights.new.Goals as goal

pub returns : goal.returns
returns c = λ m. record { walk = c.new.ensures (place_occurrences m); column = column-none m _ c.new-2.ensures }
