-- The laws of runs, by whatever way of obeying: a list of articles has exactly one outcome, and a refusal stays whatever articles follow.
use Rattle.std.specs.Prelude.{ℕ, ◌≡◌, List, ◌++◌}
use Rattle.common.specs.declared.faults.Kind.{Kind}
use Rattle.article_spec.specs.Run.{Obeys, Outcome, refused_at, RunsBy}

pub record HasOneOutcome (by : Obeys) (articles : List (List ℕ)) : Type 0 where
  pub outcome : Outcome
  pub runs : RunsBy by articles outcome
  pub only : (other : Outcome) → RunsBy by articles other → other ≡ outcome

abbrev pub OneOutcome : Type 0
OneOutcome = (by : Obeys) (articles : List (List ℕ)) → HasOneOutcome by articles

abbrev pub RefusalsStay : Type 0
RefusalsStay = (by : Obeys) (articles more : List (List ℕ)) (k line : ℕ) (kind : Kind) → RunsBy by articles (refused_at k line kind)
    → RunsBy by (articles ++ more) (refused_at k line kind)
