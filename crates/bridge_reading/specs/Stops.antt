-- How a run of articles stops before its end.
use Rattle.std.specs.Prelude.{ℕ, List, take, Option}
use Rattle.bridge_base.specs.Outside.{Files, Begins}
use Rattle.article_spec.specs.Run.{refused_at}
use Rattle.bridge_spec.specs.Answers.{RunsTo}
use Rattle.bridge_answer.specs.declared.answer.Answer.{Answer}
use Rattle.bridge_answer.specs.declared.answer.Answer.TheVariants as answer
use Rattle.bridge_reading.specs.declared.articles.Stop.{Stop}
use Rattle.bridge_reading.specs.declared.articles.Stop.TheVariants as stop
use Rattle.bridge_reading.specs.declared.reading.Halt.{Halt}
use Rattle.bridge_reading.specs.declared.reading.Halt.TheVariants as halt

-- the run of what was read of these files is refused so; what comes from without says nothing of it
abbrev pub Stops : Stop → Option Files → List (List ℕ) → Type 0
Stops (stop.Refused article line kind) told names = RunsTo told names (refused_at article line kind)
Stops stop.ReadFault told names = Unit {0}
Stops stop.Memory told names = Unit {0}

-- at a refusal the files up to the refused article were begun; what comes from without says nothing of it
abbrev pub StopsBegun : Stop → Option (List (List ℕ)) → List (List ℕ) → Option (List (List ℕ)) → Type 0
StopsBegun (stop.Refused article line kind) before names now = Begins before (take article names) now
StopsBegun stop.ReadFault before names now = Unit {0}
StopsBegun stop.Memory before names now = Unit {0}

-- the stop for the halt of an article
abbrev pub stop_of_halt : ℕ → Halt → Stop
stop_of_halt article (halt.Refused line kind) = stop.Refused article line kind
stop_of_halt article halt.ReadFault = stop.ReadFault
stop_of_halt article halt.Memory = stop.Memory

-- what is answered for a stop
abbrev pub answer_of_stop : Stop → Answer
answer_of_stop (stop.Refused article line kind) = answer.Refused article line kind
answer_of_stop stop.ReadFault = answer.ReadFault
answer_of_stop stop.Memory = answer.Memory
