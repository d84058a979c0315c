-- Answers and questions over a module.
use Rattle.std.specs.Prelude.{ℕ, List, Option}
use Rattle.lp_term.specs.declared.LpId.{LpId}
use Rattle.lp_term.specs.Tables.{tree_at}
use Rattle.holide_sig.specs.declared.module.Module.{Module}
use Rattle.holide_sig.specs.Modules.{declarations_of, IsHeld}
use Rattle.share.specs.declared.typing.Turn.{Turn}
use Rattle.share.specs.Typings.{answer, AreAnswers, AreQuestions, Turns}

-- what is noted are answers over the module, and what waits are questions over it
pub record IsAsking (source : Module) (noted : ℕ → Option (Option LpId)) (waits : List LpId) : Type 0 where
  pub held : IsHeld source
  pub answers : AreAnswers (declarations_of source) source.table noted
  pub waiting : AreQuestions (declarations_of source) source.table waits

-- a turn towards the answer to a question over the module, whose table grew
abbrev pub TurnsTo : Module → Module → LpId → Turn → Type 0
TurnsTo old new q turn = Turns (declarations_of old) new.table turn (answer (declarations_of old) (tree_at old.table q.0))
