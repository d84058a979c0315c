-- A run over a list of articles: each article's commands in order, one article after another.
-- Source: the OpenTheory article file format, versions 5 and 6.
use Rattle.std.specs.Prelude.{ℕ, ◌+◌, ◌≡◌, List, [], ◌∷◌, Result, Ok, Err}
use Rattle.common.specs.declared.faults.Kind.{Kind}
use Rattle.article_spec.specs.declared.commands.Command.{Command}
use Rattle.article_spec.specs.Lines.{Lines, End, ended, refused}
use Rattle.article_spec.specs.Results.{◌>>=◌}
use Rattle.hol_spec.specs.Proofs.{Accepted}
use Rattle.article_spec.specs.State.{State, initial}
use Rattle.article_spec.specs.Step.{step, finish}

-- How articles are obeyed: what a command does, what the end of an article does, and the kind that is told of a line at fault.
pub record Obeys : Type 0 where
  pub command : State → Command → Result State Kind
  pub end : State → Result State Kind
  pub tells : Kind → Kind

-- The machine of the article format.
abbrev pub machine : Obeys
machine = record { command = step; end = finish; tells = λ kind. kind }

-- The answer of a command that stands in a line.
abbrev pub at_line : ℕ → Result State Kind → Result State (ℕ × Kind)
at_line line (Ok s) = Ok s
at_line line (Err kind) = Err (line, kind)

abbrev pub obey_all : Obeys → State → List Command → Result State (ℕ × Kind)
obey_all by s [] = Ok s
obey_all by s (c ∷ cs) = do
  next ← at_line c.line (by.command s c)
  obey_all by next cs

-- The end of an article, in the line of its end, or its first faulty line.
abbrev pub end_article : Obeys → State → End → Result State (ℕ × Kind)
end_article by s (ended line) = at_line line (by.end s)
end_article by s (refused line kind) = Err (line, by.tells kind)

-- A whole article.
abbrev pub obey_article : Obeys → State → List Command → End → Result State (ℕ × Kind)
obey_article by s commands end = do
  last ← obey_all by s commands
  end_article by last end

abbrev pub accepted_state : State → Accepted
accepted_state s = record { made = s.made; assumptions = s.assumptions; exports = s.exports }

-- Articles and lines are numbered from 1.
pub data Outcome : Type 0 where
  accepted : Accepted → Outcome
  refused_at : ℕ → ℕ → Kind → Outcome

-- The outcome of the articles from number k on, in a state.
pub data RunsFrom (by : Obeys) : ℕ → State → List (List ℕ) → Outcome → Type 0 where
  finished : {k : ℕ} {s : State} {o : Outcome} → o ≡ accepted (accepted_state s) → RunsFrom by k s [] o
  passed : {k : ℕ} {s next : State} {bytes : List ℕ} {rest : List (List ℕ)} {commands : List Command} {end : End} {o : Outcome}
      → Lines bytes commands end → obey_article by s commands end ≡ Ok next → RunsFrom by (k + 1) next rest o → RunsFrom by k s (bytes ∷ rest) o
  stopped : {k line : ℕ} {kind : Kind} {s : State} {bytes : List ℕ} {rest : List (List ℕ)} {commands : List Command} {end : End} {o : Outcome}
      → Lines bytes commands end → obey_article by s commands end ≡ Err (line, kind) → o ≡ refused_at k line kind → RunsFrom by k s (bytes ∷ rest) o

abbrev pub RunsBy : Obeys → List (List ℕ) → Outcome → Type 0
RunsBy by articles outcome = RunsFrom by 1 initial articles outcome

abbrev pub Run : List (List ℕ) → Outcome → Type 0
Run articles outcome = RunsBy machine articles outcome
