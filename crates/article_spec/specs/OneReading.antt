-- Every text has exactly one reading as the lines of an article.
use Rattle.std.specs.Prelude.{ℕ, ◌≡◌, List, ◌++◌}
use Rattle.common.specs.declared.faults.Kind.{Kind}
use Rattle.article_spec.specs.declared.commands.Command.{Command}
use Rattle.article_spec.specs.Lines.{Opens, Stops, End, Lines}

-- a text has one reading, and no other
pub record HasOneReading (text : List ℕ) : Type 0 where
  pub commands : List Command
  pub end : End
  pub read : Lines text commands end
  pub only : (others : List Command) (other : End) → Lines text others other → (others ≡ commands) × (other ≡ end)

abbrev pub OneReading : Type 0
OneReading = (text : List ℕ) → HasOneReading text

-- no text both opens a line and stops
abbrev pub OpensOrStops : Type 0
OpensOrStops = (text : List ℕ) (commands others : List Command) (n o m : ℕ) (line : List ℕ) (k : Kind) → Opens 1 0 text commands n o line
    → Stops 1 0 text others m k → ⊥

-- these commands are the front of all the commands of a text
pub record IsFront (commands all : List Command) : Type 0 where
  pub rest : List Command
  pub is : all ≡ commands ++ rest

-- where a text opens a line, its commands are the front of those of each longer text
abbrev pub OpensFront : Type 0
OpensFront = (text more : List ℕ) (commands all : List Command) (n o : ℕ) (line : List ℕ) (e : End) → Opens 1 0 text commands n o line
    → Lines (text ++ more) all e → IsFront commands all
