-- Laws of a run: as every text has exactly one reading, every list of articles has exactly one outcome.
use Rattle.std.proofs.Common.{ℕ, ◌+◌, ◌≡◌, List, [], ◌∷◌, ◌++◌, Result, Ok, Err, refl, sym, ap, subst, ◌∙◌}
use Rattle.common.specs.declared.faults.Kind.{Kind}
use Rattle.article_spec.specs.declared.commands.Command.{Command}
use Rattle.article_spec.specs.Lines.{End}
use Rattle.article_spec.specs.OneReading.{HasOneReading}
use Rattle.article_laws.specs.ReadingLaws.{one_reading}
use Rattle.article_spec.specs.State.{State, initial}
use Rattle.article_spec.specs.Run.{Obeys, obey_article, accepted_state, Outcome, accepted, refused_at, RunsFrom, finished, passed, stopped}
use Rattle.article_spec.specs.Outcomes.{OneOutcome, RefusalsStay}

-- The state or the refusal that an article's answer holds.
state_or : State → Result State (ℕ × Kind) → State
state_or s (Ok t) = t
state_or s (Err r) = s

refusal_or : ℕ → Outcome → Result State (ℕ × Kind) → Outcome
refusal_or k o (Ok t) = o
refusal_or k o (Err r) = refused_at k r.0 r.1

module _ (by : Obeys) where
  record OneFrom (k : ℕ) (s : State) (articles : List (List ℕ)) : Type 0 where
    outcome : Outcome
    runs : RunsFrom by k s articles outcome
    only : (other : Outcome) → RunsFrom by k s articles other → other ≡ outcome

  same_answer : (s : State) (commands others : List Command) (end other : End) (a b : Result State (ℕ × Kind)) → others ≡ commands → other ≡ end
      → obey_article by s commands end ≡ a → obey_article by s others other ≡ b → b ≡ a
  same_answer s commands others end other a b e f p q = sym q ∙ (rw (e, f) p)

  after_end : (k : ℕ) (s : State) (o : Outcome) → RunsFrom by k s [] o → o ≡ accepted (accepted_state s)
  after_end k s o (finished e) = e

  after_stop : (k line : ℕ) (kind : Kind) (s : State) (bytes : List ℕ) (rest : List (List ℕ)) (r : HasOneReading bytes)
      → obey_article by s r.commands r.end ≡ Err (line, kind) → (o : Outcome) → RunsFrom by k s (bytes ∷ rest) o → o ≡ refused_at k line kind
  unfolding refusal_or
  after_stop k line kind s bytes rest r e o (passed {next = t} {commands = cs} {end = x} l p h) =
      let f : ◌≡◌ {A = Result State (ℕ × Kind)} (Ok t) (Err (line, kind)) =
      same_answer s r.commands cs r.end x (Err (line, kind)) (Ok t) (r.only cs x l).0 (r.only cs x l).1 e p in absurd (cc)
  after_stop k line kind s bytes rest r e o (stopped {line = n} {kind = m} {commands = cs} {end = x} l p h) =
      let f : ◌≡◌ {A = Result State (ℕ × Kind)} (Err (n, m)) (Err (line, kind)) =
      same_answer s r.commands cs r.end x (Err (line, kind)) (Err (n, m)) (r.only cs x l).0 (r.only cs x l).1 e p in
      h ∙ ap (refusal_or k (refused_at k line kind)) f

  after_pass : (k : ℕ) (s t : State) (bytes : List ℕ) (rest : List (List ℕ)) (r : HasOneReading bytes) (one : OneFrom (k + 1) t rest)
      → obey_article by s r.commands r.end ≡ Ok t → (o : Outcome) → RunsFrom by k s (bytes ∷ rest) o → o ≡ one.outcome
  unfolding state_or
  after_pass k s t bytes rest r one e o (passed {next = u} {commands = cs} {end = x} l p h) =
      let f : ◌≡◌ {A = Result State (ℕ × Kind)} (Ok u) (Ok t) = same_answer s r.commands cs r.end x (Ok t) (Ok u) (r.only cs x l).0 (r.only cs x l).1 e p in
      one.only o (subst (λ v. RunsFrom by (k + 1) v rest o) (ap (state_or s) f) h)
  after_pass k s t bytes rest r one e o (stopped {line = n} {kind = m} {commands = cs} {end = x} l p h) =
      let f : ◌≡◌ {A = Result State (ℕ × Kind)} (Err (n, m)) (Ok t) =
      same_answer s r.commands cs r.end x (Ok t) (Err (n, m)) (r.only cs x l).0 (r.only cs x l).1 e p in absurd (cc)

  one_more : (k : ℕ) (s : State) (bytes : List ℕ) (rest : List (List ℕ)) (r : HasOneReading bytes) (a : Result State (ℕ × Kind))
      → obey_article by s r.commands r.end ≡ a → ((t : State) → OneFrom (k + 1) t rest) → OneFrom k s (bytes ∷ rest)
  one_more k s bytes rest r (Ok t) e one = record
      { outcome = (one t).outcome; runs = passed r.read e (one t).runs; only = after_pass k s t bytes rest r (one t) e }
  one_more k s bytes rest r (Err refusal) e one = record
      { outcome = refused_at k refusal.0 refusal.1; runs = stopped r.read e refl; only = after_stop k refusal.0 refusal.1 s bytes rest r e }

  one_from : ((bytes : List ℕ) → HasOneReading bytes) → (k : ℕ) (s : State) (articles : List (List ℕ)) → OneFrom k s articles
  one_from readings k s [] = record { outcome = accepted (accepted_state s); runs = finished refl; only = after_end k s }
  one_from readings k s (bytes ∷ rest) = one_more k s bytes rest (readings bytes) _ refl (λ t. one_from readings (k + 1) t rest)

  -- A refusal in an article depends on the articles up to it alone.
  refused_before : (k j line : ℕ) (kind : Kind) (s : State) (articles more : List (List ℕ)) (o : Outcome) → o ≡ refused_at j line kind
      → RunsFrom by k s articles o → RunsFrom by k s (articles ++ more) o
  refused_before k j line kind s [] more o e (finished f) = let g : accepted (accepted_state s) ≡ refused_at j line kind = sym f ∙ e in absurd (cc)
  refused_before k j line kind s (bytes ∷ rest) more o e (passed {next = t} l p r) = passed l p (refused_before (k + 1) j line kind t rest more o e r)
  refused_before k j line kind s (bytes ∷ rest) more o e (stopped l p f) = stopped l p f

-- A list of articles has exactly one outcome.
pub one_outcome : OneOutcome
one_outcome by articles =
    let one = one_from by one_reading 1 initial articles in
    record { outcome = one.outcome; runs = one.runs; only = one.only }

pub refusals_stay : RefusalsStay
refusals_stay by articles more k line kind r = refused_before by 1 k line kind initial articles more (refused_at k line kind) refl r
