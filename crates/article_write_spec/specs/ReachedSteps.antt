-- The steps that the exports reach through premises, parameters, sequents and the definitions of their symbols; the two laws of a type
-- definition are reached together. One pass from the last step to the first tells them, since a step needs only earlier ones.
use Rattle.std.specs.Prelude.{ℕ, ◌+◌, ◌-◌, Bool, if◌then◌else◌, List, [], ◌∷◌, ◌++◌, map}
use Rattle.std.specs.List.{list_any}
use Rattle.hol_spec.specs.DefinitionLists.{names_of}
use Rattle.hol_spec.specs.Rules.{Parameters}
use Rattle.hol_spec.specs.declared.StepKind.{StepKind}
use Rattle.hol_spec.specs.declared.StepKind.TheVariants.{FirstLaw, SecondLaw}
use Rattle.hol_spec.specs.Proofs.{Step, steps_of, Accepted}
use Rattle.article_write_spec.specs.Mentions.{Need, operator, constant, step, need_eq, sequent_mentions, given_mentions}

-- a step with its number
pub record Numbered : Type 0 where
  pub number : ℕ
  pub step : Step

abbrev pub needs : Step → List Need
needs x = map step x.premises ++ (given_mentions x.parameters ++ sequent_mentions x.sequent)

-- the symbols that a step defines
abbrev pub defines : Parameters → List Need
defines (Parameters.constant n t) = constant n ∷ []
defines (Parameters.constants pairs) = map constant (names_of pairs)
defines (Parameters.type_operator names version) = operator names.operator ∷ constant names.abstraction ∷ constant names.representation ∷ []
defines given = []

-- the step that is reached together with another: the laws of a type definition are made one after the other
abbrev pub together : ℕ → StepKind → List Need
together i FirstLaw = step (i + 1) ∷ []
together i SecondLaw = step (i - 1) ∷ []
together i kind = []

-- what a step serves
abbrev pub serves : Numbered → List Need
serves x = step x.number ∷ together x.number x.step.kind ++ defines x.step.parameters

abbrev pub is_reached : List Need → Numbered → Bool
is_reached needed x = list_any (λ n. list_any (need_eq n) needed) (serves x)

-- what is needed, and the steps that serve it, of the steps from some number on
pub record Reached : Type 0 where
  pub needed : List Need
  pub steps : List Numbered

abbrev pub reach : Reached → Numbered → Reached
reach r x = if is_reached r.needed x then record { needed = r.needed ++ needs x.step; steps = x ∷ r.steps } else r

-- the steps are numbered from i
abbrev pub reached_from : List Need → ℕ → List Step → Reached
reached_from roots i [] = record { needed = roots; steps = [] }
reached_from roots i (x ∷ xs) = reach (reached_from roots (i + 1) xs) (record { number = i; step = x })

abbrev pub reached_steps : Accepted → List Numbered
reached_steps run = (reached_from (map step run.exports) 0 (steps_of run.made)).steps
