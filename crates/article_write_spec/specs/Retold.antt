-- What the article of a run tells, as a statement: it is accepted, it is of its version, its steps are exactly the reached ones, its definitions,
-- assumptions and exports are those of the run that are reached, in order, and its own article is the same text.
use Rattle.std.specs.Prelude.{ℕ, zero, suc, ◌≡◌, ◌==◌, ◌<◌, ◌≤◌, ◌^◌, Bool, true, if◌then◌else◌, List, [], ◌∷◌, ◌++◌, map, length}
use Rattle.std.specs.List.{list_any, filter}
use Rattle.hol_spec.specs.Definitions.{Definition}
use Rattle.hol_spec.specs.declared.Version.{Version}
use Rattle.hol_spec.specs.Symbols.{Symbol}
use Rattle.hol_spec.specs.Proofs.{Made, Step, Accepted, steps_of, definitions_of}
use Rattle.article_spec.specs.Lines.{max_article}
use Rattle.article_spec.specs.Run.{accepted, Run}
use Rattle.article_write_spec.specs.ReachedSteps.{Numbered, reached_steps}
use Rattle.article_write_spec.specs.BinderNames.{variable_names}
use Rattle.article_write_spec.specs.Versions.{IsLastVersion}
use Rattle.article_write_spec.specs.Article.{article, fits}

-- how many are told below a number: the number that a told step has in the article
abbrev pub count : (ℕ → Bool) → ℕ → ℕ
count told zero = 0
count told (suc i) = if told i then suc (count told i) else count told i

-- a step with its premises' other numbers
abbrev pub renumbered : (ℕ → ℕ) → Step → Step
renumbered number x = record x { premises = map number x.premises }

-- The definitions that are told: each stands before the step that makes it. The first step from here on has number n.
abbrev pub defined_by : Symbol → List Definition
defined_by (Symbol.input_constant n) = []
defined_by (Symbol.input_operator n k) = []
defined_by (Symbol.defined d) = d ∷ []

abbrev pub told_definitions : (ℕ → Bool) → ℕ → List Made → List Definition
told_definitions told n [] = []
told_definitions told n (Made.symbol x ∷ made) = (if told n then defined_by x else []) ++ told_definitions told n made
told_definitions told n (Made.type_definition names c f i ∷ made) =
    (if told n then Definition.type_operator names c f ∷ [] else []) ++ told_definitions told n made
told_definitions told n (Made.step x ∷ made) = told_definitions told (suc n) made

-- what an article's run tells of a run, by the steps that are told
pub record RetellsBy (told : ℕ → Bool) (version : Version) (run a : Accepted) : Type 0 where
  pub accepts : Run (article version run ∷ []) (accepted a)
  pub of_version : IsLastVersion (article version run ∷ []) version
  pub steps : steps_of a.made ≡ map (λ (y : Numbered). renumbered (count told) y.step) (reached_steps run)
  pub definitions : definitions_of a.made ≡ told_definitions told 0 run.made
  pub assumptions : a.assumptions ≡ map (count told) (filter told run.assumptions)
  pub exports : a.exports ≡ map (count told) run.exports
  pub again : article version a ≡ article version run

-- whether the exports reach the step of a number
abbrev pub reaches : Accepted → ℕ → Bool
reaches run i = list_any (λ (y : Numbered). y.number == i) (reached_steps run)

abbrev pub Retells : Version → Accepted → Accepted → Type 0
Retells version run a = RetellsBy (reaches run) version run a

-- a run that one article of a version can say, in as many bytes as an article may have; the names of its variables are fewer than a machine can count
pub record IsSayable (version : Version) (run : Accepted) : Type 0 where
  pub fits : fits version run ≡ true
  pub short : length (article version run) ≤ max_article
  pub few : length (variable_names (reached_steps run)) < 2 ^ 64

abbrev pub RunsAreRetold : Type 0
RunsAreRetold = (articles : List (List ℕ)) (version : Version) (run : Accepted) → Run articles (accepted run) → IsSayable version run → (a : Accepted)
    × Retells version run a
