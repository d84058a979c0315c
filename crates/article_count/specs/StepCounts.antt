-- Steps that are counted one after another, by flags.
use Rattle.std.specs.Prelude.{◌≡◌, ◌≢◌, ℕ, ◌<◌, Bool, List, [], drop, length, None}
use Rattle.hol_spec.specs.Proofs.{Step}
use Rattle.hol_spec.specs.declared.StepKind.{StepKind}
use Rattle.hol_spec.specs.declared.StepKind.TheVariants.{FirstLaw, SecondLaw}
use Rattle.hol_spec.specs.declared.Version.{Version}
use Rattle.hol_term.specs.Tables.{Trees}
use Rattle.hol_rules.specs.Views.{step_in}
use Rattle.article_write_spec.specs.Article.{version_items}
use Rattle.article_write_spec.specs.ArticleLength.{count_by, count_step}
use Rattle.article_write_spec.specs.Drafts.{Kept}
use Rattle.article_write_spec.specs.Lengths.{capped, items_length, Tally, key_in, count_each}
use Rattle.article_write_spec.specs.ReachedSteps.{Numbered}
use Rattle.article_write_laws.specs.Flags.{selected}
use Rattle.article_lines.specs.Flagged.{flag}
use Rattle.article_lines.specs.Greatest.{greatest_length}
use Rattle.article_lines.specs.NewSteps.{AreNewLaws, IsNew}
use Rattle.article_lines.specs.Things.{Keyed}
use Rattle.article_count.specs.declared.terms.TermCount.{TermCount}
use Rattle.article_count.specs.TermTasks.{IsTermTally}

-- what an article of a version begins with is counted, and nothing has a key
abbrev pub tally_begun : Version → Tally
tally_begun version = record { kept = []; length = items_length (version_items version) }

-- what a command leaves on the stack has no key yet
abbrev pub IsNewMade : Keyed → StepKind → ℕ → Type 0
IsNewMade keys FirstLaw i = AreNewLaws keys i
IsNewMade keys kind i = IsNew keys i

-- a step, which is an export or not
abbrev pub count_one : ℕ → Bool → ℕ → Step → Tally → Tally
count_one q is_export i x m = count_by q x.kind is_export i x m

-- how long the article of a version is that tells these steps, by the flags, up to the greatest number
abbrev pub told_count : Version → ℕ → List ℕ → List Bool → List Step → ℕ
told_count version q exports told steps = capped greatest_length (count_each (count_step q exports) (selected (flag told) 0 steps) (tally_begun version)).length

-- a step, which is an export if it is flagged
abbrev pub count_flagged : ℕ → List Bool → Numbered → Tally → Tally
count_flagged q is_export x m = count_by q x.step.kind (flag is_export x.number) x.number x.step m

-- no theorem from number i on has a key, but maybe the second law of a type definition that is the very next step
pub record AreFresh (steps : List Step) (i : ℕ) (kept : List Kept) : Type 0 where
  pub later : (j : ℕ) → i < j → key_in kept (Kept.theorem j) ≡ None
  pub next : (step_in steps i).kind ≢ SecondLaw → key_in kept (Kept.theorem i) ≡ None

-- what is counted, with the steps from number i on, comes to this tally
pub record IsStepWalk (trees : Trees) (steps : List Step) (told is_export : List Bool) (q i : ℕ) (c : TermCount) (final : Tally) : Type 0 where
  pub now : Tally
  pub tally : IsTermTally trees (length steps) q c now
  pub fresh : AreFresh steps i now.kept
  pub ends : count_each (count_flagged q is_export) (selected (flag told) i (drop i steps)) now ≡ final
