-- The article of an accepted run in a version: what its exports reach, said again by one article.
use Rattle.std.specs.Prelude.{ℕ, pos, ◌==◌, ◌&&◌, not, Bool, List, [], ◌∷◌}
use Rattle.std.specs.List.{list_all, list_any}
use Rattle.hol_spec.specs.declared.Version.{Version}
use Rattle.hol_spec.specs.declared.Version.TheVariants.{Five, Six}
use Rattle.hol_spec.specs.Proofs.{Step, Accepted}
use Rattle.article_spec.specs.declared.commands.Item.{Item}
use Rattle.article_spec.specs.declared.commands.Item.TheVariants as item
use Rattle.article_spec.specs.declared.commands.Word.TheVariants as word
use Rattle.article_write_spec.specs.ItemTexts.{text_of}
use Rattle.article_write_spec.specs.ReachedSteps.{reached_steps}
use Rattle.article_write_spec.specs.BinderNames.{binder_number}
use Rattle.article_write_spec.specs.Drafts.{Draft, write_each}
use Rattle.article_write_spec.specs.Versions.{is_of_version}
use Rattle.article_write_spec.specs.WrittenSteps.{write_step}

-- what an article of a version begins with: nothing says that it is of version 5
abbrev pub version_items : Version → List Item
version_items Five = []
version_items Six = item.Number (pos 6) ∷ item.Word word.Version ∷ []

abbrev pub version_draft : Version → Draft
version_draft version = record { commands = version_items version; kept = [] }

abbrev pub draft : Version → Accepted → Draft
draft version run = write_each (write_step (binder_number (reached_steps run)) run.exports) (reached_steps run) (version_draft version)

abbrev pub article_items : Version → Accepted → List Item
article_items version run = (draft version run).commands

abbrev pub article : Version → Accepted → List ℕ
article version run = text_of (article_items version run)

-- whether no premise of a step is an export
abbrev pub meets_none : List ℕ → Step → Bool
meets_none exports x = list_all (λ i. not (list_any (λ e. i == e) exports)) x.premises

-- Whether one article of a version can say it: no step that is reached restates an export of an earlier article, and no type definition that is
-- reached was made in the other version.
abbrev pub fits : Version → Accepted → Bool
fits version run = list_all (λ x. meets_none run.exports x.step && is_of_version version x.step.parameters) (reached_steps run)
