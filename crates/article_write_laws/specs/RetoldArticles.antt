-- The text of a tale is an article that is accepted: its steps are the told ones, its assumptions and exports the told ones, in order.
use Rattle.std.proofs.Common.{◌≡◌, ℕ, ◌+◌, ◌≤◌, Bool, List, [], ◌∷◌, map, length, Ok, refl, sym, ap, ◌∙◌}
use Rattle.std.specs.List.{AllByRecursion, filter}
use Rattle.std.specs.FinMap as entries
use Rattle.hol_spec.specs.declared.Version.{Version}
use Rattle.hol_spec.specs.Proofs.{Made, Accepted, steps_of, definitions_of}
use Rattle.article_spec.specs.declared.commands.Command.{Command}
use Rattle.article_spec.specs.declared.commands.Item.{Item}
use Rattle.article_spec.specs.Lines.{max_article, ended}
use Rattle.article_spec.specs.State.{State, initial, start, version_at}
use Rattle.article_spec.specs.Results.{◌>>=◌}
use Rattle.article_spec.specs.Run.{machine, at_line, obey_article, end_article, accepted_state, accepted, passed, finished, Run}
use Rattle.article_trial_laws.specs.TrialLines.{numbered}
use Rattle.article_trial_laws.specs.TrialSteps.{obey_all-numbered}
use Rattle.article_write_spec.specs.ItemTexts.{text_of}
use Rattle.article_write_spec.specs.Versions.{version_of, IsLastVersion, last}
use Rattle.article_write_laws.specs.ItemLaws.{IsWritable}
use Rattle.article_write_laws.specs.TextLaws.{text-Lines}
use Rattle.article_write_laws.specs.Scenes.{body_state}
use Rattle.article_write_laws.specs.Beginnings.{leads-EndsLike, leads-version}
use Rattle.article_write_laws.specs.Flags.{count, renumbered_steps}
use Rattle.article_write_laws.specs.Tales.{Tale}
use Rattle.article_write_laws.specs.Retelling.{scene, told, told_definitions}
use Rattle.article_write_laws.specs.RetoldRuns.{retold}

items-numbered : (n : ℕ) (items : List Item) → map (λ (c : Command). c.item) (numbered n items) ≡ items
items-numbered n [] = refl
items-numbered n (i ∷ is) = ap (λ l. i ∷ l) (items-numbered (n + 1) is)

module _ (q : ℕ) (version : Version) (flag is_export : ℕ → Bool) where
  -- an article that is accepted with the told steps
  pub record IsRetelling (made : List Made) (ax ex : List ℕ) (text : List ℕ) (a : Accepted) : Type 0 where
    pub run : Run (text ∷ []) (accepted a)
    pub of_version : IsLastVersion (text ∷ []) version
    pub steps : steps_of a.made ≡ renumbered_steps flag (steps_of made)
    pub definitions : definitions_of a.made ≡ told_definitions flag 0 made
    pub assumptions : a.assumptions ≡ map (count flag) (filter flag ax)
    pub exports : a.exports ≡ map (count flag) ex

  pub retelling : {made : List Made} {ax ex : List ℕ} → Tale q version flag is_export made ax ex
      → AllByRecursion IsWritable (told q version flag is_export made).commands → length (text_of (told q version flag is_export made).commands) ≤ max_article
      → (a : Accepted) × IsRetelling made ax ex (text_of (told q version flag is_export made).commands) a
  retelling {made = made} {ax = ax} {ex = ex} tale writable small =
      let r = retold q version flag is_export tale in
      let items = (told q version flag is_export made).commands in
      let ended_state : State = body_state (scene q version flag is_export made ax ex) r.ready.dictionary r.after [] in
      let read = text-Lines items writable small in
      let begins = leads-EndsLike version items ended_state r.ready.leads in
      let ends : obey_article machine initial (numbered 1 items) (ended read.0)
      ≡ Ok (record ended_state { stack = []; dictionary = entries.empty; place = start (version_at ended_state.place); pool = ended_state.exports }) =
      ap (λ z. z >>= (λ s. end_article machine s (ended read.0))) (obey_all-numbered items 1 initial begins.after begins.obeys)
      ∙ ap (at_line read.0) begins.ends in (
        accepted_state ended_state,
        record {
          run = passed read.1 ends (finished refl);
          of_version = last (text_of items) (numbered 1 items) (ended read.0) [] refl read.1
              (sym (ap version_of (items-numbered 1 items) ∙ leads-version version items ended_state r.ready.leads));
          steps = r.steps;
          definitions = r.definitions;
          assumptions = refl;
          exports = refl;
        },
      )
