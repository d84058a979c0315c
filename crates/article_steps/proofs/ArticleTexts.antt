-- The text of an article is what it begins with, and the steps behind it.
use Rattle.std.proofs.Common.{◌≡◌, ℕ, ◌≤◌, Bool, List, [], ◌++◌, length, refl, sym, ap, subst, ◌∙◌, arith}
use Rattle.hol_spec.specs.declared.Version.{Version}
use Rattle.hol_spec.specs.Proofs.{Step}
use Rattle.hol_term.specs.Tables.{Trees}
use Rattle.article_write_spec.specs.ItemTexts.{text_of}
use Rattle.article_write_spec.specs.ReachedSteps.{Numbered}
use Rattle.article_write_spec.specs.Drafts.{Draft, write_each}
use Rattle.article_write_spec.specs.WrittenSteps.{write_step}
use Rattle.article_write_spec.specs.Article.{version_items, version_draft}
use Rattle.article_write_laws.specs.Flags.{selected}
use Rattle.article_lines.specs.Flagged.{flag, AreExports}
use Rattle.article_lines.specs.KeptThings.{AreDistinct}
use Rattle.article_lines.specs.Things.{Keyed, none_keyed}
use Rattle.article_steps.specs.Said.{said}
use Rattle.article_steps.specs.Left.{kept_of, AreKeysOf}
use Rattle.article_steps.specs.SelectedSteps.{flagged_writer}
use Rattle.article_steps.proofs.SaidLaws.{appends-each, said-behind}
use Rattle.article_steps.proofs.SelectedLaws.{each-exports}
use Rattle.article_steps.proofs.StepWriters.{appends-by}

-- no keys
pub none-known : (trees : Trees) (count : ℕ) (keys : Keyed) → keys ≡ none_keyed (length trees.types) (length trees.terms) count → AreDistinct trees
    → AreKeysOf trees keys
none-known trees count keys e d = subst (AreKeysOf trees) (sym e) (record { types = refl; terms = refl; things = tt; distinct = d })

pub article-text : (trees : Trees) (keys : Keyed) (count q : ℕ) (version : Version) (told flags : List Bool) (exports : List ℕ) (steps : List Step) → keys
    ≡ none_keyed (length trees.types) (length trees.terms) count → AreExports flags exports
    → length steps ≤ length flags
    → text_of (write_each (write_step q exports) (selected (flag told) 0 steps) (version_draft version)).commands
    ≡ text_of (version_items version) ++ said (write_each (flagged_writer q (flag flags)) (selected (flag told) 0 steps)) (kept_of trees keys)
article-text trees keys count q version told flags exports steps e are low =
    let ys = selected (flag told) 0 steps in
    let write = flagged_writer q (flag flags) in
    ap (λ (d : Draft). text_of d.commands) (sym (each-exports q flags exports (flag told) are 0 steps (omega (arith, low)) (version_draft version)))
    ∙ said-behind (write_each write ys) (version_items version) []
    (appends-each write (λ (x : Numbered). appends-by q x.step.kind (flag flags x.number) x.number x.step) ys)
    ∙ ap (λ (k : Keyed). text_of (version_items version) ++ said (write_each write ys) (kept_of trees k)) (sym e)
