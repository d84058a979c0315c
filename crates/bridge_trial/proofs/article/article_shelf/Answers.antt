use Rattle.std.proofs.Common.{◌∙◌, ◌++◌, ◌∷◌, [], ap}
use Rattle.std.proofs.Math.Path.{ap₂}
use Rattle.bridge_base.specs.Opened.{as_files}
use Rattle.bridge_trial.proofs.article.article_shelf.Goals as goal

pub returns : goal.returns
returns c =
    ap (λ shelf. shelf.files) c.new.ensures
    ∙ ap as_files (c.in_ok-push.ensures.items ∙ ap (λ files. files ++ (c.in_ok-from_str.field-0, c.in_ok-text.text) ∷ []) c.new-files.ensures.items)
    ∙ ap₂ (λ name text. (name, text) ∷ []) c.in_ok-from_str.ensures.ok c.in_ok-text.ensures
