use Rattle.std.proofs.Common.{◌∙◌, ◌++◌, ap}
use Rattle.article_spec.specs.Trial.{trial_text}
use Rattle.bridge_trial.proofs.article.article_text.Goals as goal

pub returns-in-Ok : goal.returns-in-Ok
returns-in-Ok c =
    c.in_ok-to_vec-in-Ok.ensures.items_if_clones_equal (λ y e same. same)
    ∙ c.contents.ensures
    ∙ c.in-Ok.ensures.ok
    ∙ ap (λ start. start ++ trial_text c.args.n) (c.new-sink.ensures.contents ∙ c.new.ensures.items)
