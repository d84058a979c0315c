-- A word as the second command of an article.
use Rattle.std.proofs.Common.{◌≡◌, refl, inl, inr, ◌⊎◌}
use Rattle.hol_spec.specs.declared.Version.TheVariants.{Five}
use Rattle.article_spec.specs.declared.commands.Word.{Word}
use Rattle.article_spec.specs.declared.commands.Word.TheVariants as word
use Rattle.article_spec.specs.State.{State}
use Rattle.article_spec.specs.Step.{obey, in_body, second_word}

-- it is `version`, or it stands in the body of an article of version 5
pub second_word-cases : (s : State) (w : Word) → (w ≡ word.Version) ⊎ (second_word s w ≡ obey (in_body Five s) w)
second_word-cases s word.Version = inl refl
second_word-cases s w = inr refl
