-- What one article can say of a step.
use Rattle.std.specs.Prelude.{ℕ, ◌&&◌, List, Bool}
use Rattle.hol_spec.specs.declared.Version.{Version}
use Rattle.article_write_spec.specs.ReachedSteps.{Numbered}
use Rattle.article_write_spec.specs.Article.{meets_none}
use Rattle.article_write_spec.specs.Versions.{is_of_version}

abbrev pub fits_step : Version → List ℕ → Numbered → Bool
fits_step version exports x = meets_none exports x.step && is_of_version version x.step.parameters
