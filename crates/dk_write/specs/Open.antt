-- What a path is to contracts.
use Rattle.std.specs.Prelude.{ℕ, List}
use Rattle.dk_write.specs.declared.path.Frame.{Frame}

-- how many frames there are room for, and those that are open, the next on top
pub record Open : Type 0 where
  pub room : ℕ
  pub frames : List Frame
