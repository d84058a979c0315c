-- The steps of the laws of a type definition, with what they were given.
use Rattle.std.specs.Prelude.{◌≡◌, ℕ}
use Rattle.hol_spec.specs.Definitions.{TypeNames}
use Rattle.hol_spec.specs.Rules.{Parameters}
use Rattle.hol_spec.specs.declared.Version.{Version}
use Rattle.hol_rules.specs.Kept.{Kept}
use Rattle.hol_rules.specs.Views.{step_at}
use Rattle.translate_proof.specs.Parts.{IsFirstLaw, IsSecondLaw}

-- a step was given a type operator, in an article of this version
pub record IsOperatorStep (version : Version) (k : Kept) (id : ℕ) : Type 0 where
  pub names : TypeNames
  pub given : Parameters.type_operator names version ≡ (step_at k.made id).parameters

-- and is its first law, by what another step says
pub record IsFirstLawStep (version : Version) (k : Kept) (id one : ℕ) : Type 0 where
  pub operator : IsOperatorStep version k id
  pub law : IsFirstLaw version k id one operator.names

-- and is its second
pub record IsSecondLawStep (version : Version) (k : Kept) (id one : ℕ) : Type 0 where
  pub operator : IsOperatorStep version k id
  pub law : IsSecondLaw version k id one operator.names
