-- What is true of each state of a run: it is sound, each object was built from its parts and its names can be written; and how what was made came about.
use Rattle.std.specs.Prelude.{ℕ, List}
use Rattle.hol_spec.specs.Types.{HolType}
use Rattle.hol_spec.specs.Limits.{TypeWithin}
use Rattle.hol_spec.specs.Terms.{Term, Variable}
use Rattle.hol_spec.specs.Lists.{IsIn}
use Rattle.hol_spec.specs.Proofs.{Made}
use Rattle.article_laws.specs.Moves.{Invariant}
use Rattle.article_laws.specs.Parts.{Parts}
use Rattle.article_laws.specs.PartsLaws.{Weakens}
use Rattle.article_laws.specs.Soundness.{sound_parts, IsSoundlyMade}
use Rattle.article_write_laws.specs.ItemLaws.{IsWritableName}
use Rattle.article_write_laws.specs.BuiltSteps.{IsBuiltTerm}
use Rattle.article_write_laws.specs.WritableDrafts.{TypeNamed, VariableNamed, TermNamed}
use Rattle.article_write_laws.specs.Histories.{History}

pub record IsGoodType (t : HolType) : Type 0 where
  pub within : TypeWithin t
  pub named : TypeNamed t

pub record IsGoodVariable (v : Variable) : Type 0 where
  pub within : TypeWithin v.1
  pub named : VariableNamed v

pub record IsGoodTerm (t : Term) : Type 0 where
  pub built : IsBuiltTerm t
  pub named : TermNamed t

-- of objects: that they are sound, and good
abbrev pub told_parts : List Made → Parts
told_parts made = record {
  name = IsWritableName;
  type = λ t. (sound_parts made).type t × IsGoodType t;
  variable = λ v. (sound_parts made).variable v × IsGoodVariable v;
  term = λ t. (sound_parts made).term t × IsGoodTerm t;
  step = (sound_parts made).step;
}

pub sound-parts : (made : List Made) → Weakens (told_parts made) (sound_parts made)
sound-parts made = record {
  names = λ n h. tt {0};
  types = λ t h. h.0;
  variables = λ v h. h.0;
  terms = λ t h. h.0;
  steps = λ i h. h;
}

-- of a run: that it is sound, how what was made came about, and that what earlier articles exported are exports
pub record IsTold (made : List Made) (ex ax from : List ℕ) : Type 0 where
  pub sound : IsSoundlyMade made ex ax
  pub history : History made ax ex
  pub pool : (i : ℕ) → IsIn from i → IsIn ex i

abbrev pub telling : Invariant
telling = record { parts = told_parts; run = λ place made exports assumptions pool. IsTold made exports assumptions pool }
