use Rattle.std.proofs.lemmas.Bool.Decides.{same_from_decides}
use Rattle.hol_laws.specs.NameEqualityLaws.{name_eq-Decides}
use Rattle.hol_defs.proofs.primitive.is_named.Goals as goal

pub returns : goal.returns
returns c = same_from_decides _ _ c.is_single.ensures (name_eq-Decides _ _)
