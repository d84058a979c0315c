use Rattle.std.proofs.lemmas.Bool.Decides.{same_from_decides}
use Rattle.hol_laws.specs.PrimitiveLaws.{equality_instance, select_instance}
use Rattle.hol_defs.proofs.primitive.Primitive.stands_at.Goals as goal

pub returns-in-Equality : goal.returns-in-Equality
returns-in-Equality c = rw c.in-Equality.is (same_from_decides _ _ c.is_equality_type.ensures (equality_instance _))

pub returns-in-Choice : goal.returns-in-Choice
returns-in-Choice c = rw c.in-Choice.is (same_from_decides _ _ c.is_select_type.ensures (select_instance _))
