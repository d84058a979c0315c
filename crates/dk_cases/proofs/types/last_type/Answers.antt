use Rattle.holide_sig.specs.ModuleLaws.{AreDeclsKnown-slice_get}
use Rattle.dk_cases.proofs.types.last_type.Goals as goal

pub returns : goal.returns
returns c = let known = AreDeclsKnown-slice_get _ _ _ _ c.requires.decls c.get.ensures in known.ty
