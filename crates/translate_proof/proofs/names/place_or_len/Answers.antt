use Rattle.std.proofs.Common.{◌∙◌, sym}
use Rattle.std.specs.Prelude.{nat_eq}
use Rattle.translate_proof.proofs.PlaceOf.{place-position_or_len, place-none}
use Rattle.translate_proof.proofs.names.place_or_len.Goals as goal

pub returns-in-Some : goal.returns-in-Some
returns-in-Some c = place-position_or_len (nat_eq c.args.id) c.args.ids.now c.in-Some.place (sym c.in-Some.is ∙ c.place_of.ensures)

pub returns-in-None : goal.returns-in-None
returns-in-None c = place-none (nat_eq c.args.id) c.args.ids.now (sym c.in-None.is ∙ c.place_of.ensures)
