use Rattle.translate_proof.proofs.PlaceOf.{search-found, search-missed}
use Rattle.translate_proof.proofs.names.place_of.Goals as goal

pub returns-in-Ok : goal.returns-in-Ok
returns-in-Ok c = search-found c.args.ids.now c.args.id c.in-Ok.place c.requires (rw c.in-Ok.is at c.binary_search.ensures.position)

pub returns-in-Err : goal.returns-in-Err
returns-in-Err c = search-missed c.args.ids.now c.args.id _ c.requires (rw c.in-Err.is at c.binary_search.ensures.position)
