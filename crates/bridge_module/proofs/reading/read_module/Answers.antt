use Rattle.std.proofs.Common.{◌≡◌, subst}
use Rattle.holide_sig.specs.Modules.{declarations_of}
use Rattle.bridge_module.specs.Stops.{bytes_told, IsModuleOf, StopsText}
use Rattle.bridge_module.proofs.Readings.{file_module, file_stop, without_error, on_success, on_error}
use Rattle.bridge_module.proofs.reading.read_module.Goals as goal

pub returns-clause-reads : goal.returns-clause-reads
returns-clause-reads g c =
    let told = g.H.Shelf.told c.args.shelf.now in
    let start : g.H.Shelf.left c.begin.new.self ≡ bytes_told told c.args.file.now = without_error c.begin.result c.if-is_err.ensures.value c.begin.ensures.ok in
    on_success c.read_text.result c.read_text.ensures.reads
    (λ m h. file_module told c.args.file.now (declarations_of m) (subst (λ left. IsModuleOf left (declarations_of m)) start h))

pub returns-clause-refused : goal.returns-clause-refused
returns-clause-refused g c =
    let told = g.H.Shelf.told c.args.shelf.now in
    let start : g.H.Shelf.left c.begin.new.self ≡ bytes_told told c.args.file.now = without_error c.begin.result c.if-is_err.ensures.value c.begin.ensures.ok in
    on_error c.read_text.result c.read_text.ensures.refused (λ stop h. file_stop told c.args.file.now stop (subst (λ left. StopsText left stop) start h))
