use Rattle.std.proofs.Common.{◌≡◌, OnOk, IfErr, subst}
use Rattle.bridge_reading.specs.Halts.{OfText, Passes, HaltsText, bytes_told}
use Rattle.bridge_reading.proofs.Outcomes.{without_error}
use Rattle.bridge_reading.proofs.reading.read_article.Goals as goal

pub returns-clause-passed : goal.returns-clause-passed
returns-clause-passed g c =
    let told = bytes_told (g.H.Shelf.told c.args.shelf.now) c.args.file.now in
    let start : g.H.Shelf.left c.begin.new.self ≡ told = without_error c.begin.result c.if-is_err.ensures.value c.begin.ensures.ok in
    subst (λ left. OnOk c.run_article.result (OfText left (λ text. Passes text c.args.machine.now c.run_article.new.machine))) start
    c.run_article.ensures.passed

pub returns-clause-refused : goal.returns-clause-refused
returns-clause-refused g c =
    let told = bytes_told (g.H.Shelf.told c.args.shelf.now) c.args.file.now in
    let start : g.H.Shelf.left c.begin.new.self ≡ told = without_error c.begin.result c.if-is_err.ensures.value c.begin.ensures.ok in
    subst (λ left. IfErr c.run_article.result (λ halt. HaltsText halt left c.args.machine.now)) start c.run_article.ensures.refused
