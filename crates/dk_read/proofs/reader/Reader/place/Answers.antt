use Rattle.std.proofs.Common.{◌∙◌, ap, subst}
use Rattle.dk_read.specs.Readers.{Reading, fed_with}
use Rattle.dk_read.proofs.Ended.{fed_place}
use Rattle.dk_read.proofs.reader.Reader.place.Goals as goal

pub returns-clause-read : goal.returns-clause-read
returns-clause-read c = λ e text fed.
    let going = subst (λ o. fed_with o c.args.self.now text) e fed in
    c.place.ensures ∙ fed_place c.self.inside.stage text (ap (λ (x : Reading). x.fault) c.self.view_is ∙ e)
    (ap (λ (x : Reading). x.progress) c.self.view_is ∙ going.0)
