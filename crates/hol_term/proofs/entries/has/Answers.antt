use Rattle.std.proofs.Common.{◌≡◌, ◌∙◌, sym, ap, Some}
use Rattle.std.specs.Prelude.{slice_get}
use Rattle.std.proofs.lemmas.Option.{slice_get-get_or}
use Rattle.hol_term.proofs.Indexing.{has-yes, has-no, has-past}
use Rattle.hol_term.proofs.entries.has.Goals as goal

pub returns-in-Some-clause-yes : goal.returns-in-Some-clause-yes
returns-in-Some-clause-yes c =
    let item = c.in-Some.ensures.lookup.3 in
    let at : slice_get c.args.entries.now c.args.number ≡ Some c.in-Some.entry.now =
    slice_get-get_or c.args.entries.now c.args.number c.in-Some.entry.now item.0 ∙ ap Some (sym (item.1 c.in-Some.entry.now)) in
    has-yes c.args.entries.now c.args.number c.in-Some.entry.now c.args.node.now c.eq.result at c.eq.ensures

pub returns-in-Some-clause-no : goal.returns-in-Some-clause-no
returns-in-Some-clause-no c =
    let item = c.in-Some.ensures.lookup.3 in
    let at : slice_get c.args.entries.now c.args.number ≡ Some c.in-Some.entry.now =
    slice_get-get_or c.args.entries.now c.args.number c.in-Some.entry.now item.0 ∙ ap Some (sym (item.1 c.in-Some.entry.now)) in
    has-no c.args.entries.now c.args.number c.in-Some.entry.now c.args.node.now c.eq.result at c.eq.ensures

pub returns-in-None-clause-no : goal.returns-in-None-clause-no
returns-in-None-clause-no c = has-past c.args.entries.now c.args.number c.args.node.now c.in-None.ensures.lookup.3
