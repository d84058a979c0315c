use Rattle.std.proofs.Common.{◌≡◌, ◌∙◌, sym, ap, Some}
use Rattle.std.specs.Prelude.{slice_get}
use Rattle.std.proofs.lemmas.Option.{slice_get-get_or}
use Rattle.lp_term.specs.Indexed.{kept_in}
use Rattle.lp_term.proofs.Indexing.{finds_room, finds_full}
use Rattle.lp_term.proofs.shapes.find_with.Goals as goal

pub returns-then-with : goal.returns-then-with
returns-then-with c =
    let item = c.in-Some.ensures.lookup.3 in
    let at : slice_get c.args.children.now c.args.part ≡ Some c.in-Some.with.now =
    slice_get-get_or c.args.children.now c.args.part c.in-Some.with.now item.0 ∙ ap Some (sym (item.1 c.in-Some.with.now)) in
    finds_room c.args.shapes.now c.args.children.now (kept_in c.args.others.now) c.args.shape c.requires.indexed c.args.part c.in-Some.with.now c.requires.part
    at c.if-has.ensures.no c.if-has-2.ensures.no c.if-has-3.ensures.no c.if-with.true

pub returns : goal.returns
returns c =
    let item = c.in-Some.ensures.lookup.3 in
    let at : slice_get c.args.children.now c.args.part ≡ Some c.in-Some.with.now =
    slice_get-get_or c.args.children.now c.args.part c.in-Some.with.now item.0 ∙ ap Some (sym (item.1 c.in-Some.with.now)) in
    finds_full c.args.shapes.now c.args.children.now (kept_in c.args.others.now) c.args.shape c.requires.indexed c.args.part c.in-Some.with.now
    c.find_other-2.result c.requires.part at c.if-has.ensures.no c.if-has-2.ensures.no c.if-has-3.ensures.no c.if-with.false c.find_other-2.ensures
