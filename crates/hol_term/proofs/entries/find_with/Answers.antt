use Rattle.std.proofs.Common.{◌≡◌, ◌<◌, ◌∙◌, sym, ap, arith, length, Some}
use Rattle.std.specs.Prelude.{slice_get}
use Rattle.std.proofs.lemmas.Option.{slice_get-get_or, slice_get_past}
use Rattle.hol_term.specs.Indexed.{nodes_of, kept_in, nothing}
use Rattle.hol_term.proofs.Indexing.{length-nodes_of, finds_strange, finds_room, finds_full}
use Rattle.hol_term.proofs.entries.find_with.Goals as goal

pub returns-in_default : goal.returns-in_default
returns-in_default c =
    finds_strange (nodes_of c.args.entries.now) c.args.children.now (kept_in c.args.others.now) c.args.node.now c.requires.indexed c.args.part
    c.find_other.result c.requires.part
    (slice_get_past c.args.children.now c.args.part c.in_default.ensures.lookup.3) c.find_other.ensures

pub returns-then-has_room : goal.returns-then-has_room
returns-then-has_room c =
    let item = c.in-Some.ensures.lookup.3 in
    let at : slice_get c.args.children.now c.args.part ≡ Some c.in-Some.with.now =
    slice_get-get_or c.args.children.now c.args.part c.in-Some.with.now item.0 ∙ ap Some (sym (item.1 c.in-Some.with.now)) in
    let few : length (nodes_of c.args.entries.now) < nothing = omega (arith, length-nodes_of c.args.entries.now, c.if-has_room.ensures.few) in
    finds_room (nodes_of c.args.entries.now) c.args.children.now (kept_in c.args.others.now) c.args.node.now c.requires.indexed c.args.part c.in-Some.with.now
    c.requires.part at c.if-has.ensures.no c.if-has-2.ensures.no c.if-has-3.ensures.no c.if-has_room.ensures.room few

pub returns : goal.returns
returns c =
    let item = c.in-Some.ensures.lookup.3 in
    let at : slice_get c.args.children.now c.args.part ≡ Some c.in-Some.with.now =
    slice_get-get_or c.args.children.now c.args.part c.in-Some.with.now item.0 ∙ ap Some (sym (item.1 c.in-Some.with.now)) in
    finds_full (nodes_of c.args.entries.now) c.args.children.now (kept_in c.args.others.now) c.args.node.now c.requires.indexed c.args.part c.in-Some.with.now
    c.requires.part at c.find_other-2.result c.if-has.ensures.no c.if-has-2.ensures.no c.if-has-3.ensures.no
    (λ room few. c.if-has_room.ensures.no room (omega (arith, length-nodes_of c.args.entries.now, few))) c.find_other-2.ensures
