use Rattle.std.proofs.Common.{arith, sym, ap, ◌∙◌}
use Rattle.lp_term.specs.declared.LpId.{LpId}
use Rattle.lp_term.specs.Tables.{tree_at}
use Rattle.lp_term.specs.TableLaws.{tree_at-Holds, Holds-tree_at}
use Rattle.share_laws.specs.PlacesByNodes.{direct}
use Rattle.share.proofs.CountLaws.{is_lower, two_handed, none_handed, parts-direct, parts-below, no-parts-direct}
use Rattle.share.proofs.places.hand_parts.Goals as goal

pub returns-in-Some-clause-lower : goal.returns-in-Some-clause-lower
returns-in-Some-clause-lower c = is_lower c.args.table.now c.args.id.0 c.view.result (omega (arith, c.requires.id, c.requires.within)) c.view.ensures.is
    c.view.ensures.lower

pub returns-in_default-clause-lower : goal.returns-in_default-clause-lower
returns-in_default-clause-lower c = is_lower c.args.table.now c.args.id.0 c.view.result (omega (arith, c.requires.id, c.requires.within)) c.view.ensures.is
    c.view.ensures.lower

pub returns-in-Some-clause-handed : goal.returns-in-Some-clause-handed
returns-in-Some-clause-handed c =
    let ts = c.args.table.now in
    let r : LpId × LpId = (c.in-Some.first, c.in-Some.second) in
    let e = sym c.two_parts.ensures ∙ c.in-Some.is in
    let l = parts-below c.args.id.0 c.view.result r e c.view.ensures.lower in
    λ distinct count a.
    two_handed ts _ _ _ count c.args.id.0 c.in-Some.first.0 c.in-Some.second.0 (tree_at ts c.args.id.0) distinct c.requires.within
    (tree_at-Holds ts c.args.id.0 (omega (arith, c.requires.id, c.requires.within)))
    (ap direct (Holds-tree_at ts c.args.id.0 _ c.view.ensures.is) ∙ parts-direct ts c.view.result r e) c.requires.id l.0 l.1 c.hand.ensures
    c.hand-in-Some.ensures a

pub returns-in_default-clause-handed : goal.returns-in_default-clause-handed
returns-in_default-clause-handed c =
    let ts = c.args.table.now in
    λ distinct count a. none_handed ts c.args.counts.now count (tree_at ts c.args.id.0)
    (ap direct (Holds-tree_at ts c.args.id.0 _ c.view.ensures.is) ∙ no-parts-direct ts c.view.result (sym c.two_parts.ensures ∙ c.in_default.is)) a
