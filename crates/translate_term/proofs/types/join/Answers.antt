use Rattle.std.proofs.Common.{arith}
use Rattle.hol_type.specs.TableLaws.{AreBelow-known}
use Rattle.translate_term.proofs.EndsLaws.{OnOk-map3}
use Rattle.translate_term.proofs.TypeTurns.{parts-arguments, noted-known, symbol-found, type_join}
use Rattle.translate_term.proofs.types.join.Goals as goal

pub parts-requires : goal.parts-requires
parts-requires c =
    let w = c.requires.3 in
    parts-arguments _ c.args.id c.in-Op.name.now c.in-Op.args.now _ c.in-Op.ensures.distinct
    (AreBelow-known _ _ _ (omega (arith, w.ends.0.known)) c.in-Op.ensures.lower) c.in-Op.ensures.is w.ends.1

pub applied_to-made-requires : goal.applied_to-made-requires
applied_to-made-requires c =
    let w = c.requires.3 in record {
      found = symbol-found _ _ _ _ _ c.args.id _ _ c.in-Op.name.now c.in-Op.args.now c.in-Op.ensures.is w;
      known = rw c.deref.ensures.value
          (noted-known c.requires.0 c.args.source.table.now c.args.target.now.table c.args.memo.now w.noted c.in-Op.args.now _ c.in_ok-parts.ensures);
    }

pub returns-clause-walk : goal.returns-clause-walk
returns-clause-walk c =
    OnOk-map3 c.note.result
    (λ only new kept given root rest w.
    type_join given root _ _ _ c.args.id rest _ _ c.applied_to-made.ensures.grows _ c.in_ok-tree.tree only new kept c.in-Op.name.now c.in-Op.args.now
    c.in_ok-parts.parts.items c.in-Op.ensures.is c.in_ok-parts.ensures
    (rw c.deref.ensures.value at c.in_ok-tree.ensures.made) w)
    c.note.ensures.noted c.note.ensures.new c.note.ensures.kept
