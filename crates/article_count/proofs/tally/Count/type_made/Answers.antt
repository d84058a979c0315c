use Rattle.std.proofs.Common.{subst}
use Rattle.hol_spec.specs.Types.{operator, types_of}
use Rattle.hol_type.specs.Tables.{types_at, Holds}
use Rattle.hol_type.specs.TableLaws.{Holds-tree_at}
use Rattle.article_count.proofs.TypeWalks.{made-key, made-operator}
use Rattle.article_count.proofs.tally.Count.type_made.Goals as goal

pub note-requires-clause-new : goal.note-requires-clause-new
note-requires-clause-new c = rw (c.add-in-Op.ensures, c.add.ensures) (made-key c.args.id c.requires.1.2)

pub returns-in-Op : goal.returns-in-Op
returns-in-Op c tasks steps final walk =
    let trees = c.args.terms.now in
    let name = c.in-Op.field-0.now in
    let ids = c.in-Op.args.now in
    let is : Holds trees.types c.args.id.0 (operator name (types_of (types_at trees.types ids))) =
    subst (λ ts. Holds ts c.args.id.0 (operator name (types_of (types_at ts ids)))) c.types.ensures.types c.in-Op.ensures.is in
    rw (c.note.ensures.noted, c.add-in-Op.ensures, c.add.ensures, c.word_length.ensures, c.list_length.ensures)
    (made-operator c.args.id name ids (Holds-tree_at trees.types c.args.id.0 _ is) walk)
