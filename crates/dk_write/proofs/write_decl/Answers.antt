use Rattle.std.proofs.Common.{arith}
use Rattle.holide_sig.specs.ModuleLaws.{AreDeclsKnown-slice_get}
use Rattle.dk_write.proofs.DeclarationTexts.{line_in}
use Rattle.dk_write.proofs.write_decl.Goals as goal

pub write_by-requires-clause-known : goal.write_by-requires-clause-known
write_by-requires-clause-known g c = AreDeclsKnown-slice_get c.args.source.now.table c.args.source.now.decls c.args.i c.get.result.now c.requires.held.decls
    c.get.ensures

pub write_by-requires-clause-room : goal.write_by-requires-clause-room
write_by-requires-clause-room g c = rw c.path.view_is (c.requires.room c.args.i c.get.result.now c.get.ensures)

pub returns-clause-ok : goal.returns-clause-ok
returns-clause-ok g c =
    let line = line_in c.args.source.now.table c.args.source.now.decls c.args.bounds.now c.args.i c.get.result.now c.get.ensures
    (omega (arith, c.requires.bounds, c.requires.declared)) in
    rw line c.write_by.ensures.ok

pub returns-clause-err : goal.returns-clause-err
returns-clause-err g c =
    let line = line_in c.args.source.now.table c.args.source.now.decls c.args.bounds.now c.args.i c.get.result.now c.get.ensures
    (omega (arith, c.requires.bounds, c.requires.declared)) in
    rw line c.write_by.ensures.err
