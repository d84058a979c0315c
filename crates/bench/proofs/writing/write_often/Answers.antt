use Rattle.std.proofs.Common.{sym, subst}
use Rattle.dk_write.specs.Shallow.{AreWithin}
use Rattle.bench.proofs.writing.write_often.Goals as goal

pub write-requires-clause-room : goal.write-requires-clause-room
write-requires-clause-room g c = subst (λ room. AreWithin room c.args.source.now.table c.args.source.now.decls) (sym c.loop.invariant) c.requires.room
