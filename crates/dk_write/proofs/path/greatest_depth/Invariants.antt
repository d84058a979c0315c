use Rattle.dk_write.proofs.Told.{FirstTold}
use Rattle.dk_write.proofs.path.greatest_depth.Given as goal

abbrev pub invariant-loop-i : goal.invariant-loop-i
invariant-loop-i l = FirstTold l.i l.greatest l.source.table l.source.decls
