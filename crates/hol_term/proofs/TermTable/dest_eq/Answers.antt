use Rattle.std.proofs.Common.{arith}
use Rattle.hol_term.proofs.Settled.{known_term}
use Rattle.hol_term.proofs.TermTable.dest_eq.Goals as goal

pub parts-requires : goal.parts-requires
parts-requires c = known_term c.args.self.now c.args.id.0 c.requires

pub parts-requires-2 : goal.parts-requires-2
parts-requires-2 c = omega (arith, c.in-App.ensures.lower.0, known_term c.args.self.now c.args.id.0 c.requires)
