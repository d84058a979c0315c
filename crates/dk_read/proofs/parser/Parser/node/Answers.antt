use Rattle.std.proofs.Common.{refl}
use Rattle.dk_read.proofs.Named.{Keeps-same}
use Rattle.dk_read.proofs.Grown.{grown}
use Rattle.dk_read.proofs.parser.Parser.node.Goals as goal

pub returns-clause-grows : goal.returns-clause-grows
returns-clause-grows c = grown c.args.self.now c.node.new.self c.args.self.now.names c.node.ensures.keeps (Keeps-same c.args.self.now.names) (λ x. refl)
    c.requires.sound
