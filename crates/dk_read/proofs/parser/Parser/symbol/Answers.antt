use Rattle.lp_spec.specs.Trees.{Sym}
use Rattle.lp_term.specs.TableLaws.{Holds-within}
use Rattle.dk_read.proofs.Grown.{unwrap_or-at}
use Rattle.dk_read.proofs.parser.Parser.symbol.Goals as goal

pub returns-in-Some-clause-known : goal.returns-in-Some-clause-known
returns-in-Some-clause-known c = Holds-within c.args.self.now.module.table c.in-Some.id.0 (Sym c.args.number)
    (c.requires.sound.atoms.1 c.args.number c.in-Some.id (unwrap_or-at _ _ c.in-Some.ensures))

pub returns-in-Some-clause-made : goal.returns-in-Some-clause-made
returns-in-Some-clause-made c = c.requires.sound.atoms.1 c.args.number c.in-Some.id (unwrap_or-at _ _ c.in-Some.ensures)

pub returns-in-Some-clause-kept : goal.returns-in-Some-clause-kept
returns-in-Some-clause-kept c = λ few. unwrap_or-at _ _ c.in-Some.ensures
