use Rattle.dk_read.proofs.Meanings.{names_new, names_taken}
use Rattle.dk_read.proofs.parser.Parser.name.Goals as goal

pub returns-in-Nothing-clause-becomes : goal.returns-in-Nothing-clause-becomes
returns-in-Nothing-clause-becomes c = names_new c.args.self.now c.args.form c.args.place c.args.name c.requires.sound c.requires.closed c.in-Nothing.ensures

pub returns-in-Symbol : goal.returns-in-Symbol
returns-in-Symbol c = record {
  becomes = names_taken c.args.self.now c.args.form c.args.place c.args.name c.meaning.result c.requires.sound c.requires.closed c.meaning.ensures
      c.in-Symbol.is;
  ready = tt;
  keeps = tt;
}
