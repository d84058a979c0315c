use Rattle.dk_read.proofs.Meanings.{any_word_after}
use Rattle.dk_read.proofs.parser.Parser.any_word.Goals as goal

pub returns-in-Err : goal.returns-in-Err
returns-in-Err c = any_word_after c.args.self.now c.meaning.new.self c.in-AfterFirst.first c.args.place c.in-AfterFirst.name c.in-Err.stop c.in-AfterFirst.is
    c.in-Err.ensures.means
