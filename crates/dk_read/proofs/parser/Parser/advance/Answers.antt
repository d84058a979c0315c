use Rattle.dk_read.specs.States.{token_in}
use Rattle.dk_read.proofs.Bytes.{reading_ready}
use Rattle.dk_read.proofs.parser.Parser.advance.Goals as goal

pub returns-clause-reading : goal.returns-clause-reading
returns-clause-reading c = reading_ready c.args.self.now c.next_state.new.self c.args.place (token_in c.args.self.now.names c.args.token) c.next_state.result
    c.requires.reading.ready.sound.is_module c.requires.reading.ordered c.next_state.ensures.becomes c.next_state.ensures.ready
