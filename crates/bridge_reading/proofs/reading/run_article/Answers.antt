use Rattle.bridge_reading.proofs.Readings.{of_text-follows, text-passes}
use Rattle.bridge_reading.proofs.reading.run_article.Goals as goal

pub returns-clause-passed : goal.returns-clause-passed
returns-clause-passed g c =
    of_text-follows (g.H.Shelf.left c.args.shelf.now) _ _ c.in_ok-read_commands.ensures.read
    (λ text read. text-passes text c.args.machine.now c.read_commands.new.machine _ read c.finish.ensures)
