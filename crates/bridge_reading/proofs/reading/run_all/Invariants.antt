use Rattle.std.proofs.Common.{◌≡◌, drop}
use Rattle.article_spec.specs.Run.{machine, obey_all}
use Rattle.bridge_reading.proofs.reading.run_all.Given as goal

abbrev pub invariant-loop-command : goal.invariant-loop-command
invariant-loop-command l = obey_all machine l.machine (drop l.command-index l.commands) ≡ obey_all machine l.fn.machine l.commands
