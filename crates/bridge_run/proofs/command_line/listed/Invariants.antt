use Rattle.std.proofs.Common.{◌≡◌, ◌++◌}
use Rattle.bridge_run.specs.CommandLine.{words_of}
use Rattle.bridge_run.proofs.command_line.listed.Given as goal

abbrev pub invariant-loop-word : goal.invariant-loop-word
invariant-loop-word l = l.list.items ++ words_of l.word-iterator ≡ words_of l.fn.words
