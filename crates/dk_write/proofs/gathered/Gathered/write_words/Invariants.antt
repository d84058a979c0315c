use Rattle.std.proofs.Common.{◌≤◌, ◌++◌, drop}
use Rattle.dk_write.specs.Writing.{Gained, words_text}
use Rattle.dk_write.proofs.gathered.Gathered.write_words.Given as goal

-- what is left are the bytes gathered and the words from the index on
abbrev pub invariant-loop-word : goal.invariant-loop-word
invariant-loop-word g l = record {
  text : Gained (g.S.Sink.got l.fn.sink) (l.fn.self ++ words_text l.fn.words) (l.self ++ words_text (drop l.word-index l.words)) (g.S.Sink.got l.sink);
  later : g.S.Sink.faults l.fn.sink ≤ g.S.Sink.faults l.sink;
}
