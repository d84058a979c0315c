-- Shelves and sinks in memory.
use Rattle.std.specs.Prelude.{ℕ, Bool, not, ◌&&◌, List, [], ◌++◌, length, min}
use Rattle.bridge_base.specs.Outside.{next_count, has}
use Rattle.bridge_base.specs.Calls.{Calls, is_listed, passed, failed}
use Rattle.bridge_base.specs.Opened.{Opened, begun, closed, advanced}

-- a shelf: its files, the greatest number of bytes that one read gives, and its calls
pub record ShelfState : Type 0 where
  pub opened : Opened
  pub most : ℕ
  pub calls : Calls

-- whether the next call, if it begins the file of that name, succeeds: it isn't listed, and there is such a file
abbrev pub can_begin : ShelfState → List ℕ → Bool
can_begin shelf name = not (is_listed shelf.calls) && has shelf.opened.files name

-- after the file of that name was begun
abbrev pub has_begun : ShelfState → List ℕ → ShelfState
has_begun shelf name = record { opened = begun shelf.opened name; most = shelf.most; calls = passed shelf.calls }

-- after no file was begun
abbrev pub begun_none : ShelfState → ShelfState
begun_none shelf = record { opened = closed shelf.opened; most = shelf.most; calls = failed shelf.calls }

-- how many bytes the next read gives, if it succeeds, to a buffer of that length
abbrev pub given : ShelfState → ℕ → ℕ
given shelf room = min shelf.most (min room (length shelf.opened.left))

-- after these many bytes were read
abbrev pub has_read : ShelfState → ℕ → ShelfState
has_read shelf count = record { opened = advanced shelf.opened count; most = shelf.most; calls = passed shelf.calls }

-- after a read that failed
abbrev pub read_none : ShelfState → ShelfState
read_none shelf = record { opened = shelf.opened; most = shelf.most; calls = failed shelf.calls }

-- a sink: all that was written to it, its calls, and how many of them failed for want of memory
pub record SinkState : Type 0 where
  pub contents : List ℕ
  pub calls : Calls
  pub short : ℕ

-- after the whole piece was written
abbrev pub written : SinkState → List ℕ → SinkState
written sink piece = record { contents = sink.contents ++ piece; calls = passed sink.calls; short = sink.short }

-- after a call that failed because it is listed
abbrev pub refused : SinkState → SinkState
refused sink = record { contents = sink.contents; calls = failed sink.calls; short = sink.short }

-- after a call that failed for want of memory
abbrev pub ran_short : SinkState → SinkState
ran_short sink = record { contents = sink.contents; calls = failed sink.calls; short = next_count sink.short }

-- after what it held was given up; its calls stay counted
abbrev pub cleared : SinkState → SinkState
cleared sink = record { contents = []; calls = sink.calls; short = sink.short }
