-- What a source needs, in another table and under other binders.
use Rattle.hol_term.specs.Tables.{Trees, Keeps}
use Rattle.hol_term.specs.TableLaws.{AreKnown-Keeps}
use Rattle.std.specs.Prelude.{ℕ}
use Rattle.decode_back.specs.declared.sources.Source.{Source}
use Rattle.decode_back.specs.Sources.{IsSource}

-- in a table that keeps what it has
pub IsSource-Keeps : {a b : Trees} (s : Source) → Keeps a b → IsSource a s → IsSource b s
IsSource-Keeps s k h = record {
  readable = h.readable;
  variables = AreKnown-Keeps k s.variables.now h.variables;
  all = h.all;
  innermost = k.stays.each _ _ h.innermost;
}

-- under other hypotheses and binders of a term's own
pub IsSource-at : (table : Trees) (s : Source) (hypotheses binders : ℕ) → IsSource table s
    → IsSource table (record s { place = record s.place { hypotheses = hypotheses; binders = binders } })
IsSource-at table s hypotheses binders h = record {
  readable = record { held = h.readable.held; few = h.readable.few };
  variables = h.variables;
  all = h.all;
  innermost = h.innermost;
}
