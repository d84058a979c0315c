use Rattle.std.proofs.Common.{◌≡◌, length}
use Rattle.lp_term.specs.Tables.{Keeps}
use Rattle.share.specs.Moving.{place_by, AreMade}
use Rattle.share.proofs.moving.make_moved.Given as goal

abbrev pub invariant-loop-i : goal.invariant-loop-i
invariant-loop-i l = record {
  keeps : Keeps l.fn.target l.target;
  count : length l.made.items ≡ l.i;
  made : AreMade (place_by l.places l.more) l.source l.target l.made.items;
}
