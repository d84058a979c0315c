use Rattle.std.proofs.Common.{⊎_elim}
use Rattle.lp_term.specs.Tables.{tree_at}
use Rattle.translate_term.proofs.MatchTurns.{matching_begins}
use Rattle.translate_term.proofs.generic.matched.Goals as goal

pub met-ended-requires : goal.met-ended-requires
met-ended-requires c = (
  c.requires.fits.0,
  tree_at c.args.trees.now c.args.pattern.0,
  rw (c.new-tasks.ensures.empty, c.meet.ensures)
      (matching_begins c.requires.fits.0 _ c.args.pattern c.args.instance _ c.requires.pattern c.requires.instance c.requires.fits.1
      c.new-found.ensures.empty),
)

pub returns-in-Ok-clause-noted : goal.returns-in-Ok-clause-noted
returns-in-Ok-clause-noted c =
    λ want f. (c.in-Ok.ensures want (tree_at c.args.trees.now c.args.pattern.0)
    (rw (c.new-tasks.ensures.empty, c.meet.ensures)
    (matching_begins want _ c.args.pattern c.args.instance _ c.requires.pattern c.requires.instance f c.new-found.ensures.empty))).noted

pub returns-in-Ok-clause-all : goal.returns-in-Ok-clause-all
returns-in-Ok-clause-all c =
    λ k m.
    let w = c.in-Ok.ensures c.requires.fits.0 (tree_at c.args.trees.now c.args.pattern.0)
    (rw (c.new-tasks.ensures.empty, c.meet.ensures)
    (matching_begins c.requires.fits.0 _ c.args.pattern c.args.instance _ c.requires.pattern c.requires.instance c.requires.fits.1
    c.new-found.ensures.empty)) in
    ⊎_elim (λ d. d) (λ l. absurd l) (w.all k m)
