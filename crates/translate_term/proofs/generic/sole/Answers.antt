use Rattle.translate_term.proofs.generic.sole.Goals as goal

pub loop-next-init : goal.loop-next-init
loop-next-init c = rw c.meet-at.ensures (record { pattern = c.requires.pattern; instance = c.requires.instance; fits = λ want f. f })

pub loop-next-preserved : goal.loop-next-preserved
loop-next-preserved c = record {
  pattern = c.in-Some.ensures.part.pattern;
  instance = c.in-Some.ensures.part.instance;
  fits = λ want f. c.in-Some.ensures.part.fits want (c.loop-next.invariant.fits want f);
}
