use Rattle.std.proofs.Common.{subst, sym, ◌∙◌}
use Rattle.share.specs.Counts.{AreBelow}
use Rattle.share.proofs.folding.made_of.Goals as goal

pub make-requires-clause-below : goal.make-requires-clause-below
make-requires-clause-below c = subst (λ n. AreBelow n c.args.source.now.decls) (sym (c.len-count.ensures ∙ c.args.folding.now.counts.ok.0)) c.requires.below
