use Rattle.std.proofs.Common.{length, subst}
use Rattle.share.specs.Counts.{IsBodyBelow}
use Rattle.share.proofs.CountLaws.{more_type, more_both}
use Rattle.share.proofs.places.count_roots.Goals as goal

pub returns-in-Some-clause-more : goal.returns-in-Some-clause-more
returns-in-Some-clause-more c = more_both c.args.decl.now c.in-Some.body _ c.hand.new.counts _ c.requires.ty
    (subst (IsBodyBelow (length c.args.counts.now)) c.in-Some.is c.requires.body) c.in-Some.is c.hand.ensures c.hand-in-Some.ensures

pub returns-in-None-clause-more : goal.returns-in-None-clause-more
returns-in-None-clause-more c = more_type c.args.decl.now _ _ c.requires.ty c.in-None.is c.hand.ensures
