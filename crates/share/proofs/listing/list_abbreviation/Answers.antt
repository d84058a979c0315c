use Rattle.share.proofs.ListingLaws.{adds-none, adds-some}
use Rattle.share.proofs.listing.list_abbreviation.Goals as goal

pub returns-in_ok-push-in-Some-clause-adds : goal.returns-in_ok-push-in-Some-clause-adds
returns-in_ok-push-in-Some-clause-adds c = adds-some _ _ _ c.args.id c.in-Some.ty _ _ c.in-Some.is c.in_ok-ty.ensures.told c.in_ok-push-in-Some.ensures.items

pub returns-in-None-clause-adds : goal.returns-in-None-clause-adds
returns-in-None-clause-adds c = adds-none _ _ c.args.id _ _ c.in-None.is c.in_ok-ty.ensures.told
