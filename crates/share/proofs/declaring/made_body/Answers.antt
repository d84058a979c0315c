use Rattle.std.proofs.Common.{ap, Some}
use Rattle.share.proofs.declaring.made_body.Goals as goal

pub returns-in-Some : goal.returns-in-Some
returns-in-Some c = λ place source target a. let p = a c.in-Some.id.0 c.made_tree.result c.made_tree.ensures in rw c.in-Some.is (p.0, ap Some p.1)
