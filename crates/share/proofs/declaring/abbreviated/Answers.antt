use Rattle.share.proofs.DeclaringLaws.{made-abbreviated}
use Rattle.share.proofs.declaring.abbreviated.Goals as goal

pub returns : goal.returns
returns c = λ place source target a. made-abbreviated place source target c.args.made.now c.args.body c.args.ty c.made_tree-2.result c.made_tree.result
    c.args.number _ a c.made_tree.ensures c.made_tree-2.ensures (let e = c.in_ok-name.ensures in cc e)
