use Rattle.std.proofs.Common.{refl, ◌∙◌}
use Rattle.share.proofs.DeclaringLaws.{made-kept}
use Rattle.share.proofs.declaring.kept.Goals as goal

pub returns : goal.returns
returns c = λ place source target a. made-kept place source target c.args.made.now c.args.decl.now _ a c.made_tree.ensures
    (c.made_body.ensures place source target a) (c.in_ok-name.ensures ∙ c.as_bytes.ensures) refl
