use Rattle.std.proofs.Common.{ap, ◌∙◌, ◌||◌}
use Rattle.article_reach.specs.Least.{is_among}
use Rattle.article_reach.proofs.Stepped.{looked-IsReach}
use Rattle.article_reach.proofs.reach.Goals as goal

pub returns : goal.returns
returns c =
    let r = c.in_ok-number.ensures in
    looked-IsReach c.args.proof.now c.args.exports.now r.0
    (record { told = c.looked.new.told.items; is_export = c.mark_steps.new.flags.items; number = c.in_ok-number.number }) r.1 r.2
    (c.mark_steps.ensures.count ∙ c.in_ok-is_export.ensures.count ∙ c.len-2.ensures)
    (λ i. c.mark_steps.ensures.each i ∙ ap (λ b. b || is_among c.args.exports.now i) (c.in_ok-is_export.ensures.unset i))
