use Rattle.lp_kernel.proofs.Judged.{cut-back}
use Rattle.lp_kernel.proofs.checks.cut_back.Goals as goal

pub returns : goal.returns
returns c = λ rechecks from h held g right. cut-back rechecks from c.args.base.now c.cut.new.self c.args.kept c.trim.new.self c.cut-2.new.self h held g
    (c.trim.ensures rechecks _ _ right) c.cut.ensures c.cut-2.ensures.rechecks c.cut-2.ensures.types c.cut-2.ensures.products c.cut-2.ensures.lifts
    c.cut-2.ensures.open_types
