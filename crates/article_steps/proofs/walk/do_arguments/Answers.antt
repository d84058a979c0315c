use Rattle.std.proofs.Common.{subst}
use Rattle.hol_spec.specs.Types.{operator, types_of}
use Rattle.hol_type.specs.Tables.{Holds, types_at}
use Rattle.article_steps.proofs.JobSteps.{argument-next, argument-none, steps-on}
use Rattle.article_steps.proofs.walk.do_arguments.Goals as goal

pub returns-then-from-arguments : goal.returns-then-from-arguments
returns-then-from-arguments c = λ q keys r.
    let ids = c.in-Op.arguments.now in
    let holds = subst (λ ts. Holds ts c.args.id.0 (operator c.in-Op.field-0.now (types_of (types_at ts ids)))) c.types.ensures.types c.in-Op.ensures.is in
    steps-on c.args.terms.now q _ _ _ keys keys _ c.push_all.ensures
    (argument-next c.args.terms.now q _ keys c.args.id c.args.from c.in-Op.field-0.now ids holds c.in-Op.ensures.lower c.if-from-arguments.true r)

pub returns-else-from-arguments : goal.returns-else-from-arguments
returns-else-from-arguments c = λ q keys r.
    let ids = c.in-Op.arguments.now in
    let holds = subst (λ ts. Holds ts c.args.id.0 (operator c.in-Op.field-0.now (types_of (types_at ts ids)))) c.types.ensures.types c.in-Op.ensures.is in
    argument-none c.args.terms.now q _ keys c.args.id c.args.from c.in-Op.field-0.now ids holds c.if-from-arguments.false r
