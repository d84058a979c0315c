use Rattle.std.proofs.Common.{◌∙◌, sym, ap, arith, length}
use Rattle.hol_spec.specs.declared.StepKind.TheVariants as kinds
use Rattle.translate_rule.proofs.StepRules.{kind-count, two-below}
use Rattle.translate_rule.proofs.premises.proves_nothing.Goals as goal

pub pair-one-requires : goal.pair-one-requires
pair-one-requires c = ap length c.premises.ensures ∙ kind-count c.args.proof.now c.args.id c.requires c.is_proof.ensures kinds.ProveHyp
    (sym c.kind.ensures ∙ c.in-ProveHyp.is)

pub lacks-requires-clause-id : goal.lacks-requires-clause-id
lacks-requires-clause-id c =
    let l = two-below c.args.proof.now c.args.id c.requires c.is_proof.ensures c.pair-one.result.0 c.pair-one.result.1
    (sym c.premises.ensures ∙ c.pair-one.ensures) in
    omega (arith, l.1, c.requires)

pub lacks-requires-clause-other : goal.lacks-requires-clause-other
lacks-requires-clause-other c =
    let l = two-below c.args.proof.now c.args.id c.requires c.is_proof.ensures c.pair-one.result.0 c.pair-one.result.1
    (sym c.premises.ensures ∙ c.pair-one.ensures) in
    omega (arith, l.0, c.requires)
