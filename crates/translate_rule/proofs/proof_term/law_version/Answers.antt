use Rattle.std.proofs.Common.{◌∙◌, sym, ap}
use Rattle.hol_rules.specs.Views.{parameters_view}
use Rattle.hol_rules.specs.declared.made.Parameters.TheVariants as given
use Rattle.translate_rule.proofs.LawRules.{operator-given}
use Rattle.translate_rule.proofs.proof_term.law_version.Goals as goal

pub unreachable-requires : goal.unreachable-requires
unreachable-requires c =
    let q = c.requires.operator in
    operator-given c.args.proof.now.trees c.params.result.now q.1.names q.0 (c.params.ensures.is ∙ sym q.1.given) c.in_default.not-TypeOp

pub returns : goal.returns
returns c = record { names = _; given = ap (parameters_view c.args.proof.now.trees) (ap given.TypeOp c.get.ensures ∙ sym c.in-TypeOp.is) ∙ c.params.ensures.is }
