use Rattle.std.proofs.Common.{◌<◌, length, sym, subst}
use Rattle.std.specs.List.{AllByRecursion}
use Rattle.hol_rules.specs.Views.{step_at}
use Rattle.article_lines.specs.EarlierPremises.{premises-earlier}
use Rattle.article_write.proofs.fitting.is_sayable.Goals as goal

pub meets_none-requires : goal.meets_none-requires
meets_none-requires c =
    let p = c.args.proof.now in
    subst (λ is. AllByRecursion (λ i. i < length c.args.is_export.now) is) (sym c.premises.ensures)
    (subst (λ n. AllByRecursion (λ i. i < n) (step_at p.made c.args.step).premises) (sym c.requires.exports)
    (premises-earlier p.made c.args.step _ c.is_proof.ensures c.requires.step))
