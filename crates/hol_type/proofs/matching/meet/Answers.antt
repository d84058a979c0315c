use Rattle.std.proofs.Common.{sym, ◌∙◌}
use Rattle.hol_type.proofs.EntryLaws.{id_eq-true, id_eq-same}
use Rattle.hol_type.proofs.MatchTurns.{meets_again, task_less}
use Rattle.hol_type.proofs.matching.meet.Goals as goal

pub returns-in-Some-clause-turn : goal.returns-in-Some-clause-turn
returns-in-Some-clause-turn c =
    meets_again _ _ _ _ _ _ c.in-Some.met c.eq.result c.in-Some.ensures.noted
    (λ e. id_eq-true c.in-Some.met c.args.image (sym c.eq.ensures ∙ e))
    (λ e f. let t = sym (id_eq-same c.in-Some.met c.args.image f) ∙ sym c.eq.ensures ∙ e in cc)

pub returns-in-Some-clause-less : goal.returns-in-Some-clause-less
returns-in-Some-clause-less c = task_less _ _ c.args.image _
