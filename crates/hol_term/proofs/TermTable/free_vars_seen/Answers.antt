use Rattle.std.proofs.Common.{ap, ◌∙◌}
use Rattle.std.proofs.lemmas.Result.{IfOk-weaker}
use Rattle.hol_term.specs.Subterms.{free_head, gathered}
use Rattle.hol_term.specs.Tables.{term_at, terms_at}
use Rattle.hol_term.proofs.Gathered.{free_of_distinct}
use Rattle.hol_term.proofs.VisitSteps.{came}
use Rattle.hol_term.proofs.TermTable.free_vars_seen.Goals as goal

pub returns-clause-variables : goal.returns-clause-variables
returns-clause-variables c =
    IfOk-weaker c.free_among.result _ _
    (λ v e. e
    ∙ ap (gathered free_head) (ap (terms_at c.args.self.now) c.ids.ensures ∙ came c.args.self.now c.args.id _ _ c.requires.empty c.in_ok-come_to.ensures)
    ∙ free_of_distinct (term_at c.args.self.now c.args.id.0))
    c.free_among.ensures.variables
