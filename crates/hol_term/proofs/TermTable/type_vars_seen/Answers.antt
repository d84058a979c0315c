use Rattle.std.proofs.Common.{ap, ◌∙◌}
use Rattle.std.proofs.lemmas.Result.{IfOk-weaker}
use Rattle.hol_spec.specs.Lists.{distinct}
use Rattle.hol_spec.specs.NameEquality.{name_eq}
use Rattle.hol_term.specs.Subterms.{gathered, type_head}
use Rattle.hol_term.specs.Tables.{term_at, terms_at}
use Rattle.hol_term.proofs.Gathered.{types_of_distinct}
use Rattle.hol_term.proofs.VisitSteps.{came}
use Rattle.hol_term.proofs.TermTable.type_vars_seen.Goals as goal

pub returns : goal.returns
returns c =
    IfOk-weaker c.listed.result _ _
    (λ v e. e
    ∙ c.in_ok-unite_heads.ensures
    ∙ ap (λ l. distinct name_eq (gathered type_head l))
    (ap (terms_at c.args.self.now) c.ids.ensures ∙ came c.args.self.now c.args.id _ _ c.requires.empty c.in_ok-come_to.ensures)
    ∙ types_of_distinct (term_at c.args.self.now c.args.id.0))
    c.listed.ensures
