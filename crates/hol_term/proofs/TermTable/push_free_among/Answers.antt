use Rattle.std.proofs.Common.{arith, subst}
use Rattle.std.proofs.lemmas.List.{drop_all, drop_more}
use Rattle.hol_term.proofs.FoundLaws.{IsFinding, finding_begins, finding_goes_on, finding_ends}
use Rattle.hol_term.proofs.TermTable.push_free_among.Goals as goal

pub loop-id-init : goal.loop-id-init
loop-id-init c = rw c.requires.none (finding_begins _ _ c.requires.ids)

pub loop-id-preserved : goal.loop-id-preserved
loop-id-preserved c =
    finding_goes_on _ _ _ _ _ _
    (subst (λ l. IsFinding c.args.self.now c.args.ids.now l c.loop-id.found.items) (drop_more c.args.ids.now c.loop-id.id-index _ c.loop-id-test.true)
    c.loop-id.invariant)
    c.in_ok-push_free.ensures.variables c.in_ok-push_free.ensures.known

pub returns-clause-variables : goal.returns-clause-variables
returns-clause-variables c = finding_ends _ _ _ _ (drop_all c.loop-id.id-index c.args.ids.now (omega (arith, c.loop-id-test.false))) c.loop-id.invariant

pub returns-clause-known : goal.returns-clause-known
returns-clause-known c = c.loop-id.invariant.types
