use Rattle.std.proofs.Common.{ap, sym, subst}
use Rattle.std.specs.List.{AllByRecursion}
use Rattle.hol_spec.specs.Terms.{IsTerm}
use Rattle.hol_term.specs.Tables.{AreKnown, term_at, terms_at}
use Rattle.article_write_spec.specs.Drafts.{write_list}
use Rattle.article_write_spec.specs.WrittenTerms.{write_term}
use Rattle.article_steps.proofs.SaidLaws.{appends-under}
use Rattle.article_steps.proofs.AddsLaws.{adds-then, adds-stop}
use Rattle.article_steps.proofs.EachLaws.{adds-same}
use Rattle.article_steps.proofs.given.write_sequent.Goals as goal

pub write_terms-requires-clause-known : goal.write_terms-requires-clause-known
write_terms-requires-clause-known g c = subst (AreKnown c.args.terms.now) (sym c.ids.ensures.numbers) c.requires.known.0

pub write_terms-requires-clause-closed : goal.write_terms-requires-clause-closed
write_terms-requires-clause-closed g c = subst (λ ids. AllByRecursion IsTerm (terms_at c.args.terms.now ids)) (sym c.ids.ensures.numbers)
    c.requires.closed.hypotheses

pub returns-in_err-write_terms : goal.returns-in_err-write_terms
returns-in_err-write_terms g c =
    adds-stop c.args.terms.now (write_list (write_term c.args.number) (terms_at c.args.terms.now c.args.sequent.now.hyps))
    (write_term c.args.number (term_at c.args.terms.now c.args.sequent.now.concl.0)) _ _ _ _ _ _ _ _ _ _ _
    (appends-under c.args.number _ (term_at c.args.terms.now c.args.sequent.now.concl.0)) c.in_err-write_terms.was c.from_residual.ensures.0
    (adds-same c.args.terms.now _ _ _ _ _ _ _ _ _ _
    (λ d. ap (λ ids. write_list (write_term c.args.number) (terms_at c.args.terms.now ids) d) c.ids.ensures.numbers) c.write_terms.ensures)

pub returns : goal.returns
returns g c =
    adds-then c.args.terms.now (write_list (write_term c.args.number) (terms_at c.args.terms.now c.args.sequent.now.hyps))
    (write_term c.args.number (term_at c.args.terms.now c.args.sequent.now.concl.0)) _ _ _ _ _ _ _ _ _ _ _ _ _ _
    (appends-under c.args.number _ (term_at c.args.terms.now c.args.sequent.now.concl.0)) c.in_ok-write_terms.was
    (adds-same c.args.terms.now _ _ _ _ _ _ _ _ _ _
    (λ d. ap (λ ids. write_list (write_term c.args.number) (terms_at c.args.terms.now ids) d) c.ids.ensures.numbers) c.write_terms.ensures)
    c.write_term.ensures
