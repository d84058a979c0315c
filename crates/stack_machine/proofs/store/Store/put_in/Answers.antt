use Rattle.std.proofs.Common.{sym, subst, IfErr, OnOk}
use Rattle.article_spec.specs.Results.{Fails}
use Rattle.article_spec.specs.RuleSteps.{pairs_fit}
use Rattle.hol_type.specs.Tables.{ArePairsKnown}
use Rattle.hol_term.specs.Substitutions.{term_pairs_at, AreTermPairs, ArePairsFitting}
use Rattle.stack_machine.proofs.Passing.{handed_on}
use Rattle.stack_machine.proofs.PutLists.{pairs-unfit, put-read, terms-fail, types-fail}
use Rattle.stack_machine.proofs.store.Store.put_in.Goals as goal

pub type_pairs_in-requires : goal.type_pairs_in-requires
type_pairs_in-requires c = c.requires.types

pub returns-in_err-types-clause-refused : goal.returns-in_err-types-clause-refused
returns-in_err-types-clause-refused c = handed_on _ _ _ c.from_residual.ensures.1 (types-fail c.args.self.now c.args.lists _ c.in_err-types.ensures.refused)

pub term_pairs_in-requires : goal.term_pairs_in-requires
term_pairs_in-requires c = c.requires.terms

pub returns-in_err-terms-clause-refused : goal.returns-in_err-terms-clause-refused
returns-in_err-terms-clause-refused c =
    handed_on _ _ _ c.from_residual-in_err-terms.ensures.1
    (terms-fail c.args.self.now c.args.lists c.in_ok-types.types.items c.in_ok-types.ensures.pairs _ c.in_err-terms.ensures.refused)

pub prepared-requires-clause-type_pairs : goal.prepared-requires-clause-type_pairs
prepared-requires-clause-type_pairs c = rw c.deref.ensures.value
    (subst (λ m. ArePairsKnown m.trees.types c.in_ok-types.types.items) (sym c.self.view_is) c.in_ok-types.ensures.known)

pub prepared-requires-clause-term_pairs : goal.prepared-requires-clause-term_pairs
prepared-requires-clause-term_pairs c = rw c.deref-2.ensures.value
    (subst (λ m. AreTermPairs m.trees c.in_ok-terms.terms.items) (sym c.self.view_is) c.in_ok-terms.ensures.known)

pub returns-clause-put : goal.returns-clause-put
returns-clause-put c =
    let e = rw (c.deref.ensures.value, c.deref-2.ensures.value) at c.prepared.ensures in
    put-read c.args.self.now c.args.lists c.in_ok-types.types.items c.in_ok-types.ensures.pairs c.in_ok-terms.terms.items c.in_ok-terms.ensures.pairs
    c.requires c.in_ok-types.ensures.known c.in_ok-terms.ensures.known c.prepared.result e.types e.terms
    (subst (λ m. OnOk c.prepared.result (ArePairsFitting m.trees c.in_ok-terms.terms.items)) c.self.view_is e.fits)

pub returns-clause-refused : goal.returns-clause-refused
returns-clause-refused c =
    let e = rw c.deref-2.ensures.value at c.prepared.ensures.refused in
    pairs-unfit c.args.self.now c.args.lists c.in_ok-types.types.items c.in_ok-types.ensures.pairs c.in_ok-terms.terms.items c.in_ok-terms.ensures.pairs
    c.prepared.result
    (subst (λ m. IfErr c.prepared.result (λ fault. Fails fault (pairs_fit (term_pairs_at m.trees c.in_ok-terms.terms.items)))) c.self.view_is e)
