use Rattle.std.proofs.Common.{subst, sym, ◌∙◌}
use Rattle.compose.specs.Listed.{IsFound, IsBetween}
use Rattle.compose.proofs.ListedLaws.{listed_now, place-within, within-all}
use Rattle.compose.proofs.PoolLaws.{place-found, place-none}
use Rattle.compose.proofs.pool.Pool.place.Goals as goal

pub search-requires-clause-within : goal.search-requires-clause-within
search-requires-clause-within c =
    within-all c.deref.result.now c.args.sequent.now.concl c.list_for-list.result.now
    (listed_now c.self.inside.held.items c.deref.result.now c.self.inside.lists.entries c.args.sequent.now.concl c.list_for-list.result.now
    (sym c.deref.ensures.value) c.self.invariant.listed c.list_for-list.ensures)

pub search-requires-clause-ordered : goal.search-requires-clause-ordered
search-requires-clause-ordered c =
    (listed_now c.self.inside.held.items c.deref.result.now c.self.inside.lists.entries c.args.sequent.now.concl c.list_for-list.result.now
    (sym c.deref.ensures.value) c.self.invariant.listed c.list_for-list.ensures).ordered

pub returns-in-Ok-clause-within : goal.returns-in-Ok-clause-within
returns-in-Ok-clause-within c =
    let list = c.list_for-list.result.now in
    place-within c.args.self.now c.args.sequent.now.concl list c.in-Ok.at
    (listed_now c.self.inside.held.items c.args.self.now c.self.inside.lists.entries c.args.sequent.now.concl list c.self.view_is c.self.invariant.listed
    c.list_for-list.ensures)
    c.in-Ok.ensures.found.within

pub returns-in-Ok-clause-first : goal.returns-in-Ok-clause-first
returns-in-Ok-clause-first c trees d l k =
    let list = c.list_for-list.result.now in
    place-found trees d c.args.sequent.now k c.args.self.now l list
    (listed_now c.self.inside.held.items c.args.self.now c.self.inside.lists.entries c.args.sequent.now.concl list c.self.view_is c.self.invariant.listed
    c.list_for-list.ensures)
    c.in-Ok.at (subst (λ p. IsFound p list c.args.sequent.now.hyps c.in-Ok.at) (c.deref.ensures.value ∙ c.self.view_is) c.in-Ok.ensures.found)

pub returns-in-Err-clause-first : goal.returns-in-Err-clause-first
returns-in-Err-clause-first c trees d l k =
    let list = c.list_for-list.result.now in
    place-none trees d c.args.sequent.now k c.args.self.now l list
    (listed_now c.self.inside.held.items c.args.self.now c.self.inside.lists.entries c.args.sequent.now.concl list c.self.view_is c.self.invariant.listed
    c.list_for-list.ensures)
    c.in-Err._between
    (subst (λ p. IsBetween p list c.args.sequent.now.hyps c.in-Err._between c.in-Err._between) (c.deref.ensures.value ∙ c.self.view_is)
    c.in-Err.ensures.between)
