use Rattle.std.proofs.Common.{◌≡◌, ◌<◌, length, map, sym, ap, subst, ◌∙◌, arith}
use Rattle.hol_term.specs.declared.TermId.{TermId}
use Rattle.hol_term.specs.declared.Variable.{Variable as VariableFound}
use Rattle.hol_term.specs.Tables.{term_at}
use Rattle.hol_term.specs.Subterms.{variables_of}
use Rattle.decode_back.specs.TermWalks.{free_of}
use Rattle.decode_back.proofs.TermLemmas.{known-at, length-map}
use Rattle.decode_back.proofs.JudgeLemmas.{told-false, terms_eq-Decides, variables_of-length, type-known-at}
use Rattle.decode_back.proofs.judging.are_these.Goals as goal

pub returns-then-found-terms : goal.returns-then-found-terms
returns-then-found-terms c =
    told-false _ (terms_eq-Decides _ _) (λ same.
    let many : length (map free_of (variables_of c.args.table.now c.args.found.now)) ≡ length c.args.found.now =
    length-map free_of (variables_of c.args.table.now c.args.found.now) ∙ variables_of-length c.args.table.now c.args.found.now in
    c.if-found-terms.true (sym many ∙ ap length same ∙ length-map (λ (id : TermId). term_at c.args.table.now id.0) c.args.terms.now))

pub is_this-requires-clause-variable : goal.is_this-requires-clause-variable
is_this-requires-clause-variable c =
    subst (λ (v : VariableFound). v.ty.0 < length c.args.table.now.types) (sym c.index-found-place.is)
    (type-known-at c.args.table.now c.args.found.now c.loop-place.place c.index-found-place.result c.requires.found c.loop-place-test.true)

pub is_this-requires-clause-id : goal.is_this-requires-clause-id
is_this-requires-clause-id c = known-at c.args.table.now c.args.terms.now c.loop-place.place _ c.requires.terms
    (omega (arith, c.loop-place-test.true, c.if-found-terms.false))
