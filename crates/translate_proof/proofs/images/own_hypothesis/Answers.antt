use Rattle.std.proofs.Common.{◌∙◌, sym, ap, subst}
use Rattle.std.proofs.lemmas.List.{drop_more}
use Rattle.hol_spec.specs.Terms.{term_eq}
use Rattle.hol_laws.specs.TermLaws.{term_eq-Decides}
use Rattle.hol_term.specs.Tables.{terms_at, AreKnown}
use Rattle.translate_proof.specs.Images.{made_term}
use Rattle.translate_proof.proofs.MatchLaws.{in-rest}
use Rattle.translate_proof.proofs.PlaceLaws.{AreKnown-drop}
use Rattle.translate_proof.proofs.images.own_hypothesis.Goals as goal

pub makes_term-requires-clause-id : goal.makes_term-requires-clause-id
makes_term-requires-clause-id c =
    let split = drop_more c.args.own.now c.loop-one.one-index (record { 0 = 0 }) c.loop-one-test.true in
    (subst (AreKnown c.args.table.now) split (AreKnown-drop c.args.table.now c.loop-one.one-index c.args.own.now c.requires.own)).0

pub returns-then-branch-clause-is : goal.returns-then-branch-clause-is
returns-then-branch-clause-is c = sym
    ((term_eq-Decides (made_term c.args.table.now c.args.put.now c.args.hyp) _).0 (sym c.in_ok-makes_term.ensures ∙ c.if-branch.true))

pub returns-then-branch-clause-known : goal.returns-then-branch-clause-known
returns-then-branch-clause-known c =
    let split = drop_more c.args.own.now c.loop-one.one-index (record { 0 = 0 }) c.loop-one-test.true in
    (subst (AreKnown c.args.table.now) split (AreKnown-drop c.args.table.now c.loop-one.one-index c.args.own.now c.requires.own)).0

pub loop-one-preserved : goal.loop-one-preserved
loop-one-preserved c =
    let split = drop_more c.args.own.now c.loop-one.one-index (record { 0 = 0 }) c.loop-one-test.true in
    in-rest term_eq term_eq-Decides (made_term c.args.table.now c.args.put.now c.args.hyp) _ _ _ (ap (terms_at c.args.table.now) split)
    (sym c.if-branch.false ∙ c.in_ok-makes_term.ensures) c.loop-one.invariant
