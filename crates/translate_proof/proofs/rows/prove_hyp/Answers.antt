use Rattle.std.proofs.Common.{◌∙◌, ap, Some}
use Rattle.std.proofs.lemmas.Result.{IfOk-weaker}
use Rattle.translate_spec.specs.Scopes.{theorem_tree, set_proof}
use Rattle.translate_term.specs.GrowLaws.{Grows-trans}
use Rattle.translate_proof.proofs.ConclusionLaws.{conclusion-same}
use Rattle.translate_proof.specs.EnvironmentLaws.{Represents-Grows}
use Rattle.translate_proof.specs.RuleRows.{theorem_row}
use Rattle.hol_spec.specs.Proofs.{sequent_at}
use Rattle.translate_proof.proofs.rows.prove_hyp.Goals as goal

pub theorem_with-requires-clause-told : goal.theorem_with-requires-clause-told
theorem_with-requires-clause-told c =
    let q = c.requires.told in
    (q.0, Represents-Grows c.theorem.ensures.grows q.0 c.args.ground.proof.now.trees c.args.ground.env.now q.1, q.3)

pub theorem_with-requires-clause-proved : goal.theorem_with-requires-clause-proved
theorem_with-requires-clause-proved c = let q = c.requires.told in (_, (c.sequent.ensures.known.1, c.in_ok-tree.ensures.made q.0 q.1 q.2))

pub returns-clause-made : goal.returns-clause-made
returns-clause-made c =
    let k = c.args.ground.proof.now in
    IfOk-weaker c.theorem_with.result _ _
    (λ r h given stands one two.
    let made = c.in_ok-tree.ensures.made given stands one in
    h given _ (Represents-Grows c.theorem.ensures.grows given k.trees c.args.ground.env.now stands) (c.sequent.ensures.known.1, made) two
    ∙ ap (λ t. Some (theorem_tree (set_proof t (theorem_row k c.args.one given) given.scope) c.args.two.symbol (sequent_at k.made c.args.two.id)))
    (conclusion-same k c.args.one.id c.sequent.result.now c.sequent.ensures.is))
    c.theorem_with.ensures.made

pub returns-clause-grows : goal.returns-clause-grows
returns-clause-grows c = Grows-trans c.theorem.ensures.grows c.theorem_with.ensures.grows
