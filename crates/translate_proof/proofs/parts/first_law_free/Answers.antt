use Rattle.std.proofs.Common.{◌∙◌, ap, Some}
use Rattle.std.proofs.lemmas.Result.{IfOk-weaker}
use Rattle.hol_spec.specs.Proofs.{sequent_at}
use Rattle.lp_spec.specs.Modules.{sub_abs_rep_symbol}
use Rattle.lp_spec.specs.Trees.{App}
use Rattle.translate_spec.specs.ProofTrees.{part_tree}
use Rattle.translate_spec.specs.Rows.{right_side}
use Rattle.translate_spec.specs.Scopes.{filled, term_tree}
use Rattle.translate_proof.specs.Parts.{whole_type}
use Rattle.translate_proof.proofs.LawEquations.{first-defining, first-equation, first_free-told}
use Rattle.translate_proof.proofs.SequentLaws.{equated-right, right-told}
use Rattle.translate_proof.proofs.parts.first_law_free.Goals as goal

pub sides-own-requires-clause-equation : goal.sides-own-requires-clause-equation
sides-own-requires-clause-equation c = record
    { ty = _; left = _; right = _; is = first-equation c.args.ground.proof.now c.args.id c.args.one.id c.requires.law.0 c.requires.law.1 }

pub part_at-requires-clause-id : goal.part_at-requires-clause-id
part_at-requires-clause-id c = c.sides-own.ensures.right

pub part_at-requires-clause-defines : goal.part_at-requires-clause-defines
part_at-requires-clause-defines c = first-defining c.args.ground.proof.now c.args.id c.args.one.id c.requires.law.0 c.requires.law.1

pub part_at-requires-clause-told : goal.part_at-requires-clause-told
part_at-requires-clause-told c =
    let k = c.args.ground.proof.now in
    let q = c.requires.told in
    let own = c.sides-own in (
      q.0,
      q.1,
      q.2,
      first_free-told k c.args.id c.args.one.id c.requires.law.0 q.0 q.3 c.requires.law.1,
      q.4,
      right-told k c.args.id own.result own.ensures q.0 q.3,
    )

pub returns-clause-made : goal.returns-clause-made
returns-clause-made c =
    let k = c.args.ground.proof.now in
    let own = c.sides-own in
    IfOk-weaker c.part_at.result _ _
    (λ r h given names is stands outer told one.
    h given stands outer (first_free-told k c.args.id c.args.one.id names given told is) one (right-told k c.args.id own.result own.ensures given told)
    ∙ ap (λ t. Some (App
    (part_tree given.symbols (filled given.symbols given.scope.types) sub_abs_rep_symbol (whole_type k c.args.one.id)
    (c.args.one.symbol, sequent_at k.made c.args.one.id)) (term_tree given.symbols given.scope t)))
    (equated-right k c.args.id own.result own.ensures ∙ ap right_side (first-equation k c.args.id c.args.one.id names is)))
    c.part_at.ensures.made
