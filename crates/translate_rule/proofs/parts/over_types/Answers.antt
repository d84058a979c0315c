use Rattle.std.proofs.Common.{◌∙◌, ap, refl, Some}
use Rattle.std.proofs.lemmas.Result.{IfOk-weaker}
use Rattle.hol_spec.specs.Proofs.{sequent_at}
use Rattle.holide_sig.specs.Modules.{declarations_of}
use Rattle.translate_proof.specs.Parts.{whole_type}
use Rattle.translate_term.specs.GrowLaws.{Grows-trans}
use Rattle.translate_rule.specs.Steps.{given_over}
use Rattle.translate_rule.proofs.PartLaws.{part-definition}
use Rattle.translate_rule.proofs.parts.over_types.Goals as goal

pub under_types-made-requires-clause-told : goal.under_types-made-requires-clause-told
under_types-made-requires-clause-told c =
    let d = declarations_of c.args.target.now in
    let tables = c.requires.told.0 in
    (given_over d tables c.args.names.now, c.in_ok-env.ensures.made d tables refl, c.requires.told.1, c.requires.told.2)

pub returns-clause-made : goal.returns-clause-made
returns-clause-made c =
    let k = c.args.proof.now in
    let d = declarations_of c.args.target.now in
    IfOk-weaker c.under_types-made.result _ _
    (λ r h tables whole told.
    h (given_over d tables c.args.names.now) (c.in_ok-env.ensures.made d tables refl) whole told
    ∙ ap Some (part-definition tables c.args.names.now c.args.part (whole_type k c.args.one.id) c.args.one.symbol (sequent_at k.made c.args.one.id)))
    c.under_types-made.ensures.made

pub returns-clause-grows : goal.returns-clause-grows
returns-clause-grows c = Grows-trans c.type_environment.ensures.grows c.under_types-made.ensures.grows
