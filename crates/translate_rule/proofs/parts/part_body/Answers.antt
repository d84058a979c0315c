use Rattle.std.proofs.Common.{◌∙◌, sym, ap, subst}
use Rattle.std.proofs.lemmas.Result.{IfOk-weaker}
use Rattle.hol_spec.specs.Proofs.{sequent_at}
use Rattle.hol_spec.specs.Types.{type_variables}
use Rattle.hol_term.specs.Tables.{term_at, type_at}
use Rattle.holide_sig.specs.Modules.{declarations_of}
use Rattle.lp_term.specs.Tables.{Holds}
use Rattle.translate_spec.specs.Items.{part_definition_tree}
use Rattle.translate_proof.specs.Parts.{part_symbol}
use Rattle.translate_term.specs.Told.{TellsType}
use Rattle.translate_rule.specs.ItemViews.{names_of_view}
use Rattle.translate_rule.specs.Parts.{part_variables}
use Rattle.translate_rule.proofs.PartLaws.{is-defining, part-sequent-told, part-type-told, whole-type}
use Rattle.translate_rule.proofs.parts.part_body.Goals as goal

pub over_types-requires-clause-defines : goal.over_types-requires-clause-defines
over_types-requires-clause-defines c = is-defining c.args.proof.now c.args.one.id _ _ _ c.requires.defines

pub over_types-requires-clause-told : goal.over_types-requires-clause-told
over_types-requires-clause-told c =
    let k = c.args.proof.now in
    let d = declarations_of c.args.target.now in
    let x = c.args.view in
    let names = names_of_view x in
    let whole = type_at k.trees x.whole.0 in
    let predicate = term_at k.trees x.predicate.0 in
    let s = sequent_at k.made c.args.one.id in
    let tables = c.requires.told.0 in (
      tables,
      subst (TellsType d tables) (sym (whole-type k c.args.one.id names whole predicate c.requires.defines))
          (part-type-told d tables names whole predicate c.args.one.symbol s c.args.part c.requires.told.1),
      part-sequent-told d tables names whole predicate c.args.one.symbol s c.args.part c.requires.told.1,
    )

pub over_type-requires-clause-defines : goal.over_type-requires-clause-defines
over_type-requires-clause-defines c = is-defining c.args.proof.now c.args.one.id _ _ _ c.requires.defines

pub over_type-requires-clause-told : goal.over_type-requires-clause-told
over_type-requires-clause-told c =
    let k = c.args.proof.now in
    let d = declarations_of c.args.target.now in
    let x = c.args.view in
    let names = names_of_view x in
    let whole = type_at k.trees x.whole.0 in
    let predicate = term_at k.trees x.predicate.0 in
    let s = sequent_at k.made c.args.one.id in
    let tables = c.requires.told.0 in (
      tables,
      subst (TellsType d tables) (sym (whole-type k c.args.one.id names whole predicate c.requires.defines))
          (part-type-told d tables names whole predicate c.args.one.symbol s c.args.part c.requires.told.1),
      part-sequent-told d tables names whole predicate c.args.one.symbol s c.args.part c.requires.told.1,
    )

pub over_type-requires-in-Representation-clause-defines : goal.over_type-requires-in-Representation-clause-defines
over_type-requires-in-Representation-clause-defines c = is-defining c.args.proof.now c.args.one.id _ _ _ c.requires.defines

pub over_type-requires-in-Representation-clause-told : goal.over_type-requires-in-Representation-clause-told
over_type-requires-in-Representation-clause-told c =
    let k = c.args.proof.now in
    let d = declarations_of c.args.target.now in
    let x = c.args.view in
    let names = names_of_view x in
    let whole = type_at k.trees x.whole.0 in
    let predicate = term_at k.trees x.predicate.0 in
    let s = sequent_at k.made c.args.one.id in
    let tables = c.requires.told.0 in (
      tables,
      subst (TellsType d tables) (sym (whole-type k c.args.one.id names whole predicate c.requires.defines))
          (part-type-told d tables names whole predicate c.args.one.symbol s c.args.part c.requires.told.1),
      part-sequent-told d tables names whole predicate c.args.one.symbol s c.args.part c.requires.told.1,
    )

pub returns-in-Operator-clause-made : goal.returns-in-Operator-clause-made
returns-in-Operator-clause-made c =
    let k = c.args.proof.now in
    let d = declarations_of c.args.target.now in
    let x = c.args.view in
    let names = names_of_view x in
    let whole = type_at k.trees x.whole.0 in
    let predicate = term_at k.trees x.predicate.0 in
    let j = c.args.one.symbol in
    let s = sequent_at k.made c.args.one.id in
    let same = whole-type k c.args.one.id names whole predicate c.requires.defines in
    let variables = sym (ap (λ p. part_variables p names whole) c.in-Operator.is) in
    IfOk-weaker c.over_types.result _ _
    (λ r h tables told.
    let made = h tables (subst (TellsType d tables) (sym same) (part-type-told d tables names whole predicate j s c.args.part told))
    (part-sequent-told d tables names whole predicate j s c.args.part told) in
    subst (λ t. Holds c.over_types.new.target.table r.0 t) (λ i. part_definition_tree tables (variables i) (part_symbol c.args.part) (same i) j s) made)
    c.over_types.ensures.made

pub returns-in-Abstraction-clause-made : goal.returns-in-Abstraction-clause-made
returns-in-Abstraction-clause-made c =
    let k = c.args.proof.now in
    let d = declarations_of c.args.target.now in
    let x = c.args.view in
    let names = names_of_view x in
    let whole = type_at k.trees x.whole.0 in
    let predicate = term_at k.trees x.predicate.0 in
    let j = c.args.one.symbol in
    let s = sequent_at k.made c.args.one.id in
    let same = whole-type k c.args.one.id names whole predicate c.requires.defines in
    let variables = ap type_variables c.requires.known.constants.from ∙ sym (ap (λ p. part_variables p names whole) c.in-Abstraction.is) in
    IfOk-weaker c.over_type.result _ _
    (λ r h tables told.
    let made = h tables (subst (TellsType d tables) (sym same) (part-type-told d tables names whole predicate j s c.args.part told))
    (part-sequent-told d tables names whole predicate j s c.args.part told) in
    subst (λ t. Holds c.over_type.new.target.table r.0 t) (λ i. part_definition_tree tables (variables i) (part_symbol c.args.part) (same i) j s) made)
    c.over_type.ensures.made

pub returns-in-Representation-clause-made : goal.returns-in-Representation-clause-made
returns-in-Representation-clause-made c =
    let k = c.args.proof.now in
    let d = declarations_of c.args.target.now in
    let x = c.args.view in
    let names = names_of_view x in
    let whole = type_at k.trees x.whole.0 in
    let predicate = term_at k.trees x.predicate.0 in
    let j = c.args.one.symbol in
    let s = sequent_at k.made c.args.one.id in
    let same = whole-type k c.args.one.id names whole predicate c.requires.defines in
    let variables = ap type_variables c.requires.known.constants.to ∙ sym (ap (λ p. part_variables p names whole) c.in-Representation.is) in
    IfOk-weaker c.over_type-in-Representation.result _ _
    (λ r h tables told.
    let made = h tables (subst (TellsType d tables) (sym same) (part-type-told d tables names whole predicate j s c.args.part told))
    (part-sequent-told d tables names whole predicate j s c.args.part told) in
    subst (λ t. Holds c.over_type-in-Representation.new.target.table r.0 t)
    (λ i. part_definition_tree tables (variables i) (part_symbol c.args.part) (same i) j s) made)
    c.over_type-in-Representation.ensures.made
