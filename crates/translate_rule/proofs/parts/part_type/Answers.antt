use Rattle.std.proofs.Common.{◌∙◌, sym, ap, subst}
use Rattle.std.proofs.lemmas.Result.{IfOk-weaker}
use Rattle.hol_spec.specs.Proofs.{sequent_at}
use Rattle.hol_term.specs.Tables.{term_at, type_at}
use Rattle.hol_type.specs.Tables as type
use Rattle.holide_sig.specs.Modules.{declarations_of}
use Rattle.lp_term.specs.Tables.{Holds}
use Rattle.translate_spec.specs.Scopes.{generic_tree}
use Rattle.translate_term.specs.Told.{TellsType}
use Rattle.translate_rule.specs.ItemViews.{names_of_view}
use Rattle.translate_rule.specs.Parts.{part_type}
use Rattle.translate_rule.proofs.PartLaws.{abstraction-told, representation-told}
use Rattle.translate_rule.proofs.parts.part_type.Goals as goal

pub returns-in-Operator-clause-made : goal.returns-in-Operator-clause-made
returns-in-Operator-clause-made c =
    let k = c.args.proof.now in
    let x = c.args.view in
    let names = names_of_view x in
    let whole = type_at k.trees x.whole.0 in
    IfOk-weaker c.operator_type.result _ _
    (λ r h tables told.
    subst (λ t. Holds c.operator_type.new.table r.0 t) (sym (ap (λ p. part_type tables p names whole) c.in-Operator.is)) h)
    c.operator_type.ensures.made

pub constant_type-requires-clause-id : goal.constant_type-requires-clause-id
constant_type-requires-clause-id c = rw (c.types-types.ensures.types, c.terms.ensures) c.requires.known.constants.abstraction

pub constant_type-requires-clause-told : goal.constant_type-requires-clause-told
constant_type-requires-clause-told c =
    let k = c.args.proof.now in
    let d = declarations_of c.args.target.now in
    let x = c.args.view in
    let tables = c.requires.told.0 in
    let told = abstraction-told d tables (names_of_view x) (type_at k.trees x.whole.0) (term_at k.trees x.predicate.0) c.args.one.symbol
    (sequent_at k.made c.args.one.id) c.args.part c.in-Abstraction.is c.requires.told.1 in
    let there = ap (λ ts. type.tree_at ts x.abs_type.0) (c.types-types.ensures.types ∙ ap (λ t. t.types) c.terms.ensures) ∙ c.requires.known.constants.from in
    (tables, subst (TellsType d tables) (sym there) told)

pub constant_type-requires-in-Representation-clause-id : goal.constant_type-requires-in-Representation-clause-id
constant_type-requires-in-Representation-clause-id c = rw (c.types-types.ensures.types, c.terms.ensures) c.requires.known.constants.representation

pub constant_type-requires-in-Representation-clause-told : goal.constant_type-requires-in-Representation-clause-told
constant_type-requires-in-Representation-clause-told c =
    let k = c.args.proof.now in
    let d = declarations_of c.args.target.now in
    let x = c.args.view in
    let tables = c.requires.told.0 in
    let told = representation-told d tables (names_of_view x) (type_at k.trees x.whole.0) (term_at k.trees x.predicate.0) c.args.one.symbol
    (sequent_at k.made c.args.one.id) c.args.part c.in-Representation.is c.requires.told.1 in
    let there = ap (λ ts. type.tree_at ts x.rep_type.0) (c.types-types.ensures.types ∙ ap (λ t. t.types) c.terms.ensures) ∙ c.requires.known.constants.to in
    (tables, subst (TellsType d tables) (sym there) told)

pub returns-in-Abstraction-clause-made : goal.returns-in-Abstraction-clause-made
returns-in-Abstraction-clause-made c =
    let k = c.args.proof.now in
    let d = declarations_of c.args.target.now in
    let x = c.args.view in
    let names = names_of_view x in
    let whole = type_at k.trees x.whole.0 in
    let there = ap (λ ts. type.tree_at ts x.abs_type.0) (c.types-types.ensures.types ∙ ap (λ t. t.types) c.terms.ensures) ∙ c.requires.known.constants.from in
    IfOk-weaker c.constant_type.result _ _
    (λ r h tables told.
    let own = abstraction-told d tables names whole (term_at k.trees x.predicate.0) c.args.one.symbol (sequent_at k.made c.args.one.id) c.args.part
    c.in-Abstraction.is told in
    subst (λ t. Holds c.constant_type.new.target.table r.0 t)
    (ap (generic_tree tables) there ∙ sym (ap (λ p. part_type tables p names whole) c.in-Abstraction.is))
    (h tables (subst (TellsType d tables) (sym there) own)))
    c.constant_type.ensures.made

pub returns-in-Representation-clause-made : goal.returns-in-Representation-clause-made
returns-in-Representation-clause-made c =
    let k = c.args.proof.now in
    let d = declarations_of c.args.target.now in
    let x = c.args.view in
    let names = names_of_view x in
    let whole = type_at k.trees x.whole.0 in
    let there = ap (λ ts. type.tree_at ts x.rep_type.0) (c.types-types.ensures.types ∙ ap (λ t. t.types) c.terms.ensures) ∙ c.requires.known.constants.to in
    IfOk-weaker c.constant_type-in-Representation.result _ _
    (λ r h tables told.
    let own = representation-told d tables names whole (term_at k.trees x.predicate.0) c.args.one.symbol (sequent_at k.made c.args.one.id) c.args.part
    c.in-Representation.is told in
    subst (λ t. Holds c.constant_type-in-Representation.new.target.table r.0 t)
    (ap (generic_tree tables) there ∙ sym (ap (λ p. part_type tables p names whole) c.in-Representation.is))
    (h tables (subst (TellsType d tables) (sym there) own)))
    c.constant_type-in-Representation.ensures.made
