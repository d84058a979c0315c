use Rattle.std.proofs.Common.{◌∙◌, ap, subst}
use Rattle.std.proofs.lemmas.Result.{IfOk-weaker}
use Rattle.hol_spec.specs.Proofs.{sequent_at}
use Rattle.hol_spec.specs.Types.{type_variables}
use Rattle.hol_type.specs.Tables as type
use Rattle.lp_term.specs.Tables.{Holds}
use Rattle.translate_spec.specs.Items.{part_definition_tree}
use Rattle.translate_proof.specs.Parts.{part_symbol, whole_type}
use Rattle.translate_rule.proofs.parts.over_type.Goals as goal

pub vars-requires : goal.vars-requires
vars-requires c = rw (c.types.ensures.types, c.terms.ensures) c.requires.id

pub returns-clause-made : goal.returns-clause-made
returns-clause-made c =
    let k = c.args.proof.now in
    let s = sequent_at k.made c.args.one.id in
    let names = c.deref.ensures.value ∙ c.in_ok-names.ensures
    ∙ ap (λ ts. type_variables (type.tree_at ts c.args.id.0)) (c.types.ensures.types ∙ ap (λ t. t.types) c.terms.ensures) in
    IfOk-weaker c.over_types.result _ _
    (λ r h tables whole told. subst
    (λ ns. Holds c.over_types.new.target.table r.0
    (part_definition_tree tables ns (part_symbol c.args.part) (whole_type k c.args.one.id) c.args.one.symbol s)) names (h tables whole told))
    c.over_types.ensures.made
