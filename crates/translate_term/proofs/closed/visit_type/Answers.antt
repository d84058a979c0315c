use Rattle.std.proofs.Common.{◌∷◌, refl, sym, subst}
use Rattle.hol_spec.specs.ClosedForm as form
use Rattle.sequent.specs.Closed.{type_step}
use Rattle.translate_term.specs.declared.closed.TypeWork.TheVariants.{Next}
use Rattle.translate_term.specs.Closed.{IsTypeWalk}
use Rattle.translate_term.proofs.EndsLaws.{OnOk-map}
use Rattle.translate_term.proofs.ClosedTurns.{type_leaf, operator-found, type_operator}
use Rattle.translate_term.proofs.closed.visit_type.Goals as goal

pub put_operator-requires : goal.put_operator-requires
put_operator-requires c =
    let q = c.requires in
    let w = subst (λ n. IsTypeWalk q.0 q.1 c.args.target.now c.args.depth (Next ∷ c.args.walk.now.works) (type_step n q.2) c.args.walk.now.made)
    c.in-Operator.is q.3 in
    operator-found q.0 q.1 c.args.target.now c.args.depth c.args.walk.now.works c.in-Operator.name c.in-Operator.arity q.2 c.args.walk.now.made w

pub returns-in-Parameter-clause-walk : goal.returns-in-Parameter-clause-walk
returns-in-Parameter-clause-walk c =
    OnOk-map c.put_type_variable.result
    (λ put given root ts v.
    let w = subst (λ n. IsTypeWalk given root c.args.target.now c.args.depth (Next ∷ c.args.walk.now.works) (type_step n ts) c.args.walk.now.made)
    c.in-Parameter.is v in
    type_leaf given root c.args.target.now c.args.depth c.args.walk.now.works c.put_type_variable.new.target c.in-Parameter.place
    (form.ClosedType.parameter c.in-Parameter.place ∷ ts) c.args.walk.now.made c.put_type_variable.new.made refl c.put_type_variable.ensures.grows put w)
    c.put_type_variable.ensures.made

pub returns-in_ok-put_operator-in-Operator-clause-walk : goal.returns-in_ok-put_operator-in-Operator-clause-walk
returns-in_ok-put_operator-in-Operator-clause-walk c =
    OnOk-map c.push.result
    (λ pushed given root ts v.
    let w = subst (λ n. IsTypeWalk given root c.args.target.now c.args.depth (Next ∷ c.args.walk.now.works) (type_step n ts) c.args.walk.now.made)
    c.in-Operator.is v in
    subst (λ l. IsTypeWalk given root c.put_operator.new.target c.args.depth l ts c.put_operator.new.made) (sym pushed)
    (type_operator given root c.args.target.now c.args.depth c.args.walk.now.works c.in-Operator.name c.in-Operator.arity ts c.args.walk.now.made w
    c.put_operator.new.target c.put_operator.new.made c.put_operator.ensures.grows c.in_ok-put_operator-in-Operator.ensures.made))
    c.push.ensures.pushed
