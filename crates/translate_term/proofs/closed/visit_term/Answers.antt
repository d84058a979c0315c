use Rattle.std.proofs.Common.{arith, ◌∷◌, ap, refl, sym, subst, ◌∙◌}
use Rattle.hol_spec.specs.ClosedForm as form
use Rattle.sequent.specs.Closed.{term_step}
use Rattle.translate_term.specs.declared.closed.TermWork.TheVariants.{Next}
use Rattle.translate_term.specs.Closed.{IsTermWalk, types_under}
use Rattle.translate_term.specs.GrowLaws.{Grows-trans}
use Rattle.translate_term.proofs.EndsLaws.{OnOk-map}
use Rattle.translate_term.proofs.ClosedTurns.{term_leaf, term_number, constant_type, constant_typed, constant_made, application_set_out, abstraction_type, abstraction_set_out}
use Rattle.translate_term.proofs.closed.visit_term.Goals as goal

pub tree_of_type-requires : goal.tree_of_type-requires
tree_of_type-requires c =
    let q = c.requires in
    let w = subst (λ n. IsTermWalk q.0 q.1 c.args.target.now c.args.type_vars (Next c.args.depth ∷ c.args.walk.now.works) (term_step n q.2)
    c.args.walk.now.made) c.in-Constant.is q.3 in
    let t = constant_type q.0 q.1 c.args.target.now c.args.type_vars c.args.depth c.args.walk.now.works c.args.walk.now.made c.in-Constant.name c.in-Constant.ty
    q.2 w in
    (q.0, t.0, t.1)

pub put_constant-requires : goal.put_constant-requires
put_constant-requires c =
    let q = c.requires in
    let w = subst (λ n. IsTermWalk q.0 q.1 c.args.target.now c.args.type_vars (Next c.args.depth ∷ c.args.walk.now.works) (term_step n q.2)
    c.args.walk.now.made) c.in-Constant.is q.3 in
    let t = constant_type q.0 q.1 c.args.target.now c.args.type_vars c.args.depth c.args.walk.now.works c.args.walk.now.made c.in-Constant.name c.in-Constant.ty
    q.2 w in (
      q.0.symbols,
      types_under q.0 c.args.depth,
      t.0,
      constant_typed q.0 q.1 c.args.target.now c.args.type_vars c.args.depth c.args.walk.now.works c.args.walk.now.made c.in-Constant.name c.in-Constant.ty
          q.2 w c.tree_of_type.new.target c.in_ok-ty-in-Constant.ty c.tree_of_type.ensures.grows (c.in_ok-ty-in-Constant.ensures.made q.0 t.0 t.1),
    )

pub returns-in-Parameter-clause-walk : goal.returns-in-Parameter-clause-walk
returns-in-Parameter-clause-walk c =
    OnOk-map c.put_variable.result
    (λ put given root ts v.
    let w = subst (λ n. IsTermWalk given root c.args.target.now c.args.type_vars (Next c.args.depth ∷ c.args.walk.now.works) (term_step n ts)
    c.args.walk.now.made) c.in-Parameter.is v in
    term_leaf given root c.args.target.now c.args.type_vars c.args.depth c.args.walk.now.works c.args.walk.now.made c.put_variable.new.target
    c.in-Parameter.place (form.ClosedTerm.parameter c.in-Parameter.place ∷ ts) c.put_variable.new.made refl c.put_variable.ensures.grows put w)
    c.put_variable.ensures.made

pub returns-in-Bound-clause-walk : goal.returns-in-Bound-clause-walk
returns-in-Bound-clause-walk c =
    OnOk-map c.put_node.result
    (λ put given root ts v.
    let w = subst (λ n. IsTermWalk given root c.args.target.now c.args.type_vars (Next c.args.depth ∷ c.args.walk.now.works) (term_step n ts)
    c.args.walk.now.made) c.in-Bound.is v in
    term_number given root c.args.target.now c.args.type_vars c.args.depth c.args.walk.now.works c.args.walk.now.made c.put_node.new.target c.in-Bound.number ts
    c.put_node.new.made c.put_node.ensures.grows put w)
    c.put_node.ensures.made

pub returns-in_ok-ty-in-Constant-clause-walk : goal.returns-in_ok-ty-in-Constant-clause-walk
returns-in_ok-ty-in-Constant-clause-walk c =
    OnOk-map c.put_constant.result
    (λ put given root ts v.
    let w = subst (λ n. IsTermWalk given root c.args.target.now c.args.type_vars (Next c.args.depth ∷ c.args.walk.now.works) (term_step n ts)
    c.args.walk.now.made) c.in-Constant.is v in
    let t = constant_type given root c.args.target.now c.args.type_vars c.args.depth c.args.walk.now.works c.args.walk.now.made c.in-Constant.name
    c.in-Constant.ty ts w in
    let typed = constant_typed given root c.args.target.now c.args.type_vars c.args.depth c.args.walk.now.works c.args.walk.now.made c.in-Constant.name
    c.in-Constant.ty ts w c.tree_of_type.new.target c.in_ok-ty-in-Constant.ty c.tree_of_type.ensures.grows
    (c.in_ok-ty-in-Constant.ensures.made given t.0 t.1) in
    constant_made given root c.args.target.now c.args.type_vars c.args.depth c.args.walk.now.works c.args.walk.now.made c.in-Constant.name c.in-Constant.ty ts w
    c.put_constant.new.target c.put_constant.new.made (Grows-trans c.tree_of_type.ensures.grows c.put_constant.ensures.grows)
    (put given.symbols (types_under given c.args.depth) t.0 typed))
    c.put_constant.ensures.made

pub returns-in_ok-push-in-App-2-clause-walk : goal.returns-in_ok-push-in-App-2-clause-walk
returns-in_ok-push-in-App-2-clause-walk c =
    OnOk-map c.push-in-App-2.result
    (λ pushed given root ts v.
    let w = subst (λ n. IsTermWalk given root c.args.target.now c.args.type_vars (Next c.args.depth ∷ c.args.walk.now.works) (term_step n ts)
    c.args.walk.now.made) c.in-App.is v in
    let all = pushed ∙ ap (λ l. Next c.args.depth ∷ l)
    (c.in_ok-push-in-App-2.ensures.pushed ∙ ap (λ l. Next c.args.depth ∷ l) c.in_ok-push-in-App.ensures.pushed) in
    subst (λ l. IsTermWalk given root c.args.target.now c.args.type_vars l ts c.args.walk.now.made) (sym all)
    (application_set_out given root c.args.target.now c.args.type_vars c.args.depth c.args.walk.now.works c.args.walk.now.made ts w))
    c.push-in-App-2.ensures.pushed

pub tree_of_type-requires-in-Lam : goal.tree_of_type-requires-in-Lam
tree_of_type-requires-in-Lam c =
    let q = c.requires in
    let w = subst (λ n. IsTermWalk q.0 q.1 c.args.target.now c.args.type_vars (Next c.args.depth ∷ c.args.walk.now.works) (term_step n q.2)
    c.args.walk.now.made) c.in-Lam.is q.3 in
    let t = abstraction_type q.0 q.1 c.args.target.now c.args.type_vars c.args.depth c.args.walk.now.works c.args.walk.now.made c.in-Lam.ty q.2 w in
    (q.0, t.0, t.1)

pub returns-in_ok-push-in-Lam-2-clause-walk : goal.returns-in_ok-push-in-Lam-2-clause-walk
returns-in_ok-push-in-Lam-2-clause-walk c =
    OnOk-map c.push-in-Lam-3.result
    (λ pushed given root ts v.
    let w = subst (λ n. IsTermWalk given root c.args.target.now c.args.type_vars (Next c.args.depth ∷ c.args.walk.now.works) (term_step n ts)
    c.args.walk.now.made) c.in-Lam.is v in
    let t = abstraction_type given root c.args.target.now c.args.type_vars c.args.depth c.args.walk.now.works c.args.walk.now.made c.in-Lam.ty ts w in
    let all = pushed ∙ ap (λ l. Next c.in-Some.inside ∷ l) c.in_ok-push-in-Lam-2.ensures.pushed in
    subst (λ l. IsTermWalk given root c.tree_of_type-in-Lam.new.target c.args.type_vars l ts c.push-in-Lam.new.self) (sym all)
    (abstraction_set_out given root c.args.target.now c.args.type_vars c.args.depth c.args.walk.now.works c.args.walk.now.made c.in-Lam.ty ts w
    c.tree_of_type-in-Lam.new.target c.in-Some.inside c.push-in-Lam.new.self (let h = c.in-Some.ensures in omega (arith, h))
    c.tree_of_type-in-Lam.ensures.grows
    (record { id = c.in_ok-ty-in-Lam.ty; is = c.in_ok-push-in-Lam.ensures.pushed; holds = c.in_ok-ty-in-Lam.ensures.made given t.0 t.1 })))
    c.push-in-Lam-3.ensures.pushed
