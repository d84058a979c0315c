use Rattle.std.proofs.Common.{[], ◌∷◌, refl, sym, subst}
use Rattle.sequent.specs.Closed.{spelled_types}
use Rattle.translate_term.specs.declared.closed.TypeWork.TheVariants.{Next}
use Rattle.translate_term.specs.Closed.{IsTypeWalk}
use Rattle.translate_term.proofs.ListSteps.{first-rest, no-item}
use Rattle.translate_term.proofs.ClosedTurns.{type_leaf}
use Rattle.translate_term.proofs.closed.begin_type.Goals as goal

pub visit_type-requires : goal.visit_type-requires
visit_type-requires c =
    let q = c.requires in
    let e = first-rest c.args.nodes.now c.node-item.result c.node-item.is c.in-len1-up.len_at_least in (
      q.0,
      q.1,
      _,
      subst (λ l. IsTypeWalk q.0 q.1 c.args.target.now c.args.depth (Next ∷ c.args.walk.now.works) (spelled_types l) c.args.walk.now.made) (sym e)
          q.2,
    )

pub returns-in_ok-put_type_variable-in-empty-clause-walk : goal.returns-in_ok-put_type_variable-in-empty-clause-walk
returns-in_ok-put_type_variable-in-empty-clause-walk c =
    λ given root w.
    let e = no-item c.args.nodes.now c.in-empty.len_below in
    subst (λ l. IsTypeWalk given root c.put_type_variable.new.target c.args.depth c.args.walk.now.works (spelled_types l) c.put_type_variable.new.made) (sym e)
    (type_leaf given root c.args.target.now c.args.depth c.args.walk.now.works c.put_type_variable.new.target 0 [] c.args.walk.now.made
    c.put_type_variable.new.made refl c.put_type_variable.ensures.grows c.in_ok-put_type_variable-in-empty.ensures.made
    (subst (λ l. IsTypeWalk given root c.args.target.now c.args.depth (Next ∷ c.args.walk.now.works) (spelled_types l) c.args.walk.now.made) e w))

pub returns-in_ok-visit_type-in-len1-up-clause-walk : goal.returns-in_ok-visit_type-in-len1-up-clause-walk
returns-in_ok-visit_type-in-len1-up-clause-walk c =
    λ given root w.
    let e = first-rest c.args.nodes.now c.node-item.result c.node-item.is c.in-len1-up.len_at_least in
    c.in_ok-visit_type-in-len1-up.ensures.walk given root _
    (subst (λ l. IsTypeWalk given root c.args.target.now c.args.depth (Next ∷ c.args.walk.now.works) (spelled_types l) c.args.walk.now.made) (sym e) w)
