use Rattle.std.proofs.Common.{arith, ◌∙◌, sym, subst}
use Rattle.hol_term.specs.Tables.{term_at, type_at}
use Rattle.lp_spec.specs.Trees.{App, Lam}
use Rattle.lp_term.specs.declared.LpId.{LpId}
use Rattle.lp_term.specs.TableLaws as lp_reduction_laws
use Rattle.translate_term.specs.Tasks.{IsNoted}
use Rattle.translate_term.specs.Walks.{IsMadeAt}
use Rattle.translate_term.proofs.EndsLaws.{OnOk-always, OnOk-map, join-less}
use Rattle.translate_term.specs.GrowLaws.{Grows-trans, IsTypeMemo-Keeps}
use Rattle.translate_term.proofs.MadeLaws.{is_some-unless, if_some}
use Rattle.translate_term.proofs.TermTurns.{application-done, abstraction-done, start-of, term_joined, lam-wanted}
use Rattle.translate_term.proofs.terms.join.Goals as goal
use Rattle.std.proofs.Math.Path.{ap₂}

pub unwrap-function-requires : goal.unwrap-function-requires
unwrap-function-requires c =
    let w = c.requires.2 in
    let done = (application-done c.args.source.table.now c.args.place _ c.in-App.ensures.distinct c.in-App.f c.in-App.x
    (omega (arith, c.in-App.ensures.lower.0, w.ends.0.known)) (omega (arith, c.in-App.ensures.lower.1, w.ends.0.known)) c.in-App.ensures.is w.ends.1).0 in
    let absent = rw c.at.ensures at c.find.ensures.absent in
    is_some-unless c.find.result absent (λ none. none done.0 done.1)

pub unwrap-argument-requires : goal.unwrap-argument-requires
unwrap-argument-requires c =
    let w = c.requires.2 in
    let done = (application-done c.args.source.table.now c.args.place _ c.in-App.ensures.distinct c.in-App.f c.in-App.x
    (omega (arith, c.in-App.ensures.lower.0, w.ends.0.known)) (omega (arith, c.in-App.ensures.lower.1, w.ends.0.known)) c.in-App.ensures.is w.ends.1).1 in
    let absent = rw c.at-in-App.ensures at c.find-in-App.ensures.absent in
    is_some-unless c.find-in-App.result absent (λ none. none done.0 done.1)

pub note_node-requires : goal.note_node-requires
note_node-requires c =
    let w = c.requires.2 in (
      lp_reduction_laws.Holds-within _ c.unwrap-function.result.0 _
          (w.noted _ _ (if_some _ c.find.result c.unwrap-function.result c.unwrap-function.ensures c.find.ensures.noted)),
      lp_reduction_laws.Holds-within _ c.unwrap-argument.result.0 _
          (w.noted _ _ (if_some _ c.find-in-App.result c.unwrap-argument.result c.unwrap-argument.ensures c.find-in-App.ensures.noted)),
    )

pub unwrap-inside-requires : goal.unwrap-inside-requires
unwrap-inside-requires c =
    let w = c.requires.2 in
    let done = abstraction-done c.args.source.table.now c.args.place _ c.in-Lam.ensures.distinct c.in-Lam.ty c.in-Lam.body
    (omega (arith, c.in-Lam.ensures.lower.1, w.ends.0.known)) c.in-Lam.ensures.is w.ends.1 in
    let absent = rw c.at-in-Lam.ensures at c.find-in-Lam.ensures.absent in
    is_some-unless c.find-in-Lam.result absent (λ none. none done.0 done.1)

pub note_node-requires-in-Lam : goal.note_node-requires-in-Lam
note_node-requires-in-Lam c =
    let w = c.requires.2 in
    let start = start-of c.requires.0 c.requires.1 _ _ _ c.args.source.scope.now.terms c.args.place c.args.walk.now.tasks c.args.walk.now.made _ w.ends.0 _
    c.in-Lam.ensures.is c.in-Lam.ty c.in-Lam.ensures.lower.0 (λ t. t.0) w.reads w.types_noted in (
      lp_reduction_laws.Holds-within _ c.in_ok-domain-in-Lam.domain.0 _ (c.in_ok-domain-in-Lam.ensures.made c.requires.0 start),
      lp_reduction_laws.Holds-within _ c.unwrap-inside.result.0 _
          (c.in_ok-domain-in-Lam.ensures.grows.table.stays.each _ _
          (w.noted _ _ (if_some _ c.find-in-Lam.result c.unwrap-inside.result c.unwrap-inside.ensures c.find-in-Lam.ensures.noted))),
    )

pub returns-in-App-clause-walk : goal.returns-in-App-clause-walk
returns-in-App-clause-walk c =
    let nf = rw c.at.ensures at
    (if_some {X = LpId} (λ r. IsNoted c.args.walk.now.made c.at.result r) c.find.result c.unwrap-function.result c.unwrap-function.ensures
    c.find.ensures.noted) in
    let nx = rw c.at-in-App.ensures at
    (if_some {X = LpId} (λ r. IsNoted c.args.walk.now.made c.at-in-App.result r) c.find-in-App.result c.unwrap-argument.result c.unwrap-argument.ensures
    c.find-in-App.ensures.noted) in
    OnOk-map c.note_node.result
    (λ made given root w.
    term_joined given root _ _ _ _ c.args.place _ _ _ _ c.note_node.ensures.grows _ _ _ c.in-App.ensures.is
    (subst (IsMadeAt c.args.place c.args.walk.now.made c.note_node.new.made c.note_node.new.target.table)
    (ap₂ App (lp_reduction_laws.Holds-tree_at _ c.unwrap-function.result.0 _ (w.noted _ _ nf))
    (lp_reduction_laws.Holds-tree_at _ c.unwrap-argument.result.0 _ (w.noted _ _ nx))) made)
    (IsTypeMemo-Keeps c.note_node.ensures.grows.table given _ _ w.types_noted) w)
    c.note_node.ensures.made

pub returns-in_ok-domain-in-Lam-clause-walk : goal.returns-in_ok-domain-in-Lam-clause-walk
returns-in_ok-domain-in-Lam-clause-walk c =
    let nb = rw c.at-in-Lam.ensures at
    (if_some {X = LpId} (λ r. IsNoted c.args.walk.now.made c.at-in-Lam.result r) c.find-in-Lam.result c.unwrap-inside.result c.unwrap-inside.ensures
    c.find-in-Lam.ensures.noted) in
    OnOk-map c.note_node-in-Lam.result
    (λ made given root w.
    let start = start-of given root _ _ _ c.args.source.scope.now.terms c.args.place c.args.walk.now.tasks c.args.walk.now.made _ w.ends.0 _ c.in-Lam.ensures.is
    c.in-Lam.ty c.in-Lam.ensures.lower.0 (λ t. t.0) w.reads w.types_noted in
    let inside = c.in_ok-domain-in-Lam.ensures.grows.table.stays.each _ _ (w.noted _ _ nb) in
    term_joined given root _ _ _ _ c.args.place _ _ _ _ (Grows-trans c.in_ok-domain-in-Lam.ensures.grows c.note_node-in-Lam.ensures.grows) _ _ _
    c.in-Lam.ensures.is
    (subst (IsMadeAt c.args.place c.args.walk.now.made c.note_node-in-Lam.new.made c.note_node-in-Lam.new.target.table)
    (ap₂ Lam (lp_reduction_laws.Holds-tree_at _ c.in_ok-domain-in-Lam.domain.0 _ (c.in_ok-domain-in-Lam.ensures.made given start))
    (lp_reduction_laws.Holds-tree_at _ c.unwrap-inside.result.0 _ inside)
    ∙ sym (lam-wanted given c.args.place.depth (type_at c.args.source.table.now c.in-Lam.ty.0) (term_at c.args.source.table.now c.in-Lam.body.0))) made)
    (IsTypeMemo-Keeps c.note_node-in-Lam.ensures.grows.table given _ _ (c.in_ok-domain-in-Lam.ensures.noted given start)) w)
    c.note_node-in-Lam.ensures.made

pub returns-in_ok-domain-in-Lam-clause-grows : goal.returns-in_ok-domain-in-Lam-clause-grows
returns-in_ok-domain-in-Lam-clause-grows c = Grows-trans c.in_ok-domain-in-Lam.ensures.grows c.note_node-in-Lam.ensures.grows

pub returns-in-App-clause-less : goal.returns-in-App-clause-less
returns-in-App-clause-less c = OnOk-always c.note_node.result (join-less _ c.args.place _)

pub returns-in_ok-domain-in-Lam-clause-less : goal.returns-in_ok-domain-in-Lam-clause-less
returns-in_ok-domain-in-Lam-clause-less c = OnOk-always c.note_node-in-Lam.result (join-less _ c.args.place _)
