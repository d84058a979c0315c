use Rattle.std.proofs.Common.{◌∙◌, ◌-◌, length, refl, sym, ap, arith}
use Rattle.hol_term.specs.TableLaws.{Some-term_in}
use Rattle.article_spec.specs.declared.commands.Item.TheVariants as item
use Rattle.article_write_spec.specs.BinderNames.{binder_name}
use Rattle.article_lines.specs.Writing.{line}
use Rattle.article_steps.specs.Agendas.{bound_by}
use Rattle.article_lines.specs.WritingLaws.{writes_same}
use Rattle.article_steps.proofs.SaidLaws.{one-line}
use Rattle.article_steps.proofs.AgendaLaws.{goes-on, goes-quiet}
use Rattle.article_steps.proofs.JobSteps.{parts-free, parts-bound, parts-constant, parts-application, parts-abstraction}
use Rattle.article_steps.proofs.walk.do_term_parts.Goals as goal

pub returns-in-Free : goal.returns-in-Free
returns-in-Free g c =
    goes-on _ _ _ _ _ _ _ _ _ _ _ _ _ c.push_all.ensures c.requires
    (parts-free _ _ _ _ c.args.id c.in-Free.name.now c.in-Free.ty c.requires c.in-Free.ensures.lower
    (Some-term_in c.args.terms.now.terms c.args.id.0 _ c.in-Free.ensures.is))
    (writes_same _ _ (one-line (item.Name c.in-Free.name.now)) c.write_name.ensures)

pub returns-in-Bound : goal.returns-in-Bound
returns-in-Bound g c =
    goes-on _ _ _ _ _ _ _ _ _ _ _ _ _ c.push_all-in-Bound.ensures c.requires
    (parts-bound _ _ _ _ c.args.id c.in-Bound.within (c.depth-count.result - 1 - c.in-Bound.within) c.binder-ty.result c.requires
    (Some-term_in c.args.terms.now.terms c.args.id.0 _ c.in-Bound.ensures.is) c.binder-ty.ensures (omega (arith, c.depth-count.ensures)))
    (writes_same _ _ (one-line (item.Name (binder_name c.args.number (c.depth-count.result - 1 - c.in-Bound.within)))) c.write_binder.ensures)

pub returns-in-Const : goal.returns-in-Const
returns-in-Const g c =
    goes-on _ _ _ _ _ _ _ _ _ _ _ _ _ c.push_all-in-Const.ensures c.requires
    (parts-constant _ _ _ _ c.args.id c.in-Const.name.now c.in-Const.ty c.requires c.in-Const.ensures.lower
    (Some-term_in c.args.terms.now.terms c.args.id.0 _ c.in-Const.ensures.is))
    (writes_same _ _ (one-line (item.Name c.in-Const.name.now)) c.write_name-in-Const.ensures)

pub returns-in-App : goal.returns-in-App
returns-in-App g c =
    let known = c.requires.jobs.0.known in
    let lower = c.in-App.ensures.lower in
    goes-quiet _ _ _ _ _ _ _ _ _ _ _ refl c.push_all-in-App.ensures c.requires
    (parts-application _ _ _ _ c.args.id c.in-App.function c.in-App.argument c.requires (omega (arith, known, lower.0)) (omega (arith, known, lower.1))
    (Some-term_in c.args.terms.now.terms c.args.id.0 _ c.in-App.ensures.is))

pub returns-in-Lam : goal.returns-in-Lam
returns-in-Lam g c =
    let known = c.requires.jobs.0.known in
    let lower = c.in-Lam.ensures.lower in
    goes-on _ _ _ _ _ _ _ _ _ _ _ _ _ (c.bind.ensures ∙ ap (bound_by c.in-Lam.ty) c.push_all-in-Lam.ensures) c.requires
    (parts-abstraction _ _ _ _ c.args.id c.in-Lam.ty c.in-Lam.body c.requires lower.0 (omega (arith, known, lower.1))
    (Some-term_in c.args.terms.now.terms c.args.id.0 _ c.in-Lam.ensures.is))
    (writes_same _ _ (one-line (item.Name (binder_name c.args.number (length c.args.room.now.binders)))
    ∙ ap (λ n. line (item.Name (binder_name c.args.number n))) (sym c.depth-depth.ensures)) c.write_binder-in-Lam.ensures)
