use Rattle.article_spec.specs.declared.commands.Item.TheVariants as item
use Rattle.article_write_spec.specs.Drafts.{Draft, say_name, write_list}
use Rattle.article_steps.proofs.SaidLaws.{appends-say, appends-list, appends-then}
use Rattle.article_steps.proofs.AddsLaws.{adds-say, adds-then, adds-stop}
use Rattle.article_steps.proofs.given.write_operator.Goals as goal

pub returns-in_err-write_name : goal.returns-in_err-write_name
returns-in_err-write_name g c =
    adds-stop c.args.terms.now (say_name c.args.operator.op.now)
    (λ (d : Draft). write_list say_name c.args.operator.names.now (say_name c.args.operator.rep.now (say_name c.args.operator.abs.now d))) _ _ _ _ _ _ _ _ _
    _ _ (appends-then (λ (d : Draft). say_name c.args.operator.rep.now (say_name c.args.operator.abs.now d)) (write_list say_name c.args.operator.names.now)
    (appends-then (say_name c.args.operator.abs.now) (say_name c.args.operator.rep.now) (appends-say (item.Name c.args.operator.abs.now))
    (appends-say (item.Name c.args.operator.rep.now))) (appends-list say_name (λ n. appends-say (item.Name n)) c.args.operator.names.now))
    c.in_err-write_name.was c.from_residual.ensures.0
    (adds-say c.args.terms.now (item.Name c.args.operator.op.now) c.args.keys.now c.args.room.now.room _ _ _ _ _ c.requires c.write_name.ensures)

pub returns-in_err-write_name-2 : goal.returns-in_err-write_name-2
returns-in_err-write_name-2 g c =
    adds-stop c.args.terms.now (λ (d : Draft). say_name c.args.operator.abs.now (say_name c.args.operator.op.now d))
    (λ (d : Draft). write_list say_name c.args.operator.names.now (say_name c.args.operator.rep.now d)) _ _ _ _ _ _ _ _ _ _ _
    (appends-then (say_name c.args.operator.rep.now) (write_list say_name c.args.operator.names.now) (appends-say (item.Name c.args.operator.rep.now))
    (appends-list say_name (λ n. appends-say (item.Name n)) c.args.operator.names.now)) c.in_err-write_name-2.was
    c.from_residual-in_err-write_name-2.ensures.0
    (adds-then c.args.terms.now (say_name c.args.operator.op.now) (say_name c.args.operator.abs.now) _ _ _ _ _ _ _ _ _ _ _ _ _ _
    (appends-say (item.Name c.args.operator.abs.now)) c.in_ok-write_name.was
    (adds-say c.args.terms.now (item.Name c.args.operator.op.now) c.args.keys.now c.args.room.now.room _ _ _ _ _ c.requires c.write_name.ensures)
    (adds-say c.args.terms.now (item.Name c.args.operator.abs.now) c.args.keys.now c.args.room.now.room _ _ _ _ _ c.requires c.write_name-2.ensures))

pub returns-in_err-write_name-3 : goal.returns-in_err-write_name-3
returns-in_err-write_name-3 g c =
    adds-stop c.args.terms.now (λ (d : Draft). say_name c.args.operator.rep.now (say_name c.args.operator.abs.now (say_name c.args.operator.op.now d)))
    (write_list say_name c.args.operator.names.now) _ _ _ _ _ _ _ _ _ _ _ (appends-list say_name (λ n. appends-say (item.Name n)) c.args.operator.names.now)
    c.in_err-write_name-3.was c.from_residual-in_err-write_name-3.ensures.0
    (adds-then c.args.terms.now (λ d. say_name c.args.operator.abs.now (say_name c.args.operator.op.now d)) (say_name c.args.operator.rep.now) _ _ _ _ _ _ _
    _ _ _ _ _ _ _ (appends-say (item.Name c.args.operator.rep.now)) c.in_ok-write_name-2.was
    (adds-then c.args.terms.now (say_name c.args.operator.op.now) (say_name c.args.operator.abs.now) _ _ _ _ _ _ _ _ _ _ _ _ _ _
    (appends-say (item.Name c.args.operator.abs.now)) c.in_ok-write_name.was
    (adds-say c.args.terms.now (item.Name c.args.operator.op.now) c.args.keys.now c.args.room.now.room _ _ _ _ _ c.requires c.write_name.ensures)
    (adds-say c.args.terms.now (item.Name c.args.operator.abs.now) c.args.keys.now c.args.room.now.room _ _ _ _ _ c.requires c.write_name-2.ensures))
    (adds-say c.args.terms.now (item.Name c.args.operator.rep.now) c.args.keys.now c.args.room.now.room _ _ _ _ _ c.requires c.write_name-3.ensures))

pub returns : goal.returns
returns g c =
    adds-then c.args.terms.now (λ (d : Draft). say_name c.args.operator.rep.now (say_name c.args.operator.abs.now (say_name c.args.operator.op.now d)))
    (write_list say_name c.args.operator.names.now) _ _ _ _ _ _ _ _ _ _ _ _ _ _
    (appends-list say_name (λ n. appends-say (item.Name n)) c.args.operator.names.now) c.in_ok-write_name-3.was
    (adds-then c.args.terms.now (λ d. say_name c.args.operator.abs.now (say_name c.args.operator.op.now d)) (say_name c.args.operator.rep.now) _ _ _ _ _ _ _
    _ _ _ _ _ _ _ (appends-say (item.Name c.args.operator.rep.now)) c.in_ok-write_name-2.was
    (adds-then c.args.terms.now (say_name c.args.operator.op.now) (say_name c.args.operator.abs.now) _ _ _ _ _ _ _ _ _ _ _ _ _ _
    (appends-say (item.Name c.args.operator.abs.now)) c.in_ok-write_name.was
    (adds-say c.args.terms.now (item.Name c.args.operator.op.now) c.args.keys.now c.args.room.now.room _ _ _ _ _ c.requires c.write_name.ensures)
    (adds-say c.args.terms.now (item.Name c.args.operator.abs.now) c.args.keys.now c.args.room.now.room _ _ _ _ _ c.requires c.write_name-2.ensures))
    (adds-say c.args.terms.now (item.Name c.args.operator.rep.now) c.args.keys.now c.args.room.now.room _ _ _ _ _ c.requires c.write_name-3.ensures))
    c.write_names.ensures
