use Rattle.hol_term.specs.Tables.{term_at}
use Rattle.article_spec.specs.declared.commands.Item.TheVariants as item
use Rattle.article_write_spec.specs.Drafts.{say_name}
use Rattle.article_write_spec.specs.WrittenTerms.{write_term}
use Rattle.article_steps.proofs.SaidLaws.{appends-under}
use Rattle.article_steps.proofs.AddsLaws.{adds-say, adds-then, adds-stop}
use Rattle.article_steps.proofs.given.write_constant.Goals as goal

pub returns-in_err-write_name : goal.returns-in_err-write_name
returns-in_err-write_name g c =
    adds-stop c.args.terms.now (say_name c.args.constant.name.now) (write_term c.args.number (term_at c.args.terms.now c.args.constant.id.0)) _ _ _ _ _ _ _ _ _
    _ _ (appends-under c.args.number _ (term_at c.args.terms.now c.args.constant.id.0)) c.in_err-write_name.was c.from_residual.ensures.0
    (adds-say c.args.terms.now (item.Name c.args.constant.name.now) c.args.keys.now c.args.room.now.room _ _ _ _ _ c.requires.ready c.write_name.ensures)

pub returns : goal.returns
returns g c =
    adds-then c.args.terms.now (say_name c.args.constant.name.now) (write_term c.args.number (term_at c.args.terms.now c.args.constant.id.0)) _ _ _ _ _ _ _ _ _
    _ _ _ _ _ (appends-under c.args.number _ (term_at c.args.terms.now c.args.constant.id.0)) c.in_ok-write_name.was
    (adds-say c.args.terms.now (item.Name c.args.constant.name.now) c.args.keys.now c.args.room.now.room _ _ _ _ _ c.requires.ready c.write_name.ensures)
    c.write_term.ensures
