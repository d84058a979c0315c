use Rattle.hol_defs.specs.Lists.{variable_at}
use Rattle.article_spec.specs.declared.commands.Item.TheVariants as item
use Rattle.article_spec.specs.declared.commands.Word.TheVariants as word
use Rattle.article_write_spec.specs.Drafts.{Draft, say_name, say_word, conses}
use Rattle.article_write_spec.specs.WrittenTypes.{write_variable}
use Rattle.article_steps.proofs.SaidLaws.{appends-then, appends-variable, appends-listed}
use Rattle.article_steps.proofs.AddsLaws.{adds-say, adds-then, adds-stop}
use Rattle.article_steps.proofs.given.write_constant_pair.Goals as goal

pub returns-in_err-write_name : goal.returns-in_err-write_name
returns-in_err-write_name g c =
    adds-stop c.args.terms.now (say_name c.args.pair.now.0)
    (λ d. (λ (d : Draft). conses 2 (say_word word.Nil d)) ((write_variable (variable_at c.args.terms.now c.args.pair.now.1)) d)) _ _ _ _ _ _ _ _ _ _ _
    (appends-then (write_variable (variable_at c.args.terms.now c.args.pair.now.1)) (λ (d : Draft). conses 2 (say_word word.Nil d))
    (appends-variable (variable_at c.args.terms.now c.args.pair.now.1)) (appends-listed 2)) c.in_err-write_name.was c.from_residual.ensures.0
    (adds-say c.args.terms.now (item.Name c.args.pair.now.0) c.args.keys.now c.args.room.now.room _ _ _ _ _ c.requires.ready c.write_name.ensures)

pub returns-in_err-write_variable : goal.returns-in_err-write_variable
returns-in_err-write_variable g c =
    adds-stop c.args.terms.now (λ d. (write_variable (variable_at c.args.terms.now c.args.pair.now.1)) ((say_name c.args.pair.now.0) d))
    (λ (d : Draft). conses 2 (say_word word.Nil d)) _ _ _ _ _ _ _ _ _ _ _ (appends-listed 2) c.in_err-write_variable.was
    c.from_residual-in_err-write_variable.ensures.0
    (adds-then c.args.terms.now (say_name c.args.pair.now.0) (write_variable (variable_at c.args.terms.now c.args.pair.now.1)) _ _ _ _ _ _ _ _ _ _ _ _ _ _
    (appends-variable (variable_at c.args.terms.now c.args.pair.now.1)) c.in_ok-write_name.was
    (adds-say c.args.terms.now (item.Name c.args.pair.now.0) c.args.keys.now c.args.room.now.room _ _ _ _ _ c.requires.ready c.write_name.ensures)
    c.write_variable.ensures)

pub returns : goal.returns
returns g c =
    adds-then c.args.terms.now (λ d. (write_variable (variable_at c.args.terms.now c.args.pair.now.1)) ((say_name c.args.pair.now.0) d))
    (λ (d : Draft). conses 2 (say_word word.Nil d)) _ _ _ _ _ _ _ _ _ _ _ _ _ _ (appends-listed 2) c.in_ok-write_variable.was
    (adds-then c.args.terms.now (say_name c.args.pair.now.0) (write_variable (variable_at c.args.terms.now c.args.pair.now.1)) _ _ _ _ _ _ _ _ _ _ _ _ _ _
    (appends-variable (variable_at c.args.terms.now c.args.pair.now.1)) c.in_ok-write_name.was
    (adds-say c.args.terms.now (item.Name c.args.pair.now.0) c.args.keys.now c.args.room.now.room _ _ _ _ _ c.requires.ready c.write_name.ensures)
    c.write_variable.ensures) c.end_list.ensures
