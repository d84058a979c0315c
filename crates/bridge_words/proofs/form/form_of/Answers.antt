use Rattle.std.proofs.Common.{◌∙◌, sym, subst, IfOk, option_map, ◌≡◌, ap}
use Rattle.std.proofs.lemmas.Result.{IfOk-weaker}
use Rattle.clap.specs.Simple.{app_of, subcommand_rows_of}
use Rattle.clap.specs.Values.{kind_of}
use Rattle.bridge_spec.specs.Calls.{form_in, names_in}
use Rattle.bridge_words.specs.Asked.{asked}
use Rattle.bridge_words.specs.Refused.{refused}
use Rattle.bridge_words.proofs.Answering.{unreadable, accepted, refused-form}
use Rattle.bridge_words.proofs.form.form_of.Goals as goal

pub returns-then-not-are_readable : goal.returns-then-not-are_readable
returns-then-not-are_readable c = unreadable (names_in c.args.words.now) c.if-not-are_readable.ensures

pub returns-in-Ok : goal.returns-in-Ok
returns-in-Ok c =
    let form = accepted (app_of c.in_ok-command.field-0) (names_in c.args.words.now) (subcommand_rows_of c.in-Ok.matches) c.in_ok-command.ensures
    c.if-not-are_readable.ensures
    c.in-Ok.ensures.kinds (λ simple. (c.in-Ok.ensures.matches simple).1) in
    IfOk-weaker c.form_asked.result _ _ (λ found h. h ∙ form) c.form_asked.ensures

pub returns-in-Err : goal.returns-in-Err
returns-in-Err c =
    let form = refused-form (app_of c.in_ok-command.field-0) (names_in c.args.words.now) (kind_of c.in-Err.error) c.in_ok-command.ensures
    c.if-not-are_readable.ensures c.in-Err.ensures.kinds in
    subst (λ r. IfOk r (λ found. option_map asked found ≡ form_in c.args.words.now)) (sym (c.no_form.ensures ∙ ap refused c.kind.ensures)) form
