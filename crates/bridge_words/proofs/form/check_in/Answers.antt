use Rattle.std.proofs.Common.{◌∙◌, ap, ap₂, codes, Some}
use Rattle.clap.specs.Matches.{found_of}
use Rattle.clap.specs.Walk.{first_of, rows_of}
use Rattle.clap.proofs.WalkLemmas.{first_value-rows}
use Rattle.bridge_spec.specs.Forms.{budget_in, check_in}
use Rattle.bridge_words.specs.Matches.{flag_in}
use Rattle.bridge_words.proofs.form.check_in.Goals as goal

pub returns-in-Some-budget_in : goal.returns-in-Some-budget_in
returns-in-Some-budget_in c =
    let found = found_of c.args.found.now in
    let file = c.in-Some.ensures ∙ first_value-rows found (codes "file") in
    let budget = c.in-Some-budget_in.ensures ∙ ap budget_in (c.get_str-in-Some.ensures ∙ first_value-rows found (codes "budget")) in
    ap (λ fast. check_in fast (Some c.in-Some.file.now) (Some c.in-Some-budget_in.budget)) c.flag_in.ensures
    ∙ ap₂ (check_in (flag_in (codes "fast") (rows_of found))) file budget

pub returns-in-None-budget_in : goal.returns-in-None-budget_in
returns-in-None-budget_in c =
    let found = found_of c.args.found.now in
    ap₂ (check_in (flag_in (codes "fast") (rows_of found))) (c.in-Some.ensures ∙ first_value-rows found (codes "file"))
    (c.in-None-budget_in.ensures ∙ ap budget_in (c.get_str-in-Some.ensures ∙ first_value-rows found (codes "budget")))

pub returns-in-None : goal.returns-in-None
returns-in-None c =
    let found = found_of c.args.found.now in
    ap (λ file. check_in (flag_in (codes "fast") (rows_of found)) file (budget_in (first_of (codes "budget") (rows_of found))))
    (c.in-None.ensures ∙ first_value-rows found (codes "file"))
