use Rattle.std.proofs.Common.{◌∙◌, ap, codes, option_map}
use Rattle.std.specs.Prelude.{option_and_then}
use Rattle.clap.specs.Matches.{found_of}
use Rattle.clap.proofs.WalkLemmas.{first_value-rows}
use Rattle.bridge_spec.specs.Forms.{trial, trial_of}
use Rattle.bridge_words.proofs.form.trial_in.Goals as goal

pub returns-in-Some-number_up_to : goal.returns-in-Some-number_up_to
returns-in-Some-number_up_to c =
    ap (option_map trial) (c.in-Some-number_up_to.ensures ∙ ap trial_of c.as_bytes.ensures.value)
    ∙ ap (option_and_then (λ word. option_map trial (trial_of word))) (c.in-Some.ensures ∙ first_value-rows (found_of c.args.found.now) (codes "blocks"))

pub returns-in-None-number_up_to : goal.returns-in-None-number_up_to
returns-in-None-number_up_to c =
    ap (option_map trial) (c.in-None-number_up_to.ensures ∙ ap trial_of c.as_bytes.ensures.value)
    ∙ ap (option_and_then (λ word. option_map trial (trial_of word))) (c.in-Some.ensures ∙ first_value-rows (found_of c.args.found.now) (codes "blocks"))

pub returns-in-None : goal.returns-in-None
returns-in-None c = ap (option_and_then (λ word. option_map trial (trial_of word)))
    (c.in-None.ensures ∙ first_value-rows (found_of c.args.found.now) (codes "blocks"))
