use Rattle.std.proofs.Common.{◌∙◌}
use Rattle.std.proofs.Math.Seq.{take-append_seam}
use Rattle.hol_rules.proofs.ListTaken.{hyps-terms, concl-term}
use Rattle.hol_rules.proofs.const_lists.take_constants.Goals as goal

pub define_list-requires-clause-hyps : goal.define_list-requires-clause-hyps
define_list-requires-clause-hyps c = rw c.ids-hyps.ensures.numbers (hyps-terms c.args.terms.now c.args.list.premise.now c.requires.premise)

pub define_list-requires-clause-concl : goal.define_list-requires-clause-concl
define_list-requires-clause-concl c = concl-term c.args.terms.now c.args.list.premise.now c.requires.premise

pub returns-in-Ok-clause-takes : goal.returns-in-Ok-clause-takes
returns-in-Ok-clause-takes c = rw (c.in-Ok.ensures.table, c.ids-hyps.ensures.numbers) at c.in-Ok.ensures.takes

pub returns-in-Ok-clause-fits : goal.returns-in-Ok-clause-fits
returns-in-Ok-clause-fits c = rw c.ids-hyps.ensures.numbers at c.in-Ok.ensures.fits

pub returns-in-Ok-clause-known : goal.returns-in-Ok-clause-known
returns-in-Ok-clause-known c = rw c.in-Ok.ensures.table at c.in-Ok.ensures.known

pub returns-in-Err-clause-known : goal.returns-in-Err-clause-known
returns-in-Err-clause-known c = rw c.in-Err.ensures.table at c.in-Err.ensures.known

pub returns-in-Err-clause-unnoted : goal.returns-in-Err-clause-unnoted
returns-in-Err-clause-unnoted c = rw (c.truncate.ensures.items, c.in_ok-note_made.ensures.noted, c.len-count.ensures ∙ c.args.made.now.ok.0)
    (take-append_seam c.args.made.now.items _)
