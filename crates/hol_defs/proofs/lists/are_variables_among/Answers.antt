use Rattle.std.proofs.Common.{ap, ◌∙◌}
use Rattle.std.specs.List.{list_all}
use Rattle.hol_spec.specs.Lists.{is_in}
use Rattle.hol_term.specs.Tables.{term_at}
use Rattle.hol_defs.specs.Lists.{same_variable}
use Rattle.hol_defs.proofs.PairLaws.{free-among}
use Rattle.hol_defs.proofs.lists.are_variables_among.Goals as goal

pub returns : goal.returns
returns c =
    c.are_in.ensures ∙ ap (list_all (λ v. is_in same_variable v c.args.variables.now)) c.deref.ensures.value
    ∙ free-among c.args.table.now c.free_vars.ensures.one_each c.args.variables.now c.in_ok-free.free.items (term_at c.args.table.now c.args.term.0)
    c.requires.variables c.in_ok-free.ensures.known c.in_ok-free.ensures.variables
