use Rattle.std.proofs.Common.{refl, ap, ◌∙◌, nat_eq, length}
use Rattle.hol_spec.specs.Terms.{free_places}
use Rattle.hol_term.specs.Tables.{term_at}
use Rattle.hol_defs.proofs.PairLaws.{listed, variables-known, variables-once, all-among}
use Rattle.hol_defs.proofs.lists.is_list.Goals as goal

pub are_variables_among-requires-clause-variables : goal.are_variables_among-requires-clause-variables
are_variables_among-requires-clause-variables c = variables-known c.args.table.now c.args.pairs.now c.args.variables.now c.requires.variables c.requires.pairs

pub returns : goal.returns
returns c =
    let trees = c.args.table.now in
    let ps = c.args.pairs.now in
    let vs = c.args.variables.now in
    c.all_four.ensures
    ∙ listed trees ps c.args.hyps.now c.args.concl _ _ _ _ c.in_ok-names.ensures
    (ap (λ n. nat_eq n (length ps)) c.len.ensures ∙ variables-once trees c.requires.distinct ps vs c.requires.variables c.requires.pairs) refl
    (c.in_ok-among.ensures ∙ all-among trees c.requires.distinct ps vs c.requires.variables c.requires.pairs (free_places (term_at trees c.args.concl.0)))
