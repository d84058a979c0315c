use Rattle.std.proofs.Common.{ap, sym, ◌∙◌}
use Rattle.std.specs.Prelude.{unwrap_or}
use Rattle.hol_spec.specs.Defining.{has_type_variables_of}
use Rattle.hol_spec.specs.Primitives.{bool}
use Rattle.hol_term.specs.Tables.{term_at}
use Rattle.hol_defs.proofs.JudgeLaws.{known_term}
use Rattle.hol_defs.proofs.judging.has_own_variables.Goals as goal

pub has_variables-requires-clause-term : goal.has_variables-requires-clause-term
has_variables-requires-clause-term c = known_term c.args.table.now c.args.term.0 c.requires

pub returns : goal.returns
returns c = c.in_ok-has.ensures ∙ ap (λ o. has_type_variables_of (unwrap_or o bool) (term_at c.args.table.now c.args.term.0)) (sym c.type_of.ensures.is)
