use Rattle.std.proofs.Common.{◌∙◌}
use Rattle.hol_defs.proofs.UseLaws.{instance-found}
use Rattle.hol_defs.proofs.uses.is_instance.Goals as goal

pub returns : goal.returns
returns c = c.is_some.ensures ∙ instance-found c.args.types.now _ _ _ c.in_ok-found.ensures.matches
