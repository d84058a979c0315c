-- What a call leaves of a module: its table may have grown, and its declarations stay.
use Rattle.std.specs.Prelude.{◌≡◌}
use Rattle.lp_term.specs.Tables.{Keeps}
use Rattle.holide_sig.specs.declared.module.Module.{Module}

-- every number keeps its tree, and the declarations stay
pub record Grows (old new : Module) : Type 0 where
  pub keeps : Keeps old.table new.table
  pub decls : new.decls ≡ old.decls
