use Rattle.std.proofs.Common.{◌∙◌, ◌∷◌, []}
use Rattle.hol_spec.specs.Lists.{union}
use Rattle.hol_defs.specs.Indexes.{same_use}
use Rattle.hol_defs.proofs.tables.Uses.add.Goals as goal

pub returns-clause-added : goal.returns-clause-added
returns-clause-added c = c.in_ok-insert_full.ensures.keys ∙ (λ j. union same_use (c.self.view_is j) (c.args.operator ∷ []))
