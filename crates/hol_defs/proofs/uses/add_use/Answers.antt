use Rattle.std.proofs.Common.{ap, ◌∙◌, ◌∷◌, [], length}
use Rattle.std.specs.Prelude.{take}
use Rattle.hol_spec.specs.Lists.{union}
use Rattle.hol_defs.specs.Indexes.{same_use}
use Rattle.hol_defs.proofs.UseLaws.{take-united}
use Rattle.hol_defs.proofs.uses.add_use.Goals as goal

pub returns-in-Ok-clause-uses : goal.returns-in-Ok-clause-uses
returns-in-Ok-clause-uses c = c.in_ok-add.ensures.added ∙ (λ j. union same_use c.args.uses.now ((c.in_ok-clone.ensures.cases j, c.args.arity) ∷ []))

pub returns-in-Err-clause-no_use : goal.returns-in-Err-clause-no_use
returns-in-Err-clause-no_use c =
    c.cut.ensures ∙ ap (λ n. take n c.add.new.self) c.len-count.ensures ∙ ap (take (length c.args.uses.now)) c.in_ok-add.ensures.added
    ∙ take-united same_use c.args.uses.now (c.in_ok-clone.field-0, c.args.arity)
