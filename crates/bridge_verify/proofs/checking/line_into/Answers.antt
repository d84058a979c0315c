use Rattle.std.proofs.Common.{◌++◌, ap, ◌∙◌}
use Rattle.holide_sig.specs.Modules.{declarations_of}
use Rattle.dk_write.specs.Lines.{line_at}
use Rattle.bridge_verify.proofs.checking.line_into.Goals as goal

pub returns-in-Ok-clause-text : goal.returns-in-Ok-clause-text
returns-in-Ok-clause-text c =
    c.in-Ok.ensures.ok
    ∙ ap (λ l. l ++ line_at (declarations_of c.args.translation.now.module) c.deref.result.now c.args.i) c.requires.empty
    ∙ ap (λ bounds. line_at (declarations_of c.args.translation.now.module) bounds c.args.i) c.deref.ensures.value
