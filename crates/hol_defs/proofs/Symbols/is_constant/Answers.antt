use Rattle.std.proofs.Common.{ap, ◌∙◌}
use Rattle.std.specs.Prelude.{is_some}
use Rattle.hol_defs.specs.Symbols.{symbols_at}
use Rattle.hol_defs.proofs.IndexLaws.{constant_kind-taken}
use Rattle.hol_defs.proofs.Symbols.is_constant.Goals as goal

pub returns : goal.returns
returns c = λ trees h. c.is_some.ensures ∙ ap is_some (c.const_kind.ensures.kind trees h)
    ∙ constant_kind-taken (symbols_at trees c.args.self.now) c.args.name.now
