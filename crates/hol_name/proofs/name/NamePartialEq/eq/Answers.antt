use Rattle.std.proofs.Common.{sym, ◌∙◌}
use Rattle.std.specs.Str.{bytes_eq}
use Rattle.std.specs.Cmp.Derive.Mapped.{pointwise-map}
use Rattle.hol_name.proofs.name.NamePartialEq.eq.Goals as goal

pub returns : goal.returns
returns c = rw (← c.components.ensures.are, ← c.components-2.ensures.are)
    (c.eq.ensures ∙ sym (pointwise-map (λ component. component.items) bytes_eq c.components.result.now c.components-2.result.now))
