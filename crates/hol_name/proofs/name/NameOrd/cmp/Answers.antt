use Rattle.std.proofs.Common.{sym, ◌∙◌}
use Rattle.std.specs.Cmp.Lexicographic.{slice_cmp}
use Rattle.std.specs.Cmp.Derive.Mapped.{lex_map}
use Rattle.std.specs.Ordering.{nat_cmp}
use Rattle.hol_name.proofs.name.NameOrd.cmp.Goals as goal

pub returns : goal.returns
returns c = rw (← c.components.ensures.are, ← c.components-2.ensures.are)
    (c.cmp.ensures ∙ sym (lex_map (λ component. component.items) (slice_cmp nat_cmp) c.components.result.now c.components-2.result.now))
