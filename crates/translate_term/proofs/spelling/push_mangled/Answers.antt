use Rattle.std.proofs.Common.{◌∙◌, ◌++◌, [], ◌∷◌, append_assoc, ap, sym}
use Rattle.translate_term.proofs.spelling.push_mangled.Goals as goal

pub loop-byte-preserved : goal.loop-byte-preserved
loop-byte-preserved c =
    rw c.in_ok-push.ensures.items
    (append_assoc c.loop-byte.text.items (c.in-Some.byte ∷ []) c.next.new.self ∙ ap (λ l. c.loop-byte.text.items ++ l) (sym c.in-Some.ensures.steps)
    ∙ c.loop-byte.invariant)
