use Rattle.std.proofs.Common.{arith}
use Rattle.hol_term.proofs.Typings.{applied_alike, applied_apart}
use Rattle.hol_term.proofs.TermTable.applied.Goals as goal

pub returns-in-Some : goal.returns-in-Some
returns-in-Some c =
    rw (← c.self.view_is)
    (λ o p ho hp. applied_alike _ _ _ _ _ c.in-Some.domain c.in-Some.codomain c.in-Some-Some.is-0 c.in-Some-Some.is-1 c.in-Some.ensures.parts o p ho hp
    c.in-Some.ensures.codomain (grind arith))

pub returns-in_default-function_parts : goal.returns-in_default-function_parts
returns-in_default-function_parts c =
    rw (← c.self.view_is)
    (λ o p ho hp. applied_apart _ _ _ _ _ c.in-Some.domain c.in-Some.codomain c.in-Some-Some.is-0 c.in-Some-Some.is-1 c.in-Some.ensures.parts o p ho hp
    c.self.invariant.one_each c.in-Some.ensures.domain (grind arith))
