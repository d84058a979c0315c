use Rattle.std.proofs.Common.{◌≡◌, arith}
use Rattle.hol_term.proofs.Shaped.{relation_bool, is_relation}
use Rattle.hol_term.proofs.TermTable.is_relation.Goals as goal

pub returns : goal.returns
returns c =
    let e : c.in-Some.domain.0 ≡ c.in-Some-function_parts.second.0 = grind arith in
    let b = c.is_bool.ensures.is in
    rw (← c.self.view_is) (
      (λ h. is_relation c.self.inside.types c.args.ty c.in-Some.domain c.in-Some.predicate c.in-Some.ensures.parts c.in-Some-function_parts.second
          c.in-Some-function_parts.truth c.in-Some-function_parts.ensures.parts e (b.0 h)),
      (λ r. b.1 (relation_bool c.self.inside.types c.args.ty c.in-Some.domain c.in-Some.predicate c.in-Some.ensures.parts c.in-Some-function_parts.second
          c.in-Some-function_parts.truth c.in-Some-function_parts.ensures.parts r)),
    )
