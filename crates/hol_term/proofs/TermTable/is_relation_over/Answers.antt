use Rattle.std.proofs.Common.{◌≡◌, ap, ◌∙◌, arith}
use Rattle.hol_spec.specs.Primitives.{equality_type}
use Rattle.hol_type.specs.Tables.{tree_at}
use Rattle.hol_term.proofs.Shaped.{relation_over}
use Rattle.hol_term.proofs.TermTable.is_relation_over.Goals as goal

pub returns-then-eq : goal.returns-then-eq
returns-then-eq c = λ h.
    let r = rw (← c.self.view_is) at (c.is_relation.ensures.0 h) in
    let e : c.in-Some.domain.0 ≡ c.args.ty.0 = grind arith in
    rw (← c.self.view_is) (relation_over c.self.inside.types c.args.relation c.in-Some.domain _ c.in-Some.ensures.parts r
    ∙ ap (λ i. equality_type (tree_at c.self.inside.types i)) e)
