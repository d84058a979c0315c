use Rattle.std.proofs.Common.{◌≡◌, ◌≤◌, List, subst, arith}
use Rattle.std.specs.Prelude.{IsTrue, ◌↔◌}
use Rattle.hol_spec.specs.Limits.{greatest_depth, term_depth}
use Rattle.hol_spec.specs.Primitives.{bool}
use Rattle.hol_spec.specs.Types.{HolType}
use Rattle.hol_type.specs.Tables.{tree_at}
use Rattle.hol_term.specs.Tables.{term_at, type_at}
use Rattle.decode_back.proofs.JudgeLemmas.{bounded-told}
use Rattle.decode_back.proofs.judging.is_formula.Goals as goal

pub returns-in-Some : goal.returns-in-Some
returns-in-Some c =
    let shallow : term_depth (term_at c.args.table.now c.args.id.0) ≤ greatest_depth = omega (arith, c.depth.ensures, c.if-depth.false) in
    bounded-told c.is_bool.result (term_at c.args.table.now c.args.id.0) (type_at c.args.table.now c.in-Some.ty.0) shallow c.in-Some.ensures.typed.1
    (subst (λ (ts : List HolType). IsTrue c.is_bool.result ↔ (tree_at ts c.in-Some.ty.0 ≡ bool)) c.types.ensures.types c.is_bool.ensures.is)
