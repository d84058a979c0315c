use Rattle.std.proofs.Common.{ap, sym, ◌∙◌, Some, arith}
use Rattle.hol_spec.specs.Terms.{free}
use Rattle.hol_term.specs.Tables.{term_at, type_at}
use Rattle.hol_term.specs.TableLaws.{Some-term_in}
use Rattle.hol_defs.proofs.EquationLaws.{says, says_nothing, side-says, said-typed}
use Rattle.hol_defs.proofs.JudgeLaws.{known_term}
use Rattle.hol_defs.proofs.lists.equation_of.Goals as goal

pub returns-in_default-clause-says : goal.returns-in_default-clause-says
returns-in_default-clause-says c = sym (says_nothing (term_at c.args.table.now c.args.hyp.0) c.in_default.ensures.none)

pub view-requires : goal.view-requires
view-requires c =
    let h = known_term c.args.table.now c.args.hyp.0 c.requires in
    let l = c.in-Some.ensures.left in
    omega (arith, h, l)

pub returns-in_ok-name-in-Free-clause-says : goal.returns-in_ok-name-in-Free-clause-says
returns-in_ok-name-in-Free-clause-says c =
    let trees = c.args.table.now in
    let l = term_at trees c.in-Some.left.0 in
    let r = term_at trees c.in-Some.term.0 in
    ap (λ n. Some ((n, type_at trees c.in-Free.ty.0), r)) c.in_ok-name-in-Free.ensures.cases
    ∙ sym (says (term_at trees c.args.hyp.0) l r c.in-Some.ensures.sides
    ∙ side-says l r c.in-Free.name.now (type_at trees c.in-Free.ty.0)
    (Some-term_in trees.terms c.in-Some.left.0 (free c.in-Free.name.now (type_at trees c.in-Free.ty.0)) c.in-Free.ensures.is))

pub returns-in_ok-name-in-Free-clause-known : goal.returns-in_ok-name-in-Free-clause-known
returns-in_ok-name-in-Free-clause-known c =
    let trees = c.args.table.now in
    let h = known_term trees c.args.hyp.0 c.requires in
    let r = c.in-Some.ensures.right in
    record {
      ty = c.in-Free.ensures.lower;
      term = omega (arith, h, r);
      typed = said-typed (term_at trees c.args.hyp.0) (term_at trees c.in-Some.left.0) (term_at trees c.in-Some.term.0) c.in-Free.name.now
          (type_at trees c.in-Free.ty.0) c.requires c.in-Some.ensures.sides
          (Some-term_in trees.terms c.in-Some.left.0 (free c.in-Free.name.now (type_at trees c.in-Free.ty.0)) c.in-Free.ensures.is);
    }
