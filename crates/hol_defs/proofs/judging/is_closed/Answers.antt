use Rattle.std.proofs.Common.{◌≡◌, length, arith, ap, sym, ◌∙◌, nat_eq}
use Rattle.std.proofs.lemmas.Grind.{common_steps}
use Rattle.hol_term.specs.Subterms.{variables_of}
use Rattle.hol_term.specs.Tables.{term_at}
use Rattle.hol_defs.proofs.JudgeLaws.{is_closed-listed, length-variables_of}
use Rattle.hol_defs.proofs.judging.is_closed.Goals as goal

pub returns : goal.returns
returns c =
    let e : c.len.result ≡ length c.in_ok-variables.variables.items = grind (arith, common_steps) in
    ap (λ n. nat_eq n 0) (e ∙ sym (length-variables_of c.args.table.now c.in_ok-variables.variables.items))
    ∙ is_closed-listed (term_at c.args.table.now c.args.term.0) (variables_of c.args.table.now c.in_ok-variables.variables.items)
    c.in_ok-variables.ensures.variables
