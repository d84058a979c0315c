use Rattle.std.proofs.Common.{◌≡◌, map, sym, ap, subst, ◌∙◌}
use Rattle.std.specs.Bool.{Decides}
use Rattle.hol_term.specs.Tables.{terms_at}
use Rattle.hol_term.specs.Subterms.{variables_of, HaveTypes}
use Rattle.decode_back.specs.TermWalks.{free_of}
use Rattle.decode_back.proofs.JudgeLemmas.{not-told, first-fails, second-told, terms_eq-Decides}
use Rattle.decode_back.proofs.judging.are_in_order.Goals as goal

pub returns-then-not-numbered : goal.returns-then-not-numbered
returns-then-not-numbered c = first-fails (λ e. not-told c.in_ok-numbered.numbered c.in_ok-numbered.ensures c.if-not-numbered.true (c.names.ensures ∙ e))

pub returns : goal.returns
returns c =
    second-told c.are_these.result (sym c.names.ensures ∙ c.in_ok-numbered.ensures.0 c.if-not-numbered.false)
    (subst (λ vs. Decides c.are_these.result (map free_of vs ≡ terms_at c.args.table.now c.args.variables.now))
    (ap (variables_of c.args.table.now) c.variables.ensures)
    (subst (λ b. Decides b (map free_of (variables_of c.args.table.now c.variables.result.now) ≡ terms_at c.args.table.now c.args.variables.now))
    (sym c.are_these.ensures) (terms_eq-Decides _ _)))

pub are_these-requires-clause-found : goal.are_these-requires-clause-found
are_these-requires-clause-found c = subst (HaveTypes c.args.table.now) (sym c.variables.ensures) c.requires.known
