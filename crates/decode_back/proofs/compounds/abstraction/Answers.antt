use Rattle.std.proofs.Common.{◌-◌, ap, ◌∙◌, arith}
use Rattle.std.specs.Prelude.{min, ◌^◌}
use Rattle.hol_spec.specs.Limits.{type_size}
use Rattle.hol_type.specs.Tables.{tree_at}
use Rattle.hol_term.specs.Tables.{term_at, type_at}
use Rattle.hol_term.specs.TableLaws.{Keeps-refl}
use Rattle.decode_back.proofs.TypeWalk.{IfOk-weaker}
use Rattle.decode_back.proofs.AbstractionLemmas.{lam-short}
use Rattle.decode_back.proofs.compounds.abstraction.Goals as goal

pub returns-then-not-spend-clause-made : goal.returns-then-not-spend-clause-made
returns-then-not-spend-clause-made c fresh =
    let cost = c.size-size.ensures ∙ ap (λ ts. min (type_size (tree_at ts c.args.ty.0)) (2 ^ 64 - 1)) c.types.ensures.types in
    lam-short (type_at c.args.table.now c.args.ty.0) (term_at c.args.table.now c.args.body.0) c.args.budget.now c.spend.new.budget c.args.table.now
    (omega (arith, c.spend.ensures.short c.if-not-spend.true, cost))

pub returns-then-not-spend-2-clause-made : goal.returns-then-not-spend-2-clause-made
returns-then-not-spend-2-clause-made c fresh =
    let cost = c.size-size.ensures ∙ ap (λ ts. min (type_size (tree_at ts c.args.ty.0)) (2 ^ 64 - 1)) c.types.ensures.types in
    lam-short (type_at c.args.table.now c.args.ty.0) (term_at c.args.table.now c.args.body.0) c.args.budget.now c.spend-2.new.budget c.args.table.now
    (omega (arith, c.spend.ensures.paid c.if-not-spend.false, c.spend-2.ensures.short c.if-not-spend-2.true, cost))

pub returns-clause-made : goal.returns-clause-made
returns-clause-made c =
    let cost = c.size-size.ensures ∙ ap (λ ts. min (type_size (tree_at ts c.args.ty.0)) (2 ^ 64 - 1)) c.types.ensures.types in
    IfOk-weaker _ _ c.over-found.result c.over-found.ensures.made (λ found made fresh.
    made c.in-Ok.ensures.name c.args.budget.now c.spend-2.new.budget
    (omega (arith, c.spend.ensures.paid c.if-not-spend.false, c.spend-2.ensures.paid c.if-not-spend-2.false, cost, c.requires.budget)) fresh)

pub returns-then-not-spend-clause-keeps : goal.returns-then-not-spend-clause-keeps
returns-then-not-spend-clause-keeps c = Keeps-refl c.args.table.now

pub returns-then-not-spend-2-clause-keeps : goal.returns-then-not-spend-2-clause-keeps
returns-then-not-spend-2-clause-keeps c = Keeps-refl c.args.table.now

pub returns-in_default-clause-keeps : goal.returns-in_default-clause-keeps
returns-in_default-clause-keeps c = Keeps-refl c.args.table.now

pub returns-clause-keeps : goal.returns-clause-keeps
returns-clause-keeps c = c.over-found.ensures.keeps
