use Rattle.lp_term.specs.Tables.{tree_at}
use Rattle.std.proofs.Common.{ap, ◌∙◌}
use Rattle.lp_term.specs.TableLaws.{Keeps-trans}
use Rattle.share.specs.declared.typing.Turn.TheVariants as turn
use Rattle.share.proofs.TurnLaws.{under-ready, under-turn, under-some, under-known, under-none, under-needs}
use Rattle.share.proofs.typing.under.Goals as goal

pub term-requires-clause-answers : goal.term-requires-clause-answers
term-requires-clause-answers c = under-ready c.args.table.now c.node.new.self c.args.ty.0 c.args.context.0 c.in_ok-inner.inner.0 _ c.in_ok-inner.ensures.keeps
    c.in_ok-inner.ensures.made c.requires.answers

pub arr_of-requires-clause-values : goal.arr_of-requires-clause-values
arr_of-requires-clause-values c =
    let r = c.requires.answers in
    under-known r.0 c.term.new.table _ c.in_ok-values.field-0 c.in-Known-Some.values (c.in-Known-Some.is ∙ ap turn.Known c.in-Known-Some.field-0-is)
    (under-turn r.0 c.args.table.now c.node.new.self c.term.new.table c.args.ty.0 c.args.context.0 c.args.body.0 c.in_ok-inner.inner.0
    c.in_ok-values.field-0 _ c.in_ok-inner.ensures.keeps c.requires.body c.in_ok-inner.ensures.made r.1 r.2 r.3 c.in_ok-values.ensures.turn)

pub returns-in_ok-functions-in-Known-Some-clause-turn : goal.returns-in_ok-functions-in-Known-Some-clause-turn
returns-in_ok-functions-in-Known-Some-clause-turn c =
    λ m s h a.
    under-some m c.args.table.now c.term.new.table c.arr_of.new.table c.args.ty.0 (tree_at c.args.table.now c.args.context.0)
    (tree_at c.args.table.now c.args.body.0) c.in_ok-values.field-0 c.in-Known-Some.values c.in_ok-functions-in-Known-Some.functions
    (Keeps-trans c.in_ok-inner.ensures.keeps c.in_ok-values.ensures.keeps) c.requires.ty
    (c.in-Known-Some.is ∙ ap turn.Known c.in-Known-Some.field-0-is)
    (under-turn m c.args.table.now c.node.new.self c.term.new.table c.args.ty.0 c.args.context.0 c.args.body.0 c.in_ok-inner.inner.0 c.in_ok-values.field-0
    _ c.in_ok-inner.ensures.keeps c.requires.body c.in_ok-inner.ensures.made s h a c.in_ok-values.ensures.turn) c.in_ok-functions-in-Known-Some.ensures.made

pub returns-in-Known-None-clause-turn : goal.returns-in-Known-None-clause-turn
returns-in-Known-None-clause-turn c = λ m s h a. under-none m c.term.new.table (tree_at c.args.table.now c.args.ty.0)
    (tree_at c.args.table.now c.args.context.0) (tree_at c.args.table.now c.args.body.0) c.in_ok-values.field-0
    (c.in-Known-None.is ∙ ap turn.Known c.in-Known-None.field-0-is)
    (under-turn m c.args.table.now c.node.new.self c.term.new.table c.args.ty.0 c.args.context.0 c.args.body.0 c.in_ok-inner.inner.0 c.in_ok-values.field-0 _
    c.in_ok-inner.ensures.keeps c.requires.body c.in_ok-inner.ensures.made s h a c.in_ok-values.ensures.turn)

pub returns-in-Needs-clause-turn : goal.returns-in-Needs-clause-turn
returns-in-Needs-clause-turn c = λ m s h a. under-needs m c.term.new.table _ c.in_ok-values.field-0 c.in-Needs.question c.in-Needs.is
    (under-turn m c.args.table.now c.node.new.self c.term.new.table c.args.ty.0 c.args.context.0 c.args.body.0 c.in_ok-inner.inner.0 c.in_ok-values.field-0 _
    c.in_ok-inner.ensures.keeps c.requires.body c.in_ok-inner.ensures.made s h a c.in_ok-values.ensures.turn)
