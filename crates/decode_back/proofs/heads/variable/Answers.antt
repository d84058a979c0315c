use Rattle.std.proofs.Common.{◌≡◌, ◌<◌, ◌+◌, ◌-◌, Some, refl, subst, arith}
use Rattle.hol_spec.specs.ClosedForm.{ClosedTerm}
use Rattle.hol_term.specs.TableLaws.{Keeps-refl}
use Rattle.lp_spec.specs.Trees.{Var}
use Rattle.holide_sig.specs.Modules.{declarations_of}
use Rattle.decode_spec.specs.Decode.{term_from}
use Rattle.decode_back.specs.Walks.{at_place}
use Rattle.decode_back.proofs.TypeWalk.{IfOk-both}
use Rattle.decode_back.proofs.TermLemmas.{bound-found, nothing-NoTerm, variable-nothing, variable-free, known-at, free-short, free-found}
use Rattle.decode_back.proofs.heads.variable.Goals as goal

pub returns-then-number-place-clause-decoded : goal.returns-then-number-place-clause-decoded
returns-then-number-place-clause-decoded c =
    IfOk-both _ _ _ c.bound.result c.bound.ensures.found c.bound.ensures.spent (λ found h k level types vs.
    bound-found (declarations_of c.args.source.base.now) (at_place c.args.source.place) types level c.args.budget.now c.bound.new.budget c.args.number
    c.bound.new.table c.if-number-place.true found h k)

pub returns-then-number-depth-clause-decoded : goal.returns-then-number-depth-clause-decoded
returns-then-number-depth-clause-decoded c level types vs =
    let d = declarations_of c.args.source.base.now in
    nothing-NoTerm types c.args.budget.now level (term_from d (Var c.args.number) (at_place c.args.source.place))
    (variable-nothing d (at_place c.args.source.place) c.args.number c.depth-depth.result c.depth-depth.ensures (omega (arith, c.if-number-place.false))
    (λ a b e. omega (arith, a, c.if-number-depth.true)))

pub returns-then-outer-place-clause-decoded : goal.returns-then-outer-place-clause-decoded
returns-then-outer-place-clause-decoded c level types vs =
    let d = declarations_of c.args.source.base.now in
    nothing-NoTerm types c.args.budget.now level (term_from d (Var c.args.number) (at_place c.args.source.place))
    (variable-nothing d (at_place c.args.source.place) c.args.number c.depth-depth.result c.depth-depth.ensures (omega (arith, c.if-number-place.false))
    (λ a b e. omega (arith, b, c.if-outer-place.true)))

pub returns-then-free-place-clause-decoded : goal.returns-then-free-place-clause-decoded
returns-then-free-place-clause-decoded c level types vs =
    let d = declarations_of c.args.source.base.now in
    nothing-NoTerm types c.args.budget.now level (term_from d (Var c.args.number) (at_place c.args.source.place))
    (variable-nothing d (at_place c.args.source.place) c.args.number c.depth-depth.result c.depth-depth.ensures (omega (arith, c.if-number-place.false))
    (λ a b e. omega (arith, e, c.if-free-place.true)))

pub size-requires : goal.size-requires
size-requires c =
    known-at c.args.table.now c.args.source.variables.now (c.depth-depth.result - 1 - c.args.number - c.args.source.place.type_variables) _
    c.requires.source.variables (omega (arith, c.if-free-place.false, c.requires.source.all))

pub returns-clause-known : goal.returns-clause-known
returns-clause-known c =
    known-at c.args.table.now c.args.source.variables.now (c.depth-depth.result - 1 - c.args.number - c.args.source.place.type_variables) _
    c.requires.source.variables (omega (arith, c.if-free-place.false, c.requires.source.all))

pub returns-then-not-spend-clause-decoded : goal.returns-then-not-spend-clause-decoded
returns-then-not-spend-clause-decoded c level types vs =
    let d = declarations_of c.args.source.base.now in
    let depth = c.depth-depth.result in
    let j = depth - 1 - c.args.number - c.args.source.place.type_variables in
    let is : term_from d (Var c.args.number) (at_place c.args.source.place) ≡ Some (ClosedTerm.parameter j) =
    variable-free d (at_place c.args.source.place) c.args.number depth (depth - 1 - c.args.number) j c.depth-depth.ensures
    (omega (arith, c.if-number-place.false)) (omega (arith, c.if-number-depth.false)) refl c.if-outer-place.false refl c.if-free-place.false in
    free-short d (at_place c.args.source.place) c.args.number types level c.args.budget.now c.args.table.now c.args.source.variables.now vs j _
    (omega (arith, c.if-free-place.false, c.requires.source.all)) is
    (subst (λ n. c.args.budget.now < n) c.size.ensures (c.spend.ensures.short c.if-not-spend.true))

pub returns-clause-decoded : goal.returns-clause-decoded
returns-clause-decoded c level types vs =
    let d = declarations_of c.args.source.base.now in
    let depth = c.depth-depth.result in
    let j = depth - 1 - c.args.number - c.args.source.place.type_variables in
    let is : term_from d (Var c.args.number) (at_place c.args.source.place) ≡ Some (ClosedTerm.parameter j) =
    variable-free d (at_place c.args.source.place) c.args.number depth (depth - 1 - c.args.number) j c.depth-depth.ensures
    (omega (arith, c.if-number-place.false)) (omega (arith, c.if-number-depth.false)) refl c.if-outer-place.false refl c.if-free-place.false in
    free-found d (at_place c.args.source.place) c.args.number types level c.args.budget.now c.args.table.now c.args.source.variables.now vs j _
    (omega (arith, c.if-free-place.false, c.requires.source.all)) is
    c.spend.new.budget c.requires.source.variables c.requires.budget
    (subst (λ n. c.spend.new.budget + n ≡ c.args.budget.now) c.size.ensures (c.spend.ensures.paid c.if-not-spend.false))

pub returns-then-number-place-clause-keeps : goal.returns-then-number-place-clause-keeps
returns-then-number-place-clause-keeps c = c.bound.ensures.keeps

pub returns-then-number-depth-clause-keeps : goal.returns-then-number-depth-clause-keeps
returns-then-number-depth-clause-keeps c = Keeps-refl c.args.table.now

pub returns-then-outer-place-clause-keeps : goal.returns-then-outer-place-clause-keeps
returns-then-outer-place-clause-keeps c = Keeps-refl c.args.table.now

pub returns-then-free-place-clause-keeps : goal.returns-then-free-place-clause-keeps
returns-then-free-place-clause-keeps c = Keeps-refl c.args.table.now

pub returns-then-not-spend-clause-keeps : goal.returns-then-not-spend-clause-keeps
returns-then-not-spend-clause-keeps c = Keeps-refl c.args.table.now

pub returns-clause-keeps : goal.returns-clause-keeps
returns-clause-keeps c = Keeps-refl c.args.table.now
