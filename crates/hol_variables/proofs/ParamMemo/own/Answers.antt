use Rattle.std.proofs.Common.{arith, ◌∙◌}
use Rattle.hol_variables.proofs.Owned.{type_noted, term_noted, type_there, names_there, own-free, own-constant, own-app, own-lam}
use Rattle.hol_variables.proofs.ParamMemo.own.Goals as goal

pub unite-requires-in-Lam-clause-first : goal.unite-requires-in-Lam-clause-first
unite-requires-in-Lam-clause-first c =
    let memo = c.args.self.now in
    let types = c.args.terms.now.types in
    type_there types memo.names c.in-Lam.ty.0 c.index-in-Lam-2.result.now
    (type_noted types memo.names memo.types.items c.requires.noted.types c.in-Lam.ty.0 _ c.index-in-Lam-2.result.now c.index-in-Lam-2.ensures
    (omega (arith, c.requires.all_types, c.in-Lam.ensures.lower.0)))

pub unite-requires-in-Lam-clause-second : goal.unite-requires-in-Lam-clause-second
unite-requires-in-Lam-clause-second c =
    let memo = c.args.self.now in
    let trees = c.args.terms.now in
    names_there trees memo.names memo.variables c.in-Lam.body.0 c.own-body.result
    (term_noted trees memo.names memo.variables memo.terms.items c.requires.noted.terms c.in-Lam.body.0 _ c.own-body.result (c.own-body.ensures ∙ c.index-in-Lam.ensures)
    (omega (arith, c.requires.next, c.in-Lam.ensures.lower.1)))

pub returns-in_ok-single-in-Free-clause-own : goal.returns-in_ok-single-in-Free-clause-own
returns-in_ok-single-in-Free-clause-own c =
    let memo = c.args.self.now in
    let trees = c.args.terms.now in
    own-free trees c.args.id.0 _ c.in-Free.ty memo.names _ c.index.result.now c.in_ok-single-in-Free.field-0 c.in-Free.ensures.is
    (type_noted trees.types memo.names memo.types.items c.requires.noted.types c.in-Free.ty.0 _ c.index.result.now c.index.ensures
    (omega (arith, c.requires.all_types, c.in-Free.ensures.lower)))
    c.in_ok-single-in-Free.ensures.made

pub returns-in-Const-clause-own : goal.returns-in-Const-clause-own
returns-in-Const-clause-own c =
    let memo = c.args.self.now in
    let trees = c.args.terms.now in
    own-constant trees c.args.id.0 _ c.in-Const.ty memo.names memo.variables c.index-in-Const.result.now c.nothing.result c.in-Const.ensures.is
    (type_noted trees.types memo.names memo.types.items c.requires.noted.types c.in-Const.ty.0 _ c.index-in-Const.result.now c.index-in-Const.ensures
    (omega (arith, c.requires.all_types, c.in-Const.ensures.lower)))
    c.nothing.ensures

pub returns-in_ok-variables-in-App-clause-own : goal.returns-in_ok-variables-in-App-clause-own
returns-in_ok-variables-in-App-clause-own c =
    let memo = c.args.self.now in
    let trees = c.args.terms.now in
    let d = rw c.types.ensures.types at c.count-count.ensures.distinct in
    own-app trees c.args.id.0 d c.view.ensures.distinct c.in-App.f c.in-App.x c.own-f.result c.own-x.result memo.names _ memo.variables _
    c.in_ok-names-in-App.names c.in_ok-variables-in-App.variables c.in-App.ensures.is
    (term_noted trees memo.names memo.variables memo.terms.items c.requires.noted.terms c.in-App.f.0 _ c.own-f.result (c.own-f.ensures ∙ c.index-in-App.ensures)
    (omega (arith, c.requires.next, c.in-App.ensures.lower.0)))
    (term_noted trees memo.names memo.variables memo.terms.items c.requires.noted.terms c.in-App.x.0 _ c.own-x.result (c.own-x.ensures ∙ c.index-in-App-2.ensures)
    (omega (arith, c.requires.next, c.in-App.ensures.lower.1)))
    c.in_ok-names-in-App.ensures.united c.in_ok-variables-in-App.ensures.united

pub returns-in_ok-names-in-Lam-clause-own : goal.returns-in_ok-names-in-Lam-clause-own
returns-in_ok-names-in-Lam-clause-own c =
    let memo = c.args.self.now in
    let trees = c.args.terms.now in
    let d = rw c.types.ensures.types at c.count-count.ensures.distinct in
    own-lam trees c.args.id.0 d c.in-Lam.ty c.in-Lam.body c.index-in-Lam-2.result.now c.own-body.result memo.names _ memo.variables
    c.in_ok-names-in-Lam.names c.in-Lam.ensures.is
    (type_noted trees.types memo.names memo.types.items c.requires.noted.types c.in-Lam.ty.0 _ c.index-in-Lam-2.result.now c.index-in-Lam-2.ensures
    (omega (arith, c.requires.all_types, c.in-Lam.ensures.lower.0)))
    (term_noted trees memo.names memo.variables memo.terms.items c.requires.noted.terms c.in-Lam.body.0 _ c.own-body.result (c.own-body.ensures ∙ c.index-in-Lam.ensures)
    (omega (arith, c.requires.next, c.in-Lam.ensures.lower.1)))
    c.in_ok-names-in-Lam.ensures.united
