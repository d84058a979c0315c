use Rattle.lp_spec.specs.Trees.{Sym, App}
use Rattle.lp_term.specs.Tables.{tree_at}
use Rattle.lp_term.specs.TableLaws.{Holds-tree_at}
use Rattle.lp_weight.proofs.HeadLaws.{spread-app, spread-symbol}
use Rattle.lp_weight.proofs.weighing.Weights.spread.Goals as goal

pub returns-in-Sym-clause-spread : goal.returns-in-Sym-clause-spread
returns-in-Sym-clause-spread c =
    let m = c.args.base.now in
    rw (Holds-tree_at m.table c.args.id.0 (Sym c.in-Sym.symbol) c.in-Sym.ensures.is) (spread-symbol m c.in-Sym.symbol c.front_of.result c.front_of.ensures)

pub returns-in_ok-front-in-App-clause-spread : goal.returns-in_ok-front-in-App-clause-spread
returns-in_ok-front-in-App-clause-spread c =
    let m = c.args.base.now in
    let t = tree_at m.table c.in-App.f.0 in
    let u = tree_at m.table c.in-App.x.0 in
    let is = c.requires.weights.column c.in-App.f.0 c.get-function.result c.get-function.ensures in
    rw (Holds-tree_at m.table c.args.id.0 (App t u) c.in-App.ensures.is)
    (spread-app m t u c.get-function.result c.in_ok-front-in-App.front c.spreads.result c.saturating_add-inner.result is c.spreads.ensures
    c.saturating_add-inner.ensures (c.in_ok-front-in-App.ensures.front t is.front))

pub applied-requires-clause-front : goal.applied-requires-clause-front
applied-requires-clause-front c =
    let is = c.requires.weights.column c.in-App.f.0 c.get-function.result c.get-function.ensures in
    (tree_at c.args.base.now.table c.in-App.f.0, is.front)
