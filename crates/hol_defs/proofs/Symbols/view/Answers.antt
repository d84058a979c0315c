use Rattle.std.proofs.Common.{ap, sym, ◌∙◌, Some}
use Rattle.hol_defs.specs.Symbols.{Taken, named}
use Rattle.hol_defs.proofs.IndexLaws.{entry-shown}
use Rattle.hol_defs.proofs.Symbols.view.Goals as goal

pub returns-in-InputConst : goal.returns-in-InputConst
returns-in-InputConst c = entry-shown c.self.inside.taken.items c.args.self.now c.args.place c.index.result.now _ c.self.view_is c.requires c.index.ensures
    c.in-InputConst.is

pub returns-in-InputOp : goal.returns-in-InputOp
returns-in-InputOp c = entry-shown c.self.inside.taken.items c.args.self.now c.args.place c.index.result.now _ c.self.view_is c.requires c.index.ensures
    c.in-InputOp.is

pub returns-in-Const : goal.returns-in-Const
returns-in-Const c = entry-shown c.self.inside.taken.items c.args.self.now c.args.place c.index.result.now _ c.self.view_is c.requires c.index.ensures
    c.in-Const.is

pub returns-in-TypeOp : goal.returns-in-TypeOp
returns-in-TypeOp c =
    let x = c.in-TypeOp.x in
    entry-shown c.self.inside.taken.items c.args.self.now c.args.place c.index.result.now _ c.self.view_is c.requires c.index.ensures c.in-TypeOp.is
    ∙ ap (λ names. Some (Taken.type_operator (named x.op x.abs x.rep names) x.whole x.predicate x.abs_type x.rep_type)) (sym c.deref.ensures.value)
