use Rattle.std.proofs.Common.{subst, arith}
use Rattle.holide_sig.specs.Modules.{declarations_of, IsBodyKnown}
use Rattle.holide_sig.specs.ModuleLaws.{AreDeclsKnown-slice_get}
use Rattle.lp_weight.proofs.SpreadLaws.{weight_at-decl, body-weight, no_body-weight}
use Rattle.lp_weight.proofs.weighing.Weights.weight.Goals as goal

pub tree_weight-requires-clause-known : goal.tree_weight-requires-clause-known
tree_weight-requires-clause-known c =
    (AreDeclsKnown-slice_get c.args.base.now.table c.args.base.now.decls c.args.i c.get-decl.result.now c.requires.held.decls c.get-decl.ensures).ty

pub tree_weight-requires-in-Some-clause-known : goal.tree_weight-requires-in-Some-clause-known
tree_weight-requires-in-Some-clause-known c =
    subst (IsBodyKnown c.args.base.now.table) c.in-Some.is
    (AreDeclsKnown-slice_get c.args.base.now.table c.args.base.now.decls c.args.i c.get-decl.result.now c.requires.held.decls c.get-decl.ensures).body

pub returns-in-None-clause-weight : goal.returns-in-None-clause-weight
returns-in-None-clause-weight c =
    let whole = weight_at-decl c.args.base.now c.args.i c.get-decl.result.now c.get-decl.ensures in
    let body = no_body-weight (declarations_of c.args.base.now) c.args.base.now.table c.get-decl.result.now.body c.in-None.is in
    rw (whole, body) (omega (arith, c.in_ok-ty.ensures.weight))

pub returns-in_ok-body-in-Some-clause-weight : goal.returns-in_ok-body-in-Some-clause-weight
returns-in_ok-body-in-Some-clause-weight c =
    let whole = weight_at-decl c.args.base.now c.args.i c.get-decl.result.now c.get-decl.ensures in
    let body = body-weight (declarations_of c.args.base.now) c.args.base.now.table c.get-decl.result.now.body c.in-Some.body c.in-Some.is in
    rw (whole, body) (omega (arith, c.in_ok-ty.ensures.weight, c.in_ok-body-in-Some.ensures.weight))
