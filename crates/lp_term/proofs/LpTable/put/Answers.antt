use Rattle.std.proofs.Common.{subst}
use Rattle.std.specs.Prelude.{IfOk}
use Rattle.lp_binding_laws.specs.Composition.{put_all_at-one}
use Rattle.lp_term.specs.Tables.{tree_at, Holds}
use Rattle.lp_term.proofs.LpTable.put.Goals as goal

pub returns-clause-made : goal.returns-clause-made
returns-clause-made c =
    let made = rw c.root.ensures at c.walk-2.ensures.made in
    subst (λ t. IfOk c.walk-2.result (λ r. Holds c.walk-2.new.self r.0 t))
    (put_all_at-one 0 (tree_at c.args.self.now c.args.arg.0) (tree_at c.args.self.now c.args.body.0)) made
