use Rattle.std.proofs.Common.{◌≡◌, ◌++◌, ◌∷◌, [], arith, subst}
use Rattle.lp_term.specs.Tables.{tree_at}
use Rattle.lp_weight.specs.Spreads.{IsSpread}
use Rattle.lp_weight.proofs.HeadLaws.{column-more, column-longer}
use Rattle.lp_weight.proofs.weighing.Weights.reach.Goals as goal

pub loop-id-smaller : goal.loop-id-smaller
loop-id-smaller c =
    let column : c.push.new.self ≡ c.loop-id.self.column ++ c.in_ok-spread.spread ∷ [] = rw c.in_ok-spread.ensures.column at c.in_ok-push.ensures in
    omega (arith, column-longer c.loop-id.self.column c.push.new.self c.in_ok-spread.spread column, c.len.ensures, c.loop-id-test.true, c.requires.known)

pub loop-id-preserved : goal.loop-id-preserved
loop-id-preserved c =
    let m = c.args.base.now in
    let column : c.push.new.self ≡ c.loop-id.self.column ++ c.in_ok-spread.spread ∷ [] = rw c.in_ok-spread.ensures.column at c.in_ok-push.ensures in
    let is = subst (λ n. IsSpread m (tree_at m.table n) c.in_ok-spread.spread) c.len-in-loop-id.ensures c.in_ok-spread.ensures.spread in
    record {
      walk = c.in_ok-spread.ensures.weights.walk;
      column =
          rw column (column-more m c.loop-id.self.column c.in_ok-spread.spread c.loop-id.invariant.column is);
    }
