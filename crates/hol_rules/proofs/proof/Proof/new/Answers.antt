use Rattle.hol_rules.proofs.Pushed.{IsKept-none}
use Rattle.hol_rules.proofs.proof.Proof.new.Goals as goal

pub invariant_of-result : goal.invariant_of-result
invariant_of-result c = rw (c.new.ensures.empty, c.in_ok-new.ensures.empty, c.new-3.ensures.items, c.new-4.ensures.items)
    (IsKept-none (c.new-5.ensures.noted _))
