use Rattle.std.proofs.Common.{sym, subst, None}
use Rattle.std.specs.Prelude.{All}
use Rattle.std.proofs.lemmas.List.Elements.{All-push}
use Rattle.translate_proof.specs.Keeping.{IsKept}
use Rattle.translate_proof.proofs.kept.KeptParams.reach.Goals as goal

pub loop-self-preserved : goal.loop-self-preserved
loop-self-preserved c = λ k h. record {
  each = subst (All (IsKept k)) (sym c.in_ok-push.ensures.items)
      (All-push (IsKept k) c.loop-self.self.places.items None (c.loop-self.invariant k h).each tt);
}

pub returns-in_err-push-clause-kept : goal.returns-in_err-push-clause-kept
returns-in_err-push-clause-kept c = λ k h. record { each = subst (All (IsKept k)) (sym c.in_err-push.ensures.items) (c.loop-self.invariant k h).each }
