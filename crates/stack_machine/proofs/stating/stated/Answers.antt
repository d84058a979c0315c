use Rattle.std.proofs.Common.{ap}
use Rattle.hol_term.specs.Tables.{term_at}
use Rattle.hol_spec.specs.Rules.{derived}
use Rattle.stack_machine.proofs.Stated.{AreTermsAt-known}
use Rattle.stack_machine.proofs.stating.stated.Goals as goal

pub returns : goal.returns
returns c =
    let trees = c.args.proof.now.trees in
    let known = AreTermsAt-known trees c.args.hyps.now c.requires.hyps in
    record {
      known = (c.in_ok-hyps.ensures.known trees known, c.requires.concl);
      is = ap (λ hs. derived hs (term_at trees c.args.concl.0)) (c.in_ok-hyps.ensures.terms trees (rw c.terms.ensures at c.view-head.ensures.distinct) known);
    }
