use Rattle.std.proofs.Common.{◌≡◌, ap, sym, subst, ◌∙◌}
use Rattle.hol_spec.specs.Sequents.{Sequent}
use Rattle.hol_term.specs.Tables.{AreKnown, terms_at}
use Rattle.hol_rules.proofs.proof.Proof.hyps.Goals as goal

pub returns : goal.returns
returns c =
    let trees = c.args.self.now.trees in
    let same : c.in_ok-copy.copy ≡ c.sequent.result.now.hyps = c.in_ok-copy.ensures.cases in
    record {
      known = subst (AreKnown trees) (sym same) c.sequent.ensures.known.0;
      are = ap (terms_at trees) same ∙ ap (λ (s : Sequent). s.hypotheses) c.sequent.ensures.is;
    }
