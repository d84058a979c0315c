use Rattle.std.proofs.Common.{ap, sym, subst, ◌∙◌}
use Rattle.std.proofs.Math.Path.{ap₂}
use Rattle.hol_spec.specs.Rules.{joined}
use Rattle.hol_spec.specs.Sequents.{Sequent}
use Rattle.hol_term.specs.Tables.{AreKnown, terms_at}
use Rattle.hol_rules.proofs.proof.Proof.discharged.Goals as goal

pub united-requires-clause-first : goal.united-requires-clause-first
united-requires-clause-first c = c.sequent.ensures.known.0

pub united-requires-clause-second : goal.united-requires-clause-second
united-requires-clause-second c = c.in_ok-rest.ensures.known

pub returns : goal.returns
returns c =
    let trees = c.args.self.now.trees in
    let same = c.in_ok-kept.ensures in
    record {
      known = subst (AreKnown trees) (sym same) c.in_ok-hyps.ensures.known;
      are = ap (terms_at trees) same ∙ c.in_ok-hyps.ensures.are ∙ ap₂ joined (ap (λ (s : Sequent). s.hypotheses) c.sequent.ensures.is) c.in_ok-rest.ensures.are;
    }
