use Rattle.std.proofs.Common.{arith, subst, ◌<◌, length}
use Rattle.hol_spec.specs.Terms.{HasType}
use Rattle.hol_term.specs.Tables.{Trees, term_at, type_at}
use Rattle.hol_term.specs.declared.TermView.TheVariants as view
use Rattle.hol_rules.specs.Laws.{named_by}
use Rattle.hol_rules.proofs.TypeEnds.{concl-view, default-fails, no-application, no-hypotheses, some-hypotheses, type-closed, type-fails, type-hypotheses, type-names, type-variables}
use Rattle.hol_rules.proofs.proof.Proof.type_parts.Goals as goal

pub returns-in_default : goal.returns-in_default
returns-in_default c =
    let k = c.args.self.now in
    let names = named_by c.args.names in
    let is = concl-view k c.args.one c.concl-concl.result c.view.result c.terms-terms.result.now c.terms-terms.ensures c.concl-concl.ensures.is
    c.view.ensures.is in
    record {
      parts = tt;
      refused = λ version. default-fails k.made names c.args.one version c.without_application.result c.without_application.ensures
          (rw is (no-application k.trees c.view.result c.in_default.not-App));
    }

pub returns-in-Err-clause-refused : goal.returns-in-Err-clause-refused
returns-in-Err-clause-refused c =
    let k = c.args.self.now in
    let names = named_by c.args.names in
    let is = concl-view k c.args.one c.concl-concl.result (view.App c.in-App.predicate c.in-App.witness) c.terms-terms.result.now c.terms-terms.ensures
    c.concl-concl.ensures.is c.in-App.ensures.is in
    λ version. type-fails k.made names c.args.one (term_at k.trees c.in-App.predicate.0) (term_at k.trees c.in-App.witness.0) is version c.in-Err.fault
    c.in-Err.ensures.refusal

pub returns-then-ids-gt0-clause-refused : goal.returns-then-ids-gt0-clause-refused
returns-then-ids-gt0-clause-refused c =
    let k = c.args.self.now in
    let names = named_by c.args.names in
    let is = concl-view k c.args.one c.concl-concl.result (view.App c.in-App.predicate c.in-App.witness) c.terms-terms.result.now c.terms-terms.ensures
    c.concl-concl.ensures.is c.in-App.ensures.is in
    λ version. type-hypotheses k.made names c.args.one (term_at k.trees c.in-App.predicate.0) (term_at k.trees c.in-App.witness.0) is c.in-Ok.ensures.fits
    version
    (some-hypotheses k c.args.one c.sequent.result.now c.ids.result.now c.sequent.ensures.is c.ids.ensures.numbers c.if-ids-gt0.true)

pub returns-clause-parts : goal.returns-clause-parts
returns-clause-parts c =
    let k = c.args.self.now in
    let names = named_by c.args.names in
    let f = term_at k.trees c.in-App.predicate.0 in
    let t = term_at k.trees c.in-App.witness.0 in
    let is = concl-view k c.args.one c.concl-concl.result (view.App c.in-App.predicate c.in-App.witness) c.terms-terms.result.now c.terms-terms.ensures
    c.concl-concl.ensures.is c.in-App.ensures.is in
    let below = c.in-App.ensures.lower.0 in
    let known = c.concl-concl.ensures.is.known in
    record {
      witness = t;
      concl = c.concl-concl.ensures.is;
      predicate_known = omega (arith, below, known);
      whole_known = subst (λ (u : Trees). c.type_of-whole.result.0 < length u.types) c.terms-terms.ensures c.type_of-whole.ensures.known;
      holds = is;
      typed = subst (λ (u : Trees). HasType (term_at u c.in-App.witness.0) (type_at u c.type_of-whole.result.0)) c.terms-terms.ensures
          c.type_of-whole.ensures.is;
      no_hypotheses = no-hypotheses k c.args.one c.sequent.result.now c.ids.result.now c.sequent.ensures.is c.ids.ensures.numbers c.if-ids-gt0.false;
      new = type-names k.made names c.args.one f t is c.in-Ok.ensures.fits;
      closed = type-closed k.made names c.args.one f t is c.in-Ok.ensures.fits;
      variables = type-variables k.made names c.args.one f t is c.in-Ok.ensures.fits;
    }
