use Rattle.std.proofs.Common.{ap}
use Rattle.hol_term.specs.Substitutions.{AreKnownPairs}
use Rattle.hol_rules.specs.declared.made.Substitution.{Substitution}
use Rattle.hol_rules.proofs.PairLaws.{AreTermPairs-known}
use Rattle.hol_rules.proofs.SubstitutionEnds.{subst-ends, given_known}
use Rattle.hol_rules.proofs.Concluded.{stopped}
use Rattle.hol_rules.proofs.Ends.{ended}
use Rattle.hol_rules.proofs.proof.Proof.subst_prepared.Goals as goal

pub image-requires-clause-pairs : goal.image-requires-clause-pairs
image-requires-clause-pairs c = record
    { known_types = c.requires.types; known_terms = AreTermPairs-known c.args.self.now.trees c.args.put.now.terms.items c.requires.terms }

pub conclude-requires-clause-parameters : goal.conclude-requires-clause-parameters
conclude-requires-clause-parameters c =
    let put = c.args.put.now in
    let pairs : AreKnownPairs c.args.self.now.trees put.types.items put.terms.items =
    record { known_types = c.requires.types; known_terms = AreTermPairs-known c.args.self.now.trees put.terms.items c.requires.terms } in
    given_known c.args.self.now put.types.items put.terms.items c.args.one pairs c.image.new.self c.image.ensures.grows c.in_ok-given.given
    (ap (λ (s : Substitution). s.types.items) c.in_ok-given.ensures) (ap (λ (s : Substitution). s.terms.items) c.in_ok-given.ensures)

pub conclude-requires-clause-follows : goal.conclude-requires-clause-follows
conclude-requires-clause-follows c =
    let put = c.args.put.now in
    let pairs : AreKnownPairs c.args.self.now.trees put.types.items put.terms.items =
    record { known_types = c.requires.types; known_terms = AreTermPairs-known c.args.self.now.trees put.terms.items c.requires.terms } in
    (subst-ends c.args.self.now put.types.items put.terms.items c.args.one pairs c.image.new.self c.image.ensures.grows c.in_ok-given.given
    (ap (λ (s : Substitution). s.types.items) c.in_ok-given.ensures) (ap (λ (s : Substitution). s.terms.items) c.in_ok-given.ensures)
    c.requires.fits c.requires.one c.in_ok-sequent.sequent c.in_ok-sequent.ensures.made).follows

pub returns : goal.returns
returns c =
    let put = c.args.put.now in
    let pairs : AreKnownPairs c.args.self.now.trees put.types.items put.terms.items =
    record { known_types = c.requires.types; known_terms = AreTermPairs-known c.args.self.now.trees put.terms.items c.requires.terms } in
    ended (subst-ends c.args.self.now put.types.items put.terms.items c.args.one pairs c.image.new.self c.image.ensures.grows c.in_ok-given.given
    (ap (λ (s : Substitution). s.types.items) c.in_ok-given.ensures) (ap (λ (s : Substitution). s.terms.items) c.in_ok-given.ensures)
    c.requires.fits c.requires.one c.in_ok-sequent.sequent c.in_ok-sequent.ensures.made)
    c.conclude.new.self c.conclude.result c.conclude.ensures

pub returns-in_err-sequent : goal.returns-in_err-sequent
returns-in_err-sequent c = stopped c.image.ensures.grows _ c.from_residual.result c.from_residual.ensures.1

pub returns-in_err-given : goal.returns-in_err-given
returns-in_err-given c = stopped c.image.ensures.grows _ c.from_residual-in_err-given.result c.from_residual-in_err-given.ensures.1

pub conclude-requires-clause-sequent : goal.conclude-requires-clause-sequent
conclude-requires-clause-sequent c = c.in_ok-sequent.ensures.made.known
