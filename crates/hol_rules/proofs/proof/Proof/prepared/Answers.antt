use Rattle.hol_rules.proofs.SubstitutionEnds.{pairs-unfit}
use Rattle.hol_rules.proofs.proof.Proof.prepared.Goals as goal

pub returns-then-not-fits-clause-refused : goal.returns-then-not-fits-clause-refused
returns-then-not-fits-clause-refused c =
    let d = rw c.terms.ensures at c.fits.ensures in
    pairs-unfit c.args.self.now c.args.type_pairs.now c.args.term_pairs.now 0 c.fits.result d c.if-not-fits.true
