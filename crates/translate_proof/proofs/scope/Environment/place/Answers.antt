use Rattle.lp_term.specs.TableLaws.{Keeps-trans}
use Rattle.translate_term.specs.GrowLaws.{Grows-table}
use Rattle.translate_proof.proofs.StandLaws.{stands-placed}
use Rattle.translate_proof.proofs.scope.Environment.place.Goals as goal

pub returns-in_err-place_types-clause-grows : goal.returns-in_err-place_types-clause-grows
returns-in_err-place_types-clause-grows c = Grows-table _ _ c.place_types.ensures.keeps

pub returns-in_err-place_terms-clause-grows : goal.returns-in_err-place_terms-clause-grows
returns-in_err-place_terms-clause-grows c = Grows-table _ _ (Keeps-trans c.place_types.ensures.keeps c.place_terms.ensures.keeps)

pub returns-in_err-place_proofs-clause-grows : goal.returns-in_err-place_proofs-clause-grows
returns-in_err-place_proofs-clause-grows c =
    Grows-table _ _ (Keeps-trans c.place_types.ensures.keeps (Keeps-trans c.place_terms.ensures.keeps c.place_proofs.ensures.keeps))

pub returns-clause-made : goal.returns-clause-made
returns-clause-made c = λ given trees is.
    let types = rw (c.names-names.ensures, c.variables-variables.ensures) at c.in_ok-place_types.ensures.types in
    let terms = rw c.variables-variables.ensures at c.in_ok-place_terms.ensures.terms in
    stands-placed given trees c.args.target.now _ _ _ c.args.self.now _ _ _ c.args.hyps.now c.args.inside is c.requires.nothing types
    terms c.place_terms.ensures.keeps c.in_ok-place_proofs.ensures.proofs c.place_proofs.ensures.keeps
    (Grows-table _ _ (Keeps-trans c.place_types.ensures.keeps (Keeps-trans c.place_terms.ensures.keeps c.place_proofs.ensures.keeps)))

pub returns-clause-grows : goal.returns-clause-grows
returns-clause-grows c = Grows-table _ _ (Keeps-trans c.place_types.ensures.keeps (Keeps-trans c.place_terms.ensures.keeps c.place_proofs.ensures.keeps))
