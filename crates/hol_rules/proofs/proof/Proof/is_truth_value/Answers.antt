use Rattle.hol_term.specs.Tables.{term_at, type_at}
use Rattle.hol_rules.proofs.SideLaws.{truth_value}
use Rattle.hol_rules.proofs.proof.Proof.is_truth_value.Goals as goal

pub returns-clause-is : goal.returns-clause-is
returns-clause-is c =
    let h = rw c.terms-terms.ensures at c.type_of.ensures.is in
    let d = rw (c.types.ensures.types, c.terms-terms.ensures) at c.is_bool.ensures.is in
    truth_value c.is_bool.result (term_at c.args.self.now.trees c.args.id.0) (type_at c.args.self.now.trees c.type_of.result.0) h d
