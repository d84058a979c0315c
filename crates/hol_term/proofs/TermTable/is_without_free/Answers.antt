use Rattle.std.proofs.Common.{subst}
use Rattle.std.proofs.lemmas.Bool.{eqb-true}
use Rattle.hol_spec.specs.Terms.{free}
use Rattle.hol_term.specs.Masks.{HasBits}
use Rattle.hol_term.specs.Tables.{term_at}
use Rattle.hol_term.specs.TableLaws.{Some-term_in}
use Rattle.hol_term.proofs.MaskLaws.{IsWithout-mask}
use Rattle.hol_term.proofs.TermTable.is_without_free.Goals as goal

pub returns : goal.returns
returns c =
    let it = c.measures_of in
    let own = c.measures_of-2 in
    λ none v held.
    IsWithout-mask it.result.mask own.result.mask v (term_at c.args.self.now c.args.id.0) (eqb-true _ 0 none)
    (subst (HasBits own.result.mask) (Some-term_in c.args.self.now.terms c.args.variable.0 (free v.0 v.1) held) own.ensures.mask) it.ensures.mask
