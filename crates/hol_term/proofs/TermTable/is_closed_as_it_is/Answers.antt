use Rattle.std.proofs.Common.{arith, ap, sym, ◌∙◌}
use Rattle.std.specs.Int.Bits.{bit_and}
use Rattle.std.proofs.lemmas.Bool.{eqb-true}
use Rattle.hol_term.specs.Tables.{term_at}
use Rattle.hol_term.proofs.MaskLaws.{close-without}
use Rattle.hol_term.proofs.TermTable.is_closed_as_it_is.Goals as goal

pub returns : goal.returns
returns c =
    let it = c.measures_of-measures in
    λ none ty.
    close-without it.result.mask (c.args.name.now, ty) (term_at c.args.self.now c.args.id.0) it.ensures.mask
    (ap (bit_and it.result.mask) (sym c.bit_mask.ensures) ∙ eqb-true _ 0 none) (omega (arith, it.ensures.loose, c.if-measures-gt0.false))
