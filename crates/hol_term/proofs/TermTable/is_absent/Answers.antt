use Rattle.std.proofs.Common.{ap, sym, subst, ◌∙◌}
use Rattle.std.specs.Int.Bits.{bit_and}
use Rattle.hol_term.specs.Masks.{IsWithout}
use Rattle.hol_term.specs.Tables.{term_at, type_at}
use Rattle.hol_term.proofs.MaskLaws.{IsWithout-mask, HasBit-own}
use Rattle.hol_term.proofs.TermTable.is_absent.Goals as goal

pub returns-then-measures_of-bit_mask-eq0 : goal.returns-then-measures_of-bit_mask-eq0
returns-then-measures_of-bit_mask-eq0 c =
    let it = c.measures_of in
    λ told. IsWithout-mask it.result.mask _ (c.args.variable.now.name, type_at c.args.self.now c.args.variable.now.ty.0) (term_at c.args.self.now c.args.id.0)
    (ap (bit_and it.result.mask) (sym c.bit_mask.ensures) ∙ c.if-measures_of-bit_mask-eq0.true) (HasBit-own c.args.variable.now.name) it.ensures.mask

pub returns-in-Ok : goal.returns-in-Ok
returns-in-Ok c =
    λ told. subst (λ n. IsWithout (n, type_at c.args.self.now c.args.variable.now.ty.0) (term_at c.args.self.now c.args.id.0)) c.in-Ok.ensures.cases
    (c.comes_later.ensures told)
