use Rattle.std.proofs.Common.{sym, ap, ◌∙◌}
use Rattle.std.specs.Int.Bits.{bit_and}
use Rattle.std.proofs.lemmas.Bool.{eqb-true}
use Rattle.std.proofs.lemmas.Bool.Decides.{Decides-eqb}
use Rattle.std.proofs.lemmas.List.{nil_from_length}
use Rattle.hol_term.proofs.MaskLaws.{its_image}
use Rattle.hol_term.proofs.TermTable.is_its_image.Goals as goal

pub returns : goal.returns
returns c =
    let it = c.measures_of in
    λ none. its_image c.args.self.now c.args.putting.now.types.now c.args.putting.now.terms.now it.result.mask c.args.id
    (nil_from_length _ ((Decides-eqb _ 0).0 (sym c.is_empty.ensures ∙ c.if-not-is_empty.false))) it.ensures.mask
    (ap (bit_and it.result.mask) (sym c.requires.index.mask) ∙ eqb-true _ 0 none)
