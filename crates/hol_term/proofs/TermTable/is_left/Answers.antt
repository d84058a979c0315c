use Rattle.std.proofs.Common.{sym, ◌∙◌}
use Rattle.std.proofs.lemmas.Bool.Decides.{Decides-eqb}
use Rattle.std.proofs.lemmas.List.{nil_from_length}
use Rattle.hol_term.proofs.MaskLaws.{its_image-absent}
use Rattle.hol_term.proofs.TermTable.is_left.Goals as goal

pub are_absent-requires-clause-pairs : goal.are_absent-requires-clause-pairs
are_absent-requires-clause-pairs c = c.requires.pairs.known_terms

pub returns : goal.returns
returns c =
    λ told. its_image-absent c.args.self.now c.args.putting.now.types.now c.args.putting.now.terms.now c.args.id
    (nil_from_length _ ((Decides-eqb _ 0).0 (sym c.is_empty.ensures ∙ c.if-not-is_empty.false))) (c.are_absent.ensures told)
