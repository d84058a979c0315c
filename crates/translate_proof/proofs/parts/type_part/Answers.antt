use Rattle.std.proofs.Common.{subst}
use Rattle.std.proofs.lemmas.Result.{IfOk-weaker}
use Rattle.hol_spec.specs.Proofs.{sequent_at}
use Rattle.lp_term.specs.Tables.{Holds}
use Rattle.translate_spec.specs.ProofTrees.{part_tree}
use Rattle.translate_proof.specs.Parts.{whole_type}
use Rattle.translate_proof.proofs.parts.type_part.Goals as goal

pub returns-clause-made : goal.returns-clause-made
returns-clause-made c =
    let k = c.args.proof.now in
    IfOk-weaker c.part_call.result _ _
    (λ r h given stands whole told.
    subst (λ s. Holds c.part_call.new.target.table r.0
    (part_tree given.symbols given.scope s (whole_type k c.args.one.id) (c.args.one.symbol, sequent_at k.made c.args.one.id))) c.symbol.ensures
    (h given stands whole told))
    c.part_call.ensures.made
