use Rattle.std.specs.Prelude.{drop}
use Rattle.hol_spec.specs.Terms.{Term, term_eq}
use Rattle.hol_term.specs.Tables.{Trees, terms_at, AreKnown, IsDistinct}
use Rattle.lp_spec.specs.Trees.{Tree}
use Rattle.lp_term.specs.Tables.{Keeps}
use Rattle.translate_proof.specs.Environments.{TellProofs}
use Rattle.translate_proof.proofs.PlaceLaws.{Places}
use Rattle.translate_proof.proofs.scope.place_proofs.Given as goal

abbrev pub invariant-loop-id : goal.invariant-loop-id
invariant-loop-id l = record {
  keeps : Keeps l.fn.table l.table;
  places : (trees : Trees) (other : Term → Tree) → IsDistinct trees.terms → AreKnown trees l.hyps
      → Places term_eq (λ ts es scope. TellProofs trees ts es other scope) l.fn.table l.table l.fn.proofs l.proofs
      (terms_at trees l.hyps) (terms_at trees (drop l.id-index l.hyps)) l.depth l.place;
}
