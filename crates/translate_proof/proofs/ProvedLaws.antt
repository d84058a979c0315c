-- A hypothesis that a tree of its own proves, while the table of a module grows.
use Rattle.std.proofs.Common.{◌≡◌, ◌∙◌, ap, sym, true, false, length, ◌<◌, Some, None, Option}
use Rattle.std.specs.Prelude.{if◌then◌else◌}
use Rattle.hol_spec.specs.Terms.{Term}
use Rattle.hol_term.specs.declared.TermId.{TermId}
use Rattle.hol_term.specs.Tables.{Trees, term_at, IsDistinct}
use Rattle.holide_sig.specs.declared.module.Module.{Module}
use Rattle.lp_spec.specs.Trees.{Tree}
use Rattle.sequent.specs.Sequents.{same_id}
use Rattle.translate_term.specs.Walks.{Grows}
use Rattle.translate_proof.specs.declared.premise.Proved.{Proved}
use Rattle.translate_proof.specs.FormulaLaws.{same-formula}
use Rattle.translate_proof.specs.ProvedHypotheses.{proof_with, IsPut}

-- the tree stays
pub IsPut-Grows : {m n : Module} → Grows m n → (terms : Trees) (proved : Option Proved) (x : Tree) → IsPut terms m.table proved x → IsPut terms n.table proved x
IsPut-Grows g terms None x h = tt
IsPut-Grows g terms (Some p) x h = (h.0, g.table.stays.each p.tree.0 x h.1)

-- it proves its own hypothesis, and no other
module _ (terms : Trees) (one : IsDistinct terms.terms) (p : Proved) (x : Tree) (proofs : Term → Tree) (id : TermId) (known : id.0 < length terms.terms) where
  pub proof_with-own : p.id.0 < length terms.terms → same_id id p.id ≡ true → x ≡ proof_with terms (Some p) x proofs (term_at terms id.0)
  proof_with-own own is = ap (λ b. if b then x else proofs (term_at terms id.0)) (sym is ∙ same-formula terms one id p.id known own)

  pub proof_with-other : p.id.0 < length terms.terms → same_id id p.id ≡ false → proofs (term_at terms id.0)
      ≡ proof_with terms (Some p) x proofs (term_at terms id.0)
  proof_with-other own is = ap (λ b. if b then x else proofs (term_at terms id.0)) (sym is ∙ same-formula terms one id p.id known own)
