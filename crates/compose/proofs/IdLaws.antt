-- Numbers of terms, as they are compared.
use Rattle.std.proofs.Common.{◌≡◌, true, arith}
use Rattle.std.proofs.lemmas.Bool.{eqb-true}
use Rattle.std.proofs.lemmas.Grind.{common_steps}
use Rattle.hol_term.specs.declared.TermId.{TermId}
use Rattle.sequent.specs.Sequents.{same_id}

pub same_id-true : (p q : TermId) → same_id p q ≡ true → p ≡ q
same_id-true p q h = let e : p.0 ≡ q.0 = eqb-true p.0 q.0 h in λ i. record { 0 = e i }

pub same_id-itself : (p : TermId) → same_id p p ≡ true
same_id-itself p = grind (arith, common_steps)
