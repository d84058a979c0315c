-- Hypotheses merge: of {p, q} |- r, with p put for q, {p} |- r, whose proof passes the one hypothesis twice.
use Rattle.std.proofs.Common.{◌≡◌, [], ◌∷◌, ◌++◌, refl, codes}
use Rattle.std.specs.Fmt.{digits}
use Rattle.std.specs.List.{IsDistinct}
use Rattle.hol_spec.specs.Primitives.{bool}
use Rattle.hol_spec.specs.Terms.{term_eq}
use Rattle.hol_spec.specs.Sequents.{Sequent, IsSequent}
use Rattle.hol_spec.specs.Rules.{Rule, Parameters, derived}
use Rattle.hol_spec.specs.Proofs.{IsProof, Each, Accepted}
use Rattle.hol_spec.specs.declared.StepKind.TheVariants.{Subst}
use Rattle.lp_spec.specs.Trees.{Tree, Var, Sym, Lam, Pi}
use Rattle.lp_spec.specs.Modules.{symbol, applied, proof_of}
use Rattle.lp_spec.specs.Lemmas.{lemmas}
use Rattle.translate_spec.specs.Image.{image}
use Rattle.lp_spec.specs.Numerals.{numeral}
use Rattle.spec_examples.proofs.SmallRuns.{name, p, q, r, TB, infers, assumes, exports, theorem, own_lines, next, assumed, exported}

abbrev apart : Sequent
apart = derived (p ∷ q ∷ []) r

abbrev merged : Sequent
merged = derived (p ∷ []) r

abbrev put : Parameters
put = Parameters.substitution [] (((name (codes "q"), bool), p) ∷ [])

abbrev run : Accepted
run = record {
  made = assumes apart ∷ infers Subst (0 ∷ []) put merged ∷ exports 1 merged ∷ [];
  assumptions = 0 ∷ [];
  exports = 2 ∷ [];
}

-- under the binders of p and r, and of a proof of p
abbrev merged_type : Tree
merged_type = Pi TB (Pi TB (Pi (proof_of (Var 1)) (proof_of (Var 1))))

abbrev merged_body : Tree → Tree
merged_body t = Lam TB (Lam TB (Lam (proof_of (Var 1)) t))

its_module : image run ≡ lemmas
    ++ symbol (codes "A0") (Pi TB (Pi TB (Pi TB (Pi (proof_of (Var 2)) (Pi (proof_of (Var 2)) (proof_of (Var 2)))))))
    ∷ theorem (codes "T1") merged_type (merged_body (applied (Sym 20) (Var 2 ∷ Var 2 ∷ Var 1 ∷ Var 0 ∷ Var 0 ∷ [])))
    ∷ theorem (codes "E0") merged_type (merged_body (applied (Sym 21) (Var 2 ∷ Var 1 ∷ Var 0 ∷ []))) ∷ []
unfolding numeral
its_module = refl

its_lines : own_lines run
    ≡ codes "A0 : v0 : term bool -> v1 : term bool -> v2 : term bool -> v3 : proof v0 -> v4 : proof v1 -> proof v2"
    ∷ codes "T1 : v0 : term bool -> v1 : term bool -> v2 : proof v0 -> proof v1 := v0 : term bool => v1 : term bool => v2 : proof v0 => A0 v0 v0 v1 v2 v2"
    ∷ codes "E0 : v0 : term bool -> v1 : term bool -> v2 : proof v0 -> proof v1 := v0 : term bool => v1 : term bool => v2 : proof v0 => T1 v0 v1 v2" ∷ []
unfolding digits numeral
its_lines = refl

two_hypotheses : IsDistinct term_eq (p ∷ q ∷ [])
unfolding IsDistinct
two_hypotheses = ((refl, tt), (tt, tt))

one_hypothesis : IsDistinct term_eq (p ∷ [])
unfolding IsDistinct
one_hypothesis = (tt, tt)

apart_a_sequent : IsSequent apart
apart_a_sequent = record { no_repeats = two_hypotheses; hypotheses = (refl, (refl, tt)); conclusion = refl }

merged_a_sequent : IsSequent merged
merged_a_sequent = record { no_repeats = one_hypothesis; hypotheses = (refl, tt); conclusion = refl }

is_a_proof : IsProof run.made
is_a_proof =
    let one = next (assumes apart) Each.empty (assumed _ apart apart_a_sequent) in
    let two = next (infers Subst (0 ∷ []) put merged) one
    (record { premises = apart ∷ []; earlier = (refl, tt); follows = record { rule = Rule.subst (refl, tt) refl; defined = tt }; law = tt {0} }) in
    next (exports 1 merged) two (exported _ 1 merged refl merged_a_sequent refl)
