-- One step at the head: betaConv of (\x. (\y. y) x) p leaves the redex within.
use Rattle.std.proofs.Common.{◌≡◌, [], ◌∷◌, ◌++◌, refl, codes}
use Rattle.std.specs.Fmt.{digits}
use Rattle.hol_spec.specs.Primitives.{bool}
use Rattle.hol_spec.specs.Terms.{Term, bound, app, lam, equation}
use Rattle.hol_spec.specs.Sequents.{Sequent}
use Rattle.hol_spec.specs.Rules.{Rule, Parameters, derived}
use Rattle.hol_spec.specs.Proofs.{IsProof, Each, Accepted}
use Rattle.hol_spec.specs.declared.StepKind.TheVariants.{BetaConv}
use Rattle.lp_spec.specs.Trees.{Tree, Var, Sym, App, Lam, Pi}
use Rattle.lp_spec.specs.Modules.{bools, eq_of, proof_of, refl_of}
use Rattle.lp_spec.specs.Lemmas.{lemmas}
use Rattle.translate_spec.specs.Image.{image}
use Rattle.lp_spec.specs.Numerals.{numeral}
use Rattle.spec_examples.proofs.SmallRuns.{p, I, TB, infers, exports, theorem, own_lines, next, exported, alone}

abbrev redex : Term
redex = app (lam bool (app I (bound 0))) p

abbrev stepped : Sequent
stepped = derived [] (equation bool redex (app I p))

abbrev run : Accepted
run = record {
  made = infers BetaConv [] (Parameters.term redex) stepped ∷ exports 0 stepped ∷ [];
  assumptions = [];
  exports = 1 ∷ [];
}

abbrev identity : Tree
identity = Lam TB (Var 0)

abbrev stepped_type : Tree
stepped_type = Pi TB (proof_of (eq_of bools (App (Lam TB (App identity (Var 0))) (Var 0)) (App identity (Var 0))))

its_module : image run ≡ lemmas
    ++ theorem (codes "T0") stepped_type (Lam TB (refl_of bools (App identity (Var 0))))
    ∷ theorem (codes "E0") stepped_type (Lam TB (App (Sym 20) (Var 0))) ∷ []
unfolding numeral
its_module = refl

its_lines : own_lines run
    ≡ codes
    "T0 : v0 : term bool -> proof (eq bool ((v1 : term bool => (v2 : term bool => v2) v1) v0) ((v1 : term bool => v1) v0)) := v0 : term bool => refl bool ((v1 : term bool => v1) v0)"
    ∷ codes "E0 : v0 : term bool -> proof (eq bool ((v1 : term bool => (v2 : term bool => v2) v1) v0) ((v1 : term bool => v1) v0)) := v0 : term bool => T0 v0" ∷
    []
unfolding digits numeral
its_lines = refl

is_a_proof : IsProof run.made
is_a_proof =
    let one = next (infers BetaConv [] (Parameters.term redex) stepped) Each.empty
    (record { premises = []; earlier = tt; follows = record { rule = Rule.beta_conv refl refl; defined = tt }; law = tt {0} }) in
    next (exports 0 stepped) one (exported _ 0 stepped refl (alone _ refl) refl)
