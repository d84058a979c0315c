-- No binder captures: in |- u (\y. x) a free y is put for x, and what is bound stays bound.
use Rattle.std.proofs.Common.{◌≡◌, [], ◌∷◌, ◌++◌, refl, codes}
use Rattle.std.specs.Fmt.{digits}
use Rattle.hol_spec.specs.Primitives.{bool, function}
use Rattle.hol_spec.specs.Terms.{Term, constant, app, lam}
use Rattle.hol_spec.specs.Sequents.{Sequent}
use Rattle.hol_spec.specs.Taking.{Takes}
use Rattle.hol_spec.specs.Rules.{Rule, Parameters, derived}
use Rattle.hol_spec.specs.Proofs.{IsProof, Each, Accepted}
use Rattle.hol_spec.specs.declared.StepKind.TheVariants.{Subst}
use Rattle.lp_spec.specs.Trees.{Tree, Var, Sym, App, Lam, Pi}
use Rattle.lp_spec.specs.Modules.{symbol, types, bools, term_of, arr_of, proof_of}
use Rattle.lp_spec.specs.Lemmas.{lemmas}
use Rattle.translate_spec.specs.Image.{image}
use Rattle.lp_spec.specs.Numerals.{numeral}
use Rattle.spec_examples.proofs.SmallRuns.{name, boolean, truths, TB, takes, infers, assumes, exports, theorem, own_lines, next, assumed, exported, alone}

-- u (\y. t)
abbrev over_y : Term → Term
over_y t = app (constant (name (codes "u")) (function truths bool)) (lam bool t)

abbrev of_x : Sequent
of_x = derived [] (over_y (boolean (codes "x")))

abbrev of_y : Sequent
of_y = derived [] (over_y (boolean (codes "y")))

abbrev put : Parameters
put = Parameters.substitution [] (((name (codes "x"), bool), boolean (codes "y")) ∷ [])

abbrev run : Accepted
run = record {
  made = takes (name (codes "u")) ∷ assumes of_x ∷ infers Subst (0 ∷ []) put of_y ∷ exports 1 of_y ∷ [];
  assumptions = 0 ∷ [];
  exports = 2 ∷ [];
}

-- of x and of y alike: the one free variable, from under the binder of y
abbrev of_free : Tree
of_free = Pi TB (proof_of (App (App (Sym 20) (arr_of (arr_of bools bools) bools)) (Lam TB (Var 1))))

its_module : image run ≡ lemmas
    ++ symbol (codes "i_u") (Pi types (term_of (Var 0)))
    ∷ symbol (codes "A0") of_free
    ∷ theorem (codes "T1") of_free (Lam TB (App (Sym 21) (Var 0)))
    ∷ theorem (codes "E0") of_free (Lam TB (App (Sym 22) (Var 0))) ∷ []
unfolding numeral
its_module = refl

its_lines : own_lines run
    ≡ codes "i_u : v0 : type -> term v0"
    ∷ codes "A0 : v0 : term bool -> proof (i_u (arr (arr bool bool) bool) (v1 : term bool => v0))"
    ∷ codes "T1 : v0 : term bool -> proof (i_u (arr (arr bool bool) bool) (v1 : term bool => v0)) := v0 : term bool => A0 v0"
    ∷ codes "E0 : v0 : term bool -> proof (i_u (arr (arr bool bool) bool) (v1 : term bool => v0)) := v0 : term bool => T1 v0" ∷ []
unfolding digits numeral
its_lines = refl

is_a_proof : IsProof run.made
is_a_proof =
    let one = next (takes (name (codes "u"))) Each.empty (tt {0}, Takes.input_constant refl) in
    let two = next (assumes of_x) one (assumed _ of_x (alone _ refl)) in
    let three = next (infers Subst (0 ∷ []) put of_y) two
    (record { premises = of_x ∷ []; earlier = (refl, tt); follows = record { rule = Rule.subst (refl, tt) refl; defined = tt }; law = tt {0} }) in
    next (exports 1 of_y) three (exported _ 1 of_y refl (alone _ refl) refl)
