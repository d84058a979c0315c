-- A hypothesis is removed up to renaming: of {u (\y. y)} |- p and |- u (\z. z) follows |- p = u (\y. y), with no hypothesis left.
use Rattle.std.proofs.Common.{◌≡◌, ℕ, List, [], ◌∷◌, ◌++◌, refl, codes}
use Rattle.std.specs.Fmt.{digits}
use Rattle.std.specs.List.{IsDistinct}
use Rattle.hol_spec.specs.Primitives.{bool, function}
use Rattle.hol_spec.specs.Terms.{Term, constant, app, term_eq, equation}
use Rattle.hol_spec.specs.Sequents.{Sequent, IsSequent}
use Rattle.hol_spec.specs.Taking.{Takes}
use Rattle.hol_spec.specs.Rules.{Rule, Parameters, derived, abstraction}
use Rattle.hol_spec.specs.Proofs.{IsProof, Each, Accepted}
use Rattle.hol_spec.specs.declared.StepKind.TheVariants.{DeductAntisym}
use Rattle.lp_spec.specs.Trees.{Tree, Var, Sym, App, Lam, Pi}
use Rattle.lp_spec.specs.Modules.{symbol, applied, types, bools, term_of, arr_of, eq_of, proof_of, prop_ext_symbol}
use Rattle.lp_spec.specs.Lemmas.{lemmas}
use Rattle.translate_spec.specs.Image.{image}
use Rattle.lp_spec.specs.Numerals.{numeral}
use Rattle.spec_examples.proofs.SmallRuns.{name, boolean, p, truths, TB, takes, infers, assumes, exports, theorem, own_lines, next, assumed, exported, alone}

-- u of the identity, whose variable has this name
abbrev u_of : List ℕ → Term
u_of x = app (constant (name (codes "u")) (function truths bool)) (abstraction (name x, bool) (boolean x))

abbrev under : Sequent
under = derived (u_of (codes "y") ∷ []) p

abbrev without : Sequent
without = derived [] (u_of (codes "z"))

abbrev removed : Sequent
removed = derived [] (equation bool p (u_of (codes "z")))

abbrev run : Accepted
run = record {
  made = takes (name (codes "u")) ∷ assumes under ∷ assumes without ∷ infers DeductAntisym (0 ∷ 1 ∷ []) Parameters.nothing removed ∷ exports 2 removed ∷ [];
  assumptions = 0 ∷ 1 ∷ [];
  exports = 3 ∷ [];
}

abbrev U : Tree
U = App (App (Sym 20) (arr_of (arr_of bools bools) bools)) (Lam TB (Var 0))

abbrev removed_type : Tree
removed_type = Pi TB (proof_of (eq_of bools (Var 0) U))

its_module : image run ≡ lemmas
    ++ symbol (codes "i_u") (Pi types (term_of (Var 0)))
    ∷ symbol (codes "A0") (Pi TB (Pi (proof_of U) (proof_of (Var 1))))
    ∷ symbol (codes "A1") (proof_of U)
    ∷ theorem (codes "T2") removed_type
    (Lam TB (applied (Sym prop_ext_symbol) (Var 0 ∷ U ∷ Lam (proof_of (Var 0)) (Sym 22) ∷ Lam (proof_of U) (applied (Sym 21) (Var 1 ∷ Var 0 ∷ [])) ∷ [])))
    ∷ theorem (codes "E0") removed_type (Lam TB (App (Sym 23) (Var 0))) ∷ []
unfolding numeral
its_module = refl

its_lines : own_lines run
    ≡ codes "i_u : v0 : type -> term v0"
    ∷ codes "A0 : v0 : term bool -> v1 : proof (i_u (arr (arr bool bool) bool) (v1 : term bool => v1)) -> proof v0"
    ∷ codes "A1 : proof (i_u (arr (arr bool bool) bool) (v0 : term bool => v0))"
    ∷ codes
    "T2 : v0 : term bool -> proof (eq bool v0 (i_u (arr (arr bool bool) bool) (v1 : term bool => v1))) := v0 : term bool => prop_ext v0 (i_u (arr (arr bool bool) bool) (v1 : term bool => v1)) (v1 : proof v0 => A1) (v1 : proof (i_u (arr (arr bool bool) bool) (v1 : term bool => v1)) => A0 v0 v1)"
    ∷ codes "E0 : v0 : term bool -> proof (eq bool v0 (i_u (arr (arr bool bool) bool) (v1 : term bool => v1))) := v0 : term bool => T2 v0" ∷ []
unfolding digits numeral
its_lines = refl

one_hypothesis : IsDistinct term_eq (u_of (codes "y") ∷ [])
unfolding IsDistinct
one_hypothesis = (tt, tt)

under_a_sequent : IsSequent under
under_a_sequent = record { no_repeats = one_hypothesis; hypotheses = (refl, tt); conclusion = refl }

is_a_proof : IsProof run.made
is_a_proof =
    let one = next (takes (name (codes "u"))) Each.empty (tt {0}, Takes.input_constant refl) in
    let two = next (assumes under) one (assumed _ under under_a_sequent) in
    let three = next (assumes without) two (assumed _ without (alone _ refl)) in
    let four = next (infers DeductAntisym (0 ∷ 1 ∷ []) Parameters.nothing removed) three
    (record { premises = under ∷ without ∷ []; earlier = (refl, (refl, tt)); follows = record { rule = Rule.deduct_antisym refl; defined = tt }; law = tt {0} })
    in
    next (exports 2 removed) four (exported _ 2 removed refl (alone _ refl) refl)
