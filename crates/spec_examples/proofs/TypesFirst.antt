-- Types are put first: in |- k x x', where x' has the name of x at the truth values, these are put for the type variable of x, and then q for both.
use Rattle.std.proofs.Common.{◌≡◌, [], ◌∷◌, ◌++◌, refl, codes}
use Rattle.std.specs.Fmt.{digits}
use Rattle.hol_spec.specs.Types.{HolType, variable}
use Rattle.hol_spec.specs.Primitives.{bool, function}
use Rattle.hol_spec.specs.Terms.{Term, free, constant, app}
use Rattle.hol_spec.specs.Sequents.{Sequent}
use Rattle.hol_spec.specs.Taking.{Takes}
use Rattle.hol_spec.specs.Rules.{Rule, Parameters, derived}
use Rattle.hol_spec.specs.Proofs.{IsProof, Each, Accepted}
use Rattle.hol_spec.specs.declared.StepKind.TheVariants.{Subst}
use Rattle.lp_spec.specs.Trees.{Tree, Var, Sym, App, Lam, Pi}
use Rattle.lp_spec.specs.Modules.{symbol, applied, types, bools, term_of, arr_of, proof_of}
use Rattle.lp_spec.specs.Lemmas.{lemmas}
use Rattle.translate_spec.specs.Image.{image}
use Rattle.lp_spec.specs.Numerals.{numeral}
use Rattle.spec_examples.proofs.SmallRuns.{name, boolean, q, TB, takes, infers, assumes, exports, theorem, own_lines, next, assumed, exported, alone}

abbrev a : HolType
a = variable (name (codes "a"))

abbrev k_at : HolType → Term
k_at t = constant (name (codes "k")) (function t (function bool bool))

abbrev general : Sequent
general = derived [] (app (app (k_at a) (free (name (codes "x")) a)) (boolean (codes "x")))

abbrev special : Sequent
special = derived [] (app (app (k_at bool) q) q)

abbrev put : Parameters
put = Parameters.substitution ((name (codes "a"), bool) ∷ []) (((name (codes "x"), bool), q) ∷ [])

abbrev run : Accepted
run = record {
  made = takes (name (codes "k")) ∷ assumes general ∷ infers Subst (0 ∷ []) put special ∷ exports 1 special ∷ [];
  assumptions = 0 ∷ [];
  exports = 2 ∷ [];
}

-- i_k at a type and two arguments
abbrev k_tree : Tree → Tree → Tree → Tree
k_tree t x y = applied (Sym 20) (arr_of t (arr_of bools bools) ∷ x ∷ y ∷ [])

abbrev special_type : Tree
special_type = Pi TB (proof_of (k_tree bools (Var 0) (Var 0)))

its_module : image run ≡ lemmas
    ++ symbol (codes "i_k") (Pi types (term_of (Var 0)))
    ∷ symbol (codes "A0") (Pi types (Pi (term_of (Var 0)) (Pi TB (proof_of (k_tree (Var 2) (Var 1) (Var 0))))))
    ∷ theorem (codes "T1") special_type (Lam TB (applied (Sym 21) (bools ∷ Var 0 ∷ Var 0 ∷ [])))
    ∷ theorem (codes "E0") special_type (Lam TB (App (Sym 22) (Var 0))) ∷ []
unfolding numeral
its_module = refl

its_lines : own_lines run
    ≡ codes "i_k : v0 : type -> term v0"
    ∷ codes "A0 : v0 : type -> v1 : term v0 -> v2 : term bool -> proof (i_k (arr v0 (arr bool bool)) v1 v2)"
    ∷ codes "T1 : v0 : term bool -> proof (i_k (arr bool (arr bool bool)) v0 v0) := v0 : term bool => A0 bool v0 v0"
    ∷ codes "E0 : v0 : term bool -> proof (i_k (arr bool (arr bool bool)) v0 v0) := v0 : term bool => T1 v0" ∷ []
unfolding digits numeral
its_lines = refl

is_a_proof : IsProof run.made
is_a_proof =
    let one = next (takes (name (codes "k"))) Each.empty (tt {0}, Takes.input_constant refl) in
    let two = next (assumes general) one (assumed _ general (alone _ refl)) in
    let three = next (infers Subst (0 ∷ []) put special) two
    (record { premises = general ∷ []; earlier = (refl, tt); follows = record { rule = Rule.subst (refl, tt) refl; defined = tt }; law = tt {0} }) in
    next (exports 1 special) three (exported _ 1 special refl (alone _ refl) refl)
