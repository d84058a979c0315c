-- A free variable and its type variable vanish: of |- p = n z and |- n z = r follows |- p = r, whose proof puts a filler for z and `bool` for its type.
use Rattle.std.proofs.Common.{◌≡◌, [], ◌∷◌, ◌++◌, refl, codes}
use Rattle.std.specs.Fmt.{digits}
use Rattle.hol_spec.specs.Types.{HolType, variable}
use Rattle.hol_spec.specs.Primitives.{bool, function}
use Rattle.hol_spec.specs.Terms.{Term, free, constant, app, equation}
use Rattle.hol_spec.specs.Sequents.{Sequent}
use Rattle.hol_spec.specs.Taking.{Takes}
use Rattle.hol_spec.specs.Rules.{Rule, Parameters, derived}
use Rattle.hol_spec.specs.Proofs.{IsProof, Each, Accepted}
use Rattle.hol_spec.specs.declared.StepKind.TheVariants.{Trans}
use Rattle.lp_spec.specs.Trees.{Tree, Var, Sym, App, Lam, Pi}
use Rattle.lp_spec.specs.Modules.{symbol, applied, types, bools, term_of, arr_of, eq_of, proof_of, select_symbol}
use Rattle.lp_spec.specs.Lemmas.{lemmas}
use Rattle.translate_spec.specs.Image.{image}
use Rattle.lp_spec.specs.Numerals.{numeral}
use Rattle.spec_examples.proofs.SmallRuns.{name, p, r, TB, takes, infers, assumes, exports, theorem, own_lines, next, assumed, exported, alone}

abbrev a : HolType
a = variable (name (codes "a"))

-- n z, of an input constant n and a free variable z of the type a
abbrev m : Term
m = app (constant (name (codes "n")) (function a bool)) (free (name (codes "z")) a)

abbrev first : Sequent
first = derived [] (equation bool p m)

abbrev second : Sequent
second = derived [] (equation bool m r)

abbrev joined : Sequent
joined = derived [] (equation bool p r)

abbrev run : Accepted
run = record {
  made = takes (name (codes "n")) ∷ assumes first ∷ assumes second ∷ infers Trans (0 ∷ 1 ∷ []) Parameters.nothing joined ∷ exports 2 joined ∷ [];
  assumptions = 0 ∷ 1 ∷ [];
  exports = 3 ∷ [];
}

-- i_n at a type, and the filler of the truth values: the choice of an x with x = x
abbrev n_at : Tree → Tree
n_at t = App (Sym 20) (arr_of t bools)

abbrev S : Tree
S = applied (Sym select_symbol) (bools ∷ Lam TB (eq_of bools (Var 0) (Var 0)) ∷ [])

abbrev joined_type : Tree
joined_type = Pi TB (Pi TB (proof_of (eq_of bools (Var 1) (Var 0))))

its_module : image run ≡ lemmas
    ++ symbol (codes "i_n") (Pi types (term_of (Var 0)))
    ∷ symbol (codes "A0") (Pi types (Pi TB (Pi (term_of (Var 1)) (proof_of (eq_of bools (Var 1) (App (n_at (Var 2)) (Var 0)))))))
    ∷ symbol (codes "A1") (Pi types (Pi (term_of (Var 0)) (Pi TB (proof_of (eq_of bools (App (n_at (Var 2)) (Var 1)) (Var 0))))))
    ∷ theorem (codes "T2") joined_type
    (Lam TB (Lam TB (applied (Sym 19)
    (bools ∷ Var 1 ∷ App (n_at bools) S ∷ Var 0 ∷ applied (Sym 21) (bools ∷ Var 1 ∷ S ∷ []) ∷ applied (Sym 22) (bools ∷ S ∷ Var 0 ∷ []) ∷ []))))
    ∷ theorem (codes "E0") joined_type (Lam TB (Lam TB (applied (Sym 23) (Var 1 ∷ Var 0 ∷ [])))) ∷ []
unfolding numeral
its_module = refl

its_lines : own_lines run
    ≡ codes "i_n : v0 : type -> term v0"
    ∷ codes "A0 : v0 : type -> v1 : term bool -> v2 : term v0 -> proof (eq bool v1 (i_n (arr v0 bool) v2))"
    ∷ codes "A1 : v0 : type -> v1 : term v0 -> v2 : term bool -> proof (eq bool (i_n (arr v0 bool) v1) v2)"
    ∷ codes
    "T2 : v0 : term bool -> v1 : term bool -> proof (eq bool v0 v1) := v0 : term bool => v1 : term bool => trans bool v0 (i_n (arr bool bool) (select bool (v2 : term bool => eq bool v2 v2))) v1 (A0 bool v0 (select bool (v2 : term bool => eq bool v2 v2))) (A1 bool (select bool (v2 : term bool => eq bool v2 v2)) v1)"
    ∷ codes "E0 : v0 : term bool -> v1 : term bool -> proof (eq bool v0 v1) := v0 : term bool => v1 : term bool => T2 v0 v1" ∷ []
unfolding digits numeral
its_lines = refl

is_a_proof : IsProof run.made
is_a_proof =
    let one = next (takes (name (codes "n"))) Each.empty (tt {0}, Takes.input_constant refl) in
    let two = next (assumes first) one (assumed _ first (alone _ refl)) in
    let three = next (assumes second) two (assumed _ second (alone _ refl)) in
    let four = next (infers Trans (0 ∷ 1 ∷ []) Parameters.nothing joined) three
    (record { premises = first ∷ second ∷ []; earlier = (refl, (refl, tt)); follows = record { rule = Rule.trans refl refl refl; defined = tt }; law = tt {0} })
    in
    next (exports 2 joined) four (exported _ 2 joined refl (alone _ refl) refl)
