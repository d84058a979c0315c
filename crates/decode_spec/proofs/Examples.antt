-- Types that are decoded, and types that are the product over no sequent.
use Rattle.std.specs.Prelude.{◌≡◌, ℕ, List, [], ◌∷◌, None, Some, refl, codes}
use Rattle.hol_spec.specs.Primitives.{equality_name}
use Rattle.hol_spec.specs.ClosedForm.{ClosedType, ClosedTerm}
use Rattle.lp_spec.specs.Trees.{Var, Sym, App, Pi}
use Rattle.lp_spec.specs.Modules.{Declaration, symbol, types, bools, term_of, proof_of, eq_of}
use Rattle.translate_spec.specs.ConstantMeaning.{closed_bool, closed_function}
use Rattle.decode_spec.specs.Decode.{decode, closed_sequent}

abbrev equals : ClosedType → ClosedTerm
equals a = ClosedTerm.constant equality_name (closed_function a (closed_function a closed_bool))

-- `x : bool |- x = x`
pub reflexivity : decode [] (Pi (term_of bools) (proof_of (eq_of bools (Var 0) (Var 0)))) ≡
    Some (closed_sequent 0 (closed_bool ∷ []) [] (ClosedTerm.app (ClosedTerm.app (equals closed_bool) (ClosedTerm.parameter 0)) (ClosedTerm.parameter 0)))
reflexivity = refl

-- over a type variable
pub general : decode [] (Pi types (Pi (term_of (Var 0)) (proof_of (eq_of (Var 1) (Var 0) (Var 0))))) ≡
    Some (closed_sequent 1 (ClosedType.parameter 0 ∷ []) []
    (ClosedTerm.app (ClosedTerm.app (equals (ClosedType.parameter 0)) (ClosedTerm.parameter 0)) (ClosedTerm.parameter 0)))
general = refl

-- `{x} |- y`
pub weakened : decode [] (Pi (term_of bools) (Pi (term_of bools) (Pi (proof_of (Var 1)) (proof_of (Var 1))))) ≡
    Some (closed_sequent 0 (closed_bool ∷ closed_bool ∷ []) (ClosedTerm.parameter 0 ∷ []) (ClosedTerm.parameter 1))
weakened = refl

-- no sequent: `type` itself
pub no_proof : decode [] types ≡ None
no_proof = refl

-- a variable that doesn't occur
pub vanished : decode [] (Pi (term_of bools) (Pi (term_of bools) (proof_of (Var 1)))) ≡ None
vanished = refl

-- variables in another order than that of first occurrence
pub out_of_order : decode [] (Pi (term_of bools) (Pi (term_of bools) (proof_of (eq_of bools (Var 0) (Var 1))))) ≡ None
out_of_order = refl

-- a hypothesis twice
pub repeated : decode [] (Pi (term_of bools) (Pi (proof_of (Var 0)) (Pi (proof_of (Var 1)) (proof_of (Var 2))))) ≡ None
repeated = refl

-- a conclusion that isn't of type `bool`
pub no_formula : decode [] (Pi types (Pi (term_of (Var 0)) (proof_of (Var 0)))) ≡ None
no_formula = refl

-- a type that isn't in head form: the product for `term (arr bool bool)`
pub unfolded : decode [] (Pi (Pi (term_of bools) (term_of bools)) (proof_of (App (Var 0) (Var 0)))) ≡ None
unfolded = refl

-- an input constant and a defined one of one name
abbrev two_names : List Declaration
two_names = symbol (codes "i_x") (Pi types (term_of (Var 0))) ∷ symbol (codes "c_x") (term_of bools) ∷ symbol (codes "i__3d") (Pi types (term_of (Var 0))) ∷ []

abbrev constant_x : ClosedTerm
constant_x = ClosedTerm.constant (codes "x" ∷ []) closed_bool

pub one_of_two : decode two_names (proof_of (Sym 19)) ≡ Some (closed_sequent 0 [] [] constant_x)
one_of_two = refl

pub other_of_two : decode two_names (proof_of (App (Sym 18) bools)) ≡ Some (closed_sequent 0 [] [] constant_x)
other_of_two = refl

-- so two hypotheses become one
pub become_one : decode two_names (Pi (proof_of (Sym 19)) (Pi (proof_of (App (Sym 18) bools)) (proof_of (Sym 19)))) ≡ None
become_one = refl

-- a symbol named for a primitive constant stands for none
pub primitive_input : decode two_names (proof_of (App (Sym 20) bools)) ≡ None
primitive_input = refl
