-- Closed texts of small sequents.
use Rattle.std.proofs.Common.{◌≡◌, refl, arith, [], ◌∷◌}
use Rattle.std.specs.Prelude.{codes, decimal}
use Rattle.std.proofs.lemmas.Fmt.{decimal_digit}
use Rattle.hol_spec.specs.Primitives.{equality_name}
use Rattle.hol_spec.specs.ClosedForm.{ClosedType, ClosedTerm}
use Rattle.translate_spec.specs.ConstantMeaning.{closed_bool, closed_function}
use Rattle.decode_spec.specs.Decode.{closed_sequent}
use Rattle.decode_spec.specs.ClosedText.{closed_text}

digit_0 : decimal 0 ≡ 48 ∷ []
digit_0 = decimal_digit 0 (omega arith)

digit_1 : decimal 1 ≡ 49 ∷ []
digit_1 = decimal_digit 1 (omega arith)

digit_2 : decimal 2 ≡ 50 ∷ []
digit_2 = decimal_digit 2 (omega arith)

abbrev equals : ClosedTerm
equals = ClosedTerm.constant equality_name (closed_function closed_bool (closed_function closed_bool closed_bool))

-- reflexivity of a boolean variable
pub reflexivity : closed_text
    (closed_sequent 0 (closed_bool ∷ []) [] (ClosedTerm.app (ClosedTerm.app equals (ClosedTerm.parameter 0)) (ClosedTerm.parameter 0))) ≡
    codes "[] [x0:bool] {} |- (((=:(bool -> (bool -> bool))) x0) x0)"
reflexivity = rw digit_0 refl

-- two hypotheses and a conclusion, each a variable
pub weakened : closed_text
    (closed_sequent 0 (closed_bool ∷ closed_bool ∷ closed_bool ∷ []) (ClosedTerm.parameter 0 ∷ ClosedTerm.parameter 1 ∷ []) (ClosedTerm.parameter 2)) ≡
    codes "[] [x0:bool x1:bool x2:bool] {x0, x1} |- x2"
weakened = rw (digit_0, digit_1, digit_2) refl

-- a binder under a binder, of which the outer one is used first
pub bound_twice : closed_text
    (closed_sequent 1 [] [] (ClosedTerm.lam (ClosedType.parameter 0) (ClosedTerm.lam closed_bool (ClosedTerm.app (ClosedTerm.bound 1) (ClosedTerm.bound 0))))) ≡
    codes "[a0] [] {} |- (\\b0:a0. (\\b1:bool. (b0 b1)))"
bound_twice = rw (digit_0, digit_1) refl
