-- Worked examples: a theorem that is typed over every closed module, and a module with it that is well typed.
use Rattle.std.proofs.Common.{refl, List, [], ◌∷◌, Some, codes}
use Rattle.lp_spec.specs.declared.form.Form.TheVariants.{Def}
use Rattle.lp_spec.specs.Trees.{Var}
use Rattle.lp_spec.specs.Modules.{Declaration, types, bools, term_of, eq_of, proof_of, refl_of}
use Rattle.lp_spec.specs.Lemmas.{theorem}
use Rattle.lp_spec.specs.Typing.{of_variable, IsTypedAfter, WellTyped}
use Rattle.lp_typing_laws.specs.ConversionLaws.{IsClosed}
use Rattle.lp_typing_laws.specs.SignatureForms.{Typed-types, Typed-bools, Typed-term_of, Typed-proof_of, Typed-eq_of}
use Rattle.lp_typing_laws.specs.SignatureCalls.{Typed-refl_of}
use Rattle.lp_typing_laws.specs.Telescopes.{IsTypedAfter-theorem}
use Rattle.lp_typing_laws.specs.WellTypedLaws.{WellTyped-IsClosed}

-- def y : type := bool
abbrev y : Declaration
y = record { name = codes "y"; form = Def; ty = types; body = Some bools }

-- the module of y is well typed
y_declared : WellTyped (y ∷ [])
y_declared = (record { ty = Typed-types []; body = Typed-bools [] }, tt {0})

-- the theorem that each p equals itself
reflexivity : Declaration
reflexivity = theorem (codes "T") (term_of bools ∷ []) (proof_of (eq_of bools (Var 0) (Var 0))) (refl_of bools (Var 0))

-- the theorem is typed over every closed module
reflexivity_typed : (m : List Declaration) → IsClosed m → IsTypedAfter m reflexivity
unfolding reflexivity
reflexivity_typed m closed =
    IsTypedAfter-theorem m (codes "T") (term_of bools ∷ []) (proof_of (eq_of bools (Var 0) (Var 0))) (refl_of bools (Var 0))
    (Typed-term_of m (Typed-bools m), tt {0})
    (Typed-proof_of m (Typed-eq_of m closed (Typed-bools m) (of_variable refl refl) (of_variable refl refl)))
    (Typed-refl_of m (Typed-bools m) (of_variable refl refl))

-- so the module of y and the theorem is well typed
reflexivity_declared : WellTyped (y ∷ reflexivity ∷ [])
unfolding reflexivity
reflexivity_declared = (y_declared.0, (reflexivity_typed (y ∷ []) (WellTyped-IsClosed (y ∷ []) y_declared), tt {0}))
