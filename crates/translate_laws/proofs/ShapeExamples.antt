-- An example: the conditions can be met, so the module is well typed and its check says yes; and what a step weighs.
use Rattle.std.proofs.Common.{◌≡◌, refl, [], ◌∷◌}
use Rattle.std.specs.Prelude.{codes}
use Rattle.lp_spec.specs.Lemmas.{theorem}
use Rattle.lp_spec.specs.Modules.{Declaration, bools, eq_of, proof_of, refl_of}
use Rattle.lp_spec.specs.Typing.{WellTyped}
use Rattle.lp_spec.specs.Weight.{weight}
use Rattle.translate_spec.specs.Reach.{number_key, reached}
use Rattle.translate_laws.proofs.ItemExamples.{made, made_in_order, f_tree}
use Rattle.translate_laws.specs.ItemShapes.{reached-WellTyped}
use Rattle.lp_check_laws.specs.PricedModules.{IsPriced}
use Rattle.translate_laws.specs.PricedModules.{reached-priced}

example_typed : WellTyped (reached (number_key 3 ∷ []) made)
example_typed = reached-WellTyped (number_key 3 ∷ []) made made_in_order

-- the step T0 after the lemmas and the constant
abbrev step_T0 : Declaration
step_T0 = theorem (codes "T0") [] (proof_of (eq_of bools f_tree f_tree)) (refl_of bools f_tree)

example_priced : IsPriced (reached (number_key 3 ∷ []) made) 3 step_T0
example_priced = reached-priced (number_key 3 ∷ []) made made_in_order 3 step_T0 refl

example_weight : weight (reached (number_key 3 ∷ []) made) step_T0 ≡ 70
example_weight = refl
