use Rattle.std.proofs.Common.{[], ◌∷◌, ◌++◌, ap, sym, ◌∙◌, refl, subst, IsFalse}
use Rattle.lp_spec.specs.Modules.{signature, symbol, types}
use Rattle.lp_spec.specs.ModuleOrder.{is_declared}
use Rattle.lp_tests.proofs.modules.numbers_the_signature_and_then_the_declarations.Goals as goal

pub push_type-requires : goal.push_type-requires
push_type-requires g c = record {
  held = c.in_ok-module.ensures.held;
  new_name = subst (λ ds. IsFalse (is_declared (signature ++ ds) (110 ∷ 97 ∷ 116 ∷ []))) (sym c.in_ok-module.ensures.empty) refl;
}

pub push_type-requires-2 : goal.push_type-requires-2
push_type-requires-2 g c = record {
  held = c.in_ok-push_type.ensures.held;
  new_name =
      subst (λ ds. IsFalse (is_declared (signature ++ ds) (108 ∷ 105 ∷ 115 ∷ 116 ∷ [])))
      (sym (c.in_ok-push_type.ensures.ok ∙ ap (λ ds. ds ++ symbol (110 ∷ 97 ∷ 116 ∷ []) types ∷ []) c.in_ok-module.ensures.empty)) refl;
}
