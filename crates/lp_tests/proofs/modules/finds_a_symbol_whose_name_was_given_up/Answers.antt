use Rattle.std.proofs.Common.{[], ◌∷◌, ◌++◌, sym, refl, subst, IsFalse}
use Rattle.lp_spec.specs.Modules.{signature}
use Rattle.lp_spec.specs.ModuleOrder.{is_declared}
use Rattle.lp_tests.proofs.modules.finds_a_symbol_whose_name_was_given_up.Goals as goal

pub push_type-requires : goal.push_type-requires
push_type-requires g c = record {
  held = c.in_ok-module.ensures.held;
  new_name = subst (λ ds. IsFalse (is_declared (signature ++ ds) (110 ∷ 97 ∷ 116 ∷ []))) (sym c.in_ok-module.ensures.empty) refl;
}
