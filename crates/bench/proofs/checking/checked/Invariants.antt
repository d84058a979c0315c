use Rattle.std.proofs.Common.{◌≡◌}
use Rattle.lp_spec.specs.ModuleOrder.{IsModule}
use Rattle.holide_sig.specs.Modules.{declarations_of, IsHeld}
use Rattle.bench.proofs.checking.checked.Given as goal

abbrev pub invariant-loop-i : goal.invariant-loop-i
invariant-loop-i l = IsHeld l.base × IsModule (declarations_of l.base) × (l.base.decls ≡ l.fn.base.decls)
