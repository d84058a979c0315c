use Rattle.std.proofs.Common.{sym, subst}
use Rattle.lp_spec.specs.ModuleOrder.{IsModule}
use Rattle.lp_conv.specs.GrowthLaws.{IsHeld-Grows, declarations_of-Grows}
use Rattle.bench.proofs.checking.answer.Goals as goal

pub returns-clause-held : goal.returns-clause-held
returns-clause-held c = IsHeld-Grows _ _ c.check_decl.ensures.grows c.requires.held

pub returns-clause-is_module : goal.returns-clause-is_module
returns-clause-is_module c = subst IsModule (sym (declarations_of-Grows _ _ c.check_decl.ensures.grows c.requires.held)) c.requires.is_module
