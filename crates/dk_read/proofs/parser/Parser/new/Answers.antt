use Rattle.std.proofs.Common.{◌≡◌, [], refl, sym, subst}
use Rattle.lp_spec.specs.ModuleOrder.{IsModule}
use Rattle.holide_sig.specs.Modules.{declarations_of, IsHeld}
use Rattle.holide_sig.specs.declared.module.Module.{Module}
use Rattle.dk_read.proofs.Symbols.{first_reading}
use Rattle.dk_read.proofs.parser.Parser.new.Goals as goal

pub returns-clause-reading : goal.returns-clause-reading
returns-clause-reading c =
    let same = sym c.give_up_names.ensures in
    first_reading _ (subst IsHeld same c.in_ok-module.ensures.held)
    (subst (λ (m : Module). IsModule (declarations_of m)) same c.in_ok-module.ensures.is_module)
    (subst (λ (m : Module). declarations_of m ≡ []) same c.in_ok-module.ensures.empty) c.in-Ok.ensures.nameless
    c.in-Ok.ensures.symbols c.new-3.ensures.items c.in-Ok-new.ensures.variables c.in-Ok-new.ensures.symbols refl refl refl

pub returns-clause-first : goal.returns-clause-first
returns-clause-first c = record {
  decls = subst (λ (m : Module). m.decls ≡ []) (sym c.give_up_names.ensures) c.in_ok-module.ensures.none;
  nameless = c.in-Ok.ensures.nameless;
  symbols = c.in-Ok.ensures.symbols;
  frames = c.new-3.ensures.items;
  variables = c.in-Ok-new.ensures.variables;
  kept = c.in-Ok-new.ensures.symbols;
  binders = refl;
  head = refl;
  state = refl;
}
