use Rattle.std.proofs.Common.{◌≡◌, sym, ap, subst, ◌∙◌}
use Rattle.std.specs.Prelude.{if◌then◌else◌}
use Rattle.common.specs.declared.faults.Fault.TheVariants.{Refused}
use Rattle.common.specs.declared.faults.Kind.TheVariants.{NameTaken, NotTheSequent}
use Rattle.hol_defs.specs.Faults.{are_new}
use Rattle.hol_rules.specs.Laws.{named_by}
use Rattle.hol_rules.proofs.proof.Proof.without_application.Goals as goal

pub returns-then-are_new : goal.returns-then-are_new
returns-then-are_new c =
    let names = named_by c.args.names in
    let is = c.are_new.ensures.new c.self.inside.terms c.args.names.variables.now c.self.invariant.symbols_known in
    rw (← c.self.view_is) (
    subst (λ ss. Refused NotTheSequent ≡ Refused (if are_new ss names then NotTheSequent else NameTaken)) (sym c.self.invariant.symbols_taken)
    (ap (λ b. Refused (if b then NotTheSequent else NameTaken)) (sym c.if-are_new.true ∙ is))
    )

pub returns-else-are_new : goal.returns-else-are_new
returns-else-are_new c =
    let names = named_by c.args.names in
    let is = c.are_new.ensures.new c.self.inside.terms c.args.names.variables.now c.self.invariant.symbols_known in
    rw (← c.self.view_is) (
    subst (λ ss. Refused NameTaken ≡ Refused (if are_new ss names then NotTheSequent else NameTaken)) (sym c.self.invariant.symbols_taken)
    (ap (λ b. Refused (if b then NotTheSequent else NameTaken)) (sym c.if-are_new.false ∙ is))
    )
