use Rattle.std.proofs.Common.{ap, ◌∙◌}
use Rattle.std.specs.List.{list_any}
use Rattle.hol_spec.specs.Primitives.{primitive_type}
use Rattle.hol_spec.specs.Proofs.{symbols_of}
use Rattle.hol_spec.specs.Symbols.{first_defined_type, is_input_constant}
use Rattle.hol_defs.specs.Kinds.{constant_kind}
use Rattle.stack_machine.specs.Making.{is_own_kind}
use Rattle.stack_machine.proofs.OwnKinds.{is_own-first_kind}
use Rattle.stack_machine.proofs.making.is_own_constant.Goals as goal

pub returns : goal.returns
returns c =
    let symbols = symbols_of c.args.proof.now.made in
    let name = c.args.name.now in
    c.is_own.ensures
    ∙ ap is_own_kind (c.const_kind.ensures.kind c.args.proof.now.trees c.symbols.ensures.known ∙ ap (λ s. constant_kind s name) c.symbols.ensures.are)
    ∙ is_own-first_kind (primitive_type name) (first_defined_type name symbols) (list_any (is_input_constant name) symbols)
