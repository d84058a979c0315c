use Rattle.std.proofs.Common.{ap, ◌∙◌, ◌++◌, ◌∷◌, [], map}
use Rattle.hol_spec.specs.Lists.{is_in}
use Rattle.hol_spec.specs.NameEquality.{name_eq}
use Rattle.hol_defs.specs.Indexes.{inputs_of, taken_of}
use Rattle.hol_defs.specs.Symbols.{Taken}
use Rattle.hol_defs.proofs.UseLaws.{IsIndexed-input, taken_of-cut}
use Rattle.hol_defs.proofs.Symbols.take_input.Goals as goal

pub invariant_of-self : goal.invariant_of-self
invariant_of-self c = rw c.in_err-push_input.ensures.unchanged c.self.invariant

pub invariant_of-self-in-Ok : goal.invariant_of-self-in-Ok
invariant_of-self-in-Ok c =
    IsIndexed-input (map taken_of c.self.inside.taken.items) _ c.self.inside.inputs _ c.self.inside.generics c.self.inside.uses c.self.inside.names
    c.self.inside.arities c.args.name.now c.self.invariant (ap (λ taken. is_in name_eq c.args.name.now (inputs_of taken)) c.self.view_is ∙ c.requires)
    c.in_ok-push_input.ensures.takes c.in-Ok.ensures.added

pub invariant_of-self-in-Err : goal.invariant_of-self-in-Err
invariant_of-self-in-Err c =
    rw (
      taken_of-cut c.self.inside.taken c.push_input.new.taken.items c.truncate.new.self.items (Taken.input_constant c.args.name.now) c.len-count.result
          c.in_ok-push_input.ensures.takes c.len-count.ensures c.truncate.ensures.items,
      c.in-Err.ensures.unchanged,
    ) c.self.invariant

pub returns-in-Ok-clause-takes : goal.returns-in-Ok-clause-takes
returns-in-Ok-clause-takes c = c.in_ok-push_input.ensures.takes ∙ ap (λ l. l ++ Taken.input_constant c.args.name.now ∷ []) c.self.view_is

pub returns-in-Err-clause-unchanged : goal.returns-in-Err-clause-unchanged
returns-in-Err-clause-unchanged c =
    taken_of-cut c.self.inside.taken c.push_input.new.taken.items c.truncate.new.self.items (Taken.input_constant c.args.name.now) c.len-count.result
    c.in_ok-push_input.ensures.takes c.len-count.ensures c.truncate.ensures.items ∙ c.self.view_is
