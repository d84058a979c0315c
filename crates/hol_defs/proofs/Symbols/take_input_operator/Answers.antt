use Rattle.std.proofs.Common.{ap, ◌∙◌, ◌++◌, ◌∷◌, [], map}
use Rattle.hol_spec.specs.Lists.{is_in}
use Rattle.hol_defs.specs.Indexes.{same_use, taken_of, uses_of}
use Rattle.hol_defs.specs.Symbols.{Taken}
use Rattle.hol_defs.proofs.UseLaws.{IsIndexed-used, taken_of-cut}
use Rattle.hol_defs.proofs.Symbols.take_input_operator.Goals as goal

pub invariant_of-self : goal.invariant_of-self
invariant_of-self c = rw c.in_err-push_input_operator.ensures.unchanged c.self.invariant

pub invariant_of-self-in-Ok : goal.invariant_of-self-in-Ok
invariant_of-self-in-Ok c =
    IsIndexed-used (map taken_of c.self.inside.taken.items) _ c.self.inside.inputs c.self.inside.generics c.self.inside.uses _ c.self.inside.names _
    c.self.inside.arities c.args.name.now c.args.arity c.self.invariant
    (ap (λ taken. is_in same_use (c.args.name.now, c.args.arity) (uses_of taken)) c.self.view_is ∙ c.requires) c.in_ok-push_input_operator.ensures.takes
    c.in-Ok.ensures.uses c.in-Ok.ensures.names

pub invariant_of-self-in-Err : goal.invariant_of-self-in-Err
invariant_of-self-in-Err c =
    rw (
      taken_of-cut c.self.inside.taken c.push_input_operator.new.taken.items c.truncate.new.self.items (Taken.input_operator c.args.name.now c.args.arity)
          c.len-count.result c.in_ok-push_input_operator.ensures.takes c.len-count.ensures c.truncate.ensures.items,
      c.in-Err.ensures.no_use,
      c.in-Err.ensures.no_name,
    ) c.self.invariant

pub returns-in-Ok-clause-takes : goal.returns-in-Ok-clause-takes
returns-in-Ok-clause-takes c = c.in_ok-push_input_operator.ensures.takes ∙ ap (λ l. l ++ Taken.input_operator c.args.name.now c.args.arity ∷ []) c.self.view_is

pub returns-in-Err-clause-unchanged : goal.returns-in-Err-clause-unchanged
returns-in-Err-clause-unchanged c =
    taken_of-cut c.self.inside.taken c.push_input_operator.new.taken.items c.truncate.new.self.items (Taken.input_operator c.args.name.now c.args.arity)
    c.len-count.result c.in_ok-push_input_operator.ensures.takes c.len-count.ensures c.truncate.ensures.items ∙ c.self.view_is
