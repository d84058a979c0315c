use Rattle.std.proofs.Common.{ap, ◌∙◌, ◌++◌, ◌∷◌, [], map}
use Rattle.hol_defs.specs.Indexes.{taken_of}
use Rattle.hol_defs.specs.Symbols.{named}
use Rattle.hol_defs.specs.Views.{operator_of_view}
use Rattle.hol_defs.proofs.OperatorLaws.{IsIndexed-operator}
use Rattle.hol_defs.proofs.UseLaws.{taken_of-cut}
use Rattle.hol_defs.proofs.Symbols.push_op.Goals as goal

pub invariant_of-self : goal.invariant_of-self
invariant_of-self c = rw c.in_err-push_operator.ensures.unchanged c.self.invariant

pub invariant_of-self-in-Ok : goal.invariant_of-self-in-Ok
invariant_of-self-in-Ok c =
    IsIndexed-operator (map taken_of c.self.inside.taken.items) _ c.self.inside.inputs c.self.inside.generics _ c.self.inside.uses c.self.inside.names
    c.self.inside.arities _ (named c.args.definition.op.now c.args.definition.abs.now c.args.definition.rep.now c.args.definition.names.now)
    c.args.definition.whole c.args.definition.predicate c.args.definition.abs_type c.args.definition.rep_type c.self.invariant
    c.in_ok-push_operator.ensures.takes c.in-Ok.ensures.generics c.in-Ok.ensures.arities

pub invariant_of-self-in-Err : goal.invariant_of-self-in-Err
invariant_of-self-in-Err c =
    rw (
      taken_of-cut c.self.inside.taken c.push_operator.new.taken.items c.truncate.new.self.items (operator_of_view c.args.definition) c.len-count.result
          c.in_ok-push_operator.ensures.takes c.len-count.ensures c.truncate.ensures.items,
      c.in-Err.ensures.no_generics,
      c.in-Err.ensures.no_arity,
    )
    c.self.invariant

pub returns-in-Ok-clause-takes : goal.returns-in-Ok-clause-takes
returns-in-Ok-clause-takes c = c.in_ok-push_operator.ensures.takes ∙ ap (λ l. l ++ operator_of_view c.args.definition ∷ []) c.self.view_is

pub returns-in-Err-clause-unchanged : goal.returns-in-Err-clause-unchanged
returns-in-Err-clause-unchanged c =
    taken_of-cut c.self.inside.taken c.push_operator.new.taken.items c.truncate.new.self.items (operator_of_view c.args.definition) c.len-count.result
    c.in_ok-push_operator.ensures.takes c.len-count.ensures c.truncate.ensures.items ∙ c.self.view_is
