use Rattle.std.proofs.Common.{ap, ◌∙◌, ◌++◌, ◌∷◌, [], map}
use Rattle.hol_defs.specs.Indexes.{taken_of}
use Rattle.hol_defs.specs.Symbols.{Taken}
use Rattle.hol_defs.proofs.UseLaws.{IsIndexed-constant, taken_of-cut}
use Rattle.hol_defs.proofs.Symbols.take_const.Goals as goal

pub invariant_of-self : goal.invariant_of-self
invariant_of-self c = rw c.in_err-push_constant.ensures.unchanged c.self.invariant

pub invariant_of-self-in-Ok : goal.invariant_of-self-in-Ok
invariant_of-self-in-Ok c =
    IsIndexed-constant (map taken_of c.self.inside.taken.items) _ c.self.inside.inputs c.self.inside.generics _ c.self.inside.uses c.self.inside.names
    c.self.inside.arities c.args.name.now c.args.term c.args.ty c.self.invariant c.in_ok-push_constant.ensures.takes c.in-Ok.ensures.added

pub invariant_of-self-in-Err : goal.invariant_of-self-in-Err
invariant_of-self-in-Err c =
    rw (
      taken_of-cut c.self.inside.taken c.push_constant.new.taken.items c.truncate.new.self.items (Taken.constant c.args.name.now c.args.term c.args.ty)
          c.len-count.result c.in_ok-push_constant.ensures.takes c.len-count.ensures c.truncate.ensures.items,
      c.in-Err.ensures.unchanged,
    ) c.self.invariant

pub returns-in-Ok-clause-takes : goal.returns-in-Ok-clause-takes
returns-in-Ok-clause-takes c = c.in_ok-push_constant.ensures.takes ∙ ap (λ l. l ++ Taken.constant c.args.name.now c.args.term c.args.ty ∷ []) c.self.view_is

pub returns-in-Err-clause-unchanged : goal.returns-in-Err-clause-unchanged
returns-in-Err-clause-unchanged c =
    taken_of-cut c.self.inside.taken c.push_constant.new.taken.items c.truncate.new.self.items (Taken.constant c.args.name.now c.args.term c.args.ty)
    c.len-count.result c.in_ok-push_constant.ensures.takes c.len-count.ensures c.truncate.ensures.items ∙ c.self.view_is
