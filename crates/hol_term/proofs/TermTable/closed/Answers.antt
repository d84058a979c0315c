use Rattle.std.proofs.Common.{arith, sym, ap, ◌∙◌, [], ◌∷◌, Some}
use Rattle.std.proofs.lemmas.Result.{IfOk-weaker}
use Rattle.hol_spec.specs.Terms.{Term, free}
use Rattle.hol_term.specs.Tables.{type_at}
use Rattle.hol_term.specs.TableLaws.{Keeps-trans, term_in-Some, Some-term_in}
use Rattle.hol_term.proofs.Settled.{made_closed}
use Rattle.hol_term.proofs.TermTable.closed.Goals as goal

pub changed-requires-clause-id : goal.changed-requires-clause-id
changed-requires-clause-id c = omega (arith, c.requires.body, c.free_node.ensures.keeps.longer)

pub changed-requires-clause-args : goal.changed-requires-clause-args
changed-requires-clause-args c = (c.in_ok-variable.ensures.known, tt)

pub changed-requires-clause-closing : goal.changed-requires-clause-closing
changed-requires-clause-closing c = λ e. (
  (c.args.var.now.name, type_at c.args.self.now c.args.var.now.ty.0),
  ap (λ (t : Term). t ∷ [])
      (Some-term_in c.free_node.new.self.terms c.in_ok-variable.variable.0 (free c.args.var.now.name (type_at c.args.self.now c.args.var.now.ty.0))
      c.in_ok-variable.ensures.made),
)

pub returns-then-is_closed_as_it_is-clause-made : goal.returns-then-is_closed_as_it_is-clause-made
returns-then-is_closed_as_it_is-clause-made c =
    term_in-Some c.args.self.now.terms c.args.id.0 c.requires.body
    ∙ ap Some (sym (c.is_closed_as_it_is.ensures c.if-is_closed_as_it_is.true (type_at c.args.self.now c.args.var.now.ty.0)))

pub returns-clause-made : goal.returns-clause-made
returns-clause-made c =
    IfOk-weaker c.changed.result _ _
    (λ r h. made_closed c.args.self.now c.free_node.new.self c.changed.new.self c.in_ok-variable.variable.0 c.args.var.now.ty.0 r.0 c.args.id.0
    c.args.var.now.name
    c.free_node.ensures.keeps c.requires.body c.in_ok-variable.ensures.made h)
    c.changed.ensures.made

pub returns-clause-keeps : goal.returns-clause-keeps
returns-clause-keeps c = Keeps-trans c.free_node.ensures.keeps c.changed.ensures.keeps
