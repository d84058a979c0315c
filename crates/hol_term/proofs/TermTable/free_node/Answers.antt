use Rattle.std.proofs.Common.{◌∙◌, ap, Some}
use Rattle.std.proofs.lemmas.Result.{IfOk-weaker}
use Rattle.hol_spec.specs.Terms.{free as free_tree}
use Rattle.hol_term.specs.Tables.{type_at}
use Rattle.hol_term.proofs.TermTable.free_node.Goals as goal

pub returns-clause-made : goal.returns-clause-made
returns-clause-made c = IfOk-weaker c.add.result _ _ (λ id h. h ∙ ap (λ n. Some (free_tree n (type_at c.args.self.now c.args.ty.0))) c.in_ok-name.ensures.cases)
    c.add.ensures.made
