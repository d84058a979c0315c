use Rattle.std.proofs.Common.{Some, cond, refl, sym, ◌∙◌}
use Rattle.translate_spec.specs.Reach.{operator_key, constant_key, number_key}
use Rattle.translate_reach.proofs.Ordered.{is_eq-operator_cmp, get-operator}
use Rattle.translate_reach.proofs.index.Index.add_operator.Goals as goal

pub returns : goal.returns
returns c (operator_key m j) =
    let old = c.args.self.now.operators in
    sym (get-operator (m, j) c.insert.new.self) ∙ c.in_ok-insert.ensures.updates.0 (m, j)
    ∙ (λ i. cond (is_eq-operator_cmp (c.in_ok-clone.ensures.cases i, c.args.arity) (m, j) i) (Some c.args.item) (get-operator (m, j) old i))
returns c (constant_key m) = refl
returns c (number_key i) = refl
