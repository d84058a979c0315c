use Rattle.std.proofs.Common.{◌∙◌, sym, ap}
use Rattle.std.proofs.lemmas.Result.{IfOk-weaker}
use Rattle.translate_rule.specs.ItemViews.{names_of_view, part_name}
use Rattle.translate_rule.proofs.parts.part_name.Goals as goal

pub returns-in-Operator : goal.returns-in-Operator
returns-in-Operator c = IfOk-weaker c.operator_name.result _ _ (λ t h. h ∙ sym (ap (λ p. part_name p (names_of_view c.args.view)) c.in-Operator.is))
    c.operator_name.ensures

pub returns-in-Abstraction : goal.returns-in-Abstraction
returns-in-Abstraction c = IfOk-weaker c.constant_name.result _ _ (λ t h. h ∙ sym (ap (λ p. part_name p (names_of_view c.args.view)) c.in-Abstraction.is))
    c.constant_name.ensures

pub returns-in-Representation : goal.returns-in-Representation
returns-in-Representation c =
    IfOk-weaker c.constant_name-in-Representation.result _ _ (λ t h. h ∙ sym (ap (λ p. part_name p (names_of_view c.args.view)) c.in-Representation.is))
    c.constant_name-in-Representation.ensures
