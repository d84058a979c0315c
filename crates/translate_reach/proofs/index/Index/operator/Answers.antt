use Rattle.std.proofs.Common.{ap, ◌∙◌}
use Rattle.std.specs.Map.{lookup}
use Rattle.translate_reach.specs.Indexes.{same_operator}
use Rattle.translate_reach.proofs.Ordered.{get-operator}
use Rattle.translate_reach.proofs.index.Index.operator.Goals as goal

pub returns : goal.returns
returns c =
    let operators = c.args.self.now.operators in
    c.copied.ensures ∙ c.get.ensures.value ∙ get-operator (c.in_ok-clone.field-0, c.args.arity) operators
    ∙ ap (λ n. lookup (same_operator (n, c.args.arity)) operators.entries) c.in_ok-clone.ensures.cases
