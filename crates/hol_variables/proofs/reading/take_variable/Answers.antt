use Rattle.std.proofs.Common.{ap, sym, ◌∙◌}
use Rattle.std.proofs.lemmas.Result.{IfOk-weaker}
use Rattle.hol_spec.specs.Terms.{free}
use Rattle.hol_term.specs.Tables.{type_at}
use Rattle.hol_term.specs.TableLaws.{Some-term_in}
use Rattle.hol_variables.specs.Variables.{variable_of, variable_at}
use Rattle.hol_variables.proofs.Taken.{AreTaken-add}
use Rattle.hol_variables.proofs.reading.take_variable.Goals as goal

pub returns-in_ok-name-in-Free : goal.returns-in_ok-name-in-Free
returns-in_ok-name-in-Free c =
    let trees = c.args.terms.now in
    let d = rw c.types.ensures.types at c.count-count.ensures.distinct in
    let ty = type_at trees c.in-Free.ty.0 in
    let is = ap (λ n. (n, ty)) c.in_ok-name-in-Free.ensures.cases
    ∙ sym (ap variable_of (Some-term_in trees.terms c.args.id.0 (free c.in-Free.name.now ty) c.in-Free.ensures.is)) in
    IfOk-weaker c.add.result _ _
    (λ _ e. AreTaken-add trees d c.args.variables.now c.add.new.self _ (variable_at trees c.args.id.0) c.requires.known c.in-Free.ensures.lower is e)
    c.add.ensures.added
