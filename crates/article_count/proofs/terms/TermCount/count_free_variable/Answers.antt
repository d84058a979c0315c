use Rattle.std.proofs.Common.{◌∙◌, ap}
use Rattle.std.proofs.lemmas.Result.{on_ok_weaker}
use Rattle.hol_term.specs.Tables.{type_at}
use Rattle.article_write_spec.specs.Lengths.{capped, name_length}
use Rattle.article_write_spec.specs.TermLengths.{count_variable}
use Rattle.article_lines.specs.Greatest.{greatest_length}
use Rattle.article_count.proofs.GivenWalks.{lifted, variable-Grows}
use Rattle.article_count.proofs.Tallies.{capped-twice}
use Rattle.article_count.proofs.terms.TermCount.count_free_variable.Goals as goal

pub returns : goal.returns
returns c = on_ok_weaker c.count_variable.result
    (λ counts.
    let name = c.args.variable.now.name in
    let ty = type_at c.args.terms.now c.args.variable.now.ty.0 in
    let length = ap (capped greatest_length) c.name_length.ensures ∙ capped-twice greatest_length (name_length name) in
    lifted c.count_variable.new.self (count_variable name ty) (variable-Grows name ty) (counts name length))
    c.count_variable.ensures
