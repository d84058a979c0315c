use Rattle.std.proofs.Common.{arith, ◌∙◌}
use Rattle.std.proofs.lemmas.Result.{IfOk-weaker}
use Rattle.hol_term.specs.TableLaws.{Keeps-trans}
use Rattle.hol_term.proofs.Settled.{relation_at}
use Rattle.hol_term.proofs.TermTable.relation_type.Goals as goal

pub function_type-requires-clause-domain : goal.function_type-requires-clause-domain
function_type-requires-clause-domain c = omega (arith, c.requires, c.bool_type.ensures.keeps.types.longer)

pub function_type-requires-2-clause-domain : goal.function_type-requires-2-clause-domain
function_type-requires-2-clause-domain c = omega (arith, c.requires, c.bool_type.ensures.keeps.types.longer, c.function_type.ensures.keeps.types.longer)

pub returns-in_err-predicate-clause-keeps : goal.returns-in_err-predicate-clause-keeps
returns-in_err-predicate-clause-keeps c = Keeps-trans c.bool_type.ensures.keeps c.function_type.ensures.keeps

pub returns-clause-made : goal.returns-clause-made
returns-clause-made c =
    let e = relation_at c.args.self.now c.bool_type.new.self c.function_type.new.self c.args.ty.0 c.in_ok-truth.truth.0 c.in_ok-predicate.predicate.0
    c.bool_type.ensures.keeps c.function_type.ensures.keeps c.requires c.in_ok-truth.ensures.made c.in_ok-predicate.ensures.made in
    IfOk-weaker c.function_type-2.result _ _ (λ id h. h ∙ e) c.function_type-2.ensures.made

pub returns-clause-terms : goal.returns-clause-terms
returns-clause-terms c = c.function_type-2.ensures.terms ∙ c.function_type.ensures.terms ∙ c.bool_type.ensures.terms

pub returns-clause-keeps : goal.returns-clause-keeps
returns-clause-keeps c = Keeps-trans c.bool_type.ensures.keeps (Keeps-trans c.function_type.ensures.keeps c.function_type-2.ensures.keeps)
