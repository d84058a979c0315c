use Rattle.std.proofs.Common.{ap, subst, sym, ◌∙◌, [], ◌∷◌, ◌++◌}
use Rattle.hol_term.specs.declared.TermId.{TermId}
use Rattle.hol_term.specs.declared.Variable.{Variable}
use Rattle.hol_term.specs.Substitutions.{AreTermPairs}
use Rattle.hol_term_tests.proofs.PairLaws.{AreTermPairs-push}
use Rattle.hol_term_tests.proofs.bench.Bench.push_pair.Goals as goal

pub returns-in-Ok : goal.returns-in-Ok
returns-in-Ok c =
    let pair : Variable × TermId = (c.args.variable, c.args.by) in
    subst (AreTermPairs c.args.self.now.table) (sym (c.push_reserved.ensures.items ∙ ap (λ l. l ++ pair ∷ []) c.reserve.ensures.items))
    (AreTermPairs-push c.args.self.now.table c.args.pairs.now.items pair c.requires.pairs c.requires.ty c.requires.term)
