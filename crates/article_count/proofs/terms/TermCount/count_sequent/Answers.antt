use Rattle.std.proofs.Common.{subst}
use Rattle.std.proofs.lemmas.Result.{on_ok_weaker}
use Rattle.hol_term.specs.Tables.{term_at, terms_at}
use Rattle.article_write_spec.specs.ArticleLength.{count_list}
use Rattle.article_write_spec.specs.TermLengths.{count_under}
use Rattle.article_count.specs.TermTasks.{CountsTerms}
use Rattle.article_count.proofs.EachCounted.{counts-then}
use Rattle.article_count.proofs.terms.TermCount.count_sequent.Goals as goal

pub returns : goal.returns
returns c = on_ok_weaker c.count_term.result
    (λ counts.
    let trees = c.args.terms.now in
    let s = c.args.sequent.now in
    let hyps = subst (λ l. CountsTerms trees c.args.self.now c.count_terms.new.self (λ q. count_list (count_under q 0) (terms_at trees l)))
    c.ids.ensures.numbers c.in_ok-count_terms.ensures in
    counts-then (λ q. count_list (count_under q 0) (terms_at trees s.hyps)) (λ q. count_under q 0 (term_at trees s.concl.0)) hyps counts)
    c.count_term.ensures
