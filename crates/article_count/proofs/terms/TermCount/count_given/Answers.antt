use Rattle.std.proofs.Common.{◌+◌, subst}
use Rattle.std.specs.Prelude.{OnOk}
use Rattle.hol_defs.specs.Lists.{pairs_at}
use Rattle.article_write_spec.specs.ArticleLength.{count_list}
use Rattle.article_write_spec.specs.Lengths.{add, name_length}
use Rattle.article_count.specs.GivenCounts.{constant_pair}
use Rattle.article_count.specs.TermTasks.{CountsTerms, IsTermTally}
use Rattle.article_count.proofs.terms.TermCount.count_given.Goals as goal

pub returns-in-Term : goal.returns-in-Term
returns-in-Term c = rw c.in-Term.is c.count_term.ensures

pub returns-in-Variable : goal.returns-in-Variable
returns-in-Variable c = rw c.in-Variable.is c.count_free_variable.ensures

pub returns-in-Subst : goal.returns-in-Subst
returns-in-Subst c = rw c.in-Subst.is (rw c.get.ensures at c.count_substitution.ensures)

pub returns-in-Sequent : goal.returns-in-Sequent
returns-in-Sequent c = rw c.in-Sequent.is c.count_sequent.ensures

pub returns-in-Const : goal.returns-in-Const
returns-in-Const c = rw c.in-Const.is c.count_named.ensures

pub returns-in-List : goal.returns-in-List
returns-in-List c =
    let trees = c.args.terms.now in
    rw c.in-List.is (subst
    (λ l. OnOk c.count_constants.result (CountsTerms trees c.args.self.now c.count_constants.new.self (λ q. count_list constant_pair (pairs_at trees l))))
    c.deref.ensures.value c.count_constants.ensures)

pub returns-in-TypeOp : goal.returns-in-TypeOp
returns-in-TypeOp c = λ steps q m h.
    let trees = c.args.terms.now in
    let new = c.get-new.result.now in
    let three = name_length new.op + name_length new.abs + name_length new.rep in
    rw (c.in-TypeOp.is, ← c.get-new.ensures)
    (subst (λ l. IsTermTally trees steps q c.count_names.new.self (count_list (λ n. add (name_length n)) l (add three m))) c.deref-in-TypeOp.ensures.value
    (c.count_names.ensures trees steps q (add three m) (c.count_three.ensures trees steps q m h)))
