use Rattle.std.proofs.Common.{refl, ap, subst}
use Rattle.hol_type.specs.Tables as type
use Rattle.hol_term.specs.Substitutions.{term_pairs_at}
use Rattle.article_write_spec.specs.ArticleLength.{list_length, count_list}
use Rattle.article_write_spec.specs.Lengths.{capped}
use Rattle.article_lines.specs.Greatest.{greatest_length}
use Rattle.article_count.specs.GivenCounts.{term_pair, type_pair}
use Rattle.article_count.specs.TermTasks.{CountsTerms}
use Rattle.article_count.proofs.EachCounted.{adds-CountsTerms, can-then}
use Rattle.article_count.proofs.terms.TermCount.count_substitution.Goals as goal

pub count_term_pairs-requires-clause-count : goal.count_term_pairs-requires-clause-count
count_term_pairs-requires-clause-count c = can-then (λ q. count_list type_pair (type.pairs_at c.args.terms.now.types c.deref.result.now))
    c.in_ok-count_type_pairs.ensures c.requires.count

pub returns : goal.returns
returns c steps q m h =
    let trees = c.args.terms.now in
    let types = subst (λ l. CountsTerms trees c.args.self.now c.count_type_pairs.new.self (λ i. count_list type_pair (type.pairs_at trees.types l)))
    c.deref.ensures.value c.in_ok-count_type_pairs.ensures in
    let terms = subst (λ l. CountsTerms trees c.count_type_pairs.new.self c.count_term_pairs.new.self (λ i. count_list (term_pair i) (term_pairs_at trees l)))
    c.deref-2.ensures.value c.in_ok-count_term_pairs.ensures in
    let behind = adds-CountsTerms {trees = trees} (record c.count_term_pairs.new.self { count = c.add.new.self }) c.list_length.result (list_length 2)
    (rw c.add.ensures refl) (ap (capped greatest_length) c.list_length.ensures) in
    behind steps q _ (terms steps q _ (types steps q m h))
