use Rattle.std.proofs.Common.{◌<◌, ◌∙◌, refl, ap, subst, sym, ℕ}
use Rattle.hol_rules.specs.Views.{step_at}
use Rattle.article_write_spec.specs.ArticleLength.{count_given, count_made, count_premise}
use Rattle.article_write_spec.specs.Lengths.{add, capped, count_each, word_length}
use Rattle.article_write_spec.specs.WrittenSteps.{word_of}
use Rattle.article_lines.specs.Greatest.{greatest_length}
use Rattle.article_count.specs.TermTasks.{CountsTerms}
use Rattle.article_count.proofs.EachCounted.{adds-CountsTerms, theorems-stay, counts-then}
use Rattle.article_count.proofs.GivenWalks.{lifted}
use Rattle.article_count.proofs.SparedKeys.{given-spares, premises-spare}
use Rattle.article_count.proofs.StepParts.{still-new-made, made-Grows}
use Rattle.article_count.proofs.terms.TermCount.count_inferred.Goals as goal

pub count_premises-requires-clause-room : goal.count_premises-requires-clause-room
count_premises-requires-clause-room c = theorems-stay (λ q. count_given q (step_at c.args.proof.now.made c.args.id).parameters) c.in_ok-count_parameters.ensures
    c.requires.count ∙ c.requires.room

pub count_made-requires-clause-room : goal.count_made-requires-clause-room
count_made-requires-clause-room c =
    let x = step_at c.args.proof.now.made c.args.id in
    let counts = counts-then (λ q. count_given q x.parameters) (λ q. count_each count_premise x.premises) c.in_ok-count_parameters.ensures
    (c.count_premises.ensures c.args.proof.now.trees) in
    let stays = theorems-stay (λ q m. count_each count_premise x.premises (count_given q x.parameters m)) counts c.requires.count in
    rw c.add.ensures (subst (λ n. c.args.id < n) (sym stays) (subst (λ n. c.args.id < n) (sym c.requires.room) c.requires.id))

pub count_made-requires-clause-new : goal.count_made-requires-clause-new
count_made-requires-clause-new c =
    let x = step_at c.args.proof.now.made c.args.id in
    let counts = counts-then (λ q. count_given q x.parameters) (λ q. count_each count_premise x.premises) c.in_ok-count_parameters.ensures
    (c.count_premises.ensures c.args.proof.now.trees) in
    rw c.add.ensures
    (still-new-made (λ q m. count_each count_premise x.premises (count_given q x.parameters m)) c.args.kind c.args.id
    (λ q j m none. premises-spare j x.premises (count_given q x.parameters m) (given-spares j q x.parameters m none)) counts c.requires.count
    (subst (λ n. c.args.id < n) (sym c.requires.room) c.requires.id) c.requires.new)

pub returns : goal.returns
returns c steps q m h =
    let trees = c.args.proof.now.trees in
    let x = step_at c.args.proof.now.made c.args.id in
    let d = c.count_premises.new.self in
    let word_counted = adds-CountsTerms {trees = trees} {c = d} (record d { count = c.add.new.self }) c.word_length.result (word_length (word_of c.args.kind))
    (rw c.add.ensures refl) (ap (capped greatest_length) (c.word_length.ensures ∙ ap word_length c.word_of.ensures)) in
    let made_counted = lifted {trees = trees} {c = record d { count = c.add.new.self }} c.count_made.new.self (count_made c.args.kind c.args.id)
    (made-Grows c.args.kind c.args.id) (c.count_made.ensures trees) in
    subst (λ k. CountsTerms trees d (record d { count = c.count_made.new.self }) (λ (i : ℕ) l. count_made k c.args.id (add (word_length (word_of k)) l)))
    c.requires.kind (counts-then (λ (i : ℕ). add (word_length (word_of c.args.kind))) (λ (i : ℕ). count_made c.args.kind c.args.id) word_counted
    made_counted)
    steps q _ (c.count_premises.ensures trees steps q _ (c.in_ok-count_parameters.ensures steps q m h))
