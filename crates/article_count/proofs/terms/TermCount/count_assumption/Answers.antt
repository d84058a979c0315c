use Rattle.std.proofs.Common.{◌<◌, refl, ap, subst, sym}
use Rattle.hol_rules.specs.Views.{step_at}
use Rattle.article_spec.specs.declared.commands.Word.TheVariants as word
use Rattle.article_write_spec.specs.ArticleLength.{count_given}
use Rattle.article_write_spec.specs.Lengths.{capped, word_length}
use Rattle.article_lines.specs.Greatest.{greatest_length}
use Rattle.article_count.proofs.EachCounted.{adds-CountsTerms, theorems-stay}
use Rattle.article_count.proofs.SparedKeys.{given-spares}
use Rattle.article_count.proofs.StepParts.{still-new, theorem-CountsTerms}
use Rattle.article_count.proofs.terms.TermCount.count_assumption.Goals as goal

pub count_theorem-requires-clause-room : goal.count_theorem-requires-clause-room
count_theorem-requires-clause-room c =
    let g = (step_at c.args.proof.now.made c.args.id).parameters in
    let stays = theorems-stay (λ q. count_given q g) c.in_ok-count_parameters.ensures c.requires.count in
    rw c.add.ensures (subst (λ n. c.args.id < n) (sym stays) (subst (λ n. c.args.id < n) (sym c.requires.room) c.requires.id))

pub count_theorem-requires-clause-new : goal.count_theorem-requires-clause-new
count_theorem-requires-clause-new c =
    let g = (step_at c.args.proof.now.made c.args.id).parameters in
    rw c.add.ensures
    (still-new (λ q. count_given q g) c.args.id (λ q. given-spares c.args.id q g) c.in_ok-count_parameters.ensures c.requires.count
    (subst (λ n. c.args.id < n) (sym c.requires.room) c.requires.id) c.requires.new)

pub returns : goal.returns
returns c steps q m h =
    let trees = c.args.proof.now.trees in
    let g = (step_at c.args.proof.now.made c.args.id).parameters in
    let d = c.count_parameters.new.self in
    let word_counted = adds-CountsTerms {trees = trees} {c = d} (record d { count = c.add.new.self }) c.word_length.result (word_length word.Axiom)
    (rw c.add.ensures refl) (ap (capped greatest_length) c.word_length.ensures) in
    let stays = theorems-stay (λ q. count_given q g) c.in_ok-count_parameters.ensures c.requires.count in
    let there : c.args.id < c.add.new.self.keys.theorems =
    rw c.add.ensures (subst (λ n. c.args.id < n) (sym stays) (subst (λ n. c.args.id < n) (sym c.requires.room) c.requires.id)) in
    let theorem_counted = theorem-CountsTerms {trees = trees} {c = record d { count = c.add.new.self }} c.args.id
    (record d { count = c.count_theorem.new.self }) there (ap (λ x. record d { count = x }) c.count_theorem.ensures.theorem) in
    theorem_counted steps q _ (word_counted steps q _ (c.in_ok-count_parameters.ensures steps q m h))
