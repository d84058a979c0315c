use Rattle.std.proofs.Common.{subst}
use Rattle.article_write_spec.specs.ArticleLength.{count_premise}
use Rattle.article_write_spec.specs.Lengths.{count_each}
use Rattle.article_count.specs.TermTasks.{CountsTerms}
use Rattle.article_lines.specs.EarlierPremises.{premises-earlier, premises-room}
use Rattle.article_count.proofs.terms.TermCount.count_premises.Goals as goal

pub count_theorems-requires : goal.count_theorems-requires
count_theorems-requires c = premises-room _ _ c.premises.result.now _ c.premises.ensures c.requires.room
    (premises-earlier c.args.proof.now.made c.args.id _ c.is_proof.ensures c.requires.id)

pub returns : goal.returns
returns c trees = subst (λ ids. CountsTerms trees c.args.self.now c.count_theorems.new.self (λ q. count_each count_premise ids)) c.premises.ensures
    (c.count_theorems.ensures trees)
