use Rattle.std.proofs.lemmas.Result.{on_ok_weaker}
use Rattle.hol_term.specs.Tables.{term_at}
use Rattle.article_reach.specs.Found.{term_found}
use Rattle.article_reach.specs.FoundPairs.{variable_found}
use Rattle.article_reach.proofs.Wanted.{trans-WalksOn}
use Rattle.article_reach.proofs.walk.Walk.want_term_put.Goals as goal

pub returns : goal.returns
returns c = on_ok_weaker c.want_term.result
    (λ walks.
    let p = c.args.proof.now in
    trans-WalksOn p (variable_found p.trees c.args.variable.now) (term_found (term_at p.trees c.args.term.0)) c.args.self.now c.want_variable.new.self
    c.want_term.new.self c.in_ok-want_variable.ensures walks)
    c.want_term.ensures
