use Rattle.std.proofs.lemmas.Result.{on_ok_weaker}
use Rattle.article_reach.specs.FoundPairs.{types_put, terms_put}
use Rattle.article_reach.proofs.Wanted.{trans-WalksOn}
use Rattle.article_reach.proofs.walk.Walk.want_put.Goals as goal

pub returns : goal.returns
returns c = on_ok_weaker c.want_terms.result
    (λ walks.
    let p = c.args.proof.now in
    trans-WalksOn p (types_put p.trees c.args.types.now) (terms_put p.trees c.args.terms.now) c.args.self.now c.want_types.new.self c.want_terms.new.self
    c.in_ok-want_types.ensures walks)
    c.want_terms.ensures
