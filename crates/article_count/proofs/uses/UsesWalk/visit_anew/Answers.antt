use Rattle.std.proofs.Common.{refl, subst, sym, arith}
use Rattle.std.proofs.lemmas.Result.{on_ok_weaker}
use Rattle.hol_term.specs.TableLaws.{Some-term_in}
use Rattle.article_count.specs.Used.{IsUsesWalk}
use Rattle.article_count.proofs.UsesWalks.{app-IsUsesWalk}
use Rattle.article_count.proofs.uses.UsesWalk.visit_anew.Goals as goal

pub returns-in-App-clause-sums : goal.returns-in-App-clause-sums
returns-in-App-clause-sums c = on_ok_weaker c.set_out.result
    (λ tasks root walk.
    let trees = c.args.terms.now in
    let p = c.args.place in
    let f = record p { id = c.in-App.f } in
    let x = record p { id = c.in-App.x } in
    let here = walk.ends.0 in
    let lower = c.in-App.ensures.lower in
    subst (λ l. IsUsesWalk trees root l c.set_out.new.self) (sym tasks)
    (app-IsUsesWalk c.set_out.new.self p f x (Some-term_in trees.terms p.id.0 _ c.in-App.ensures.is)
    (omega (arith, here.0, lower.0), omega (arith, here.1, lower.0)) (omega (arith, here.0, lower.1), omega (arith, here.1, lower.1)) refl refl
    c.set_out.ensures.sums c.set_out.ensures.memo walk))
    c.set_out.ensures.tasks
