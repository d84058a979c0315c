use Rattle.std.proofs.Common.{ap, sym, subst, ◌∷◌, ◌∙◌}
use Rattle.hol_term.specs.Tables.{terms_at, AreKnown}
use Rattle.decode_back.proofs.TypeWalk.{IfOk-weaker}
use Rattle.decode_back.proofs.TermTurns.{turn-abstract, kept-known}
use Rattle.decode_back.proofs.compounds.abstract_over.Goals as goal

pub returns-clause-turned : goal.returns-clause-turned
returns-clause-turned c =
    IfOk-weaker _ _ c.keep.result c.keep.ensures (λ goes_on kept d trees at types wanted tasks w.
    let known : AreKnown c.args.table.now (c.take-body.result ∷ c.take-body.new.made) =
    subst (AreKnown c.args.table.now) c.take-body.ensures c.requires.known in
    turn-abstract d trees at types wanted c.args.table.now c.abstraction.new.table c.abstraction.ensures.keeps c.args.ty tasks w.0 c.args.budget.now
    c.abstraction.new.budget w.2 c.take-body.result c.take-body.new.made c.keep.new.made c.in_ok-found.found goes_on
    (ap (terms_at c.args.table.now) (sym c.take-body.ensures) ∙ w.1) known.1 c.in_ok-found.ensures.made kept)

pub returns-clause-known : goal.returns-clause-known
returns-clause-known c =
    IfOk-weaker _ _ c.keep.result c.keep.ensures (λ goes_on kept.
    let known : AreKnown c.args.table.now (c.take-body.result ∷ c.take-body.new.made) =
    subst (AreKnown c.args.table.now) c.take-body.ensures c.requires.known in
    kept-known c.args.table.now c.abstraction.new.table c.abstraction.ensures.keeps c.take-body.new.made c.keep.new.made c.in_ok-found.found goes_on known.1
    c.in_ok-found.ensures.known kept)
