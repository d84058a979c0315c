use Rattle.std.proofs.Common.{◌≡◌, ◌+◌, ◌∷◌, Some, cond, sym, ap, ◌∙◌}
use Rattle.std.specs.Prelude.{drop}
use Rattle.std.specs.Map.{lookup}
use Rattle.std.proofs.lemmas.List.{drop_more}
use Rattle.hol_term.specs.PutIndexes.{same_variable}
use Rattle.hol_term.proofs.pairs.put_for.Goals as goal

pub loop-of-preserved : goal.loop-of-preserved
loop-of-preserved c =
    let item = c.loop-of-item.result in
    let rest = drop (c.loop-of.of-index + 1) c.args.pairs.now in
    let front : drop c.loop-of.of-index c.args.pairs.now ≡ item ∷ rest
    = drop_more c.args.pairs.now c.loop-of.of-index item c.loop-of-test.true ∙ ap (λ x. x ∷ rest) (sym c.loop-of-item.is) in
    let test = same_variable c.args.variable.now in
    sym (ap (λ b. cond b (Some item.1) (lookup test rest)) (sym c.eq.ensures ∙ c.if-eq.false)) ∙ sym (ap (lookup test) front) ∙ c.loop-of.invariant

pub returns-then-eq : goal.returns-then-eq
returns-then-eq c =
    let item = c.loop-of-item.result in
    let rest = drop (c.loop-of.of-index + 1) c.args.pairs.now in
    let front : drop c.loop-of.of-index c.args.pairs.now ≡ item ∷ rest
    = drop_more c.args.pairs.now c.loop-of.of-index item c.loop-of-test.true ∙ ap (λ x. x ∷ rest) (sym c.loop-of-item.is) in
    let test = same_variable c.args.variable.now in
    sym (ap (λ b. cond b (Some item.1) (lookup test rest)) (sym c.eq.ensures ∙ c.if-eq.true)) ∙ sym (ap (lookup test) front) ∙ c.loop-of.invariant
