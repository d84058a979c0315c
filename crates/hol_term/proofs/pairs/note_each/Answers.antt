use Rattle.std.proofs.Common.{◌-◌, ◌++◌, length, ap, ◌∙◌, arith, append-nil}
use Rattle.std.specs.Map.{lookup}
use Rattle.std.proofs.lemmas.List.{length-take}
use Rattle.hol_term.specs.PutIndexes.{same_variable}
use Rattle.hol_term.proofs.PutIndexLaws.{noted_goes_on}
use Rattle.hol_term.proofs.pairs.note_each.Goals as goal

pub loop-rest-init : goal.loop-rest-init
loop-rest-init c = (
  omega arith,
  λ v. ap (λ l. lookup (same_variable v) (c.args.pairs.now ++ l)) c.requires.none ∙ ap (lookup (same_variable v)) (append-nil c.args.pairs.now),
)

pub loop-rest-preserved : goal.loop-rest-preserved
loop-rest-preserved c = (
  omega (arith, c.loop-rest.invariant.0, length-take (length c.loop-rest.rest.now - 1) c.loop-rest.rest.now),
  λ v. noted_goes_on v c.args.pairs.now c.loop-rest.rest.now c.loop-rest.firsts c.insert.new.self c.last-item.result c.in_ok-clone.field-0
      c.in-len1-up.len_at_least c.last-item.is c.in_ok-clone.ensures.cases c.in_ok-insert.ensures.entries (c.loop-rest.invariant.1 v),
)
