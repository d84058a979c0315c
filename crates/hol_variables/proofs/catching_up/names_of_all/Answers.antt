use Rattle.std.proofs.Common.{None, refl, subst}
use Rattle.std.proofs.lemmas.List.{drop_more}
use Rattle.hol_variables.proofs.Gathered.{IsGathering, AreTypesNoted-kept, gathering_goes_on}
use Rattle.hol_variables.proofs.Owned.{item_at, type_noted, type_there}
use Rattle.hol_variables.proofs.Unions.{KeepsLists-trans}
use Rattle.hol_variables.proofs.catching_up.names_of_all.Goals as goal

pub unite-requires-clause-second : goal.unite-requires-clause-second
unite-requires-clause-second c =
    let types = c.args.types.now in
    let noted = c.args.noted.now in
    let lists = c.loop-arg.lists in
    let n = AreTypesNoted-kept types c.args.lists.now lists noted c.loop-arg.invariant.0 c.requires.noted in
    let h = subst (λ rest. IsGathering types noted c.args.args.now rest lists c.loop-arg.list)
    (drop_more c.args.args.now c.loop-arg.arg-index (record { 0 = 0 }) c.loop-arg-test.true) c.loop-arg.invariant.1 in
    type_there types lists _ _ (type_noted types lists noted n _ None _ refl h.below.0)

pub loop-arg-preserved : goal.loop-arg-preserved
loop-arg-preserved c =
    let types = c.args.types.now in
    let noted = c.args.noted.now in
    let lists = c.loop-arg.lists in
    let n = AreTypesNoted-kept types c.args.lists.now lists noted c.loop-arg.invariant.0 c.requires.noted in
    let h = subst (λ rest. IsGathering types noted c.args.args.now rest lists c.loop-arg.list)
    (drop_more c.args.args.now c.loop-arg.arg-index (record { 0 = 0 }) c.loop-arg-test.true) c.loop-arg.invariant.1 in (
      KeepsLists-trans c.loop-arg.invariant.0 c.in_ok-list.ensures.keeps,
      gathering_goes_on types noted c.args.args.now c.count-count.ensures.distinct _ _ lists c.unite.new.self c.loop-arg.list _ c.in_ok-list.list n
          (item_at noted _ None _ refl h.below.0) c.in_ok-list.ensures.united h,
    )
