use Rattle.std.proofs.Common.{arith, ◌∙◌, ◌-◌, ◌≡◌}
use Rattle.translate_term.proofs.MadeLaws.{is_some-unless, if_some}
use Rattle.translate_term.proofs.GenericLaws.{symbol-within, pattern-fits, pattern-mentions, arguments-are, arguments-none, arguments_step, arguments_end}
use Rattle.translate_term.proofs.TreeLists.{AreKnown-more}
use Rattle.translate_term.proofs.generic.type_arguments.Goals as goal

pub matched-requires-clause-fits : goal.matched-requires-clause-fits
matched-requires-clause-fits c = let i = c.requires.instance in
    (_, pattern-fits _ _ i.0 i.1 i.2 i.3 _ c.args.ty i.4 _ c.generic_type-count.result.1 c.generic_type-count.ensures.is)

pub unwrap-requires : goal.unwrap-requires
unwrap-requires c =
    let i = c.requires.instance in
    let done = c.in_ok-found.ensures.all _
    (pattern-mentions _ _ i.0 i.1 i.2 i.3 _ c.args.ty i.4 _ c.generic_type-count.result.1 c.generic_type-count.ensures.is (c.loop-left.left - 1)
    (omega (arith, c.loop-left.invariant.0, c.loop-left-test.true))) in
    is_some-unless c.find.result c.find.ensures.absent (λ absent. absent done.0 done.1)

pub loop-left-preserved : goal.loop-left-preserved
loop-left-preserved c =
    let noted = if_some _ c.find.result c.unwrap.result c.unwrap.ensures c.find.ensures.noted in
    let i = c.requires.instance in
    let known = (c.in_ok-found.ensures.noted _
    (pattern-fits _ _ i.0 i.1 i.2 i.3 _ c.args.ty i.4 _ c.generic_type-count.result.1 c.generic_type-count.ensures.is) _ _ noted).0 in
    rw c.in_ok-push.ensures.items (
      omega (arith, c.loop-left.invariant.0),
      AreKnown-more _ c.loop-left.args.items c.unwrap.result c.loop-left.invariant.1 known,
      λ symbols scope generic t h.
          let own = (c.in_ok-found.ensures.noted _
          (pattern-fits _ _ symbols scope generic t _ c.args.ty h _ c.generic_type-count.result.1 c.generic_type-count.ensures.is) _ _ noted).1 in
          arguments_step _ _ c.loop-left.args.items c.unwrap.result c.loop-left.left (c.loop-left.left - 1) _ own (omega (arith, c.loop-left-test.true))
          (c.loop-left.invariant.2 symbols scope generic t h),
    )

pub returns-then-count-eq0-clause-arguments : goal.returns-then-count-eq0-clause-arguments
returns-then-count-eq0-clause-arguments c =
    let e : c.generic_type-count.result.0 ≡ 0 = omega (arith, c.if-count-eq0.true) in
    rw c.new.ensures.items
    (λ symbols scope generic t h. arguments-none _ _ symbols scope generic t _ c.args.ty h _ c.generic_type-count.result.1 c.generic_type-count.ensures.is
    e)

pub returns-then-count-eq0-clause-known : goal.returns-then-count-eq0-clause-known
returns-then-count-eq0-clause-known c = rw c.new.ensures.items (tt {0})

pub returns-clause-arguments : goal.returns-clause-arguments
returns-clause-arguments c =
    λ symbols scope generic t h.
    arguments_end _ _ c.loop-left.args.items c.loop-left.left _ (omega (arith, c.loop-left-test.false)) (c.loop-left.invariant.2 symbols scope generic t h)
    ∙ arguments-are _ _ symbols scope generic t _ c.args.ty h _ c.generic_type-count.result.1 c.generic_type-count.ensures.is

pub generic_type-count-requires-clause-declared : goal.generic_type-count-requires-clause-declared
generic_type-count-requires-clause-declared c = let i = c.requires.instance in symbol-within _ c.args.symbol _ i.4.declared
