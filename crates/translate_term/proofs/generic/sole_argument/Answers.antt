use Rattle.std.proofs.Common.{◌≡◌, arith}
use Rattle.std.proofs.lemmas.Option.{IfSome_then}
use Rattle.translate_term.proofs.GenericLaws.{symbol-within, pattern-fits, argument-sole}
use Rattle.translate_term.proofs.generic.sole_argument.Goals as goal

pub generic_type-count-requires-clause-declared : goal.generic_type-count-requires-clause-declared
generic_type-count-requires-clause-declared c = let i = c.requires.instance in symbol-within _ c.args.symbol _ i.4.declared

pub returns-then-count-eq1-clause-argument : goal.returns-then-count-eq1-clause-argument
returns-then-count-eq1-clause-argument c =
    let e : c.generic_type-count.result.0 ≡ 1 = omega (arith, c.if-count-eq1.true) in
    IfSome_then c.sole.result c.sole.ensures.wanted
    (λ tree w symbols scope generic t h.
    argument-sole _ _ symbols scope generic t _ c.args.ty h _ c.generic_type-count.result.1 c.generic_type-count.ensures.is e _
    (w _ (pattern-fits _ _ symbols scope generic t _ c.args.ty h _ c.generic_type-count.result.1 c.generic_type-count.ensures.is)))
