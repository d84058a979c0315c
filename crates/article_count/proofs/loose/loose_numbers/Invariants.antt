use Rattle.article_count.specs.LooseNumbers.{AreLooseTo}
use Rattle.article_count.proofs.loose.loose_numbers.Given as goal

-- the terms up to here are looked at
abbrev pub invariant-loop-id : goal.invariant-loop-id
invariant-loop-id l = AreLooseTo l.terms.terms l.id l.numbers.items
