use Rattle.std.proofs.Common.{arith}
use Rattle.hol_term.specs.TableLaws.{Keeps-trans}
use Rattle.hol_rules.proofs.ListPut.{put-known, IfOk-put}
use Rattle.hol_rules.proofs.const_lists.with_constants_of.Goals as goal

pub raw_subst-made-requires-clause-pairs : goal.raw_subst-made-requires-clause-pairs
raw_subst-made-requires-clause-pairs c = put-known c.constants_of.new.terms c.deref.result.now c.in_ok-put.put.items c.deref.ensures.value
    c.in_ok-put.ensures.known

pub raw_subst-made-requires-clause-id : goal.raw_subst-made-requires-clause-id
raw_subst-made-requires-clause-id c = omega (arith, c.requires.term, c.constants_of.ensures.keeps.longer)

pub returns-clause-made : goal.returns-clause-made
returns-clause-made c =
    IfOk-put c.args.terms.now c.constants_of.new.terms c.raw_subst-made.new.self c.constants_of.ensures.keeps c.args.pairs.now c.deref.result.now
    c.in_ok-put.put.items c.deref.ensures.value c.in_ok-put.ensures.put c.args.term c.requires.term
    c.raw_subst-made.result c.raw_subst-made.ensures.known c.raw_subst-made.ensures.made

pub returns-clause-keeps : goal.returns-clause-keeps
returns-clause-keeps c = Keeps-trans c.constants_of.ensures.keeps c.raw_subst-made.ensures.keeps
