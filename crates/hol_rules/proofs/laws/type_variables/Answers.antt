use Rattle.std.specs.Prelude.{take}
use Rattle.std.proofs.lemmas.List.{take_more}
use Rattle.hol_rules.proofs.LawTrees.{AreVariables-more}
use Rattle.hol_rules.proofs.laws.type_variables.Goals as goal

pub loop-name-preserved : goal.loop-name-preserved
loop-name-preserved c =
    rw (take_more c.args.names.now c.loop-name.name-index c.name-item.result c.loop-name-test.true, ← c.name-item.is, c.in_ok-push.ensures.items) (
    AreVariables-more (take c.loop-name.name-index c.args.names.now) c.loop-name.ids.items c.name-item.result c.in-Ok.id c.loop-name.invariant
    c.in-Ok.ensures.keeps c.in-Ok.ensures.known c.in-Ok.ensures.made)
