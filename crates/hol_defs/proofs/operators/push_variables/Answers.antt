use Rattle.std.proofs.Common.{[], map, sym, ap, subst, ◌∙◌}
use Rattle.std.specs.Prelude.{take}
use Rattle.std.proofs.lemmas.List.{take_more, take_all}
use Rattle.hol_spec.specs.Types.{variable}
use Rattle.hol_term.specs.TableLaws.{Keeps-trans}
use Rattle.hol_defs.proofs.OperatorLaws.{AreVariables, AreVariables-none, AreVariables-more}
use Rattle.hol_defs.proofs.operators.push_variables.Goals as goal

pub loop-name-init : goal.loop-name-init
loop-name-init c = subst (AreVariables c.args.table.now c.args.table.now []) (sym c.requires) (AreVariables-none c.args.table.now)

pub returns-in_default-clause-keeps : goal.returns-in_default-clause-keeps
returns-in_default-clause-keeps c = Keeps-trans c.loop-name.invariant.keeps c.in_default.ensures.keeps

pub returns-in_err-push-clause-keeps : goal.returns-in_err-push-clause-keeps
returns-in_err-push-clause-keeps c = Keeps-trans c.loop-name.invariant.keeps c.in-Ok.ensures.keeps

pub loop-name-preserved : goal.loop-name-preserved
loop-name-preserved c =
    rw (take_more c.args.names.now c.loop-name.name-index c.name-item.result c.loop-name-test.true, ← c.name-item.is, c.in_ok-push.ensures.items) (
    AreVariables-more (take c.loop-name.name-index c.args.names.now) c.loop-name.ids.items c.name-item.result c.in-Ok.id c.loop-name.invariant
    c.in-Ok.ensures.keeps c.in-Ok.ensures.known c.in-Ok.ensures.made)

pub returns-clause-known : goal.returns-clause-known
returns-clause-known c = c.loop-name.invariant.known

pub returns-clause-made : goal.returns-clause-made
returns-clause-made c = c.loop-name.invariant.made ∙ ap (map variable) (take_all c.loop-name.name-index c.args.names.now c.loop-name-test.false)

pub returns-clause-keeps : goal.returns-clause-keeps
returns-clause-keeps c = c.loop-name.invariant.keeps
