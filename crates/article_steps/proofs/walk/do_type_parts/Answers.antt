use Rattle.std.proofs.Common.{◌∙◌, ap, sym}
use Rattle.hol_spec.specs.Types.{types_of}
use Rattle.hol_type.specs.Tables.{tree_at, types_at}
use Rattle.hol_type.specs.TableLaws.{Holds-tree_at}
use Rattle.article_spec.specs.declared.commands.Item.TheVariants as item
use Rattle.article_lines.specs.WritingLaws.{writes_same}
use Rattle.article_steps.proofs.SaidLaws.{one-line}
use Rattle.article_steps.proofs.ArgumentLaws.{count-arguments}
use Rattle.article_steps.proofs.AgendaLaws.{goes-on}
use Rattle.article_steps.proofs.JobSteps.{type-variable, type-operator}
use Rattle.article_steps.proofs.walk.do_type_parts.Goals as goal

pub returns-in-Var : goal.returns-in-Var
returns-in-Var g c =
    goes-on _ _ _ _ _ _ _ _ _ _ _ _ _ c.push.ensures c.requires
    (type-variable _ _ _ _ c.args.id c.in-Var.name.now c.requires
    (ap (λ ts. tree_at ts c.args.id.0) (sym c.types.ensures.types) ∙ Holds-tree_at c.types.result.now c.args.id.0 _ c.in-Var.ensures.is))
    (writes_same _ _ (one-line (item.Name c.in-Var.name.now)) c.write_name.ensures)

pub returns-in-Op : goal.returns-in-Op
returns-in-Op g c =
    let ts = c.types.result.now in
    goes-on _ _ _ _ _ _ _ _ _ _ _ _ _ c.push_all.ensures c.requires
    (type-operator _ _ _ _ c.args.id c.in-Op.name.now (types_of (types_at ts c.in-Op.arguments.now)) _ c.requires
    (ap (λ l. tree_at l c.args.id.0) (sym c.types.ensures.types) ∙ Holds-tree_at ts c.args.id.0 _ c.in-Op.ensures.is)
    (sym (count-arguments ts c.in-Op.arguments.now)))
    (writes_same _ _ (one-line (item.Name c.in-Op.name.now)) c.write_name-in-Op.ensures)
