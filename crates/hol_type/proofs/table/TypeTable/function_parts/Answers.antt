use Rattle.std.proofs.Common.{sym}
use Rattle.hol_type.specs.TableLaws.{Holds-tree_at}
use Rattle.hol_type.proofs.FunctionParts.{function_parts-count, function_parts-other}
use Rattle.hol_type.proofs.table.TypeTable.function_parts.Goals as goal
use Rattle.hol_type.proofs.table.TypeTable.function_parts.Goals.{else-args-eq2-via-then-args-eq2+else-is_single, else-args-eq2-via-else-args-eq2}

pub returns-else-args-eq2-clause-parts : goal.returns-else-args-eq2-clause-parts
returns-else-args-eq2-clause-parts c = rw (Holds-tree_at c.args.self.now c.args.id.0 _ c.in-Op.ensures.is) (elim c.else-args-eq2.branch [
  | else-args-eq2-via-then-args-eq2+else-is_single w ↦ sym
      (function_parts-other c.args.self.now c.in-Op.name.now c.in-Op.args.now (λ e. let f = w.if-is_single.ensures.1 e in cc))
  | else-args-eq2-via-else-args-eq2 w ↦ sym (function_parts-count c.args.self.now c.in-Op.name.now c.in-Op.args.now w.if-args-eq2.false)
])
