use Rattle.std.proofs.Common.{sym, ap}
use Rattle.std.proofs.lemmas.Result.{IfOk-weaker}
use Rattle.share_spec.specs.MovedTrees.{moved_declaration}
use Rattle.share.proofs.DeclaringLaws.{kept-entry, made-is}
use Rattle.share.proofs.declaring.declared.Goals as goal

pub returns-in-Kept : goal.returns-in-Kept
returns-in-Kept c =
    rw c.in-Kept.is (IfOk-weaker c.kept.result _ _
    (λ d h place target a. made-is place target _ _ d
    (ap (moved_declaration place) (sym (kept-entry c.args.source.now.table c.args.source.now.decls c.in-Kept.i _ c.get.ensures)))
    (h place c.args.source.now.table target a)) c.kept.ensures)

pub returns-in-Abbreviated : goal.returns-in-Abbreviated
returns-in-Abbreviated c = rw c.in-Abbreviated.is
    (IfOk-weaker c.abbreviated.result _ _ (λ d h place target a. h place c.args.source.now.table target a) c.abbreviated.ensures)
