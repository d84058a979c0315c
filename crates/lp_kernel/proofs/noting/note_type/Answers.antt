use Rattle.std.proofs.Common.{arith}
use Rattle.lp_kernel.proofs.Asked.{OnOk-map}
use Rattle.lp_kernel.proofs.Levels.{right-closed}
use Rattle.lp_kernel.proofs.RightLaws.{open-only}
use Rattle.lp_kernel.proofs.noting.note_type.Goals as goal

pub returns-then-is_closed_under-clause-right : goal.returns-then-is_closed_under-clause-right
returns-then-is_closed_under-clause-right c = OnOk-map c.note.result
    (λ noted rechecks ds are h fact. let le = c.if-is_closed_under.ensures.closed (omega arith) in right-closed rechecks ds c.args.base.now.table
    c.args.memo.now c.args.key c.args.id c.args.found c.note.new.self are (omega (arith, le)) noted h fact)
    c.note.ensures.noted
