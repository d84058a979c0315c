use Rattle.std.proofs.Common.{◌∙◌, sym, ap, subst}
use Rattle.dk_read.specs.Readers.{Reading, progress_of, fault_in, IsStage}
use Rattle.dk_read.proofs.Ended.{stopped, opening_ends}
use Rattle.dk_read.proofs.reader.Reader.read_end.Goals as goal

pub returns-in-Opening-clause-ends : goal.returns-in-Opening-clause-ends
returns-in-Opening-clause-ends c = λ text fed.
    let progress = ap (λ (r : Reading). r.progress) (sym c.self.view_is) ∙ ap progress_of c.in-Opening.is in
    let going = ap (λ (r : Reading). r.fault) (sym c.self.view_is) ∙ ap fault_in c.in-Opening.is in
    let within = subst IsStage c.in-Opening.is c.self.invariant in
    opening_ends c.args.self c.in-Opening.count text progress going within fed

pub returns-in-Stopped-clause-ends : goal.returns-in-Stopped-clause-ends
returns-in-Stopped-clause-ends c = λ text fed. stopped c.args.self c.in-Stopped.fault text
    (ap (λ (r : Reading). r.fault) (sym c.self.view_is) ∙ ap fault_in c.in-Stopped.is) fed
