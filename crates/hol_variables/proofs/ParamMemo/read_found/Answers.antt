use Rattle.hol_variables.proofs.Measured.{AreOfSequent-same}
use Rattle.hol_variables.proofs.ParamMemo.read_found.Goals as goal

pub returns : goal.returns
returns c e =
    c.in_ok-take.ensures _
    (AreOfSequent-same c.args.terms.now _ _ _ _ _ c.numbers.ensures.numbers c.numbers-2.ensures.numbers (c.in_ok-find.ensures c.if-not-branch.false))
