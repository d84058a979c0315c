use Rattle.std.proofs.Common.{sym, ◌∙◌}
use Rattle.std.proofs.lemmas.Bool.Decides.{Decides-eqb}
use Rattle.std.proofs.lemmas.List.{nil_from_length}
use Rattle.hol_variables.proofs.Measured.{AreOfSequent-alone}
use Rattle.hol_variables.proofs.ParamMemo.read.Goals as goal

pub returns : goal.returns
returns c e =
    let none = sym c.ids.ensures.numbers ∙ nil_from_length _ ((Decides-eqb _ 0).0 (sym c.is_empty.ensures ∙ c.if-not-is_empty.false)) in
    c.in_ok-take.ensures _ (AreOfSequent-alone c.args.terms.now c.args.sequent.now _ _ none c.in-Some.ensures)
