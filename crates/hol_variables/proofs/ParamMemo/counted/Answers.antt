use Rattle.std.proofs.Common.{◌≡◌, ◌-◌, ◌^◌, sym, subst, ◌∙◌}
use Rattle.std.specs.Prelude.{min, IfSome}
use Rattle.std.proofs.lemmas.Bool.Decides.{Decides-eqb}
use Rattle.std.proofs.lemmas.List.{nil_from_length}
use Rattle.hol_variables.proofs.Measured.{counted, found_count, parameter_count-alone}
use Rattle.hol_variables.proofs.ParamMemo.counted.Goals as goal

pub returns-then-is_empty : goal.returns-then-is_empty
returns-then-is_empty c =
    let s = c.args.sequent.now in
    let none = sym c.ids.ensures.numbers ∙ nil_from_length _ ((Decides-eqb _ 0).0 (sym c.is_empty.ensures ∙ c.if-is_empty.true)) in
    subst (λ k. IfSome c.listed.result (λ n. n ≡ min k (2 ^ 64 - 1))) (parameter_count-alone c.args.terms.now s none) c.listed.ensures

pub returns : goal.returns
returns c =
    counted _ _ _ _ _ c.saturating_add-variables.ensures c.saturating_add.ensures
    ∙ found_count c.args.terms.now c.args.sequent.now _ _ _ _ _ (c.in_ok-find.ensures c.if-not-branch.false)
    c.numbers-names.ensures.numbers c.numbers.ensures.numbers c.ids-2.ensures.numbers
