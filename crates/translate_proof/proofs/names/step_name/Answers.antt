use Rattle.std.proofs.Common.{◌∙◌, ◌++◌, cond, sym, ap}
use Rattle.std.specs.Prelude.{nat_eq, codes}
use Rattle.std.specs.List.{position_or_len}
use Rattle.std.proofs.lemmas.Result.{IfOk-weaker}
use Rattle.hol_rules.specs.Views.{step_at}
use Rattle.translate_spec.specs.Image.{unexported_name}
use Rattle.lp_spec.specs.Numerals.{numeral}
use Rattle.translate_proof.proofs.PlaceOf.{place-is_in, place-not_in, place-position_or_len}
use Rattle.translate_proof.proofs.names.step_name.Goals as goal

pub returns-in-Some : goal.returns-in-Some
returns-in-Some c =
    let ids = c.args.exports.now in
    let i = c.args.id in
    let at = sym c.in-Some.is ∙ c.place_of.ensures in
    IfOk-weaker c.lettered.result _ _
    (λ text h. h ∙ ap (λ n. codes "E" ++ numeral n) (place-position_or_len (nat_eq i) ids c.in-Some.place at)
    ∙ sym (ap (λ b. cond b (codes "E" ++ numeral (position_or_len (nat_eq i) ids))
    (unexported_name c.args.assumptions.now i (step_at c.args.proof.now.made i).kind)) (place-is_in (nat_eq i) ids c.in-Some.place at)))
    c.lettered.ensures

pub returns-in-None : goal.returns-in-None
returns-in-None c =
    let ids = c.args.exports.now in
    let i = c.args.id in
    let at = sym c.in-None.is ∙ c.place_of.ensures in
    IfOk-weaker c.unexported_name.result _ _
    (λ text h. h ∙ ap (unexported_name c.args.assumptions.now i) c.kind.ensures
    ∙ sym (ap (λ b. cond b (codes "E" ++ numeral (position_or_len (nat_eq i) ids))
    (unexported_name c.args.assumptions.now i (step_at c.args.proof.now.made i).kind)) (place-not_in (nat_eq i) ids at)))
    c.unexported_name.ensures
