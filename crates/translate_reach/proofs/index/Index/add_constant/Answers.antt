use Rattle.std.proofs.Common.{Some, cond, refl, sym, ◌∙◌}
use Rattle.std.specs.Map.{lookup}
use Rattle.hol_spec.specs.NameEquality.{name_eq}
use Rattle.translate_spec.specs.Reach.{operator_key, constant_key, number_key}
use Rattle.translate_reach.proofs.Ordered.{is_eq-name_cmp, get-name}
use Rattle.translate_reach.proofs.index.Index.add_constant.Goals as goal

pub returns : goal.returns
returns c (operator_key m j) = refl
returns c (constant_key m) =
    let old = c.args.self.now.constants in
    sym (get-name m c.insert.new.self) ∙ c.in_ok-insert.ensures.updates.0 m
    ∙ (λ i. cond (is_eq-name_cmp (c.in_ok-clone.ensures.cases i) m i) (Some c.args.item) (get-name m old i))
returns c (number_key i) = refl
