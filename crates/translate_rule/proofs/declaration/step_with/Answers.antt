use Rattle.std.proofs.Common.{◌∙◌}
use Rattle.std.specs.Prelude.{option_map}
use Rattle.lp_term.specs.Tables.{tree_at}
use Rattle.translate_rule.proofs.declaration.step_with.Goals as goal

pub returns-clause-made : goal.returns-clause-made
returns-clause-made c = λ tables told.
    let name = c.new-name.ensures ∙ c.in_ok-step_name.ensures in
    (λ i. record {
      name = name i;
      form = c.in_ok-form.field-0.form;
      ty = tree_at c.stated-made.new.target.table c.in_ok-form.field-0.ty.0;
      body =
          option_map (λ x. tree_at c.stated-made.new.target.table x.0) c.in_ok-form.field-0.body;
    })
    ∙ c.in_ok-form.ensures.made tables _ told

pub returns-clause-known : goal.returns-clause-known
returns-clause-known c = record { ty = c.in_ok-form.ensures.known.ty; body = c.in_ok-form.ensures.known.body }
