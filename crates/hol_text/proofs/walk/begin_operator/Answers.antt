use Rattle.std.proofs.Common.{ap, arith, sym, ◌∙◌, ◌++◌}
use Rattle.std.proofs.lemmas.Result.{on_ok_weaker}
use Rattle.hol_text.proofs.Operators.{function_turn, operator_turn}
use Rattle.hol_text.proofs.walk.begin_operator.Goals as goal

pub returns-then-is_function-clause-added : goal.returns-then-is_function-clause-added
returns-then-is_function-clause-added c = on_ok_weaker c.set_out.result (λ added ts.
    ap (λ l. c.extend_from_slice.new.self.items ++ l) (added ts)
    ∙ function_turn c.args.count c.in-Some.others (let h = c.in-Some.ensures in omega (arith, h)) ts c.args.works.now c.args.name.now c.args.text.now.items
    c.extend_from_slice.new.self.items
    (sym (c.is_function.ensures ts) ∙ c.if-is_function.true) c.in_ok-extend_from_slice.ensures.items) c.set_out.ensures.added

pub returns-in_ok-extend_from_slice-2-clause-added : goal.returns-in_ok-extend_from_slice-2-clause-added
returns-in_ok-extend_from_slice-2-clause-added c = on_ok_weaker c.set_out-else-is_function.result (λ added ts.
    ap (λ l. c.extend_from_slice-else-is_function.new.self.items ++ l) (added ts)
    ∙ operator_turn c.args.count c.in-Some.others (let h = c.in-Some.ensures in omega (arith, h)) ts c.args.works.now c.args.name.now
    c.args.text.now.items c.extend_from_slice.new.self.items c.add_name-else-is_function.new.text.items c.extend_from_slice-else-is_function.new.self.items
    (sym (c.is_function.ensures ts) ∙ c.if-is_function.false) c.in_ok-extend_from_slice.ensures.items c.in_ok-add_name.ensures
    c.in_ok-extend_from_slice-2.ensures.items) c.set_out-else-is_function.ensures.added
