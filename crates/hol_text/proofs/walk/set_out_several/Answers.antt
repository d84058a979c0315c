use Rattle.std.proofs.Common.{ap, arith, ◌∙◌, ◌++◌, ◌∷◌}
use Rattle.std.proofs.lemmas.Result.{on_ok_weaker}
use Rattle.hol_text.specs.declared.walk.TypeWork.TheVariants.{Next}
use Rattle.hol_text.specs.Works.{types_left_text}
use Rattle.hol_text.proofs.Operators.{several_turn}
use Rattle.hol_text.proofs.walk.set_out_several.Goals as goal

pub returns-clause-added : goal.returns-clause-added
returns-clause-added c = on_ok_weaker c.push-2.result (λ pushed ts.
    ap (λ works. c.extend_from_slice.new.self.items ++ types_left_text works ts) (pushed ∙ ap (λ works. Next ∷ works) c.in_ok-push.ensures.pushed)
    ∙ several_turn c.args.count c.in-Some.others (let h = c.in-Some.ensures in omega (arith, h)) ts c.args.works.now c.args.text.now.items
    c.extend_from_slice.new.self.items c.in_ok-extend_from_slice.ensures.items) c.push-2.ensures.pushed
