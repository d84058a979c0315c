use Rattle.lp_weight.proofs.measure.Walk.new.Goals as goal

pub returns : goal.returns
returns c = λ amount. record { tasks = c.new.ensures.empty; amounts = c.new-2.ensures.empty; noted = λ p n h. absurd (c.new-3.ensures.empty p n h) }
