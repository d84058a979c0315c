use Rattle.lp_weight.proofs.measure.Walk.trim.Goals as goal

pub returns-then-len-gt-MOST : goal.returns-then-len-gt-MOST
returns-then-len-gt-MOST c = λ amount h. record { tasks = h.tasks; amounts = h.amounts; noted = λ p n k. absurd (c.clear.ensures.empty p n k) }
