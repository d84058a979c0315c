use Rattle.std.proofs.Common.{◌≡◌, ◌∙◌, ◌-◌, subst, ap, arith, ◌++◌, ◌∷◌, [], length, take}
use Rattle.std.specs.Prelude.{vec_len}
use Rattle.std.proofs.lemmas.Grind.{common_steps}
use Rattle.compose.specs.Listed.{list_of, IsStruck, AreListed}
use Rattle.compose.specs.Pools.{steps_in}
use Rattle.compose.proofs.ListedLaws.{AreListed-back}
use Rattle.compose.proofs.PoolLaws.{steps-pop}
use Rattle.compose.proofs.pool.Pool.forget_last.Goals as goal

pub invariant_of-self : goal.invariant_of-self
invariant_of-self c =
    let held = c.pop.new.self.items in
    let said = c.in-Some.said in
    let lists = c.self.inside.lists.entries in
    let all : AreListed (held ++ said ∷ []) lists = subst (λ p. AreListed p lists) c.in-Some.ensures.items c.self.invariant.listed in
    let place : c.len.result ≡ length held = grind (arith, common_steps) in
    let count : vec_len c.self.inside.steps ≡ length c.self.inside.steps.items = grind (arith, common_steps) in
    record {
      numbered = c.pop-step.ensures.rest ∙ ap (λ n. take (n - 1) c.self.inside.steps.items) count
          ∙ steps-pop held said c.self.inside.steps.items (c.self.invariant.numbered ∙ ap steps_in c.in-Some.ensures.items);
      listed = AreListed-back held said lists c.strike.new.lists.entries c.strike.ensures.others all
          (subst (λ p. IsStruck (held ++ said ∷ []) p (list_of lists said.sequent.concl) (list_of c.strike.new.lists.entries said.sequent.concl)) place
          (c.strike.ensures.struck (held ++ said ∷ []) (all said.sequent.concl).ordered));
    }
