use Rattle.std.proofs.Common.{◌≡◌, ◌≢◌, ◌<◌, length, get_or, arith}
use Rattle.std.proofs.lemmas.Grind.{common_steps}
use Rattle.hol_name.proofs.Reading.{stopped, no_name}
use Rattle.hol_name.proofs.name.Name.parse.Goals as goal
use Rattle.hol_name.proofs.name.Name.parse.Goals.{in_default-after-via-then-after-lt1, in_default-after-via-else-after-lt1+then-after-lt2+in_default-1, in_default-after-via-else-after-lt1+else-after-lt2+in_default-1}

pub loop-component-smaller : goal.loop-component-smaller
loop-component-smaller c = let h = c.in-Ok.ensures.rest in grind (arith, common_steps)

pub returns-in_default-after-clause-bad_line : goal.returns-in_default-after-clause-bad_line
returns-in_default-after-clause-bad_line c e =
    let after = c.in-Ok.after.now in
    let one : length after ≡ 1 → get_or after 0 0 ≢ 34 = λ h q. elim c.in_default-after.branch [
      | in_default-after-via-then-after-lt1 w ↦ grind (arith, common_steps)
      | in_default-after-via-else-after-lt1+then-after-lt2+in_default-1 w ↦ grind (arith, common_steps)
      | in_default-after-via-else-after-lt1+else-after-lt2+in_default-1 w ↦ grind (arith, common_steps)
    ] in
    let more : 0 < length after → get_or after 0 0 ≢ 46 = λ h q. elim c.in_default-after.branch [
      | in_default-after-via-then-after-lt1 w ↦ grind (arith, common_steps)
      | in_default-after-via-else-after-lt1+then-after-lt2+in_default-1 w ↦ grind (arith, common_steps)
      | in_default-after-via-else-after-lt1+else-after-lt2+in_default-1 w ↦ grind (arith, common_steps)
    ] in
    no_name _ _ _ _ after c.loop-component.invariant.read c.in-Ok.ensures.read (stopped after c.in-Ok.ensures.stops one more)
