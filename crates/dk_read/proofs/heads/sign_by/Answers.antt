use Rattle.std.proofs.Common.{◌∷◌, arith}
use Rattle.std.proofs.lemmas.Grind.{common_steps}
use Rattle.dk_read.proofs.Signs.{left_paren, right_paren, assign, colon, arrow, fat_arrow, dot}
use Rattle.dk_read.proofs.heads.sign_by.Goals as goal

pub returns-else-second-eq59 : goal.returns-else-second-eq59
returns-else-second-eq59 c = record
    { signs = λ more. left_paren c.args.first c.args.second more c.in-40.is (let h = c.if-second-eq59.false in grind (arith, common_steps, h)) }

pub returns-in-41 : goal.returns-in-41
returns-in-41 c = record { signs = λ more. right_paren c.args.first (c.args.second ∷ more) c.in-41.is }

pub returns-then-second-eq61 : goal.returns-then-second-eq61
returns-then-second-eq61 c = record { signs = λ more. assign c.args.first c.args.second more c.in-58.is c.if-second-eq61.true }

pub returns-else-second-eq61 : goal.returns-else-second-eq61
returns-else-second-eq61 c = record
    { signs = λ more. colon c.args.first c.args.second more c.in-58.is (let h = c.if-second-eq61.false in grind (arith, common_steps, h)) }

pub returns-then-second-eq62 : goal.returns-then-second-eq62
returns-then-second-eq62 c = record { signs = λ more. arrow c.args.first c.args.second more c.in-45.is c.if-second-eq62.true }

pub returns-then-second-eq62-2 : goal.returns-then-second-eq62-2
returns-then-second-eq62-2 c = record { signs = λ more. fat_arrow c.args.first c.args.second more c.in-61.is c.if-second-eq62-2.true }

pub returns-in-46 : goal.returns-in-46
returns-in-46 c = record { signs = λ more. dot c.args.first (c.args.second ∷ more) c.in-46.is }
