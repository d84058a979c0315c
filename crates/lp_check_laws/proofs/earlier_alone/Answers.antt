use Rattle.lp_check_laws.specs.EarlierDeclarations.{declaration_plan-whole}
use Rattle.lp_check_laws.proofs.earlier_alone.Goals as goal

pub returns : goal.returns
returns c = declaration_plan-whole
