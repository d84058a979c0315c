use Rattle.std.proofs.Common.{◌∙◌, sym}
use Rattle.std.proofs.lemmas.Bool.{ne_eqb}
use Rattle.hol_text.proofs.NameTexts.{is_function-two, is_function-other}
use Rattle.hol_text.proofs.walk.is_function.Goals as goal

pub returns-then-count-eq2 : goal.returns-then-count-eq2
returns-then-count-eq2 c = λ ts. is_function-two c.is_single.result c.args.name.now c.args.count ts c.if-count-eq2.true c.is_single.ensures

pub returns-else-count-eq2 : goal.returns-else-count-eq2
returns-else-count-eq2 c = λ ts. ne_eqb _ 2 c.if-count-eq2.false ∙ sym (is_function-other c.args.name.now c.args.count ts c.if-count-eq2.false)
