use Rattle.std.proofs.Common.{arith}
use Rattle.std.proofs.lemmas.Result.{IfOk-weaker}
use Rattle.lp_term.specs.TableLaws.{Holds-within, Keeps-trans}
use Rattle.translate_term.proofs.FillingLaws.{filling-keeps, filling-made}
use Rattle.translate_term.proofs.nodes.filling.Goals as goal

pub returns-clause-made : goal.returns-clause-made
returns-clause-made c =
    IfOk-weaker c.call-3.result _ _
    (filling-made _ _ _ _ _ _ _ c.args.ty c.in_ok-lifted.lifted c.in_ok-variable.variable c.in_ok-equation.equation c.in_ok-domain.domain c.in_ok-test.test
    c.requires c.in_ok-lifted.ensures.keeps c.in_ok-variable.ensures.keeps
    c.in_ok-equation.ensures.keeps c.in_ok-domain.ensures.keeps c.in_ok-test.ensures.keeps c.call-3.ensures.keeps c.in_ok-lifted.ensures.made
    c.in_ok-variable.ensures.made c.in_ok-equation.ensures.made c.in_ok-domain.ensures.made
    c.in_ok-test.ensures.made)
    c.call-3.ensures.made

pub returns-clause-keeps : goal.returns-clause-keeps
returns-clause-keeps c =
    filling-keeps _ _ _ _ _ _ _ c.args.ty c.in_ok-lifted.lifted c.in_ok-variable.variable c.in_ok-equation.equation c.in_ok-domain.domain c.in_ok-test.test
    c.requires c.in_ok-lifted.ensures.keeps c.in_ok-variable.ensures.keeps
    c.in_ok-equation.ensures.keeps c.in_ok-domain.ensures.keeps c.in_ok-test.ensures.keeps c.call-3.ensures.keeps

pub returns-in_err-variable-clause-keeps : goal.returns-in_err-variable-clause-keeps
returns-in_err-variable-clause-keeps c = Keeps-trans c.in_ok-lifted.ensures.keeps c.node.ensures.keeps

pub returns-in_err-equation-clause-keeps : goal.returns-in_err-equation-clause-keeps
returns-in_err-equation-clause-keeps c = Keeps-trans c.in_ok-lifted.ensures.keeps (Keeps-trans c.in_ok-variable.ensures.keeps c.call.ensures.keeps)

pub returns-in_err-domain-clause-keeps : goal.returns-in_err-domain-clause-keeps
returns-in_err-domain-clause-keeps c = Keeps-trans c.in_ok-lifted.ensures.keeps
    (Keeps-trans c.in_ok-variable.ensures.keeps (Keeps-trans c.in_ok-equation.ensures.keeps c.call-2.ensures.keeps))

pub returns-in_err-test-clause-keeps : goal.returns-in_err-test-clause-keeps
returns-in_err-test-clause-keeps c =
    Keeps-trans c.in_ok-lifted.ensures.keeps
    (Keeps-trans c.in_ok-variable.ensures.keeps
    (Keeps-trans c.in_ok-equation.ensures.keeps (Keeps-trans c.in_ok-domain.ensures.keeps c.node-2.ensures.keeps)))

pub call-requires : goal.call-requires
call-requires c = (
  omega (arith, c.in_ok-lifted.ensures.known, c.in_ok-variable.ensures.keeps.longer),
  (c.in_ok-variable.ensures.known, (c.in_ok-variable.ensures.known, tt {0})),
)

pub call-requires-2 : goal.call-requires-2
call-requires-2 c = (
  omega (
    arith,
    c.requires,
    c.in_ok-lifted.ensures.keeps.longer,
    c.in_ok-variable.ensures.keeps.longer,
    c.in_ok-equation.ensures.keeps.longer,
  ),
  tt {0},
)

pub node-requires-2 : goal.node-requires-2
node-requires-2 c = (
  Holds-within _ c.in_ok-domain.domain.0 _ c.in_ok-domain.ensures.made,
  omega (arith, Holds-within _ c.in_ok-equation.equation.0 _ c.in_ok-equation.ensures.made, c.in_ok-domain.ensures.keeps.longer),
)

pub call-requires-3 : goal.call-requires-3
call-requires-3 c = (
  omega (
    arith,
    c.requires,
    c.in_ok-lifted.ensures.keeps.longer,
    c.in_ok-variable.ensures.keeps.longer,
    c.in_ok-equation.ensures.keeps.longer,
    c.in_ok-domain.ensures.keeps.longer,
    c.in_ok-test.ensures.keeps.longer,
  ),
  (c.in_ok-test.ensures.known, tt {0}),
)
