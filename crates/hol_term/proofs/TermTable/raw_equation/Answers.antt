use Rattle.std.proofs.Common.{arith}
use Rattle.std.proofs.lemmas.Result.{IfOk-weaker}
use Rattle.hol_term.specs.Tables.{type_at}
use Rattle.hol_term.specs.TableLaws.{Keeps-trans}
use Rattle.hol_term.proofs.Settled.{made_equation}
use Rattle.hol_term.proofs.TermTable.raw_equation.Goals as goal

pub add-requires : goal.add-requires
add-requires c = (c.in_ok-constant.ensures.known, omega (arith, c.requires.left, c.equality.ensures.keeps.longer))

pub returns-in_err-left-clause-keeps : goal.returns-in_err-left-clause-keeps
returns-in_err-left-clause-keeps c = Keeps-trans c.equality.ensures.keeps c.add.ensures.keeps

pub add-requires-2 : goal.add-requires-2
add-requires-2 c = (c.in_ok-left.ensures.known, omega (arith, c.requires.right, c.equality.ensures.keeps.longer, c.add.ensures.keeps.longer))

pub returns-clause-made : goal.returns-clause-made
returns-clause-made c =
    IfOk-weaker c.add-2.result _ _
    (λ id h. made_equation c.args.self.now c.equality.new.self c.add.new.self c.add-2.new.self c.in_ok-constant.constant.0 c.args.l.0 c.in_ok-left.left.0
    c.args.r.0 id.0 (type_at c.args.self.now c.args.ty.0)
    c.equality.ensures.keeps c.add.ensures.keeps c.requires.left c.requires.right c.in_ok-constant.ensures.made c.in_ok-left.ensures.made h)
    c.add-2.ensures.made

pub returns-clause-keeps : goal.returns-clause-keeps
returns-clause-keeps c = Keeps-trans c.equality.ensures.keeps (Keeps-trans c.add.ensures.keeps c.add-2.ensures.keeps)
