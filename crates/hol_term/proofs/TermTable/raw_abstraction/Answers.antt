use Rattle.std.proofs.Common.{arith}
use Rattle.std.proofs.lemmas.Result.{IfOk-weaker}
use Rattle.hol_spec.specs.TermBinding.{close}
use Rattle.hol_term.specs.Tables.{term_at, type_at}
use Rattle.hol_term.specs.TableLaws.{Keeps-trans}
use Rattle.hol_term.proofs.Settled.{made_abs}
use Rattle.hol_term.proofs.TermTable.raw_abstraction.Goals as goal

pub add-requires : goal.add-requires
add-requires c = (omega (arith, c.requires.variable, c.closed.ensures.keeps.types.longer), c.in_ok-body.ensures.known)

pub returns-clause-made : goal.returns-clause-made
returns-clause-made c =
    IfOk-weaker c.add.result _ _
    (λ r h. made_abs c.args.self.now c.closed.new.self c.add.new.self c.args.var.now.ty.0 c.in_ok-body.body.0 r.0
    (close (c.args.var.now.name, type_at c.args.self.now c.args.var.now.ty.0) (term_at c.args.self.now c.args.id.0))
    c.closed.ensures.keeps c.requires.variable c.in_ok-body.ensures.made h)
    c.add.ensures.made

pub returns-clause-keeps : goal.returns-clause-keeps
returns-clause-keeps c = Keeps-trans c.closed.ensures.keeps c.add.ensures.keeps
