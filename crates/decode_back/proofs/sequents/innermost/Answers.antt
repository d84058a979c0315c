use Rattle.std.proofs.Common.{ap, ◌∙◌, arith}
use Rattle.hol_spec.specs.Terms as term
use Rattle.hol_type.specs.TableLaws.{tree_at-Stays}
use Rattle.hol_term.specs.Tables.{term_at, type_at}
use Rattle.hol_term.specs.TableLaws.{Keeps-refl, Keeps-trans, Some-term_in}
use Rattle.decode_back.proofs.JudgeLemmas.{bound-held}
use Rattle.decode_back.proofs.sequents.innermost.Goals as goal

pub returns-in-Lam-clause-held : goal.returns-in-Lam-clause-held
returns-in-Lam-clause-held c =
    bound-held c.raw_abstraction.new.self c.in_ok-made.made c.in-Lam.body (type_at c.free.new.self c.in-Ok-ty_op.ty.0)
    (type_at c.raw_abstraction.new.self c.in-Lam.field-0.0) c.in-Ok.name (term_at c.free.new.self c.in-Ok-free.free.0)
    c.in-Lam.ensures.is c.in_ok-made.ensures.made
    (Some-term_in c.free.new.self.terms c.in-Ok-free.free.0 (term.Term.free c.in-Ok.name (type_at c.ty_op.new.self c.in-Ok-ty_op.ty.0))
    c.in-Ok-free.ensures.made
    ∙ ap (term.Term.free c.in-Ok.name) (tree_at-Stays c.in-Ok-free.ensures.keeps.types.stays c.in-Ok-ty_op.ty.0 c.in-Ok-ty_op.ensures.known))
    (omega (arith, c.in-Lam.ensures.lower.1, c.in_ok-made.ensures.known))

pub returns-in_default-clause-keeps : goal.returns-in_default-clause-keeps
returns-in_default-clause-keeps c = Keeps-refl c.args.table.now

pub returns-in_default-ty_op-clause-keeps : goal.returns-in_default-ty_op-clause-keeps
returns-in_default-ty_op-clause-keeps c = c.ty_op.ensures.keeps

pub returns-in_default-free-clause-keeps : goal.returns-in_default-free-clause-keeps
returns-in_default-free-clause-keeps c = Keeps-trans c.ty_op.ensures.keeps c.free.ensures.keeps

pub returns-in_err-made-clause-keeps : goal.returns-in_err-made-clause-keeps
returns-in_err-made-clause-keeps c = Keeps-trans (Keeps-trans c.ty_op.ensures.keeps c.free.ensures.keeps) c.raw_abstraction.ensures.keeps

pub returns-in-Lam-clause-keeps : goal.returns-in-Lam-clause-keeps
returns-in-Lam-clause-keeps c = Keeps-trans (Keeps-trans c.ty_op.ensures.keeps c.free.ensures.keeps) c.raw_abstraction.ensures.keeps

pub returns-clause-keeps : goal.returns-clause-keeps
returns-clause-keeps c = Keeps-trans (Keeps-trans c.ty_op.ensures.keeps c.free.ensures.keeps) c.raw_abstraction.ensures.keeps
