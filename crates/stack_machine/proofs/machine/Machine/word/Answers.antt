use Rattle.std.proofs.Common.{sym}
use Rattle.stack_machine.proofs.Dictionaries.{entries-Grow}
use Rattle.stack_machine.proofs.Obeyed.{Obeys-Pragma}
use Rattle.stack_machine.proofs.Frames.{parts-known, Obeys-shown, ObeysIn-shown}
use Rattle.stack_machine.proofs.machine.Machine.word.Goals as goal

pub returns-in-Def : goal.returns-in-Def
returns-in-Def c = rw c.in-Def.is (record { taken = c.define.ensures.taken; refused = c.define.ensures.refused; unchanged = c.define.ensures.unchanged })

pub returns-in-Ref : goal.returns-in-Ref
returns-in-Ref c = rw c.in-Ref.is (record { taken = c.refer.ensures.taken; refused = c.refer.ensures.refused; unchanged = c.refer.ensures.unchanged })

pub returns-in-Remove : goal.returns-in-Remove
returns-in-Remove c = rw c.in-Remove.is (record { taken = c.remove.ensures.taken; refused = c.remove.ensures.refused; unchanged = c.remove.ensures.unchanged })

pub invariant_of-self : goal.invariant_of-self
invariant_of-self c = parts-known c.nil.ensures.grows c.self.inside.dictionary.entries c.self.inside.remembered c.nil.ensures.known c.self.invariant

pub returns-in-Nil : goal.returns-in-Nil
returns-in-Nil c = rw (c.in-Nil.is, ← c.self.view_is) (Obeys-shown c.self.inside.dictionary.entries c.self.inside.progress c.self.invariant c.nil.ensures)

pub invariant_of-self-in-Cons : goal.invariant_of-self-in-Cons
invariant_of-self-in-Cons c = parts-known c.cons.ensures.grows c.self-in-Cons.inside.dictionary.entries c.self-in-Cons.inside.remembered c.cons.ensures.known
    c.self-in-Cons.invariant

pub returns-in-Cons : goal.returns-in-Cons
returns-in-Cons c = rw (c.in-Cons.is, ← c.self-in-Cons.view_is)
    (Obeys-shown c.self-in-Cons.inside.dictionary.entries c.self-in-Cons.inside.progress c.self-in-Cons.invariant c.cons.ensures)

pub invariant_of-self-in-HdTl : goal.invariant_of-self-in-HdTl
invariant_of-self-in-HdTl c = parts-known c.head_and_tail.ensures.grows c.self-in-HdTl.inside.dictionary.entries c.self-in-HdTl.inside.remembered
    c.head_and_tail.ensures.known c.self-in-HdTl.invariant

pub returns-in-HdTl : goal.returns-in-HdTl
returns-in-HdTl c = rw (c.in-HdTl.is, ← c.self-in-HdTl.view_is)
    (Obeys-shown c.self-in-HdTl.inside.dictionary.entries c.self-in-HdTl.inside.progress c.self-in-HdTl.invariant c.head_and_tail.ensures)

pub invariant_of-self-in-TypeOp : goal.invariant_of-self-in-TypeOp
invariant_of-self-in-TypeOp c = parts-known c.type_operator.ensures.grows c.self-in-TypeOp.inside.dictionary.entries c.self-in-TypeOp.inside.remembered
    c.type_operator.ensures.known c.self-in-TypeOp.invariant

pub returns-in-TypeOp : goal.returns-in-TypeOp
returns-in-TypeOp c = rw (c.in-TypeOp.is, ← c.self-in-TypeOp.view_is)
    (Obeys-shown c.self-in-TypeOp.inside.dictionary.entries c.self-in-TypeOp.inside.progress c.self-in-TypeOp.invariant c.type_operator.ensures)

pub invariant_of-self-in-VarType : goal.invariant_of-self-in-VarType
invariant_of-self-in-VarType c = parts-known c.type_variable.ensures.grows c.self-in-VarType.inside.dictionary.entries c.self-in-VarType.inside.remembered
    c.type_variable.ensures.known c.self-in-VarType.invariant

pub returns-in-VarType : goal.returns-in-VarType
returns-in-VarType c = rw (c.in-VarType.is, ← c.self-in-VarType.view_is)
    (Obeys-shown c.self-in-VarType.inside.dictionary.entries c.self-in-VarType.inside.progress c.self-in-VarType.invariant c.type_variable.ensures)

pub invariant_of-self-in-OpType : goal.invariant_of-self-in-OpType
invariant_of-self-in-OpType c = parts-known c.operator_type.ensures.grows c.self-in-OpType.inside.dictionary.entries c.self-in-OpType.inside.remembered
    c.operator_type.ensures.known c.self-in-OpType.invariant

pub returns-in-OpType : goal.returns-in-OpType
returns-in-OpType c = rw (c.in-OpType.is, ← c.self-in-OpType.view_is)
    (Obeys-shown c.self-in-OpType.inside.dictionary.entries c.self-in-OpType.inside.progress c.self-in-OpType.invariant c.operator_type.ensures)

pub invariant_of-self-in-Const : goal.invariant_of-self-in-Const
invariant_of-self-in-Const c = parts-known c.constant.ensures.grows c.self-in-Const.inside.dictionary.entries c.self-in-Const.inside.remembered
    c.constant.ensures.known c.self-in-Const.invariant

pub returns-in-Const : goal.returns-in-Const
returns-in-Const c = rw (c.in-Const.is, ← c.self-in-Const.view_is)
    (Obeys-shown c.self-in-Const.inside.dictionary.entries c.self-in-Const.inside.progress c.self-in-Const.invariant c.constant.ensures)

pub invariant_of-self-in-ConstTerm : goal.invariant_of-self-in-ConstTerm
invariant_of-self-in-ConstTerm c = parts-known c.constant_term.ensures.grows c.self-in-ConstTerm.inside.dictionary.entries c.self-in-ConstTerm.inside.remembered
    c.constant_term.ensures.known c.self-in-ConstTerm.invariant

pub returns-in-ConstTerm : goal.returns-in-ConstTerm
returns-in-ConstTerm c = rw (c.in-ConstTerm.is, ← c.self-in-ConstTerm.view_is)
    (Obeys-shown c.self-in-ConstTerm.inside.dictionary.entries c.self-in-ConstTerm.inside.progress c.self-in-ConstTerm.invariant c.constant_term.ensures)

pub invariant_of-self-in-Var : goal.invariant_of-self-in-Var
invariant_of-self-in-Var c = parts-known c.variable.ensures.grows c.self-in-Var.inside.dictionary.entries c.self-in-Var.inside.remembered
    c.variable.ensures.known c.self-in-Var.invariant

pub returns-in-Var : goal.returns-in-Var
returns-in-Var c = rw (c.in-Var.is, ← c.self-in-Var.view_is)
    (Obeys-shown c.self-in-Var.inside.dictionary.entries c.self-in-Var.inside.progress c.self-in-Var.invariant c.variable.ensures)

pub invariant_of-self-in-VarTerm : goal.invariant_of-self-in-VarTerm
invariant_of-self-in-VarTerm c = parts-known c.variable_term.ensures.grows c.self-in-VarTerm.inside.dictionary.entries c.self-in-VarTerm.inside.remembered
    c.variable_term.ensures.known c.self-in-VarTerm.invariant

pub returns-in-VarTerm : goal.returns-in-VarTerm
returns-in-VarTerm c = rw (c.in-VarTerm.is, ← c.self-in-VarTerm.view_is)
    (Obeys-shown c.self-in-VarTerm.inside.dictionary.entries c.self-in-VarTerm.inside.progress c.self-in-VarTerm.invariant c.variable_term.ensures)

pub invariant_of-self-in-AppTerm : goal.invariant_of-self-in-AppTerm
invariant_of-self-in-AppTerm c = parts-known c.application_term.ensures.grows c.self-in-AppTerm.inside.dictionary.entries c.self-in-AppTerm.inside.remembered
    c.application_term.ensures.known c.self-in-AppTerm.invariant

pub returns-in-AppTerm : goal.returns-in-AppTerm
returns-in-AppTerm c = rw (c.in-AppTerm.is, ← c.self-in-AppTerm.view_is)
    (Obeys-shown c.self-in-AppTerm.inside.dictionary.entries c.self-in-AppTerm.inside.progress c.self-in-AppTerm.invariant c.application_term.ensures)

pub invariant_of-self-in-AbsTerm : goal.invariant_of-self-in-AbsTerm
invariant_of-self-in-AbsTerm c = parts-known c.abstraction_term.ensures.grows c.self-in-AbsTerm.inside.dictionary.entries c.self-in-AbsTerm.inside.remembered
    c.abstraction_term.ensures.known c.self-in-AbsTerm.invariant

pub returns-in-AbsTerm : goal.returns-in-AbsTerm
returns-in-AbsTerm c = rw (c.in-AbsTerm.is, ← c.self-in-AbsTerm.view_is)
    (Obeys-shown c.self-in-AbsTerm.inside.dictionary.entries c.self-in-AbsTerm.inside.progress c.self-in-AbsTerm.invariant c.abstraction_term.ensures)

pub invariant_of-self-in-Pop : goal.invariant_of-self-in-Pop
invariant_of-self-in-Pop c = parts-known c.drop_object.ensures.grows c.self-in-Pop.inside.dictionary.entries c.self-in-Pop.inside.remembered
    c.drop_object.ensures.known c.self-in-Pop.invariant

pub returns-in-Pop : goal.returns-in-Pop
returns-in-Pop c = rw (c.in-Pop.is, ← c.self-in-Pop.view_is)
    (Obeys-shown c.self-in-Pop.inside.dictionary.entries c.self-in-Pop.inside.progress c.self-in-Pop.invariant c.drop_object.ensures)

pub invariant_of-self-in-Pragma : goal.invariant_of-self-in-Pragma
invariant_of-self-in-Pragma c = parts-known c.drop_object-in-Pragma.ensures.grows c.self-in-Pragma.inside.dictionary.entries c.self-in-Pragma.inside.remembered
    c.drop_object-in-Pragma.ensures.known c.self-in-Pragma.invariant

pub returns-in-Pragma : goal.returns-in-Pragma
returns-in-Pragma c = rw (c.in-Pragma.is, ← c.self-in-Pragma.view_is)
    (Obeys-shown c.self-in-Pragma.inside.dictionary.entries c.self-in-Pragma.inside.progress c.self-in-Pragma.invariant
    (Obeys-Pragma c.drop_object-in-Pragma.ensures))

pub invariant_of-self-in-Refl : goal.invariant_of-self-in-Refl
invariant_of-self-in-Refl c = parts-known c.refl.ensures.grows c.self-in-Refl.inside.dictionary.entries c.self-in-Refl.inside.remembered c.refl.ensures.known
    c.self-in-Refl.invariant

pub returns-in-Refl : goal.returns-in-Refl
returns-in-Refl c = rw (c.in-Refl.is, ← c.self-in-Refl.view_is)
    (Obeys-shown c.self-in-Refl.inside.dictionary.entries c.self-in-Refl.inside.progress c.self-in-Refl.invariant c.refl.ensures)

pub invariant_of-self-in-Assume : goal.invariant_of-self-in-Assume
invariant_of-self-in-Assume c = parts-known c.assume.ensures.grows c.self-in-Assume.inside.dictionary.entries c.self-in-Assume.inside.remembered
    c.assume.ensures.known c.self-in-Assume.invariant

pub returns-in-Assume : goal.returns-in-Assume
returns-in-Assume c = rw (c.in-Assume.is, ← c.self-in-Assume.view_is)
    (Obeys-shown c.self-in-Assume.inside.dictionary.entries c.self-in-Assume.inside.progress c.self-in-Assume.invariant c.assume.ensures)

pub invariant_of-self-in-EqMp : goal.invariant_of-self-in-EqMp
invariant_of-self-in-EqMp c = parts-known c.eq_mp.ensures.grows c.self-in-EqMp.inside.dictionary.entries c.self-in-EqMp.inside.remembered c.eq_mp.ensures.known
    c.self-in-EqMp.invariant

pub returns-in-EqMp : goal.returns-in-EqMp
returns-in-EqMp c = rw (c.in-EqMp.is, ← c.self-in-EqMp.view_is)
    (Obeys-shown c.self-in-EqMp.inside.dictionary.entries c.self-in-EqMp.inside.progress c.self-in-EqMp.invariant c.eq_mp.ensures)

pub invariant_of-self-in-AbsThm : goal.invariant_of-self-in-AbsThm
invariant_of-self-in-AbsThm c = parts-known c.abs_thm.ensures.grows c.self-in-AbsThm.inside.dictionary.entries c.self-in-AbsThm.inside.remembered
    c.abs_thm.ensures.known c.self-in-AbsThm.invariant

pub returns-in-AbsThm : goal.returns-in-AbsThm
returns-in-AbsThm c = rw (c.in-AbsThm.is, ← c.self-in-AbsThm.view_is)
    (Obeys-shown c.self-in-AbsThm.inside.dictionary.entries c.self-in-AbsThm.inside.progress c.self-in-AbsThm.invariant c.abs_thm.ensures)

pub invariant_of-self-in-AppThm : goal.invariant_of-self-in-AppThm
invariant_of-self-in-AppThm c = parts-known c.app_thm.ensures.grows c.self-in-AppThm.inside.dictionary.entries c.self-in-AppThm.inside.remembered
    c.app_thm.ensures.known c.self-in-AppThm.invariant

pub returns-in-AppThm : goal.returns-in-AppThm
returns-in-AppThm c = rw (c.in-AppThm.is, ← c.self-in-AppThm.view_is)
    (Obeys-shown c.self-in-AppThm.inside.dictionary.entries c.self-in-AppThm.inside.progress c.self-in-AppThm.invariant c.app_thm.ensures)

pub invariant_of-self-in-DeductAntisym : goal.invariant_of-self-in-DeductAntisym
invariant_of-self-in-DeductAntisym c = parts-known c.deduct_antisym.ensures.grows c.self-in-DeductAntisym.inside.dictionary.entries
    c.self-in-DeductAntisym.inside.remembered c.deduct_antisym.ensures.known c.self-in-DeductAntisym.invariant

pub returns-in-DeductAntisym : goal.returns-in-DeductAntisym
returns-in-DeductAntisym c = rw (c.in-DeductAntisym.is, ← c.self-in-DeductAntisym.view_is)
    (Obeys-shown c.self-in-DeductAntisym.inside.dictionary.entries c.self-in-DeductAntisym.inside.progress c.self-in-DeductAntisym.invariant
    c.deduct_antisym.ensures)

pub invariant_of-self-in-BetaConv : goal.invariant_of-self-in-BetaConv
invariant_of-self-in-BetaConv c = parts-known c.beta_conv.ensures.grows c.self-in-BetaConv.inside.dictionary.entries c.self-in-BetaConv.inside.remembered
    c.beta_conv.ensures.known c.self-in-BetaConv.invariant

pub returns-in-BetaConv : goal.returns-in-BetaConv
returns-in-BetaConv c = rw (c.in-BetaConv.is, ← c.self-in-BetaConv.view_is)
    (Obeys-shown c.self-in-BetaConv.inside.dictionary.entries c.self-in-BetaConv.inside.progress c.self-in-BetaConv.invariant c.beta_conv.ensures)

pub invariant_of-self-in-Sym : goal.invariant_of-self-in-Sym
invariant_of-self-in-Sym c = parts-known c.sym.ensures.grows c.self-in-Sym.inside.dictionary.entries c.self-in-Sym.inside.remembered c.sym.ensures.known
    c.self-in-Sym.invariant

pub returns-in-Sym : goal.returns-in-Sym
returns-in-Sym c = rw (c.in-Sym.is, ← c.self-in-Sym.view_is)
    (Obeys-shown c.self-in-Sym.inside.dictionary.entries c.self-in-Sym.inside.progress c.self-in-Sym.invariant c.sym.ensures)

pub invariant_of-self-in-Trans : goal.invariant_of-self-in-Trans
invariant_of-self-in-Trans c = parts-known c.trans.ensures.grows c.self-in-Trans.inside.dictionary.entries c.self-in-Trans.inside.remembered
    c.trans.ensures.known c.self-in-Trans.invariant

pub returns-in-Trans : goal.returns-in-Trans
returns-in-Trans c = rw (c.in-Trans.is, ← c.self-in-Trans.view_is)
    (Obeys-shown c.self-in-Trans.inside.dictionary.entries c.self-in-Trans.inside.progress c.self-in-Trans.invariant c.trans.ensures)

pub invariant_of-self-in-ProveHyp : goal.invariant_of-self-in-ProveHyp
invariant_of-self-in-ProveHyp c = parts-known c.prove_hyp.ensures.grows c.self-in-ProveHyp.inside.dictionary.entries c.self-in-ProveHyp.inside.remembered
    c.prove_hyp.ensures.known c.self-in-ProveHyp.invariant

pub returns-in-ProveHyp : goal.returns-in-ProveHyp
returns-in-ProveHyp c = rw (c.in-ProveHyp.is, ← c.self-in-ProveHyp.view_is)
    (Obeys-shown c.self-in-ProveHyp.inside.dictionary.entries c.self-in-ProveHyp.inside.progress c.self-in-ProveHyp.invariant c.prove_hyp.ensures)

pub invariant_of-self-in-Subst : goal.invariant_of-self-in-Subst
invariant_of-self-in-Subst c = (
  c.subst.ensures.obeys.known,
  entries-Grow c.subst.ensures.obeys.grows c.self-in-Subst.inside.dictionary.entries c.self-in-Subst.invariant.1,
  c.subst.ensures.remembered,
)

pub returns-in-Subst : goal.returns-in-Subst
returns-in-Subst c = rw (c.in-Subst.is, ← c.self-in-Subst.view_is)
    (Obeys-shown c.self-in-Subst.inside.dictionary.entries c.self-in-Subst.inside.progress c.self-in-Subst.invariant c.subst.ensures.obeys)

pub invariant_of-self-in-DefineConst : goal.invariant_of-self-in-DefineConst
invariant_of-self-in-DefineConst c = parts-known c.define_const.ensures.grows c.self-in-DefineConst.inside.dictionary.entries
    c.self-in-DefineConst.inside.remembered c.define_const.ensures.known c.self-in-DefineConst.invariant

pub returns-in-DefineConst : goal.returns-in-DefineConst
returns-in-DefineConst c = rw (c.in-DefineConst.is, ← c.self-in-DefineConst.view_is)
    (Obeys-shown c.self-in-DefineConst.inside.dictionary.entries c.self-in-DefineConst.inside.progress c.self-in-DefineConst.invariant c.define_const.ensures)

pub invariant_of-self-in-DefineConstList : goal.invariant_of-self-in-DefineConstList
invariant_of-self-in-DefineConstList c = parts-known c.define_const_list.ensures.grows c.self-in-DefineConstList.inside.dictionary.entries
    c.self-in-DefineConstList.inside.remembered c.define_const_list.ensures.known c.self-in-DefineConstList.invariant

pub returns-in-DefineConstList : goal.returns-in-DefineConstList
returns-in-DefineConstList c = rw (c.in-DefineConstList.is, ← c.self-in-DefineConstList.view_is)
    (Obeys-shown c.self-in-DefineConstList.inside.dictionary.entries c.self-in-DefineConstList.inside.progress c.self-in-DefineConstList.invariant
    c.define_const_list.ensures)

pub invariant_of-self-in-DefineTypeOp : goal.invariant_of-self-in-DefineTypeOp
invariant_of-self-in-DefineTypeOp c = parts-known c.define_type_op.ensures.grows c.self-in-DefineTypeOp.inside.dictionary.entries
    c.self-in-DefineTypeOp.inside.remembered c.define_type_op.ensures.known c.self-in-DefineTypeOp.invariant

pub returns-in-DefineTypeOp : goal.returns-in-DefineTypeOp
returns-in-DefineTypeOp c = rw (c.in-DefineTypeOp.is, ← c.self-in-DefineTypeOp.view_is)
    (ObeysIn-shown c.self-in-DefineTypeOp.inside.dictionary.entries c.self-in-DefineTypeOp.inside.progress c.self-in-DefineTypeOp.invariant
    (sym c.version.ensures) c.define_type_op.ensures)

pub invariant_of-self-in-Axiom : goal.invariant_of-self-in-Axiom
invariant_of-self-in-Axiom c = parts-known c.axiom.ensures.grows c.self-in-Axiom.inside.dictionary.entries c.self-in-Axiom.inside.remembered
    c.axiom.ensures.known c.self-in-Axiom.invariant

pub returns-in-Axiom : goal.returns-in-Axiom
returns-in-Axiom c = rw (c.in-Axiom.is, ← c.self-in-Axiom.view_is)
    (Obeys-shown c.self-in-Axiom.inside.dictionary.entries c.self-in-Axiom.inside.progress c.self-in-Axiom.invariant c.axiom.ensures)

pub invariant_of-self-in-Thm : goal.invariant_of-self-in-Thm
invariant_of-self-in-Thm c = parts-known c.thm.ensures.grows c.self-in-Thm.inside.dictionary.entries c.self-in-Thm.inside.remembered c.thm.ensures.known
    c.self-in-Thm.invariant

pub returns-in-Thm : goal.returns-in-Thm
returns-in-Thm c = rw (c.in-Thm.is, ← c.self-in-Thm.view_is)
    (Obeys-shown c.self-in-Thm.inside.dictionary.entries c.self-in-Thm.inside.progress c.self-in-Thm.invariant c.thm.ensures)
