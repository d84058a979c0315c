use Rattle.std.proofs.Common.{sym, ◌∙◌, subst, refl, arith, ◌++◌, length, map, IsFalse, None}
use Rattle.lp_spec.specs.declared.form.Form.TheVariants.{Symbol}
use Rattle.lp_spec.specs.Trees.{Sym, Var}
use Rattle.lp_spec.specs.Modules.{signature}
use Rattle.lp_spec.specs.ModuleOrder.{is_declared, MayFollow}
use Rattle.lp_term.specs.Tables.{Keeps}
use Rattle.lp_term.specs.TableLaws.{Keeps-trans}
use Rattle.holide_sig.specs.Modules.{declaration_in}
use Rattle.holide_sig.specs.ModuleLaws.{IsHeld-Keeps}
use Rattle.lp_tests.specs.Open.{IsOpen}
use Rattle.lp_tests.proofs.Declared.{open-Holds, open-Keeps, open-product, symbol-follows}
use Rattle.lp_tests.proofs.shared.declare_shared.Goals as goal

pub push-requires-clause-held : goal.push-requires-clause-held
push-requires-clause-held c =
    let grown : Keeps c.args.into.now.table c.node-3.new.self =
    Keeps-trans c.node.ensures.keeps (Keeps-trans c.node-2.ensures.keeps (Keeps-trans c.doubled.ensures.keeps c.node-3.ensures.keeps)) in
    IsHeld-Keeps c.args.into.now c.node-3.new.self grown c.requires.held

pub push-requires-clause-follows : goal.push-requires-clause-follows
push-requires-clause-follows c =
    let result : IsOpen 1 (length signature) c.doubled.new.table c.in_ok-result.result =
    c.in_ok-result.ensures.«open» 1 (length signature) (omega arith)
    (open-Holds 1 (length signature) c.node-2.new.self c.in_ok-leaf.leaf (Var 0) c.in_ok-leaf.ensures.made (omega arith) refl (omega arith)) in
    let simple : IsOpen 0 (length signature) c.doubled.new.table c.in_ok-simple.simple =
    open-Keeps 0 (length signature) c.in_ok-simple.simple (Keeps-trans c.node-2.ensures.keeps c.doubled.ensures.keeps)
    (open-Holds 0 (length signature) c.node.new.self c.in_ok-simple.simple (Sym 0) c.in_ok-simple.ensures.made (omega arith) refl (omega arith)) in
    let ty : IsOpen 0 (length signature) c.node-3.new.self c.in_ok-ty.ty =
    open-product 0 (length signature) c.doubled.new.table c.node-3.new.self c.in_ok-simple.simple c.in_ok-result.result c.in_ok-ty.ty
    c.in_ok-ty.ensures.made simple result in
    let ts = c.node-3.new.self in
    let new_name : IsFalse (is_declared signature c.new.result) =
    subst (λ n. IsFalse (is_declared signature n)) (sym (c.new.ensures ∙ c.in_ok-from_slice.ensures.items)) refl in
    subst (λ ds. MayFollow (signature ++ map (declaration_in ts) ds)
    (declaration_in ts (record { name = c.new.result; form = Symbol; ty = c.in_ok-ty.ty; body = None }))) (sym c.requires.none)
    (symbol-follows signature ts c.new.result c.in_ok-ty.ty new_name ty)
