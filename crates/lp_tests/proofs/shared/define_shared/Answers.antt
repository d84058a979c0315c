use Rattle.std.proofs.Common.{sym, ◌∙◌, subst, refl, arith, ◌++◌, length, map, IsFalse, Some}
use Rattle.lp_spec.specs.declared.form.Form.TheVariants.{Def}
use Rattle.lp_spec.specs.Trees.{Sym}
use Rattle.lp_spec.specs.Modules.{signature}
use Rattle.lp_spec.specs.ModuleOrder.{is_declared, MayFollow}
use Rattle.lp_term.specs.Tables.{Keeps}
use Rattle.lp_term.specs.TableLaws.{Keeps-trans}
use Rattle.holide_sig.specs.Modules.{declaration_in}
use Rattle.holide_sig.specs.ModuleLaws.{IsHeld-Keeps}
use Rattle.lp_tests.specs.Open.{IsOpen}
use Rattle.lp_tests.proofs.Declared.{open-Holds, open-Keeps, definition-follows}
use Rattle.lp_tests.proofs.shared.define_shared.Goals as goal

pub push-requires-clause-held : goal.push-requires-clause-held
push-requires-clause-held c =
    let grown : Keeps c.args.into.now.table c.doubled.new.table =
    Keeps-trans c.node.ensures.keeps (Keeps-trans c.node-2.ensures.keeps c.doubled.ensures.keeps) in
    IsHeld-Keeps c.args.into.now c.doubled.new.table grown c.requires.held

pub push-requires-clause-known : goal.push-requires-clause-known
push-requires-clause-known c =
    let ty : IsOpen 0 (length signature) c.doubled.new.table c.in_ok-ty.ty =
    open-Keeps 0 (length signature) c.in_ok-ty.ty (Keeps-trans c.node-2.ensures.keeps c.doubled.ensures.keeps)
    (open-Holds 0 (length signature) c.node.new.self c.in_ok-ty.ty (Sym 0) c.in_ok-ty.ensures.made (omega arith) refl (omega arith)) in
    let body : IsOpen 0 (length signature) c.doubled.new.table c.in_ok-body.body =
    c.in_ok-body.ensures.«open» 0 (length signature) (omega arith)
    (open-Holds 0 (length signature) c.node-2.new.self c.in_ok-leaf.leaf (Sym 1) c.in_ok-leaf.ensures.made (omega arith) refl (omega arith)) in
    record { ty = ty.known; body = body.known }

pub push-requires-clause-follows : goal.push-requires-clause-follows
push-requires-clause-follows c =
    let ty : IsOpen 0 (length signature) c.doubled.new.table c.in_ok-ty.ty =
    open-Keeps 0 (length signature) c.in_ok-ty.ty (Keeps-trans c.node-2.ensures.keeps c.doubled.ensures.keeps)
    (open-Holds 0 (length signature) c.node.new.self c.in_ok-ty.ty (Sym 0) c.in_ok-ty.ensures.made (omega arith) refl (omega arith)) in
    let body : IsOpen 0 (length signature) c.doubled.new.table c.in_ok-body.body =
    c.in_ok-body.ensures.«open» 0 (length signature) (omega arith)
    (open-Holds 0 (length signature) c.node-2.new.self c.in_ok-leaf.leaf (Sym 1) c.in_ok-leaf.ensures.made (omega arith) refl (omega arith)) in
    let ts = c.doubled.new.table in
    let new_name : IsFalse (is_declared signature c.new-name.result) =
    subst (λ n. IsFalse (is_declared signature n)) (sym (c.new-name.ensures ∙ c.in_ok-from_slice.ensures.items)) refl in
    subst (λ ds. MayFollow (signature ++ map (declaration_in ts) ds)
    (declaration_in ts (record { name = c.new-name.result; form = Def; ty = c.in_ok-ty.ty; body = Some c.in_ok-body.body }))) (sym c.requires.none)
    (definition-follows signature ts c.new-name.result c.in_ok-ty.ty c.in_ok-body.body new_name ty body)
