use Rattle.std.proofs.Common.{◌≡◌, sym, ◌∙◌, subst, refl, arith, ◌++◌, ◌+◌, length, IsFalse, Some}
use Rattle.lp_spec.specs.declared.form.Form.TheVariants.{Def}
use Rattle.lp_spec.specs.Trees.{Sym}
use Rattle.lp_spec.specs.Modules.{signature}
use Rattle.lp_spec.specs.ModuleOrder.{is_declared, MayFollow}
use Rattle.lp_term.specs.Tables.{Keeps}
use Rattle.lp_term.specs.TableLaws.{Keeps-trans}
use Rattle.holide_sig.specs.Modules.{declaration_in, declarations_of}
use Rattle.holide_sig.specs.ModuleLaws.{IsHeld-Keeps, declarations_of-Keeps, symbols-length}
use Rattle.lp_tests.specs.Open.{IsOpen}
use Rattle.lp_tests.proofs.Declared.{open-Holds, open-Keeps, open-application, definition-follows}
use Rattle.lp_tests.proofs.shared.define_call.Goals as goal

pub push-requires-clause-held : goal.push-requires-clause-held
push-requires-clause-held c =
    let grown : Keeps c.args.into.now.table c.node-4.new.self =
    Keeps-trans c.node.ensures.keeps (Keeps-trans c.node-2.ensures.keeps (Keeps-trans c.node-3.ensures.keeps c.node-4.ensures.keeps)) in
    IsHeld-Keeps c.args.into.now c.node-4.new.self grown c.requires.held

pub push-requires-clause-follows : goal.push-requires-clause-follows
push-requires-clause-follows c =
    let grown : Keeps c.args.into.now.table c.node-4.new.self =
    Keeps-trans c.node.ensures.keeps (Keeps-trans c.node-2.ensures.keeps (Keeps-trans c.node-3.ensures.keeps c.node-4.ensures.keeps)) in
    let simple : IsOpen 0 (length signature + 1) c.node-4.new.self c.in_ok-simple.simple =
    open-Keeps 0 (length signature + 1) c.in_ok-simple.simple
    (Keeps-trans c.node-2.ensures.keeps (Keeps-trans c.node-3.ensures.keeps c.node-4.ensures.keeps))
    (open-Holds 0 (length signature + 1) c.node.new.self c.in_ok-simple.simple (Sym 0) c.in_ok-simple.ensures.made (omega arith) refl (omega arith)) in
    let function : IsOpen 0 (length signature + 1) c.node-3.new.self c.in_ok-function.function =
    open-Keeps 0 (length signature + 1) c.in_ok-function.function c.node-3.ensures.keeps
    (open-Holds 0 (length signature + 1) c.node-2.new.self c.in_ok-function.function (Sym (length signature)) c.in_ok-function.ensures.made (omega arith)
    refl (omega arith)) in
    let argument : IsOpen 0 (length signature + 1) c.node-3.new.self c.in_ok-argument.argument =
    open-Holds 0 (length signature + 1) c.node-3.new.self c.in_ok-argument.argument (Sym 1) c.in_ok-argument.ensures.made (omega arith) refl (omega arith)
    in
    let body : IsOpen 0 (length signature + 1) c.node-4.new.self c.in_ok-body.body =
    open-application 0 (length signature + 1) c.node-3.new.self c.node-4.new.self c.in_ok-function.function c.in_ok-argument.argument c.in_ok-body.body
    c.in_ok-body.ensures.made function argument in
    let ts = c.node-4.new.self in
    let ds = declarations_of c.args.into.now in
    let count : length signature + 1 ≡ length (signature ++ ds) = omega (arith, symbols-length c.args.into.now.table c.args.into.now.decls, c.requires.one) in
    let new_name : IsFalse (is_declared (signature ++ ds) c.new.result) =
    subst (λ n. IsFalse (is_declared (signature ++ ds) n)) (sym (c.new.ensures ∙ c.in_ok-from_slice.ensures.items)) c.requires.new_name in
    subst (λ l. MayFollow (signature ++ l)
    (declaration_in ts (record { name = c.new.result; form = Def; ty = c.in_ok-simple.simple; body = Some c.in_ok-body.body })))
    (sym (declarations_of-Keeps c.args.into.now ts grown c.requires.held))
    (definition-follows (signature ++ ds) ts c.new.result c.in_ok-simple.simple c.in_ok-body.body new_name
    (subst (λ n. IsOpen 0 n ts c.in_ok-simple.simple) count simple) (subst (λ n. IsOpen 0 n ts c.in_ok-body.body) count body))
