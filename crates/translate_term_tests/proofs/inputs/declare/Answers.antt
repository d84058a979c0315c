use Rattle.std.proofs.Common.{sym, subst, ◌++◌, map, None}
use Rattle.lp_spec.specs.declared.form.Form.TheVariants.{Symbol}
use Rattle.lp_spec.specs.Modules.{signature}
use Rattle.lp_spec.specs.ModuleOrder.{MayFollow}
use Rattle.holide_sig.specs.Modules.{declaration_in}
use Rattle.holide_sig.specs.ModuleLaws.{IsHeld-Keeps}
use Rattle.translate_term_tests.proofs.InputLaws.{input_follows}
use Rattle.translate_term_tests.proofs.inputs.declare.Goals as goal

pub push-requires-clause-held : goal.push-requires-clause-held
push-requires-clause-held c = IsHeld-Keeps c.args.base.now c.type_of_input.new.table c.in_ok-ty.ensures.keeps c.requires.held

pub push-requires-clause-follows : goal.push-requires-clause-follows
push-requires-clause-follows c =
    let ts = c.type_of_input.new.table in
    subst (λ ds. MayFollow (signature ++ map (declaration_in ts) ds)
    (declaration_in ts (record { name = c.in_ok-name.name; form = Symbol; ty = c.in_ok-ty.ty; body = None }))) (sym c.requires.none)
    (input_follows ts c.in_ok-name.name c.in_ok-ty.ty c.in_ok-name.ensures c.in_ok-ty.ensures.made)
