use Rattle.std.proofs.Common.{◌∙◌, ◌++◌, ◌∷◌, [], ap, sym, subst}
use Rattle.std.proofs.lemmas.Result.{on_ok_weaker}
use Rattle.lp_spec.specs.ModuleOrder.{MayFollow}
use Rattle.lp_spec.specs.Modules.{signature}
use Rattle.holide_sig.specs.Modules.{declarations_of}
use Rattle.translate_rule.proofs.LemmaLaws.{declared-theorem, theorem-known}
use Rattle.translate_rule.proofs.lemmas.declare.Goals as goal

pub push-requires-clause-known : goal.push-requires-clause-known
push-requires-clause-known c = theorem-known _ c.args.ids.now c.new-name.result c.args.ty c.args.body _ c.requires.known c.requires.ty c.requires.body

pub push-requires-clause-follows : goal.push-requires-clause-follows
push-requires-clause-follows c =
    subst (MayFollow (signature ++ declarations_of c.args.target.now))
    (sym (declared-theorem _ c.args.ids.now c.new-name.result c.args.name.now c.args.ty c.args.body _ c.requires.known c.requires.ty c.requires.body
    (c.new-name.ensures ∙ c.in_ok-from_slice.ensures.items)))
    c.requires.follows

pub returns-clause-declared : goal.returns-clause-declared
returns-clause-declared c =
    on_ok_weaker c.push.result
    (λ h. h ∙ ap (λ d. declarations_of c.args.target.now ++ d ∷ [])
    (declared-theorem _ c.args.ids.now c.new-name.result c.args.name.now c.args.ty c.args.body _ c.requires.known c.requires.ty c.requires.body
    (c.new-name.ensures ∙ c.in_ok-from_slice.ensures.items)))
    c.push.ensures.declared
