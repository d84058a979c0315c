use Rattle.std.proofs.Common.{◌∙◌, ap, sym, Some}
use Rattle.std.proofs.lemmas.Result.{IfOk-weaker}
use Rattle.translate_term.proofs.LeafLaws.{constant-found, constant-generic, constant-made}
use Rattle.translate_term.proofs.generic.constant_of.Goals as goal

pub unwrap-symbol-requires : goal.unwrap-symbol-requires
unwrap-symbol-requires c = let q = c.requires in constant-found q.0 q.1 q.2 c.args.target.now c.args.name.now c.args.ty q.3 _ c.in_ok-constant.ensures

pub sole_argument-requires-clause-instance : goal.sole_argument-requires-clause-instance
sole_argument-requires-clause-instance c =
    let q = c.requires in
    let named = sym c.unwrap-symbol.ensures ∙ c.in_ok-constant.ensures in
    (_, _, _, _, constant-generic q.0 q.1 q.2 c.args.target.now c.args.name.now c.args.ty q.3 c.unwrap-symbol.result named)

pub type_arguments-requires-clause-instance : goal.type_arguments-requires-clause-instance
type_arguments-requires-clause-instance c =
    let q = c.requires in
    let named = sym c.unwrap-symbol.ensures ∙ c.in_ok-constant.ensures in
    (_, _, _, _, constant-generic q.0 q.1 q.2 c.args.target.now c.args.name.now c.args.ty q.3 c.unwrap-symbol.result named)

pub returns-in-Some-clause-made : goal.returns-in-Some-clause-made
returns-in-Some-clause-made c =
    let named = sym c.unwrap-symbol.ensures ∙ c.in_ok-constant.ensures in
    IfOk-weaker c.call.result _ _
    (λ r h symbols scope t q.
    h ∙ ap Some (constant-made symbols scope t c.args.target.now c.args.name.now c.args.ty q c.unwrap-symbol.result _ named
    (c.in-Some.ensures.argument symbols scope _ t
    (constant-generic symbols scope t c.args.target.now c.args.name.now c.args.ty q c.unwrap-symbol.result named))))
    c.call.ensures.made

pub returns-clause-made : goal.returns-clause-made
returns-clause-made c =
    let named = sym c.unwrap-symbol.ensures ∙ c.in_ok-constant.ensures in
    let called = rw c.deref.ensures.value at c.call-2.ensures.made in
    IfOk-weaker c.call-2.result _ _
    (λ r h symbols scope t q.
    h ∙ ap Some (constant-made symbols scope t c.args.target.now c.args.name.now c.args.ty q c.unwrap-symbol.result _ named
    (c.in_ok-args.ensures.arguments symbols scope _ t
    (constant-generic symbols scope t c.args.target.now c.args.name.now c.args.ty q c.unwrap-symbol.result named))))
    called
