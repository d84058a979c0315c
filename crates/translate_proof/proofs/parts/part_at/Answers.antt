use Rattle.std.proofs.Common.{◌∙◌, sym, Some, arith}
use Rattle.std.proofs.Math.Path.{ap₂}
use Rattle.std.proofs.lemmas.Result.{IfOk-weaker}
use Rattle.lp_spec.specs.Trees.{App}
use Rattle.lp_term.specs.TableLaws.{Holds-tree_at, Holds-within, tree_at-Stays}
use Rattle.translate_term.specs.GrowLaws.{Grows-trans, Grows-table}
use Rattle.translate_proof.specs.EnvironmentLaws.{Represents-Grows}
use Rattle.translate_proof.specs.Rescoped.{over_types}
use Rattle.translate_proof.proofs.parts.part_at.Goals as goal

pub part_call-requires-clause-told : goal.part_call-requires-clause-told
part_call-requires-clause-told c = let q = c.requires.told in (over_types q.0, q.2, q.3, q.4)

pub term-requires-clause-told : goal.term-requires-clause-told
term-requires-clause-told c =
    let q = c.requires.told in
    (q.0, Represents-Grows c.part_call.ensures.grows q.0 c.args.ground.proof.now.trees c.args.ground.env.now q.1, q.5)

pub node-requires : goal.node-requires
node-requires c =
    let q = c.requires.told in
    let part = c.in_ok-part.ensures.made (over_types q.0) q.2 q.3 q.4 in
    let term = c.in_ok-term.ensures.made q.0 (Represents-Grows c.part_call.ensures.grows q.0 c.args.ground.proof.now.trees c.args.ground.env.now q.1) q.5 in
    (omega (arith, Holds-within _ c.in_ok-part.part.0 _ part, c.term.ensures.grows.table.longer), Holds-within _ c.in_ok-term.term.0 _ term)

pub returns-clause-made : goal.returns-clause-made
returns-clause-made c =
    IfOk-weaker c.node.result _ _
    (λ r h given stands outer whole one told.
    let part = c.in_ok-part.ensures.made (over_types given) outer whole one in
    let term = c.in_ok-term.ensures.made given (Represents-Grows c.part_call.ensures.grows given c.args.ground.proof.now.trees c.args.ground.env.now stands)
    told in
    let known = Holds-within _ c.in_ok-part.part.0 _ part in
    h
    ∙ ap₂ (λ a b. Some (App a b)) (sym (tree_at-Stays c.term.ensures.grows.table.stays c.in_ok-part.part.0 known) ∙ Holds-tree_at _ c.in_ok-part.part.0 _ part)
    (Holds-tree_at _ c.in_ok-term.term.0 _ term))
    c.node.ensures.made

pub returns-in_err-term-clause-grows : goal.returns-in_err-term-clause-grows
returns-in_err-term-clause-grows c = Grows-trans c.part_call.ensures.grows c.term.ensures.grows

pub returns-clause-grows : goal.returns-clause-grows
returns-clause-grows c = Grows-trans c.part_call.ensures.grows (Grows-trans c.term.ensures.grows (Grows-table _ _ c.node.ensures.keeps))
