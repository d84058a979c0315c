use Rattle.std.proofs.Common.{◌≡◌, length, replicate, sym, ap, ◌∙◌}
use Rattle.std.proofs.lemmas.List.{length-map}
use Rattle.holide_sig.specs.Modules.{declaration_in, declarations_of}
use Rattle.lp_conv.specs.GrowthLaws.{declarations_of-Grows}
use Rattle.bridge_check.proofs.Judgements.{judged-all}
use Rattle.bridge_check.proofs.checking.judged.Goals as goal

pub returns-clause-same : goal.returns-clause-same
returns-clause-same c = declarations_of-Grows _ _ c.verdict_on.ensures.grows c.requires.held

pub returns-clause-judged : goal.returns-clause-judged
returns-clause-judged c =
    let m = c.args.source.now in
    let copies : c.deref.result.now ≡ replicate c.len.result c.from.result = c.deref.ensures.value ∙ c.in_ok-budgets.ensures.items_if_clones_equal (λ y e. e) in
    let count : c.len.result ≡ length (declarations_of m) = c.len.ensures.count ∙ sym (length-map m.decls (declaration_in m.table)) in
    judged-all c.args.rechecks (declarations_of m) c.args.budget _ c.verdict_on.result
    (copies ∙ ap (λ n. replicate n c.from.result) count ∙ ap (replicate (length (declarations_of m))) c.from.ensures)
    c.verdict_on.ensures.judged c.verdict_on.ensures.well_typed
