use Rattle.std.proofs.Common.{◌∙◌, ◌+◌, ap, min, refl}
use Rattle.std.specs.Prelude.{option_map}
use Rattle.std.proofs.lemmas.Option.{slice_get-map}
use Rattle.lp_spec.specs.Weight.{greatest}
use Rattle.holide_sig.specs.Modules.{declaration_in, declarations_of}
use Rattle.bridge_translate.proofs.Bounds.{written-more}
use Rattle.bridge_translate.proofs.translation.total.Goals as goal

pub loop-index-preserved : goal.loop-index-preserved
loop-index-preserved c =
    let m = c.args.source.now in
    let d = declaration_in m.table c.get.result.now in
    c.saturating_add-total.ensures
    ∙ ap (λ n. min (c.loop-index.total + n) greatest) c.written.ensures
    ∙ written-more (declarations_of m) c.args.bounds.now c.loop-index.index d _ _ c.loop-index.total c.requires
    (slice_get-map (declaration_in m.table) m.decls c.loop-index.index ∙ ap (option_map (declaration_in m.table)) c.get.ensures) refl c.loop-index.invariant
