use Rattle.std.proofs.Common.{◌≡◌, ◌∙◌, [], sym, ap, subst}
use Rattle.std.proofs.lemmas.Result.{IfOk-weaker}
use Rattle.hol_spec.specs.Proofs.{Accepted}
use Rattle.article_spec.specs.Run.{accepted_state}
use Rattle.article_spec.specs.SoundRuns.{IsSoundRun}
use Rattle.lp_spec.specs.ModuleOrder.{IsModule}
use Rattle.lp_spec.specs.ShortNames.{NoneShort}
use Rattle.lp_check_laws.specs.ShapedPasses.{AreShaped}
use Rattle.holide_sig.specs.Modules.{declarations_of}
use Rattle.translate_spec.specs.Image.{image}
use Rattle.image_laws.specs.Named.{HasNames}
use Rattle.share_spec.specs.Folded.{folded}
use Rattle.bridge_spec.specs.Texts.{module_of}
use Rattle.translate_rule.specs.ItemViews.{run_of}
use Rattle.bridge_translate.proofs.Runs.{run-sound, run-named, image-IsModule, image-long, image-shaped, folded-module_of, image-module_of}
use Rattle.bridge_translate.proofs.translation.module_of.Goals as goal

pub module-requires-clause-sound : goal.module-requires-clause-sound
module-requires-clause-sound c =
    let same : accepted_state c.args.machine.now ≡ run_of c.proof.result.now c.assumptions.result.now c.exports.result.now =
    λ i. record { made = sym c.proof.ensures i; assumptions = sym c.assumptions.ensures.numbers i; exports = sym c.exports.ensures.numbers i } in
    subst IsSoundRun same (run-sound c.requires.0 c.requires.1 (accepted_state c.args.machine.now) c.requires.2)

pub module-requires-clause-named : goal.module-requires-clause-named
module-requires-clause-named c =
    let same : accepted_state c.args.machine.now ≡ run_of c.proof.result.now c.assumptions.result.now c.exports.result.now =
    λ i. record { made = sym c.proof.ensures i; assumptions = sym c.assumptions.ensures.numbers i; exports = sym c.exports.ensures.numbers i } in
    subst HasNames same (run-named c.requires.0 c.requires.1 (accepted_state c.args.machine.now) c.requires.2)

pub fold-requires-clause-is_module : goal.fold-requires-clause-is_module
fold-requires-clause-is_module c =
    let same : run_of c.proof.result.now c.assumptions.result.now c.exports.result.now ≡ accepted_state c.args.machine.now =
    λ i. record { made = c.proof.ensures i; assumptions = c.assumptions.ensures.numbers i; exports = c.exports.ensures.numbers i } in
    subst IsModule (sym ((ap declarations_of c.give_up_names.ensures ∙ c.in_ok-image.ensures.module) ∙ ap image same))
    (image-IsModule c.requires.0 c.requires.1 (accepted_state c.args.machine.now) c.requires.2)

pub fold-requires-clause-long : goal.fold-requires-clause-long
fold-requires-clause-long c =
    let same : run_of c.proof.result.now c.assumptions.result.now c.exports.result.now ≡ accepted_state c.args.machine.now =
    λ i. record { made = c.proof.ensures i; assumptions = c.assumptions.ensures.numbers i; exports = c.exports.ensures.numbers i } in
    subst NoneShort (sym ((ap declarations_of c.give_up_names.ensures ∙ c.in_ok-image.ensures.module) ∙ ap image same))
    (image-long c.requires.0 c.requires.1 (accepted_state c.args.machine.now) c.requires.2)

pub fold-requires-clause-shaped : goal.fold-requires-clause-shaped
fold-requires-clause-shaped c =
    let same : run_of c.proof.result.now c.assumptions.result.now c.exports.result.now ≡ accepted_state c.args.machine.now =
    λ i. record { made = c.proof.ensures i; assumptions = c.assumptions.ensures.numbers i; exports = c.exports.ensures.numbers i } in
    subst (AreShaped []) (sym ((ap declarations_of c.give_up_names.ensures ∙ c.in_ok-image.ensures.module) ∙ ap image same))
    (image-shaped c.requires.0 c.requires.1 (accepted_state c.args.machine.now) c.requires.2)

pub returns-then-not-share-clause-module : goal.returns-then-not-share-clause-module
returns-then-not-share-clause-module c =
    let run = accepted_state c.args.machine.now in
    let same : run_of c.proof.result.now c.assumptions.result.now c.exports.result.now ≡ run =
    λ i. record { made = c.proof.ensures i; assumptions = c.assumptions.ensures.numbers i; exports = c.exports.ensures.numbers i } in
    image-module_of c.args.share run (declarations_of c.give_up_names.new.self) c.if-not-share.true
    ((ap declarations_of c.give_up_names.ensures ∙ c.in_ok-image.ensures.module) ∙ ap image same)

pub returns-clause-module : goal.returns-clause-module
returns-clause-module c =
    let run = accepted_state c.args.machine.now in
    let source = declarations_of c.give_up_names.new.self in
    let same : run_of c.proof.result.now c.assumptions.result.now c.exports.result.now ≡ run =
    λ i. record { made = c.proof.ensures i; assumptions = c.assumptions.ensures.numbers i; exports = c.exports.ensures.numbers i } in
    IfOk-weaker c.fold.result (λ made. declarations_of made ≡ folded source) (λ made. declarations_of made ≡ module_of c.args.share run)
    (λ made. folded-module_of c.args.share run source (declarations_of made) c.if-not-share.false
    ((ap declarations_of c.give_up_names.ensures ∙ c.in_ok-image.ensures.module) ∙ ap image same))
    c.fold.ensures.folded
