use Rattle.std.proofs.Common.{◌≡◌, ◌∙◌, length, map, min, sym, ap}
use Rattle.std.specs.Prelude.{string_bytes}
use Rattle.std.proofs.lemmas.List.{length-map}
use Rattle.hol_spec.specs.Proofs.{Accepted}
use Rattle.article_spec.specs.Run.{accepted_state}
use Rattle.lp_spec.specs.Weight.{bound, greatest}
use Rattle.holide_sig.specs.Modules.{declaration_in, declarations_of}
use Rattle.bridge_spec.specs.Texts.{module_bounds, module_of, written_bounds}
use Rattle.bridge_translate.proofs.translation.translated.Goals as goal

pub returns-in-Ok : goal.returns-in-Ok
returns-in-Ok c =
    let run : Accepted = accepted_state c.args.machine in
    let declared : declarations_of c.in_ok-made.made ≡ module_of c.args.share run = c.in_ok-made.ensures.module in
    let bounds : c.in-Ok.bounds.items ≡ module_bounds c.args.share run = c.in-Ok.ensures ∙ ap (λ m. map (bound m) m) declared in
    record {
      held = c.in_ok-made.ensures.held;
      declared = declared;
      bounds = bounds;
      counts = λ i. record {
        articles = sym (length-map c.args.files.now string_bytes) i;
        assumptions = length (c.assumptions.ensures.numbers i);
        exports = length (c.exports.ensures.numbers i);
        declarations = (c.len.ensures.count ∙ sym (length-map c.in_ok-made.made.decls (declaration_in c.in_ok-made.made.table)) ∙ ap length declared) i;
        bounds = (c.total.ensures ∙ ap (λ m. min (written_bounds m) greatest) declared) i;
      };
    }
