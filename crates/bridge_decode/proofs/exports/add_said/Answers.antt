use Rattle.std.proofs.Common.{◌≡◌, true, ◌++◌, refl, sym, ap, ◌∙◌}
use Rattle.sequent.specs.Closed.{closed_view}
use Rattle.holide_sig.specs.Modules.{declaration_in, declarations_of}
use Rattle.translate_spec.specs.Stands.{is_export_name}
use Rattle.bridge_spec.specs.Texts.{export_line}
use Rattle.bridge_decode.specs.Saying.{AddsLine}
use Rattle.bridge_decode.proofs.Lines.{declared, named, decoded-Some, decoded-None}
use Rattle.bridge_decode.proofs.exports.add_said.Goals as goal

pub returns-then-not-is_export : goal.returns-then-not-is_export
returns-then-not-is_export c d there =
    let name = c.as_bytes-name.ensures ∙ sym (ap (λ x. x.name) (named c.args.source.now c.args.i c.get.result.now c.get.ensures d there)) in
    AddsLine.other (ap is_export_name (sym name) ∙ sym c.is_export.ensures ∙ cc) refl

pub returns-in_ok-add_line-in-Some : goal.returns-in_ok-add_line-in-Some
returns-in_ok-add_line-in-Some c d there =
    let raw = c.get.result.now in
    let same = named c.args.source.now c.args.i raw c.get.ensures d there in
    let name : c.as_bytes-name.result.now ≡ d.name = c.as_bytes-name.ensures ∙ sym (ap (λ x. x.name) same) in
    let export : c.is_export.result ≡ true = cc in
    AddsLine.export (closed_view c.in-Some.closed) (ap is_export_name (sym name) ∙ sym c.is_export.ensures ∙ export)
    (decoded-Some (declarations_of c.args.source.now) d.ty _ c.in-Some.closed c.in-Some.is (c.in_ok-closed.ensures.found d there))
    (c.in_ok-add_line-in-Some.ensures ∙ ap (λ n. c.args.text.now.items ++ export_line n (closed_view c.in-Some.closed)) name)

pub returns-in-None : goal.returns-in-None
returns-in-None c =
    let raw = c.get.result.now in
    let d = declaration_in c.args.source.now.table raw in
    let there = declared c.args.source.now c.args.i raw c.get.ensures in
    let export : c.is_export.result ≡ true = cc in
    record {
      declaration = d;
      at = there;
      export = ap is_export_name (sym c.as_bytes-name.ensures) ∙ sym c.is_export.ensures ∙ export;
      nothing = decoded-None (declarations_of c.args.source.now) d.ty _ c.in-None.is (c.in_ok-closed.ensures.found d there);
    }
