use Rattle.std.proofs.Common.{ℕ, List, ◌++◌, codes, ap, ◌∙◌}
use Rattle.sequent.specs.Closed.{closed_view}
use Rattle.decode_spec.specs.ClosedText.{closed_text}
use Rattle.bridge_decode.proofs.Lines.{line_pieces}
use Rattle.bridge_decode.proofs.exports.add_line.Goals as goal

pub returns : goal.returns
returns c =
    let s = closed_view c.args.closed.now in
    c.in_ok-extend_from_slice-3.ensures.items
    ∙ ap (λ (t : List ℕ). t ++ codes "\n") (
    c.in_ok-append_closed.ensures.added
    ∙ ap (λ (t : List ℕ). t ++ closed_text s) (
    c.in_ok-extend_from_slice-2.ensures.items
    ∙ ap (λ (t : List ℕ). t ++ codes ": ") c.in_ok-extend_from_slice.ensures.items
    )
    )
    ∙ line_pieces c.args.text.now.items c.args.name.now s
