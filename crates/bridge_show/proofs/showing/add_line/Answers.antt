use Rattle.std.proofs.Common.{ℕ, List, ◌++◌, codes, ap, ◌∙◌}
use Rattle.std.proofs.Math.Path.{ap₂}
use Rattle.sequent.specs.Closed.{closed_view}
use Rattle.decode_spec.specs.ClosedText.{closed_text}
use Rattle.bridge_show.proofs.Shown.{line_pieces}
use Rattle.bridge_show.proofs.showing.add_line.Goals as goal

pub returns : goal.returns
returns c =
    let s = closed_view c.args.closed.now in
    c.in_ok-extend_from_slice-4.ensures.items
    ∙ ap (λ (t : List ℕ). t ++ codes "\n") (
    c.in_ok-append_closed.ensures.added
    ∙ ap (λ (t : List ℕ). t ++ closed_text s) (
    c.in_ok-extend_from_slice-3.ensures.items
    ∙ ap (λ (t : List ℕ). t ++ codes ": ") (
    c.in_ok-extend_from_slice-2.ensures.items ∙ ap₂ (λ (t u : List ℕ). t ++ u) c.in_ok-extend_from_slice.ensures.items
    (c.as_bytes.ensures.value ∙ c.format.ensures.text)
    )
    )
    )
    ∙ line_pieces c.args.text.now.items c.args.what.now c.args.number s
