use Rattle.std.proofs.Common.{ℕ, List, [], ◌++◌, codes, ap, ◌∙◌}
use Rattle.std.proofs.Math.Path.{ap₂}
use Rattle.hol_spec.specs.Proofs.{Made}
use Rattle.bridge_spec.specs.Texts.{theorem_lines}
use Rattle.bridge_show.proofs.showing.lines_of.Goals as goal

pub returns : goal.returns
returns c =
    let lines = λ (what : List ℕ) (made : List Made) (steps : List ℕ). theorem_lines what made 0 steps in
    c.in_ok-add_theorems-2.ensures
    ∙ ap₂ (λ (t u : List ℕ). t ++ u)
    (c.in_ok-add_theorems.ensures ∙ ap₂ (λ (t u : List ℕ). t ++ u) c.new-text.ensures.items
    (ap₂ (lines (codes "assumption ")) c.proof-proof.ensures c.assumptions-assumptions.ensures.numbers))
    (ap₂ (lines (codes "export ")) c.proof-proof.ensures c.exports-exports.ensures.numbers)
