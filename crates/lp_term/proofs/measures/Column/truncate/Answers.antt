use Rattle.std.proofs.Common.{◌∙◌, ap, sym, map, take}
use Rattle.std.proofs.lemmas.List.{take-map}
use Rattle.lp_term.specs.Packed.{measures_in}
use Rattle.lp_term.proofs.PackedLaws.{measures-cut}
use Rattle.lp_term.proofs.measures.Column.truncate.Goals as goal
use Rattle.lp_term.proofs.measures.Column.truncate.Goals.{in-Some, in_default}

pub returns : goal.returns
returns c =
    let own = c.self.inside in
    let kept = c.match-first_large.self-inside in
    ap (map (measures_in kept.sizes)) c.truncate.ensures.items
    ∙ elim c.match-first_large.branch [
      | in-Some w ↦ rw (w.self-inside-is, w.forget.ensures)
          (measures-cut own.sizes c.args.len w.in-Some.code own.entries.items c.self.invariant (rw c.deref.ensures.value at w.in-Some.ensures))
      | in_default w ↦ rw w.self-inside-is (sym (take-map (measures_in own.sizes) c.args.len own.entries.items))
    ]
    ∙ ap (take c.args.len) c.self.view_is
