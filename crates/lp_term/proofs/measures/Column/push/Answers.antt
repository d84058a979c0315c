use Rattle.std.proofs.Common.{ℕ, ◌∙◌, ap, [], ◌∷◌, ◌++◌, map}
use Rattle.lp_term.specs.declared.measures.Entry.{Entry}
use Rattle.lp_term.specs.Packed.{measures_in}
use Rattle.lp_term.proofs.PackedLaws.{measures-more}
use Rattle.lp_term.proofs.measures.Column.push.Goals as goal

pub returns-clause-pushed : goal.returns-clause-pushed
returns-clause-pushed c =
    let own = c.self.inside in
    let m = c.args.measures in
    let entry : Entry = record { size = c.in_ok-size.size; depth = m.depth; loose = m.loose } in
    let same = ap (λ (s : ℕ). record { size = s; depth = m.depth; loose = m.loose }) c.in_ok-size.ensures.amount in
    ap (map (measures_in c.code.new.self)) (c.push_reserved.ensures.items ∙ ap (λ l. l ++ entry ∷ []) c.reserve.ensures.items)
    ∙ measures-more own.sizes c.code.new.self own.entries.items entry m c.code.ensures.grown c.self.invariant same
    ∙ ap (λ w. w ++ m ∷ []) c.self.view_is
