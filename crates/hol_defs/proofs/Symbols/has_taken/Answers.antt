use Rattle.std.proofs.Common.{sym, ap, ◌∙◌, ◌+◌, List, drop}
use Rattle.std.specs.Prelude.{◌||◌}
use Rattle.std.specs.List.{list_any}
use Rattle.hol_spec.specs.DefinitionLists.{names_of}
use Rattle.hol_spec.specs.Names.{Name}
use Rattle.hol_spec.specs.Symbols.{is_taken_constant}
use Rattle.hol_term.specs.declared.Variable.{Variable}
use Rattle.hol_defs.specs.Lists.{pairs_at}
use Rattle.hol_defs.specs.Symbols.{symbols_at}
use Rattle.hol_defs.proofs.LoopLaws.{at_element}
use Rattle.hol_defs.proofs.Symbols.has_taken.Goals as goal

pub returns-then-is_constant : goal.returns-then-is_constant
returns-then-is_constant c =
    let trees = c.args.table.now in
    let ps = c.args.pairs.now in
    let i = c.loop-pair.pair-index in
    let any = λ (l : List (Name × Variable)). list_any (is_taken_constant (symbols_at trees c.args.self.now)) (names_of (pairs_at trees l)) in
    sym (at_element ps i c.pair-item.result c.loop-pair-test.true (sym c.pair-item.is) any c.loop-pair.invariant
    ∙ ap (λ b. b || any (drop (i + 1) ps)) (sym (c.is_constant.ensures trees c.requires) ∙ c.if-is_constant.true))

pub loop-pair-preserved : goal.loop-pair-preserved
loop-pair-preserved c =
    let trees = c.args.table.now in
    let ps = c.args.pairs.now in
    let i = c.loop-pair.pair-index in
    let any = λ (l : List (Name × Variable)). list_any (is_taken_constant (symbols_at trees c.args.self.now)) (names_of (pairs_at trees l)) in
    sym (at_element ps i c.pair-item.result c.loop-pair-test.true (sym c.pair-item.is) any c.loop-pair.invariant
    ∙ ap (λ b. b || any (drop (i + 1) ps)) (sym (c.is_constant.ensures trees c.requires) ∙ c.if-is_constant.false))
