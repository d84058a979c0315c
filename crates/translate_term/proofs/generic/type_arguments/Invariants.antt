use Rattle.std.specs.Prelude.{◌≡◌, ◌++◌, ◌≤◌, ℕ, map}
use Rattle.hol_spec.specs.Types.{HolType}
use Rattle.lp_term.specs.Tables.{trees_at, AreKnown}
use Rattle.holide_sig.specs.Modules.{declarations_of}
use Rattle.translate_spec.specs.Scopes.{SymbolMap, TypeScope, type_tree}
use Rattle.translate_term.specs.Patterns.{IsGeneric}
use Rattle.translate_term.proofs.PatternLaws.{below, wants}
use Rattle.translate_term.proofs.generic.type_arguments.Given as goal

abbrev pub invariant-loop-left : goal.invariant-loop-left
invariant-loop-left l =
    (l.left ≤ l.count) × AreKnown l.source.table l.args.items
    × ((symbols : SymbolMap) (scope : TypeScope) (generic t : HolType)
    (h : IsGeneric (declarations_of l.source) l.symbol symbols scope generic t l.source.table l.fn.ty)
    → trees_at l.source.table l.args.items ++ map (λ (k : ℕ). type_tree symbols scope (wants symbols generic t h.instance k)) (below l.left)
    ≡ map (λ (k : ℕ). type_tree symbols scope (wants symbols generic t h.instance k)) (below l.count))

abbrev pub decreases-loop-left : goal.decreases-loop-left
decreases-loop-left l = l.left
