use Rattle.std.specs.Prelude.{◌≡◌, ℕ, ◌+◌, ◌<◌, ◌≤◌, length, replicate, Some}
use Rattle.lp_spec.specs.Trees.{Tree}
use Rattle.lp_spec.specs.Modules.{symbol_type, products, types, term_of}
use Rattle.holide_sig.specs.Modules.{declarations_of}
use Rattle.translate_term.proofs.GenericLaws.{IsUnder}
use Rattle.translate_term.proofs.generic.generic_type.Given as goal

abbrev pub invariant-loop-body : goal.invariant-loop-body
invariant-loop-body l =
    (l.id.0 < length l.source.table) × (l.count + l.id.0 ≤ l.initial.id.0)
    × ((k : ℕ) (pattern : Tree) → symbol_type (declarations_of l.source) l.symbol ≡ Some (products (replicate k types) (term_of pattern))
    → IsUnder l.source.table l.id.0 l.count k pattern)

abbrev pub decreases-loop-body : goal.decreases-loop-body
decreases-loop-body l = l.id.0
