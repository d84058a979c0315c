use Rattle.std.proofs.Common.{List}
use Rattle.std.specs.Prelude.{drop}
use Rattle.hol_spec.specs.Names.{Name}
use Rattle.hol_term.specs.Tables.{Trees}
use Rattle.article_write_spec.specs.Lengths.{add, name_length}
use Rattle.article_count.proofs.EachCounted.{IsEach}
use Rattle.article_count.proofs.terms.TermCount.count_names.Given as goal

-- what is left comes to the same as the whole list
abbrev pub invariant-loop-name : goal.invariant-loop-name
invariant-loop-name l = (trees : Trees) → IsEach trees (λ (ns : List Name). Unit {0}) (λ (ns : List Name). ns) (λ q n. add (name_length n)) l.fn.self l.names
    (drop l.name-index l.names) l.self
