-- What is counted beside terms is counted with their places, and lists are counted element by element.
use Rattle.std.proofs.Common.{◌≡◌, suc, List, [], ◌∷◌, ◌++◌, length, refl, ap}
use Rattle.hol_spec.specs.Names.{Name}
use Rattle.hol_spec.specs.Types.{HolType}
use Rattle.hol_type.specs.declared.table.TypeId.{TypeId}
use Rattle.hol_type.specs.Tables as type
use Rattle.hol_term.specs.declared.TermId.{TermId}
use Rattle.hol_term.specs.declared.Variable.{Variable as AVariable}
use Rattle.hol_term.specs.Substitutions.{term_pairs_at}
use Rattle.hol_term.specs.Tables.{Trees}
use Rattle.article_write_spec.specs.Drafts.{Kept}
use Rattle.article_write_spec.specs.Lengths.{name_length, Tally, add}
use Rattle.article_write_spec.specs.TermLengths.{count_type, count_variable}
use Rattle.article_write_laws.specs.CountedOnce.{type-notes}
use Rattle.article_count.specs.declared.tally.Count.{Count}
use Rattle.article_count.specs.declared.terms.TermCount.{TermCount}
use Rattle.article_count.specs.Counts.{Counts}
use Rattle.article_count.specs.TermTasks.{CountsTerms}
use Rattle.article_count.proofs.TermWalks.{grown-IsTermTally}

-- what keeps more and no less
abbrev pub Grows : (Tally → Tally) → Type 0
Grows f = (m : Tally) → (new : List Kept) × ((f m).kept ≡ m.kept ++ new)

pub lifted : {trees : Trees} {c : TermCount} (e : Count) (f : Tally → Tally) → Grows f → Counts trees c.count e f
    → CountsTerms trees c (record c { count = e }) (λ q. f)
lifted {c = c} e f grows counts steps q m h = let g =
    grows m in grown-IsTermTally (record c { count = e }) (f m) g.0 refl refl refl (counts steps m h.tally) g.1 h

pub type-Grows : (a : HolType) → Grows (count_type a)
type-Grows a m = let notes = type-notes a m in (notes.new, notes.is)

pub variable-Grows : (n : Name) (a : HolType) → Grows (count_variable n a)
variable-Grows n a m = let notes = type-notes a (add (name_length n) m) in (notes.new, notes.is)

-- the lists have as many elements
pub types-length : (types : List HolType) (pairs : List (Name × TypeId)) → length pairs ≡ length (type.pairs_at types pairs)
types-length types [] = refl
types-length types (p ∷ pairs) = ap suc (types-length types pairs)

pub terms-length : (trees : Trees) (pairs : List (AVariable × TermId)) → length pairs ≡ length (term_pairs_at trees pairs)
terms-length trees [] = refl
terms-length trees (p ∷ pairs) = ap suc (terms-length trees pairs)
