-- What is still to be written over the types and terms that are still to be read, as a text, and how many turns it takes at most.
use Rattle.std.specs.Prelude.{ℕ, zero, suc, ◌+◌, ◌*◌, List, [], ◌∷◌, ◌++◌, codes, decimal}
use Rattle.hol_spec.specs.ClosedForm as form
use Rattle.decode_spec.specs.ClosedText.{type_text, types_text, term_text}
use Rattle.sequent.specs.declared.closed.TypeNode.{TypeNode}
use Rattle.sequent.specs.Closed.{first, others, firsts, behind, closed_types_of, no_type, no_term}
use Rattle.hol_text.specs.declared.walk.TypeWork.{TypeWork}
use Rattle.hol_text.specs.declared.walk.TypeWork.TheVariants as type_work
use Rattle.hol_text.specs.declared.walk.TermWork.{TermWork}
use Rattle.hol_text.specs.declared.walk.TermWork.TheVariants as term_work

abbrev pub types_left_text : List TypeWork → List form.ClosedType → List ℕ
types_left_text [] ts = []
types_left_text (type_work.Bytes bytes ∷ works) ts = bytes.now ++ types_left_text works ts
types_left_text (type_work.Next ∷ works) ts = type_text (first no_type ts) ++ types_left_text works (others ts)
types_left_text (type_work.Several k ∷ works) ts = types_text (closed_types_of (firsts no_type k ts)) ++ types_left_text works (behind k ts)

abbrev pub terms_left_text : List TermWork → List form.ClosedTerm → List ℕ
terms_left_text [] ts = []
terms_left_text (term_work.Bytes bytes ∷ works) ts = bytes.now ++ terms_left_text works ts
terms_left_text (term_work.Next depth ∷ works) ts = term_text (first no_term ts) depth ++ terms_left_text works (others ts)

-- a free variable of this number with its type
abbrev pub variable_text : ℕ → form.ClosedType → List ℕ
variable_text number ty = codes "x" ++ decimal number ++ codes ":" ++ type_text ty

-- what stands before the text at a place of a list
abbrev pub mark_at : ℕ → List ℕ → List ℕ
mark_at zero mark = []
mark_at (suc place) mark = mark

-- how many turns works and nodes take at most
abbrev pub type_works : List TypeWork → ℕ
type_works [] = 0
type_works (type_work.Bytes bytes ∷ works) = 1 + type_works works
type_works (type_work.Next ∷ works) = 1 + type_works works
type_works (type_work.Several k ∷ works) = 1 + 2 * k + type_works works

abbrev pub nodes_work : List TypeNode → ℕ
nodes_work [] = 0
nodes_work (TypeNode.Parameter n ∷ nodes) = nodes_work nodes
nodes_work (TypeNode.Operator n k ∷ nodes) = 2 + 2 * k + nodes_work nodes
