-- What a walk over the parts of a sequent's product answers.
use Rattle.std.specs.Prelude.{◌≡◌, ℕ, ◌<◌, ◌≤◌, ◌+◌, List, [], ◌∷◌, length, map, Bool, ◌&&◌, Option, None, Some, MatchOption}
use Rattle.std.specs.declared.vec.Vec.{Vec}
use Rattle.std.specs.declared.alloc.Global.{Global}
use Rattle.hol_spec.specs.Limits.{greatest_size, greatest_depth, greatest_parameter_count, type_size, type_depth, term_size, term_depth, sequent_size}
use Rattle.hol_spec.specs.Primitives.{bool}
use Rattle.hol_spec.specs.Lists.{distinct}
use Rattle.hol_spec.specs.Names.{Name}
use Rattle.hol_spec.specs.Terms.{Term, HasType, Variable, term_eq}
use Rattle.hol_spec.specs.Sequents.{Sequent, free_variables_of, type_variables_of}
use Rattle.hol_spec.specs.ClosedForm.{ClosedType, ClosedTerm, ClosedSequent, closed_form}
use Rattle.hol_term.specs.declared.TermId.{TermId}
use Rattle.hol_term.specs.Tables.{Trees, term_at, terms_at}
use Rattle.lp_spec.specs.Trees.{Tree}
use Rattle.lp_spec.specs.Modules.{Declaration}
use Rattle.lp_term.specs.declared.LpId.{LpId}
use Rattle.lp_term.specs.Tables as lp
use Rattle.holide_sig.specs.declared.module.Module.{Module}
use Rattle.holide_sig.specs.Modules.{declarations_of}
use Rattle.translate_spec.specs.ConstantMeaning.{numbers}
use Rattle.translate_spec.specs.Enc.{Enc}
use Rattle.sequent.specs.declared.Sequent.{Sequent as SequentFound}
use Rattle.sequent.specs.declared.closed.Closed.{Closed}
use Rattle.sequent.specs.Closed.{closed_view}
use Rattle.decode_spec.specs.Opened.{open_type, open_term, opened, IsOpen}
use Rattle.decode_spec.specs.ClosedFormTest.{at_most, is_formula}
use Rattle.decode_spec.specs.Decode.{Parts, hypotheses_from, parts, proof_part, sequent_from, variables_from}
use Rattle.decode_back.specs.declared.products.Parts.{Parts as PartsFound}
use Rattle.decode_back.specs.declared.sources.Source.{Source}
use Rattle.decode_back.specs.Sources.{declared, trees_of}
use Rattle.decode_back.specs.Walks.{parameter_name}
use Rattle.decode_back.specs.TermWalks.{free_of, AreVariables}

-- the numbers of the trees of a product's parts are of the table
pub record ArePartsKnown (trees : List Tree) (found : PartsFound) : Type 0 where
  pub variables : lp.AreKnown trees found.variables.items
  pub hypotheses : lp.AreKnown trees found.hypotheses.items
  pub conclusion : found.conclusion.0 < length trees

-- the parts of a product are those of these trees
pub record AreParts (trees : List Tree) (p : Parts) (found : PartsFound) : Type 0 where
  pub type_variables : p.type_variables ≡ found.type_variables
  pub variables : p.variables ≡ lp.trees_at trees found.variables.items
  pub hypotheses : p.hypotheses ≡ lp.trees_at trees found.hypotheses.items
  pub conclusion : proof_part p.end ≡ Some (lp.tree_at trees found.conclusion.0)

-- the parts of the product that a tree is, or it ends in no proof
abbrev pub ArePartsFound : List Tree → Tree → Option PartsFound → Type 0
ArePartsFound trees A found = MatchOption found (proof_part (parts A).end ≡ None) (AreParts trees (parts A))

-- a type and the term of a free variable of it are within the limits
pub record IsVariableWithin (t : ClosedType) : Type 0 where
  pub size : 1 + type_size (open_type parameter_name t) ≤ greatest_size
  pub depth : 1 + type_depth (open_type parameter_name t) ≤ greatest_depth

abbrev pub AreVariablesWithin : List ClosedType → Type 0
AreVariablesWithin [] = Unit {0}
AreVariablesWithin (t ∷ ts) = IsVariableWithin t × AreVariablesWithin ts

-- the free variables of these types are in the table, or there are none within the limits
abbrev pub AreVariablesFound : Option (List ClosedType) → Trees → Option (Vec TermId Global) → Type 0
AreVariablesFound o trees None = (types : List ClosedType) → o ≡ Some types → AreVariablesWithin types → ⊥
AreVariablesFound o trees (Some ids) = (types : List ClosedType) × (o ≡ Some types) × AreVariables trees ids.items types

-- the sum of the sizes of terms, and that all are no deeper than the greatest depth
abbrev pub all_size : List ClosedType → List ClosedTerm → ℕ
all_size types [] = 0
all_size types (c ∷ cs) = term_size (open_term parameter_name types c) + all_size types cs

abbrev pub AreShallow : List ClosedType → List ClosedTerm → Type 0
AreShallow types [] = Unit {0}
AreShallow types (c ∷ cs) = (term_depth (open_term parameter_name types c) ≤ greatest_depth) × AreShallow types cs

-- the free variables of a product's parts have these types, and the numbers are those of their terms
abbrev pub AreTyped : Module → PartsFound → Trees → List TermId → List ClosedType → Type 0
AreTyped m found table ids types =
    (variables_from (declarations_of m) (lp.trees_at m.table found.variables.items) found.type_variables 0 ≡ Some types) × AreVariables table ids types

-- the hypotheses are in the table, and what is left and their sizes are what there was; or there are none within that and the greatest depth
abbrev pub AreHypothesesFound : List ClosedType → ℕ → ℕ → Option (List ClosedTerm) → Trees → Option (Vec TermId Global) → Type 0
AreHypothesesFound types there left o trees None = (cs : List ClosedTerm) → o ≡ Some cs → all_size types cs ≤ there → AreShallow types cs → ⊥
AreHypothesesFound types there left o trees (Some ids) =
    (cs : List ClosedTerm) × (o ≡ Some cs) × (terms_at trees ids.items ≡ map (open_term parameter_name types) cs) × (left + all_size types cs ≡ there)

-- where the free variables of a source have types, the hypotheses are found that these trees tell
abbrev pub AreHypothesesDecoded : Source → List LpId → Trees → ℕ → Trees → ℕ → Option (Vec TermId Global) → Type 0
AreHypothesesDecoded s trees table there now left found =
    (types : List ClosedType) → AreVariables table s.variables.now types
    → AreHypothesesFound types there left (hypotheses_from (declared s) (trees_of s trees) s.place.type_variables s.place.free_variables 0) now found

-- the terms of a closed sequent with names for its parameters are in the table, and it is within the limits of size and of count
pub record IsMade (trees : Trees) (count : ℕ) (variables ids : List TermId) (concl : TermId) (s : ClosedSequent) : Type 0 where
  pub count_is : s.type_variable_count ≡ count
  pub variables_are : AreVariables trees variables s.free_variable_types
  pub hypotheses_are : terms_at trees ids ≡ (opened parameter_name s).hypotheses
  pub conclusion_is : term_at trees concl.0 ≡ (opened parameter_name s).conclusion
  pub small : sequent_size (opened parameter_name s) ≤ greatest_size
  pub few : count + length variables + length ids ≤ greatest_parameter_count

-- the same, where these hypotheses, each once, are those of a sequent in the table
abbrev pub IsMadeOnce : Trees → ℕ → List TermId → List TermId → SequentFound → ClosedSequent → Type 0
IsMadeOnce trees count variables ids found s =
    IsMade trees count variables ids found.concl s × (terms_at trees found.hyps ≡ distinct term_eq (terms_at trees ids))

-- the closed sequent is open, and this is its closed form; or it isn't open
abbrev pub IsJudged : ClosedSequent → Option Closed → Type 0
IsJudged s None = IsOpen parameter_name s → ⊥
IsJudged s (Some closed) = IsOpen parameter_name s × (closed_view closed ≡ closed_form (opened parameter_name s))

-- a term is a formula within the greatest depth
pub record IsFormula (t : Term) : Type 0 where
  pub typed : HasType t bool
  pub depth : term_depth t ≤ greatest_depth

-- names are those of so many parameters, in order, and free variables are these terms, in order
abbrev pub AreNumbered : ℕ → List Name → List Variable → List Term → Type 0
AreNumbered count names variables terms = (names ≡ map parameter_name (numbers 0 count)) × (map free_of variables ≡ terms)

-- such are the type variables and the free variables of a sequent
abbrev pub HasNumbered : Sequent → ℕ → List Term → Type 0
HasNumbered s count terms = AreNumbered count (type_variables_of s) (free_variables_of s) terms

-- a type stands for this closed sequent, or for none
abbrev pub IsStated : List Declaration → Tree → Option Closed → Type 0
IsStated d A found = MatchOption found ((s : ClosedSequent) → Enc d s A → ⊥) (λ closed. Enc d (closed_view closed) A)

-- the parts of a product stand for a closed form, which is this; or they stand for none
abbrev pub IsSequentFound : List Declaration → Parts → Option Closed → Type 0
IsSequentFound d p None = (s : ClosedSequent) → sequent_from d p ≡ Some s → IsOpen parameter_name s → ⊥
IsSequentFound d p (Some closed) = (s : ClosedSequent) × (sequent_from d p ≡ Some s) × IsOpen parameter_name s × (closed_view closed ≡ s)

-- the same of the parts of a product with these trees
abbrev pub IsDecodedOf : Module → PartsFound → Option Closed → Type 0
IsDecodedOf m found closed = (p : Parts) → AreParts m.table p found → IsSequentFound (declarations_of m) p closed

-- the test of a formula within the greatest depth
abbrev pub is_bounded_formula : Term → Bool
is_bounded_formula t = at_most greatest_depth (term_depth t) && is_formula t
