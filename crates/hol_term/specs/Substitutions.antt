-- Pairs of numbers that a substitution puts, and what it makes of a number's term.
-- Source: HOL Light's kernel, `INST_TYPE` and `INST`; the article format's `subst`.
use Rattle.std.specs.Prelude.{◌≡◌, ◌<◌, List, [], ◌∷◌, length, Option, None, Some}
use Rattle.std.specs.Map.{lookup}
use Rattle.common.specs.declared.faults.Fault.{Fault}
use Rattle.common.specs.declared.faults.Fault.TheVariants.{Refused, Memory}
use Rattle.common.specs.declared.faults.Kind.TheVariants.{BadSubst}
use Rattle.hol_spec.specs.Names.{Name}
use Rattle.hol_spec.specs.Terms.{Term, HasType, Variable as AVariable, variable_eq}
use Rattle.hol_spec.specs.TermSubstitution.{TermPairs, sub}
use Rattle.hol_type.specs.declared.table.TypeId.{TypeId}
use Rattle.hol_type.specs.Tables as type
use Rattle.hol_term.specs.declared.TermId.{TermId}
use Rattle.hol_term.specs.declared.Variable.{Variable}
use Rattle.tree_map.specs.Noted.{IsNoted}
use Rattle.hol_term.specs.Tables.{Trees, term_at, type_at, Holds, IsTermAt}
use Rattle.hol_term.specs.Refusals.{RefusesTerm}

-- what pairs of variables and numbers replace by which terms
abbrev pub term_pairs_at : Trees → List (Variable × TermId) → TermPairs
term_pairs_at trees [] = []
term_pairs_at trees (p ∷ ps) = ((p.0.name, type_at trees p.0.ty.0), term_at trees p.1.0) ∷ term_pairs_at trees ps

-- the variables' types are of the table, and the numbers are those of terms
abbrev pub AreTermPairs : Trees → List (Variable × TermId) → Type 0
AreTermPairs trees [] = Unit {0}
AreTermPairs trees (p ∷ ps) = (p.0.ty.0 < length trees.types) × (IsTermAt trees p.1.0 × AreTermPairs trees ps)

-- each term has its variable's type
abbrev pub ArePairsFitting : Trees → List (Variable × TermId) → Type 0
ArePairsFitting trees [] = Unit {0}
ArePairsFitting trees (p ∷ ps) = HasType (term_at trees p.1.0) (type_at trees p.0.ty.0) × ArePairsFitting trees ps

-- a fault of a substitution that would make this term of pairs that are to fit: they don't, or they do and the term passes the limit that is named, or memory ran out
abbrev pub RefusesSubst : Fault → Type 0 → Term → Type 0
RefusesSubst (Refused BadSubst) fits t = fits → ⊥
RefusesSubst (Refused kind) fits t = fits × RefusesTerm (Refused kind) t
RefusesSubst Memory fits t = Unit {0}

-- the variables' types and the numbers are of the table
abbrev pub AreTermPairsKnown : Trees → List (Variable × TermId) → Type 0
AreTermPairsKnown trees [] = Unit {0}
AreTermPairsKnown trees (p ∷ ps) = (p.0.ty.0 < length trees.types) × ((p.1.0 < length trees.terms) × AreTermPairsKnown trees ps)

-- both lists of pairs are of the table
pub record AreKnownPairs (trees : Trees) (types : List (Name × TypeId)) (terms : List (Variable × TermId)) : Type 0 where
  pub known_types : type.ArePairsKnown trees.types types
  pub known_terms : AreTermPairsKnown trees terms

-- what the pairs make of a term
abbrev pub image_of : Trees → List (Name × TypeId) → List (Variable × TermId) → Term → Term
image_of trees types terms t = sub (type.pairs_at trees.types types) (term_pairs_at trees terms) t

-- the term is what the pairs make of it
abbrev pub IsItsImage : Trees → List (Name × TypeId) → List (Variable × TermId) → TermId → Type 0
IsItsImage trees types terms id = image_of trees types terms (term_at trees id.0) ≡ term_at trees id.0

-- the number that is put for a variable, or none where no pair has it
abbrev pub IsPutFor : Trees → List (Variable × TermId) → AVariable → Option TermId → Type 0
IsPutFor trees pairs v None = lookup (variable_eq v) (term_pairs_at trees pairs) ≡ None
IsPutFor trees pairs v (Some id) = (id.0 < length trees.terms) × (lookup (variable_eq v) (term_pairs_at trees pairs) ≡ Some (term_at trees id.0))

-- each number has with it one of what the pairs make of its term
abbrev pub AreImages : Trees → List (Name × TypeId) → List (Variable × TermId) → List (TermId × TermId) → Type 0
AreImages trees types terms images = (id r : TermId) → IsNoted images id r → (id.0 < length trees.terms) × Holds trees r.0
    (image_of trees types terms (term_at trees id.0))
