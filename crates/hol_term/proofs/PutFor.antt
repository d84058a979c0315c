-- What the pairs of a substitution put for a variable, from the first pair to the last, and whether they fit.
use Rattle.std.proofs.Common.{◌≡◌, ◌<◌, refl, sym, ap, ◌∙◌, List, [], ◌∷◌, length, Bool, true, false, cond, Option, Some, None, nat_eq}
use Rattle.std.specs.Prelude.{◌↔◌, ◌&&◌}
use Rattle.std.specs.Map.{lookup}
use Rattle.std.proofs.lemmas.Bool.{eqb-true, eq-eqb, false≢true}
use Rattle.std.proofs.lemmas.Option.{same_Some}
use Rattle.hol_spec.specs.NameEquality.{name_eq}
use Rattle.hol_spec.specs.Types.{HolType, type_eq}
use Rattle.hol_spec.specs.Terms.{HasType, Variable as AVariable, variable_eq}
use Rattle.hol_laws.specs.TermLaws.{type_eq-refl}
use Rattle.hol_type.specs.declared.table.TypeId.{TypeId}
use Rattle.hol_type.specs.Tables.{tree_at}
use Rattle.hol_type.specs.Tables as type
use Rattle.hol_term.specs.declared.TermId.{TermId}
use Rattle.hol_term.specs.declared.Variable.{Variable}
use Rattle.hol_term.specs.Tables.{Trees, term_at, type_at}
use Rattle.hol_term.specs.Substitutions.{term_pairs_at, AreTermPairs, ArePairsFitting, AreTermPairsKnown, IsPutFor}
use Rattle.hol_term.specs.PutIndexes.{same_variable}
use Rattle.hol_term.proofs.Settled.{types_apart}
use Rattle.hol_term.proofs.Typings.{not_equal}

-- where no type has two numbers, the test of numbers is that of types
pub type_numbers : (types : List HolType) → type.IsDistinct types → (t u : TypeId) → t.0 < length types → u.0 < length types → nat_eq t.0 u.0
    ≡ type_eq (tree_at types t.0) (tree_at types u.0)
type_numbers types d t u ht hu = go (nat_eq t.0 u.0) refl
  where
    go : (b : Bool) → nat_eq t.0 u.0 ≡ b → nat_eq t.0 u.0 ≡ type_eq (tree_at types t.0) (tree_at types u.0)
    go true e = e ∙ sym (type_eq-refl (tree_at types t.0)) ∙ ap (λ n. type_eq (tree_at types t.0) (tree_at types n)) (eqb-true t.0 u.0 e)
    go false e = e ∙ sym (not_equal (tree_at types t.0) (tree_at types u.0) (types_apart types d t u ht hu (λ same. false≢true (sym e ∙ eq-eqb t.0 u.0 same))))

-- the test of two variables is that of what they stand for
same-variable_eq : (trees : Trees) → type.IsDistinct trees.types → (v w : Variable) → v.ty.0 < length trees.types → w.ty.0 < length trees.types
    → same_variable v w ≡ variable_eq (v.name, type_at trees v.ty.0) (w.name, type_at trees w.ty.0)
same-variable_eq trees d v w hv hw = ap (λ b. name_eq v.name w.name && b) (type_numbers trees.types d v.ty w.ty hv hw)

-- what the first pair of a variable puts, in the table of the numbers
pub IsPutFor-lookup : (trees : Trees) → type.IsDistinct trees.types → (v : Variable) → v.ty.0 < length trees.types → (pairs : List (Variable × TermId))
    → AreTermPairsKnown trees pairs → IsPutFor trees pairs (v.name, type_at trees v.ty.0) (lookup (same_variable v) pairs)
IsPutFor-lookup trees d v lt [] h = refl
IsPutFor-lookup trees d v lt (p ∷ ps) h = go (same_variable v p.0) (same-variable_eq trees d v p.0 lt h.0) (IsPutFor-lookup trees d v lt ps h.1.1)
  where
    test : AVariable → Bool
    test = variable_eq (v.name, type_at trees v.ty.0)

    first : AVariable
    first = (p.0.name, type_at trees p.0.ty.0)

    is : (b : Bool) → b ≡ test first → lookup test (term_pairs_at trees (p ∷ ps)) ≡ cond b (Some (term_at trees p.1.0)) (lookup test (term_pairs_at trees ps))
    is b e = ap (λ b. cond b (Some (term_at trees p.1.0)) (lookup test (term_pairs_at trees ps))) (sym e)

    more : (o : Option TermId) → false ≡ test first → IsPutFor trees ps (v.name, type_at trees v.ty.0) o
        → IsPutFor trees (p ∷ ps) (v.name, type_at trees v.ty.0) o
    more None e on = is false e ∙ on
    more (Some id) e on = (on.0, is false e ∙ on.1)

    go : (b : Bool) → b ≡ test first → IsPutFor trees ps (v.name, type_at trees v.ty.0) (lookup (same_variable v) ps)
        → IsPutFor trees (p ∷ ps) (v.name, type_at trees v.ty.0) (cond b (Some p.1) (lookup (same_variable v) ps))
    go true e on = (h.1.0, is true e)
    go false e on = more (lookup (same_variable v) ps) e on

-- the pairs that are left are of terms, and fit where all do
pub record IsFitting (trees : Trees) (pairs rest : List (Variable × TermId)) : Type 0 where
  pub terms : AreTermPairs trees rest
  pub fit : ArePairsFitting trees rest ↔ ArePairsFitting trees pairs

pub fitting_begins : (trees : Trees) (pairs : List (Variable × TermId)) → AreTermPairs trees pairs → IsFitting trees pairs pairs
fitting_begins trees pairs h = record { terms = h; fit = (λ f. f, λ f. f) }

-- one whose types are equal
pub fitting_goes_on : (trees : Trees) (pairs rest : List (Variable × TermId)) (p : Variable × TermId) (ty : TypeId)
    → HasType (term_at trees p.1.0) (type_at trees ty.0) → ty.0 ≡ p.0.ty.0 → IsFitting trees pairs (p ∷ rest) → IsFitting trees pairs rest
fitting_goes_on trees pairs rest p ty h e f = record {
  terms = f.terms.1.1;
  fit = (λ r. f.fit.0 (h ∙ ap (λ n. Some (type_at trees n)) e, r), λ a. (f.fit.1 a).1);
}

-- one whose types differ
pub fitting_fails : (trees : Trees) (pairs rest : List (Variable × TermId)) (p : Variable × TermId) (ty : TypeId) → type.IsDistinct trees.types
    → ty.0 < length trees.types → HasType (term_at trees p.1.0) (type_at trees ty.0) → (ty.0 ≡ p.0.ty.0 → ⊥) → IsFitting trees pairs (p ∷ rest)
    → ArePairsFitting trees pairs → ⊥
fitting_fails trees pairs rest p ty d lt h n f a =
    types_apart trees.types d ty p.0.ty lt f.terms.0 n (same_Some _ _ (sym h ∙ (f.fit.1 a).0))
