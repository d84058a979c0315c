-- Pairs of a substitution: whether they fit, and what they are in a longer table.
use Rattle.std.proofs.Common.{◌≡◌, refl, ap, ◌∙◌, arith, List, [], ◌∷◌, ◌&&◌, Bool, true, false, ◌↔◌, IsTrue}
use Rattle.std.specs.List.{list_all}
use Rattle.std.proofs.lemmas.Bool.Decides.{same_from_decides}
use Rattle.hol_spec.specs.Names.{Name}
use Rattle.hol_spec.specs.Types.{HolType}
use Rattle.hol_laws.specs.TypeLaws.{type_eq-Decides}
use Rattle.hol_spec.specs.Terms.{Term, HasType}
use Rattle.hol_spec.specs.TermSubstitution.{TermPairs, AreFitting}
use Rattle.article_spec.specs.Conditions.{has_type, is_of_type}
use Rattle.hol_type.specs.declared.table.TypeId.{TypeId}
use Rattle.hol_type.specs.Tables.{pairs_at}
use Rattle.hol_type.specs.TableLaws as type_law
use Rattle.hol_term.specs.declared.TermId.{TermId}
use Rattle.hol_term.specs.declared.Variable.{Variable}
use Rattle.hol_term.specs.Substitutions.{term_pairs_at, AreTermPairs, ArePairsFitting, AreTermPairsKnown, AreKnownPairs}
use Rattle.hol_term.specs.Tables.{Trees, term_at, type_at, Keeps}
use Rattle.hol_term.specs.TableLaws.{term_in-Stays}
use Rattle.hol_rules.proofs.RuleSteps.{of_type}
use Rattle.hol_rules.proofs.SideLaws.{known_term}
use Rattle.std.proofs.Math.Path.{ap₂}

-- the numbers of terms are of the table
pub AreTermPairs-known : (trees : Trees) (ps : List (Variable × TermId)) → AreTermPairs trees ps → AreTermPairsKnown trees ps
AreTermPairs-known trees [] h = tt
AreTermPairs-known trees (p ∷ ps) h = (h.0, (known_term trees p.1.0 h.1.0, AreTermPairs-known trees ps h.1.1))

-- a longer table has the same pairs
module _ {a b : Trees} (k : Keeps a b) where
  pub AreTermPairsKnown-Keeps : (ps : List (Variable × TermId)) → AreTermPairsKnown a ps → AreTermPairsKnown b ps
  AreTermPairsKnown-Keeps [] h = tt
  AreTermPairsKnown-Keeps (p ∷ ps) h = (omega (arith, k.types.longer, h.0), (omega (arith, k.longer, h.1.0), AreTermPairsKnown-Keeps ps h.1.1))

  pub term_pairs_at-Keeps : (ps : List (Variable × TermId)) → AreTermPairsKnown a ps → term_pairs_at a ps ≡ term_pairs_at b ps
  term_pairs_at-Keeps [] h = refl
  term_pairs_at-Keeps (p ∷ ps) h =
      ap₂ (λ q l. q ∷ l) (ap₂ (λ t u. ((p.0.name, t), u)) (type_law.tree_at-Stays k.types.stays p.0.ty.0 h.0) (term_in-Stays k.stays p.1.0 h.1.0))
      (term_pairs_at-Keeps ps h.1.1)

  module _ (ps : List (Name × TypeId)) (qs : List (Variable × TermId)) (h : AreKnownPairs a ps qs) where
    pub AreKnownPairs-Keeps : AreKnownPairs b ps qs
    AreKnownPairs-Keeps = record { known_types = type_law.ArePairsKnown-Keeps k.types ps h.known_types; known_terms = AreTermPairsKnown-Keeps qs h.known_terms }

    pub type_pairs-Keeps : pairs_at a.types ps ≡ pairs_at b.types ps
    type_pairs-Keeps = type_law.pairs_at-Stays k.types.stays ps h.known_types

    pub term_pairs-Keeps : term_pairs_at a qs ≡ term_pairs_at b qs
    term_pairs-Keeps = term_pairs_at-Keeps qs h.known_terms

-- pairs that fit by their numbers fit
pub ArePairsFitting-at : (trees : Trees) (ps : List (Variable × TermId)) → ArePairsFitting trees ps → AreFitting (term_pairs_at trees ps)
ArePairsFitting-at trees [] h = tt
ArePairsFitting-at trees (p ∷ ps) h = (h.0, ArePairsFitting-at trees ps h.1)

both : (a b : Bool) → (a && b) ≡ true → (a ≡ true) × (b ≡ true)
both true b e = (refl, e)
both false b e = absurd (cc)

-- whether each term has its variable's type
abbrev pub are_fitting : TermPairs → Bool
are_fitting pairs = list_all (λ p. is_of_type p.0.1 p.1) pairs

is_of_type-has : (a : HolType) (t : Term) → HasType t a → is_of_type a t ≡ true
is_of_type-has a t h = ap (λ o. has_type o a) h ∙ (type_eq-Decides a a).1 refl

are_fitting-Decides : (trees : Trees) (ps : List (Variable × TermId)) → IsTrue (are_fitting (term_pairs_at trees ps)) ↔ ArePairsFitting trees ps
are_fitting-Decides trees [] = (λ e. tt, λ h. refl)
are_fitting-Decides trees (p ∷ ps) =
    let a = type_at trees p.0.ty.0 in
    let t = term_at trees p.1.0 in
    let rest = are_fitting-Decides trees ps in (
      λ e. let w = both (is_of_type a t) (are_fitting (term_pairs_at trees ps)) e in (of_type a t w.0, rest.0 w.1),
      λ h. ap (λ b. b && are_fitting (term_pairs_at trees ps)) (is_of_type-has a t h.0) ∙ rest.1 h.1,
    )

-- a test of the numbers is one of the pairs
pub are_fitting-same : (trees : Trees) (ps : List (Variable × TermId)) (r : Bool) → (IsTrue r ↔ ArePairsFitting trees ps) → are_fitting (term_pairs_at trees ps)
    ≡ r
are_fitting-same trees ps r h = same_from_decides (are_fitting (term_pairs_at trees ps)) r (are_fitting-Decides trees ps) h
