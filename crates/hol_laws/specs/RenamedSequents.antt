-- Laws of renamed sequents: their parameters are the renamed ones, and they are sequents within the limits as before.
use Rattle.std.proofs.Common.{◌≡◌, List, [], ◌∷◌, map, length, inl, refl, sym, ap, ◌∙◌, arith}
use Rattle.std.specs.List.{AllByRecursion, flat_map, sum_by}
use Rattle.std.proofs.lemmas.List.{map-append}
use Rattle.hol_spec.specs.Names.{Name}
use Rattle.hol_spec.specs.NameEquality.{name_eq}
use Rattle.hol_laws.specs.NameEqualityLaws.{name_eq-Decides}
use Rattle.hol_spec.specs.Lists.{distinct, IsIn}
use Rattle.hol_spec.specs.Types.{variable_places}
use Rattle.hol_spec.specs.Primitives.{bool}
use Rattle.hol_spec.specs.Terms as term
use Rattle.hol_spec.specs.Terms.{Term, Variable, variable_eq, term_eq, HasType, type_variable_places, free_places}
use Rattle.hol_laws.specs.TermLaws.{variable_eq-Decides, term_eq-Decides}
use Rattle.hol_spec.specs.Sequents.{Sequent, IsSequent, terms_of, type_variables_of, free_variables_of}
use Rattle.hol_spec.specs.Limits.{term_size, term_depth, greatest_by, sequent_size, sequent_depth, SequentWithin}
use Rattle.hol_laws.specs.Members.{All-each, All-at, All-part, All-left, All-right, All-append, IsIn-distinct, IsIn-distinct_of, IsIn-left, IsIn-right}
use Rattle.hol_spec.specs.Renamings.{renamed_variable, renamed, renamed_sequent}
use Rattle.hol_laws.specs.RenamingLaws.{renamed-injective, type_places-renamed, free_places-renamed, term_size-renamed, term_depth-renamed, type_under-renamed, agree, distinct-map, IsDistinct-map, flat_map-map, sum_by-map, greatest_by-map, length_map}

-- the type variables of a free variable's type are type variables of the term
pub type_variables-of_free : (P : Name → Type 0) (t : Term) → AllByRecursion P (type_variable_places t)
    → AllByRecursion (λ v. AllByRecursion P (variable_places v.1)) (free_places t)
type_variables-of_free P (term.Term.free n t) h = (h, tt {0})
type_variables-of_free P (term.Term.bound k) h = tt
type_variables-of_free P (term.Term.constant n t) h = tt
type_variables-of_free P (term.Term.app f x) h =
    All-append _ (free_places f) (free_places x)
    (type_variables-of_free P f (All-left P (type_variable_places f) (type_variable_places x) h))
    (type_variables-of_free P x (All-right P (type_variable_places f) (type_variable_places x) h))
type_variables-of_free P (term.Term.lam t b) h = type_variables-of_free P b (All-right P (variable_places t) (type_variable_places b) h)

pub flat_free : (P : Name → Type 0) (ts : List Term) → AllByRecursion P (flat_map type_variable_places ts)
    → AllByRecursion (λ v. AllByRecursion P (variable_places v.1)) (flat_map free_places ts)
flat_free P [] h = tt
flat_free P (t ∷ ts) h =
    All-append _ (free_places t) (flat_map free_places ts)
    (type_variables-of_free P t (All-left P (type_variable_places t) (flat_map type_variable_places ts) h))
    (flat_free P ts (All-right P (type_variable_places t) (flat_map type_variable_places ts) h))

-- the parameters of a term are among these
pub record IsOver (ns : List Name) (vs : List Variable) (t : Term) : Type 0 where
  pub types : AllByRecursion (IsIn ns) (type_variable_places t)
  pub terms : AllByRecursion (IsIn vs) (free_places t)

module _ (s : Sequent) where
  -- all type variables and free variables of its terms are its own
  pub all_type_variables : AllByRecursion (IsIn (type_variables_of s)) (flat_map type_variable_places (terms_of s))
  all_type_variables = All-each _ (flat_map type_variable_places (terms_of s))
      (λ n i. IsIn-distinct name_eq name_eq-Decides (flat_map type_variable_places (terms_of s)) n i)

  pub all_free_variables : AllByRecursion (IsIn (free_variables_of s)) (flat_map free_places (terms_of s))
  all_free_variables = All-each _ (flat_map free_places (terms_of s))
      (λ v i. IsIn-distinct variable_eq variable_eq-Decides (flat_map free_places (terms_of s)) v i)

  -- the type variables of its free variables' types are its own
  pub free_variables-known : AllByRecursion (λ v. AllByRecursion (IsIn (type_variables_of s)) (variable_places v.1)) (free_variables_of s)
  free_variables-known =
      All-each _ (free_variables_of s) (λ v i. All-at _ (flat_map free_places (terms_of s)) v
      (flat_free (IsIn (type_variables_of s)) (terms_of s) all_type_variables)
      (IsIn-distinct_of variable_eq variable_eq-Decides (flat_map free_places (terms_of s)) v i))

  -- each term of it is over its own parameters
  pub term-IsOver : (t : Term) → IsIn (terms_of s) t → IsOver (type_variables_of s) (free_variables_of s) t
  term-IsOver t i = record {
    types = All-part _ type_variable_places (terms_of s) t all_type_variables i;
    terms = All-part _ free_places (terms_of s) t all_free_variables i;
  }

  pub hypotheses-IsOver : AllByRecursion (IsOver (type_variables_of s) (free_variables_of s)) s.hypotheses
  hypotheses-IsOver = All-each _ s.hypotheses (λ h i. term-IsOver h (IsIn-left s.hypotheses (s.conclusion ∷ []) h i))

  pub conclusion-IsOver : IsOver (type_variables_of s) (free_variables_of s) s.conclusion
  conclusion-IsOver = term-IsOver s.conclusion (IsIn-right s.hypotheses (s.conclusion ∷ []) s.conclusion (inl refl))

-- what is kept of a sequent by a renaming that keeps its parameters apart
module _ (r : Name → Name) (q : Variable → Name) (s : Sequent)
    (one : (m n : Name) → IsIn (type_variables_of s) m → IsIn (type_variables_of s) n → r m ≡ r n → m ≡ n)
    (other : (v w : Variable) → IsIn (free_variables_of s) v → IsIn (free_variables_of s) w → renamed_variable r q v ≡ renamed_variable r q w → v ≡ w) where
  terms-renamed : terms_of (renamed_sequent r q s) ≡ map (renamed r q) (terms_of s)
  terms-renamed = sym (map-append (renamed r q) s.hypotheses (s.conclusion ∷ []))

  pub type_variables-renamed : type_variables_of (renamed_sequent r q s) ≡ map r (type_variables_of s)
  type_variables-renamed =
      ap (λ ts. distinct name_eq (flat_map type_variable_places ts)) terms-renamed
      ∙ ap (distinct name_eq) (flat_map-map (renamed r q) type_variable_places type_variable_places r (type_places-renamed r q) (terms_of s))
      ∙ distinct-map r name_eq name_eq (IsIn (type_variables_of s)) (λ m n h k. agree name_eq name_eq name_eq-Decides name_eq-Decides r m n (one m n h k))
      (flat_map type_variable_places (terms_of s)) (all_type_variables s)

  pub free_variables-renamed : free_variables_of (renamed_sequent r q s) ≡ map (renamed_variable r q) (free_variables_of s)
  free_variables-renamed =
      ap (λ ts. distinct variable_eq (flat_map free_places ts)) terms-renamed
      ∙ ap (distinct variable_eq) (flat_map-map (renamed r q) free_places free_places (renamed_variable r q) (free_places-renamed r q) (terms_of s))
      ∙ distinct-map (renamed_variable r q) variable_eq variable_eq (IsIn (free_variables_of s))
      (λ v w h k. agree variable_eq variable_eq variable_eq-Decides variable_eq-Decides (renamed_variable r q) v w (other v w h k))
      (flat_map free_places (terms_of s)) (all_free_variables s)

  formulas-renamed : (hs : List Term) → AllByRecursion (λ h. HasType h bool) hs → AllByRecursion (λ h. HasType h bool) (map (renamed r q) hs)
  formulas-renamed [] h = tt
  formulas-renamed (t ∷ ts) h = (type_under-renamed r q [] t bool h.0, formulas-renamed ts h.1)

  pub IsSequent-renamed : IsSequent s → IsSequent (renamed_sequent r q s)
  IsSequent-renamed is = record {
    no_repeats = IsDistinct-map (renamed r q) term_eq term_eq (IsOver (type_variables_of s) (free_variables_of s))
        (λ t u h k. agree term_eq term_eq term_eq-Decides term_eq-Decides (renamed r q) t u
        (renamed-injective r (type_variables_of s) one q (free_variables_of s) other t u h.types k.types h.terms k.terms))
        s.hypotheses (hypotheses-IsOver s) is.no_repeats;
    hypotheses = formulas-renamed s.hypotheses is.hypotheses;
    conclusion = type_under-renamed r q [] s.conclusion bool is.conclusion;
  }

  pub SequentWithin-renamed : SequentWithin s → SequentWithin (renamed_sequent r q s)
  SequentWithin-renamed w =
      let size : sequent_size (renamed_sequent r q s) ≡ sequent_size s =
      ap (sum_by term_size) terms-renamed ∙ sum_by-map (renamed r q) term_size term_size (term_size-renamed r q) (terms_of s) in
      let depth : sequent_depth (renamed_sequent r q s) ≡ sequent_depth s =
      ap (greatest_by term_depth) terms-renamed ∙ greatest_by-map (renamed r q) term_depth term_depth (term_depth-renamed r q) (terms_of s) in
      let a : length (type_variables_of (renamed_sequent r q s)) ≡ length (type_variables_of s) =
      ap length type_variables-renamed ∙ length_map r (type_variables_of s) in
      let b : length (free_variables_of (renamed_sequent r q s)) ≡ length (free_variables_of s) =
      ap length free_variables-renamed ∙ length_map (renamed_variable r q) (free_variables_of s) in
      let c : length (map (renamed r q) s.hypotheses) ≡ length s.hypotheses = length_map (renamed r q) s.hypotheses in
      record { size = omega (arith, size, w.size); depth = omega (arith, depth, w.depth); parameters = omega (arith, a, b, c, w.parameters) }
