-- The test tells exactly the closed forms of sequents within the limits.
use Rattle.std.proofs.Common.{◌≡◌, ℕ, zero, suc, ◌+◌, ◌<◌, ◌≤◌, List, [], ◌∷◌, map, length, Bool, true, false, Option, Some, None, inl, inr, refl, sym, ap, subst, ◌∙◌, arith}
use Rattle.std.specs.Prelude.{not, nat_lt, ◌&&◌}
use Rattle.std.specs.Bool.{Decides}
use Rattle.std.specs.List.{AllByRecursion, IsDistinct, position_or_len, list_all}
use Rattle.std.proofs.lemmas.Bool.Decides.{Decides-ltb, Decides-not}
use Rattle.std.proofs.lemmas.Slice.Eq.{slice_eq-Decides}
use lib.Pointwise.{pointwise}
use Rattle.hol_spec.specs.Names.{Name}
use Rattle.hol_spec.specs.NameEquality.{name_eq}
use Rattle.hol_laws.specs.NameEqualityLaws.{name_eq-Decides}
use Rattle.hol_spec.specs.Types.{HolType, variable_places, variable_places_of_all}
use Rattle.hol_laws.specs.TypeLaws.{type_eq-Decides, both-Decides}
use Rattle.hol_spec.specs.Primitives.{bool}
use Rattle.hol_spec.specs.Terms.{Term, Variable, variable_eq, term_eq, type_of, HasType, type_variable_places, free_places}
use Rattle.hol_laws.specs.TermLaws.{variable_eq-Decides}
use Rattle.std.proofs.Math.Path.{ap₂}
use Rattle.hol_spec.specs.Sequents.{Sequent, IsSequent, type_variables_of, free_variables_of, parameter_count}
use Rattle.hol_spec.specs.Limits.{sequent_size, sequent_depth, SequentWithin, greatest_size, greatest_depth, greatest_parameter_count}
use Rattle.hol_spec.specs.ClosedForm.{ClosedType, ClosedTypes, ClosedTerm, ClosedSequent, close_type, close_types, close_term, closed_form}
use Rattle.translate_spec.specs.ConstantMeaning.{numbers}
use Rattle.translate_spec.specs.Enc.{IsClosedForm}
use Rattle.hol_spec.specs.Lists.{IsIn}
use Rattle.hol_laws.specs.Members.{All-left, All-right}
use Rattle.hol_laws.specs.PositionLaws.{position-cons}
use Rattle.decode_spec.specs.Opened.{open_type, open_types, type_at, open_term, open_variables, opened, IsOpen}
use Rattle.hol_laws.specs.RenamedSequents.{IsOver, free_variables-known, hypotheses-IsOver, conclusion-IsOver}
use Rattle.decode_laws.specs.OpenedLaws.{closed_form-IsOpen}
use Rattle.decode_spec.specs.ClosedFormTest.{is_of_type, is_formula, no_repeats, at_most, is_sequent, is_within, is_numbered, is_closed_form}

pub length-numbers : (f : ℕ → Name) (i n : ℕ) → length (map f (numbers i n)) ≡ n
length-numbers f i zero = refl
length-numbers f i (suc n) = ap suc (length-numbers f (suc i) n)

module _ (named : ℕ → Name) (apart : (i j : ℕ) → named i ≡ named j → i ≡ j) where
  -- the place of a new name is its number
  name-place : (i j n : ℕ) → IsIn (map named (numbers j n)) (named i) → j + position_or_len (name_eq (named i)) (map named (numbers j n)) ≡ i
  name-place i j zero k = absurd k
  name-place i j (suc n) k = go (name_eq (named i) (named j)) refl (name_eq-Decides (named i) (named j)) (λ l. name-place i (suc j) n l) k
    where
      go : (b : Bool) → name_eq (named i) (named j) ≡ b → Decides (name_eq (named i) (named j)) (named i ≡ named j)
          → (IsIn (map named (numbers (suc j) n)) (named i) → suc j + position_or_len (name_eq (named i)) (map named (numbers (suc j) n)) ≡ i)
          → IsIn (map named (numbers j (suc n))) (named i)
          → j + position_or_len (name_eq (named i)) (map named (numbers j (suc n))) ≡ i
      go true e d later k =
          let p = position-cons (name_eq (named i)) (named j) (map named (numbers (suc j) n)) true e in
          let same : i ≡ j = apart i j (d.0 e) in
          omega (arith, p, same)
      go false e d later (inl is) = absurd (let yes = d.1 is in cc)
      go false e d later (inr l) =
          let p = position-cons (name_eq (named i)) (named j) (map named (numbers (suc j) n)) false e in
          let r = later l in
          omega (arith, p, r)

  -- the place of a new variable is its number
  variable-place : (i j : ℕ) (u : HolType) (ts : List ClosedType) → IsIn (open_variables named j ts) (named i, u)
      → j + position_or_len (variable_eq (named i, u)) (open_variables named j ts) ≡ i
  variable-place i j u [] k = absurd k
  variable-place i j u (t ∷ ts) k =
      go (variable_eq (named i, u) (named j, open_type named t)) refl (variable_eq-Decides (named i, u) (named j, open_type named t))
      (λ l. variable-place i (suc j) u ts l) k
    where
      go : (b : Bool) → variable_eq (named i, u) (named j, open_type named t) ≡ b
          → Decides (variable_eq (named i, u) (named j, open_type named t)) (◌≡◌ {A = Variable} (named i, u) (named j, open_type named t))
          → (IsIn (open_variables named (suc j) ts) (named i, u) → suc j + position_or_len (variable_eq (named i, u)) (open_variables named (suc j) ts) ≡ i)
          → IsIn (open_variables named j (t ∷ ts)) (named i, u)
          → j + position_or_len (variable_eq (named i, u)) (open_variables named j (t ∷ ts)) ≡ i
      go true e d later k =
          let p = position-cons (variable_eq (named i, u)) (named j, open_type named t) (open_variables named (suc j) ts) true e in
          let same : i ≡ j = apart i j (ap (λ (v : Variable). v.0) (d.0 e)) in
          omega (arith, p, same)
      go false e d later (inl is) = absurd (let yes = d.1 is in cc)
      go false e d later (inr l) =
          let p = position-cons (variable_eq (named i, u)) (named j, open_type named t) (open_variables named (suc j) ts) false e in
          let r = later l in
          omega (arith, p, r)

  module _ (n : ℕ) (types : List ClosedType) where
    mutual
      -- to open a type whose variables are among these and close it again changes nothing
      close-open_type : (t : ClosedType) → AllByRecursion (IsIn (map named (numbers 0 n))) (variable_places (open_type named t))
          → close_type (map named (numbers 0 n)) (open_type named t) ≡ t
      close-open_type (ClosedType.parameter i) h = let p = name-place i 0 n h.0 in let z : position_or_len (name_eq (named i)) (map named (numbers 0 n)) ≡ i =
          omega (arith, p) in ap ClosedType.parameter z
      close-open_type (ClosedType.operator m ts) h = ap (ClosedType.operator m) (close-open_types ts h)

      close-open_types : (ts : ClosedTypes) → AllByRecursion (IsIn (map named (numbers 0 n))) (variable_places_of_all (open_types named ts))
          → close_types (map named (numbers 0 n)) (open_types named ts) ≡ ts
      close-open_types ClosedTypes.none h = refl
      close-open_types (ClosedTypes.more t ts) h =
          ap₂ ClosedTypes.more (close-open_type t (All-left _ (variable_places (open_type named t)) (variable_places_of_all (open_types named ts)) h))
          (close-open_types ts (All-right _ (variable_places (open_type named t)) (variable_places_of_all (open_types named ts)) h))

    close-open_term : (t : ClosedTerm) → IsOver (map named (numbers 0 n)) (open_variables named 0 types) (open_term named types t)
        → close_term (map named (numbers 0 n)) (open_variables named 0 types) (open_term named types t) ≡ t
    close-open_term (ClosedTerm.parameter j) h =
        let p = variable-place j 0 (open_type named (type_at types j)) types h.terms.0 in
        let z : position_or_len (variable_eq (named j, open_type named (type_at types j))) (open_variables named 0 types) ≡ j = omega (arith, p) in
        ap ClosedTerm.parameter z
    close-open_term (ClosedTerm.bound k) h = refl
    close-open_term (ClosedTerm.constant m t) h = ap (ClosedTerm.constant m) (close-open_type t h.types)
    close-open_term (ClosedTerm.app f x) h =
        let g = open_term named types f in
        let y = open_term named types x in
        ap₂ ClosedTerm.app
        (close-open_term f
        (record {
          types = All-left _ (type_variable_places g) (type_variable_places y) h.types;
          terms =
              All-left _ (free_places g) (free_places y) h.terms;
        }))
        (close-open_term x
        (record {
          types = All-right _ (type_variable_places g) (type_variable_places y) h.types;
          terms =
              All-right _ (free_places g) (free_places y) h.terms;
        }))
    close-open_term (ClosedTerm.lam t b) h =
        let y = open_term named types b in
        ap₂ ClosedTerm.lam (close-open_type t (All-left _ (variable_places (open_type named t)) (type_variable_places y) h.types))
        (close-open_term b (record { types = All-right _ (variable_places (open_type named t)) (type_variable_places y) h.types; terms = h.terms }))

    close-open_terms : (ts : List ClosedTerm)
        → AllByRecursion (IsOver (map named (numbers 0 n)) (open_variables named 0 types)) (map (open_term named types) ts)
        → map (close_term (map named (numbers 0 n)) (open_variables named 0 types)) (map (open_term named types) ts) ≡ ts
    close-open_terms [] h = refl
    close-open_terms (t ∷ ts) h = λ i. close-open_term t h.0 i ∷ close-open_terms ts h.1 i

    close-open_variables : (k : ℕ) (ts : List ClosedType)
        → AllByRecursion (λ v. AllByRecursion (IsIn (map named (numbers 0 n))) (variable_places v.1)) (open_variables named k ts)
        → map (λ v. close_type (map named (numbers 0 n)) v.1) (open_variables named k ts) ≡ ts
    close-open_variables k [] h = refl
    close-open_variables k (t ∷ ts) h = λ i. close-open_type t h.0 i ∷ close-open_variables (suc k) ts h.1 i

  -- a closed sequent that is open is the closed form of the sequent with the new names
  pub closed_form-opened : (s : ClosedSequent) → IsOpen named s → s ≡ closed_form (opened named s)
  closed_form-opened s is =
      let o = opened named s in
      let n = s.type_variable_count in
      let ns = map named (numbers 0 n) in
      let vs = open_variables named 0 s.free_variable_types in
      let over : AllByRecursion (IsOver ns vs) o.hypotheses =
      subst (λ l. AllByRecursion (IsOver l vs) o.hypotheses) is.type_variables
      (subst (λ l. AllByRecursion (IsOver (type_variables_of o) l) o.hypotheses) is.free_variables (hypotheses-IsOver o)) in
      let end : IsOver ns vs o.conclusion = subst (λ l. IsOver l vs o.conclusion) is.type_variables
      (subst (λ l. IsOver (type_variables_of o) l o.conclusion) is.free_variables (conclusion-IsOver o)) in
      let known : AllByRecursion (λ v. AllByRecursion (IsIn ns) (variable_places v.1)) vs =
      subst (λ l. AllByRecursion (λ v. AllByRecursion (IsIn l) (variable_places v.1)) vs) is.type_variables
      (subst (λ l. AllByRecursion (λ v. AllByRecursion (IsIn (type_variables_of o)) (variable_places v.1)) l) is.free_variables (free_variables-known o)) in
      let form : s ≡ record {
        type_variable_count = length ns;
        free_variable_types = map (λ v. close_type ns v.1) vs;
        hypotheses =
            map (close_term ns vs) o.hypotheses;
        conclusion = close_term ns vs o.conclusion;
      } =
      λ i. record {
        type_variable_count = sym (length-numbers named 0 n) i;
        free_variable_types = sym (close-open_variables n s.free_variable_types 0 s.free_variable_types known) i;
        hypotheses = sym (close-open_terms n s.free_variable_types s.hypotheses over) i;
        conclusion = sym (close-open_term n s.free_variable_types s.conclusion end) i;
      } in
      form ∙ (λ i. record {
        type_variable_count = length (sym is.type_variables i);
        free_variable_types = map (λ v. close_type (sym is.type_variables i) v.1) (sym is.free_variables i);
        hypotheses = map (close_term (sym is.type_variables i) (sym is.free_variables i)) o.hypotheses;
        conclusion = close_term (sym is.type_variables i) (sym is.free_variables i) o.conclusion;
      })

  pub IsOpen-IsClosedForm : (s : ClosedSequent) → IsOpen named s → IsClosedForm s
  IsOpen-IsClosedForm s is = record { sequent = opened named s; is_sequent = is.is_sequent; within = is.within; closed = closed_form-opened s is }

  pub IsClosedForm-IsOpen : (s : ClosedSequent) → IsClosedForm s → IsOpen named s
  IsClosedForm-IsOpen s is = subst (IsOpen named) (sym is.closed) (closed_form-IsOpen named apart is.sequent is.is_sequent is.within)

-- each test
pub is_of_type-Decides : (o : Option HolType) (a : HolType) → Decides (is_of_type o a) (o ≡ Some a)
is_of_type-Decides None a = (λ h. absurd (cc), λ h. absurd (cc))
is_of_type-Decides (Some b) a = (λ h. ap Some ((type_eq-Decides b a).0 h), λ h. (type_eq-Decides b a).1 (cc))

formulas-Decides : (ts : List Term) → Decides (list_all is_formula ts) (AllByRecursion (λ h. HasType h bool) ts)
formulas-Decides [] = (λ h. tt, λ h. refl)
formulas-Decides (t ∷ ts) = both-Decides (is_formula t) (list_all is_formula ts) (is_of_type-Decides (type_of t) bool) (formulas-Decides ts) (λ a b. (a, b))
    (λ h. h)

module _ {A : Type 0} (same : A → A → Bool) where
  differs : (b : Bool) → Decides (not b) (b ≡ false)
  differs true = (λ h. absurd (cc), λ h. absurd (cc))
  differs false = (λ h. refl, λ h. refl)

  apart-Decides : (x : A) (xs : List A) → Decides (list_all (λ y. not (same x y)) xs) (AllByRecursion (λ y. same x y ≡ false) xs)
  apart-Decides x [] = (λ h. tt, λ h. refl)
  apart-Decides x (y ∷ ys) = both-Decides (not (same x y)) (list_all (λ y. not (same x y)) ys) (differs (same x y)) (apart-Decides x ys) (λ a b. (a, b))
      (λ h. h)

  no_repeats-Decides : (xs : List A) → Decides (no_repeats same xs) (IsDistinct same xs)
  unfolding IsDistinct
  no_repeats-Decides [] = (λ h. tt, λ h. refl)
  no_repeats-Decides (x ∷ xs) = both-Decides (list_all (λ y. not (same x y)) xs) (no_repeats same xs) (apart-Decides x xs) (no_repeats-Decides xs)
      (λ a b. (a, b)) (λ h. h)

pub at_most-Decides : (limit n : ℕ) → Decides (at_most limit n) (n ≤ limit)
at_most-Decides limit n =
    let d = Decides-not (nat_lt limit n) (Decides-ltb limit n) in
    (λ h. let f = d.0 h in from f, λ h. d.1 (λ l. omega (arith, l, h)))
  where
    from : (limit < n → ⊥) → n ≤ limit
    from f = omega (arith, f)

is_sequent-Decides : (s : Sequent) → Decides (is_sequent s) (IsSequent s)
is_sequent-Decides s =
    both-Decides (no_repeats term_eq s.hypotheses) (list_all is_formula s.hypotheses && is_formula s.conclusion) (no_repeats-Decides term_eq s.hypotheses)
    (both-Decides (list_all is_formula s.hypotheses) (is_formula s.conclusion) (formulas-Decides s.hypotheses) (is_of_type-Decides (type_of s.conclusion) bool)
    (λ a b. (a, b)) (λ h. h))
    (λ a b. record { no_repeats = a; hypotheses = b.0; conclusion = b.1 }) (λ h. (h.no_repeats, (h.hypotheses, h.conclusion)))

is_within-Decides : (s : Sequent) → Decides (is_within s) (SequentWithin s)
is_within-Decides s =
    both-Decides (at_most greatest_size (sequent_size s)) (at_most greatest_depth (sequent_depth s) && at_most greatest_parameter_count (parameter_count s))
    (at_most-Decides greatest_size (sequent_size s))
    (both-Decides (at_most greatest_depth (sequent_depth s)) (at_most greatest_parameter_count (parameter_count s))
    (at_most-Decides greatest_depth (sequent_depth s)) (at_most-Decides greatest_parameter_count (parameter_count s)) (λ a b. (a, b)) (λ h. h))
    (λ a b. record { size = a; depth = b.0; parameters = b.1 }) (λ h. (h.size, (h.depth, h.parameters)))

-- the whole test
pub is_closed_form-Decides : (named : ℕ → Name) → ((i j : ℕ) → named i ≡ named j → i ≡ j) → (s : ClosedSequent)
    → Decides (is_closed_form named s) (IsClosedForm s)
is_closed_form-Decides named apart s =
    let o = opened named s in
    both-Decides (is_sequent o) (is_within o && is_numbered named s) (is_sequent-Decides o)
    (both-Decides (is_within o) (is_numbered named s) (is_within-Decides o)
    (both-Decides (pointwise name_eq (type_variables_of o) (map named (numbers 0 s.type_variable_count)))
    (pointwise variable_eq (free_variables_of o) (open_variables named 0 s.free_variable_types))
    (slice_eq-Decides name_eq-Decides (type_variables_of o) (map named (numbers 0 s.type_variable_count)) _ refl)
    (slice_eq-Decides variable_eq-Decides (free_variables_of o) (open_variables named 0 s.free_variable_types) _ refl) (λ a b. (a, b)) (λ h. h))
    (λ a b. (a, b)) (λ h. h))
    (λ a b. IsOpen-IsClosedForm named apart s (record { is_sequent = a; within = b.0; type_variables = b.1.0; free_variables = b.1.1 }))
    (λ h. let is = IsClosedForm-IsOpen named apart s h in (is.is_sequent, (is.within, (is.type_variables, is.free_variables))))
