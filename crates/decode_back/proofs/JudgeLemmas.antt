-- What is judged of the terms of a sequent.
use Rattle.std.proofs.Common.{◌≡◌, ℕ, zero, suc, ◌+◌, ◌<◌, ◌≤◌, List, [], ◌∷◌, ◌++◌, map, length, Bool, true, false, cond, Some, None, get_or, refl, sym, ap, subst, ◌∙◌, append_assoc, arith}
use Rattle.std.specs.Prelude.{if◌then◌else◌, IsTrue, ◌↔◌}
use Rattle.decode_laws.specs.OptionLaws.{some-injective}
use Rattle.std.specs.Bool.{Decides}
use Rattle.std.specs.List.{AllByRecursion, IsDistinct, list_all}
use lib.Pointwise.{pointwise}
use Rattle.std.proofs.lemmas.Slice.Eq.{slice_eq-Decides}
use Rattle.std.proofs.lemmas.List.{append-nil, length-append}
use Rattle.hol_spec.specs.Names.{Name}
use Rattle.hol_spec.specs.Lists.{union, distinct, is_in}
use Rattle.hol_laws.specs.ListLaws.{distinct-IsDistinct, distinct-itself}
use Rattle.hol_laws.specs.PositionLaws.{turned}
use Rattle.hol_laws.specs.Members.{All-append, All-left, All-right, All-weaker}
use Rattle.hol_spec.specs.Primitives.{bool}
use Rattle.hol_spec.specs.Types.{HolType}
use Rattle.hol_spec.specs.Terms.{Term, type_of, term_eq, HasType}
use Rattle.hol_laws.specs.TypeLaws.{both-Decides}
use Rattle.hol_laws.specs.TermLaws.{term_eq-Decides}
use Rattle.hol_spec.specs.Sequents.{Sequent, terms_of, type_variables_of, free_variables_of}
use Rattle.hol_spec.specs.Limits.{greatest_depth, greatest_by, term_depth}
use Rattle.hol_spec.specs.ClosedForm.{ClosedSequent, closed_form}
use Rattle.translate_spec.specs.ConstantMeaning.{numbers}
use Rattle.hol_term.specs.declared.TermId.{TermId}
use Rattle.hol_type.specs.declared.table.TypeId.{TypeId}
use Rattle.hol_type.specs.Tables as type
use Rattle.hol_type.specs.TableLaws.{tree_at-same}
use Rattle.hol_term.specs.declared.Variable.{Variable as VariableFound}
use Rattle.hol_term.specs.Subterms.{variables_of, HaveTypes}
use Rattle.hol_term.specs.Tables.{Trees, Holds, term_at, terms_at, type_at}
use Rattle.hol_term.specs.TableLaws.{Some-term_in, term_in-Some}
use Rattle.hol_spec.specs.Terms as term
use Rattle.hol_spec.specs.TermBinding.{close}
use Rattle.hol_laws.specs.TermLaws.{variable_eq-Decides}
use Rattle.sequent.specs.declared.closed.Closed.{Closed}
use Rattle.sequent.specs.Closed.{closed_view}
use Rattle.decode_spec.specs.Opened.{open_variables, opened, IsOpen}
use Rattle.decode_spec.specs.ClosedFormTest.{at_most, is_formula}
use Rattle.decode_laws.specs.ClosedFormTestLaws.{length-numbers, is_of_type-Decides, at_most-Decides}
use Rattle.decode_back.specs.Walks.{parameter_name}
use Rattle.decode_back.specs.TermWalks.{free_of}
use Rattle.decode_back.specs.SequentWalks.{IsMade, IsFormula, IsJudged, is_bounded_formula}
use Rattle.decode_back.proofs.TermLemmas.{open_variables-length, AreVariables-length, length-map}

-- the tests tell what is wanted
pub is_bounded_formula-Decides : (t : Term) → Decides (is_bounded_formula t) (IsFormula t)
is_bounded_formula-Decides t =
    both-Decides (at_most greatest_depth (term_depth t)) (is_formula t) (at_most-Decides greatest_depth (term_depth t)) (is_of_type-Decides (type_of t) bool)
    (λ a b. record { typed = b; depth = a }) (λ h. (h.depth, h.typed))

decided-same : {P : Type 0} (b c : Bool) → Decides b P → Decides c P → b ≡ c
decided-same true c d e = sym (e.1 (d.0 refl))
decided-same false true d e = absurd (let yes = d.1 (e.0 refl) in cc)
decided-same false false d e = refl

-- a typed term of small depth is told by its type
pub bounded-told : (b : Bool) (t : Term) (a : HolType) → term_depth t ≤ greatest_depth → type_of t ≡ Some a → IsTrue b ↔ (a ≡ bool) → b ≡ is_bounded_formula t
bounded-told b t a l e told =
    decided-same b (is_bounded_formula t) (λ h. record { typed = e ∙ ap Some (told.0 h); depth = l }, λ f. told.1 (some-injective (sym e ∙ f.typed)))
    (is_bounded_formula-Decides t)

pub are_bounded_formulas-Decides : (ts : List Term) → Decides (list_all is_bounded_formula ts) (AllByRecursion IsFormula ts)
are_bounded_formulas-Decides [] = (λ h. tt, λ h. refl)
are_bounded_formulas-Decides (t ∷ ts) = both-Decides (is_bounded_formula t) (list_all is_bounded_formula ts) (is_bounded_formula-Decides t)
    (are_bounded_formulas-Decides ts) (λ a b. (a, b)) (λ h. h)

pub terms_eq-Decides : (ts us : List Term) → Decides (pointwise term_eq ts us) (ts ≡ us)
terms_eq-Decides ts us = slice_eq-Decides term_eq-Decides ts us _ refl

pub not-told : {P : Type 0} (b : Bool) → Decides b P → b ≡ false → P → ⊥
not-told b d e p = let f = d.1 p in absurd (cc)

-- what doesn't hold is told by false, and a pair by its second part where the first holds
pub false-told : {P : Type 0} → (P → ⊥) → Decides false P
false-told f = (λ h. absurd (cc), λ p. absurd (f p))

pub first-fails : {P Q : Type 0} → (P → ⊥) → Decides false (P × Q)
first-fails f = (λ h. absurd (cc), λ p. absurd (f p.0))

pub second-told : {P Q : Type 0} (b : Bool) → P → Decides b Q → Decides b (P × Q)
second-told b p d = (λ h. (p, d.0 h), λ q. d.1 q.1)

pub told-false : {P : Type 0} (b : Bool) → Decides b P → (P → ⊥) → false ≡ b
told-false true d f = absurd (f (d.0 refl))
told-false false d f = refl

-- whether a free variable is the term of a number, by its name and the number of its type
pub variable-told : (b : Bool) (table : Trees) (n m : Name) (f g : TypeId) (id : TermId) → type.IsDistinct table.types → f.0 < length table.types
    → g.0 < length table.types → n ≡ m
    → term_at table id.0 ≡ term.Term.free m (type_at table g.0) → Decides b (f.0 ≡ g.0) → b
    ≡ term_eq (term.Term.free n (type_at table f.0)) (term_at table id.0)
variable-told b table n m f g id each fl gl same e told =
    decided-same b (term_eq (term.Term.free n (type_at table f.0)) (term_at table id.0)) (
      (λ yes. let i : f.0 ≡ g.0 = told.0 yes in (λ k. term.Term.free (same k) (type_at table (i k))) ∙ sym e),
      (λ is.
          let whole : term.Term.free n (type_at table f.0) ≡ term.Term.free m (type_at table g.0) = is ∙ e in
          let t : type_at table f.0 ≡ type_at table g.0 = cc in
          told.1 (ap (λ (x : TypeId). x.0) (tree_at-same each f g fl gl t))),
    )
    (term_eq-Decides (term.Term.free n (type_at table f.0)) (term_at table id.0))

pub variables_of-length : (trees : Trees) (vs : List VariableFound) → length (variables_of trees vs) ≡ length vs
variables_of-length trees [] = refl
variables_of-length trees (v ∷ vs) = ap suc (variables_of-length trees vs)

pub type-known-at : (trees : Trees) (vs : List VariableFound) (j : ℕ) (v : VariableFound) → HaveTypes trees vs → j < length vs
    → (get_or vs j v).ty.0 < length trees.types
type-known-at trees [] j v h l = absurd (omega (arith, l))
type-known-at trees (w ∷ vs) zero v h l = h.0
type-known-at trees (w ∷ vs) (suc j) v h l = type-known-at trees vs j v h.1 (omega (arith, l))

-- the body of the abstraction over a variable of itself is what the binder binds
pub bound-held : (new : Trees) (id body : TermId) (T U : HolType) (n : Name) (t : Term) → Holds new id.0 (term.Term.lam U (term_at new body.0))
    → Holds new id.0 (term.Term.lam T (close (n, T) t)) → t ≡ term.Term.free n T
    → body.0 < length new.terms → Holds new body.0 (term.Term.bound 0)
bound-held new id body T U n t h k e l =
    let one : term.Term.lam U (term_at new body.0) ≡ term.Term.lam T (close (n, T) t) =
    sym (Some-term_in new.terms id.0 (term.Term.lam U (term_at new body.0)) h) ∙ Some-term_in new.terms id.0 (term.Term.lam T (close (n, T) t)) k in
    let two : term_at new body.0 ≡ close (n, T) t = cc in
    let own : close (n, T) (term.Term.free n T) ≡ term.Term.bound 0 =
    ap (λ b. if b then term.Term.bound 0 else term.Term.free n T) ((variable_eq-Decides (n, T) (n, T)).1 refl) in
    subst (Holds new body.0) (two ∙ ap (close (n, T)) e ∙ own) (term_in-Some new.terms body.0 l)

-- where no element goes, a list stands without repeats
module _ {A : Type 0} (same : A → A → Bool) where
  union-shorter : (ys xs : List A) → length (union same xs ys) ≤ length xs + length ys
  union-shorter [] xs = omega arith
  union-shorter (y ∷ ys) xs = go (is_in same y xs) (union-shorter ys (cond (is_in same y xs) xs (xs ++ y ∷ [])))
    where
      go : (b : Bool) → length (union same (cond b xs (xs ++ y ∷ [])) ys) ≤ length (cond b xs (xs ++ y ∷ [])) + length ys
          → length (union same (cond b xs (xs ++ y ∷ [])) ys) ≤ length xs + suc (length ys)
      go true l = omega (arith, l)
      go false l = let m = length-append xs (y ∷ []) in omega (arith, l, m)

  union-longest : (ys xs : List A) → length (union same xs ys) ≡ length xs + length ys → union same xs ys ≡ xs ++ ys
  union-longest [] xs e = sym (append-nil xs)
  union-longest (y ∷ ys) xs e = go (is_in same y xs) (union-shorter ys (cond (is_in same y xs) xs (xs ++ y ∷ [])))
      (union-longest ys (cond (is_in same y xs) xs (xs ++ y ∷ []))) e
    where
      go : (b : Bool) → length (union same (cond b xs (xs ++ y ∷ [])) ys) ≤ length (cond b xs (xs ++ y ∷ [])) + length ys
          → (length (union same (cond b xs (xs ++ y ∷ [])) ys) ≡ length (cond b xs (xs ++ y ∷ [])) + length ys → union same (cond b xs (xs ++ y ∷ [])) ys
          ≡ cond b xs (xs ++ y ∷ []) ++ ys)
          → length (union same (cond b xs (xs ++ y ∷ [])) ys) ≡ length xs + suc (length ys) → union same (cond b xs (xs ++ y ∷ [])) ys ≡ xs ++ y ∷ ys
      go true l f g = absurd (omega (arith, l, g))
      go false l f g = let m = length-append xs (y ∷ []) in f (omega (arith, g, m)) ∙ append_assoc xs (y ∷ []) ys

  distinct-longest : (xs : List A) → length (distinct same xs) ≡ length xs → distinct same xs ≡ xs
  distinct-longest xs e = union-longest xs [] (omega (arith, e))

greatest-all : (n : ℕ) (ts : List Term) → AllByRecursion (λ t. term_depth t ≤ n) ts → greatest_by term_depth ts ≤ n
greatest-all n [] h = omega arith
greatest-all n (t ∷ ts) h = omega (arith, h.0, greatest-all n ts h.1)

all-greatest : (n : ℕ) (ts : List Term) → greatest_by term_depth ts ≤ n → AllByRecursion (λ t. term_depth t ≤ n) ts
all-greatest n [] h = tt
all-greatest n (t ∷ ts) h = (omega (arith, h), all-greatest n ts (omega (arith, h)))

both-All : {A : Type 0} (P Q : A → Type 0) (xs : List A) → AllByRecursion P xs → AllByRecursion Q xs → AllByRecursion (λ x. P x × Q x) xs
both-All P Q [] h k = tt
both-All P Q (x ∷ xs) h k = ((h.0, k.0), both-All P Q xs h.1 k.1)

free_of-injective : (vs ws : List (Name × HolType)) → map free_of vs ≡ map free_of ws → vs ≡ ws
free_of-injective [] [] e = refl
free_of-injective [] (w ∷ ws) e = absurd (cc)
free_of-injective (v ∷ vs) [] e = absurd (cc)
free_of-injective (v ∷ vs) (w ∷ ws) e =
    let a : v.0 ≡ w.0 = cc in
    let b : v.1 ≡ w.1 = cc in
    let rest : map free_of vs ≡ map free_of ws = cc in
    λ i. (a i, b i) ∷ free_of-injective vs ws rest i

module _ (trees : Trees) (count : ℕ) (variables ids : List TermId) (concl : TermId) (s : ClosedSequent) (made : IsMade trees count variables ids concl s)
    (hyps : List TermId)
    (distinct_are : terms_at trees hyps ≡ distinct term_eq (terms_at trees ids)) where
  abbrev terms : List Term
  terms = terms_at trees ids

  abbrev whole : Sequent
  whole = opened parameter_name s

  abbrev found : Sequent
  found = record { hypotheses = terms_at trees hyps; conclusion = term_at trees concl.0 }

  ids-length : (is : List TermId) → length (terms_at trees is) ≡ length is
  ids-length is = length-map (λ (id : TermId). term_at trees id.0) is

  pub judged-repeats : (length hyps ≡ length ids → ⊥) → IsJudged s None
  judged-repeats h is =
      h (sym (ids-length hyps)
      ∙ ap length (distinct_are ∙ distinct-itself term_eq (turned term_eq term_eq-Decides) terms
      (subst (IsDistinct term_eq) (sym made.hypotheses_are) is.is_sequent.no_repeats))
      ∙ ids-length ids)

  formulas-of : IsOpen parameter_name s → AllByRecursion IsFormula (terms_of whole)
  formulas-of is =
      All-weaker (λ t. HasType t bool × (term_depth t ≤ greatest_depth)) IsFormula (λ t h. record { typed = h.0; depth = h.1 }) (terms_of whole)
      (both-All (λ t. HasType t bool) (λ t. term_depth t ≤ greatest_depth) (terms_of whole)
      (All-append (λ t. HasType t bool) whole.hypotheses (whole.conclusion ∷ []) is.is_sequent.hypotheses (is.is_sequent.conclusion, tt {0}))
      (all-greatest greatest_depth (terms_of whole) is.within.depth))

  pub judged-formulas : (AllByRecursion IsFormula terms → ⊥) → IsJudged s None
  judged-formulas h is = h
      (subst (AllByRecursion IsFormula) (sym made.hypotheses_are) (All-left IsFormula whole.hypotheses (whole.conclusion ∷ []) (formulas-of is)))

  pub judged-conclusion : (IsFormula (term_at trees concl.0) → ⊥) → IsJudged s None
  judged-conclusion h is = h (subst IsFormula (sym made.conclusion_is) (All-right IsFormula whole.hypotheses (whole.conclusion ∷ []) (formulas-of is)).0)

  module _ (as_many : length hyps ≡ length ids) where
    no_repeats : distinct term_eq terms ≡ terms
    no_repeats = distinct-longest term_eq terms (sym (ap length distinct_are) ∙ ids-length hyps ∙ as_many ∙ sym (ids-length ids))

    -- the sequent of the table is the opened one
    pub found-is : found ≡ whole
    found-is =
        let a : terms_at trees hyps ≡ whole.hypotheses = distinct_are ∙ no_repeats ∙ made.hypotheses_are in
        λ i. record { hypotheses = a i; conclusion = made.conclusion_is i }

    opened-IsOpen : AllByRecursion IsFormula terms → IsFormula (term_at trees concl.0) → type_variables_of found ≡ map parameter_name (numbers 0 count)
        → map free_of (free_variables_of found) ≡ terms_at trees variables → IsOpen parameter_name s
    opened-IsOpen formulas conclusion types variables_are =
        let all : AllByRecursion IsFormula whole.hypotheses = subst (AllByRecursion IsFormula) made.hypotheses_are formulas in
        let end : IsFormula whole.conclusion = subst IsFormula made.conclusion_is conclusion in
        let t : type_variables_of whole ≡ map parameter_name (numbers 0 s.type_variable_count) =
        sym (ap type_variables_of found-is) ∙ types ∙ ap (λ k. map parameter_name (numbers 0 k)) (sym made.count_is) in
        let v : free_variables_of whole ≡ open_variables parameter_name 0 s.free_variable_types =
        sym (ap free_variables_of found-is) ∙ free_of-injective (free_variables_of found) (open_variables parameter_name 0 s.free_variable_types)
        (variables_are ∙ made.variables_are) in
        let a : length (type_variables_of whole) ≡ s.type_variable_count = ap length t ∙ length-numbers parameter_name 0 s.type_variable_count in
        let b : length (free_variables_of whole) ≡ length variables =
        ap length v ∙ open_variables-length 0 s.free_variable_types ∙ AreVariables-length trees variables s.free_variable_types made.variables_are in
        let c : length whole.hypotheses ≡ length ids = sym (ap length made.hypotheses_are) ∙ ids-length ids in
        record {
          is_sequent = record {
            no_repeats = subst (IsDistinct term_eq) (no_repeats ∙ made.hypotheses_are) (distinct-IsDistinct term_eq (turned term_eq term_eq-Decides) terms);
            hypotheses = All-weaker IsFormula (λ u. HasType u bool) (λ u f. f.typed) whole.hypotheses all;
            conclusion = end.typed;
          };
          within = record {
            size = made.small;
            depth = greatest-all greatest_depth (terms_of whole)
                (All-append (λ u. term_depth u ≤ greatest_depth) whole.hypotheses (whole.conclusion ∷ [])
                (All-weaker IsFormula (λ u. term_depth u ≤ greatest_depth) (λ u f. f.depth) whole.hypotheses all) (end.depth, tt {0}));
            parameters = omega (arith, a, b, c, made.few, made.count_is);
          };
          type_variables = t;
          free_variables = v;
        }

    -- so the parameters tell
    pub parameters-told : AllByRecursion IsFormula terms → IsFormula (term_at trees concl.0) → (told : Bool)
        → Decides told ((type_variables_of found ≡ map parameter_name (numbers 0 count)) × (map free_of (free_variables_of found) ≡ terms_at trees variables))
        → Decides told (IsOpen parameter_name s)
    parameters-told formulas conclusion told d = (
      λ t. let p = d.0 t in opened-IsOpen formulas conclusion p.0 p.1,
      λ is. d.1 (
        ap type_variables_of found-is ∙ is.type_variables
            ∙ ap (λ k. map parameter_name (numbers 0 k)) made.count_is,
        ap (λ q. map free_of (free_variables_of q)) found-is ∙ ap (map free_of) is.free_variables
            ∙ sym made.variables_are,
      ),
    )

  -- the closed form of what is open
  pub judged-closed : IsOpen parameter_name s → (closed : Closed) → closed_view closed ≡ closed_form found → IsJudged s (Some closed)
  judged-closed is closed e =
      let a : terms_at trees hyps ≡ whole.hypotheses =
      distinct_are ∙ distinct-itself term_eq (turned term_eq term_eq-Decides) terms
      (subst (IsDistinct term_eq) (sym made.hypotheses_are) is.is_sequent.no_repeats) ∙ made.hypotheses_are in
      let same : found ≡ whole = λ i. record { hypotheses = a i; conclusion = made.conclusion_is i } in
      (is, e ∙ ap closed_form same)
