-- The closed form of a sequent, opened with names of one's own, is the sequent renamed; so it is a sequent whose parameters are numbered in order.
use Rattle.std.proofs.Common.{◌≡◌, ℕ, suc, ◌+◌, List, [], ◌∷◌, map, length, Bool, true, false, inl, inr, refl, sym, ap, subst, ◌∙◌, arith, zero}
use Rattle.std.specs.Bool.{Decides}
use Rattle.std.specs.List.{AllByRecursion, IsDistinct, flat_map, position_or_len}
use Rattle.hol_spec.specs.Names.{Name}
use Rattle.hol_spec.specs.NameEquality.{name_eq}
use Rattle.hol_laws.specs.NameEqualityLaws.{name_eq-Decides}
use Rattle.hol_spec.specs.Lists.{IsIn}
use Rattle.hol_laws.specs.ListLaws.{distinct-IsDistinct}
use Rattle.hol_spec.specs.Types as type
use Rattle.hol_spec.specs.Types.{HolType, HolTypes, variable_places, variable_places_of_all}
use Rattle.hol_spec.specs.Terms as term
use Rattle.hol_spec.specs.Terms.{Term, Variable, variable_eq, term_eq, HasType, type_variable_places, free_places}
use Rattle.hol_laws.specs.TermLaws.{variable_eq-Decides}
use Rattle.std.proofs.Math.Path.{ap₂}
use Rattle.hol_spec.specs.Sequents.{Sequent, IsSequent, terms_of, type_variables_of, free_variables_of}
use Rattle.hol_spec.specs.Limits.{SequentWithin}
use Rattle.hol_spec.specs.ClosedForm.{ClosedType, close_type, close_types, close_term, closed_form}
use Rattle.translate_spec.specs.ConstantMeaning.{numbers}
use Rattle.hol_laws.specs.Members.{All-each, All-at, All-left, All-right, All-weaker, map-each, map-twice}
use Rattle.hol_spec.specs.Renamings.{renamed_type, renamed_types, renamed_variable, renamed, renamed_sequent}
use Rattle.hol_laws.specs.RenamedSequents.{hypotheses-IsOver, conclusion-IsOver, type_variables-renamed, free_variables-renamed, IsSequent-renamed, SequentWithin-renamed}
use Rattle.hol_laws.specs.PositionLaws.{turned, position-cons, position-first, position-later, position-injective}
use Rattle.decode_spec.specs.Opened.{open_type, open_types, type_at, open_term, open_variables, opened, IsOpen}

-- numbers from one on are those from zero on, each one more
map-numbers : (i k : ℕ) → map suc (numbers i k) ≡ numbers (suc i) k
map-numbers i zero = refl
map-numbers i (suc k) = ap (λ l. suc i ∷ l) (map-numbers (suc i) k)

-- the places of the elements of a list without repeats are the numbers from zero on
positions : {A : Type 0} (same : A → A → Bool) (decides : (x y : A) → Decides (same x y) (x ≡ y)) (xs : List A) → IsDistinct same xs
    → map (λ x. position_or_len (same x) xs) xs ≡ numbers 0 (length xs)
unfolding IsDistinct
positions same decides [] h = refl
positions same decides (x ∷ xs) h =
    let rest : map (λ y. position_or_len (same y) (x ∷ xs)) xs ≡ map (λ y. suc (position_or_len (same y) xs)) xs =
    map-each (λ y. position_or_len (same y) (x ∷ xs)) (λ y. suc (position_or_len (same y) xs)) xs
    (All-each _ xs (λ y k. position-later same decides x y xs (All-at _ xs y h.0 k))) in
    λ i. position-first same decides x xs i ∷ (rest ∙ sym (map-twice suc (λ y. position_or_len (same y) xs) xs) ∙ ap (map suc) (positions same decides xs h.1)
    ∙ map-numbers 0 (length xs)) i

module _ (named : ℕ → Name) (apart : (i j : ℕ) → named i ≡ named j → i ≡ j) where
  -- the new names of the variables of these lists
  abbrev new_name : List Name → Name → Name
  new_name ns n = named (position_or_len (name_eq n) ns)

  abbrev new_variable : List Variable → Variable → Name
  new_variable vs v = named (position_or_len (variable_eq v) vs)

  abbrev closed_types : List Name → List Variable → List ClosedType
  closed_types ns vs = map (λ v. close_type ns v.1) vs

  mutual
    -- to close a type and open it again is to rename its variables
    open-close_type : (ns : List Name) (t : HolType) → open_type named (close_type ns t) ≡ renamed_type (new_name ns) t
    open-close_type ns (type.HolType.variable n) = refl
    open-close_type ns (type.HolType.operator n ts) = ap (type.HolType.operator n) (open-close_types ns ts)

    open-close_types : (ns : List Name) (ts : HolTypes) → open_types named (close_types ns ts) ≡ renamed_types (new_name ns) ts
    open-close_types ns type.HolTypes.none = refl
    open-close_types ns (type.HolTypes.more t ts) = ap₂ type.HolTypes.more (open-close_type ns t) (open-close_types ns ts)

  type_at-position : (f : Variable → ClosedType) (vs : List Variable) (v : Variable) → IsIn vs v → type_at (map f vs) (position_or_len (variable_eq v) vs) ≡ f v
  type_at-position f [] v k = absurd k
  type_at-position f (w ∷ vs) v k = go (variable_eq v w) refl (variable_eq-Decides v w) (λ i. type_at-position f vs v i) k
    where
      go : (b : Bool) → variable_eq v w ≡ b → Decides (variable_eq v w) (v ≡ w) → (IsIn vs v → type_at (map f vs) (position_or_len (variable_eq v) vs) ≡ f v)
          → IsIn (w ∷ vs) v
          → type_at (map f (w ∷ vs)) (position_or_len (variable_eq v) (w ∷ vs)) ≡ f v
      go true e d later k = ap (type_at (map f (w ∷ vs))) (position-cons (variable_eq v) w vs true e) ∙ ap f (sym (d.0 e))
      go false e d later (inl is) = absurd (let yes = d.1 is in cc)
      go false e d later (inr i) = ap (type_at (map f (w ∷ vs))) (position-cons (variable_eq v) w vs false e) ∙ later i

  -- the same for terms over these variables
  open-close_term : (ns : List Name) (vs : List Variable) (t : Term) → AllByRecursion (IsIn vs) (free_places t)
      → open_term named (closed_types ns vs) (close_term ns vs t) ≡ renamed (new_name ns) (new_variable vs) t
  open-close_term ns vs (term.Term.free n t) h =
      ap (λ u. term.Term.free (new_variable vs (n, t)) (open_type named u)) (type_at-position (λ v. close_type ns v.1) vs (n, t) h.0)
      ∙ ap (term.Term.free (new_variable vs (n, t))) (open-close_type ns t)
  open-close_term ns vs (term.Term.bound k) h = refl
  open-close_term ns vs (term.Term.constant n t) h = ap (term.Term.constant n) (open-close_type ns t)
  open-close_term ns vs (term.Term.app f x) h = ap₂ term.Term.app (open-close_term ns vs f (All-left _ (free_places f) (free_places x) h))
      (open-close_term ns vs x (All-right _ (free_places f) (free_places x) h))
  open-close_term ns vs (term.Term.lam t b) h = ap₂ term.Term.lam (open-close_type ns t) (open-close_term ns vs b h)

  -- the new variables in order
  open_variables-are : (ns : List Name) (k : ℕ) (vs : List Variable) → IsDistinct variable_eq vs
      → open_variables named k (closed_types ns vs) ≡ map (λ v. (named (k + position_or_len (variable_eq v) vs), renamed_type (new_name ns) v.1)) vs
  unfolding IsDistinct
  open_variables-are ns k [] h = refl
  open_variables-are ns k (v ∷ vs) h =
      let first : named k ≡ named (k + position_or_len (variable_eq v) (v ∷ vs)) =
      ap named (let e = position-first variable_eq variable_eq-Decides v vs in omega (arith, e)) in
      let later : map (λ w. (named (suc k + position_or_len (variable_eq w) vs), renamed_type (new_name ns) w.1)) vs
      ≡ map (λ w. (named (k + position_or_len (variable_eq w) (v ∷ vs)), renamed_type (new_name ns) w.1)) vs =
      map-each _ _ vs (All-each _ vs (λ w i. shifted w (All-at _ vs w h.0 i))) in
      λ i. (first i, open-close_type ns v.1 i) ∷ (open_variables-are ns (suc k) vs h.1 ∙ later) i
    where
      shifted : (w : Variable) → variable_eq v w ≡ false
          → ◌≡◌ {A = Variable} (named (suc k + position_or_len (variable_eq w) vs), renamed_type (new_name ns) w.1)
          (named (k + position_or_len (variable_eq w) (v ∷ vs)), renamed_type (new_name ns) w.1)
      shifted w e = let p = position-later variable_eq variable_eq-Decides v w vs e in let z : suc k + position_or_len (variable_eq w) vs ≡ k + position_or_len
          (variable_eq w) (v ∷ vs) = omega (arith, p) in λ i. (named (z i), renamed_type (new_name ns) w.1)

  module _ (s : Sequent) where
    kept_apart : (m n : Name) → IsIn (type_variables_of s) m → IsIn (type_variables_of s) n
        → new_name (type_variables_of s) m ≡ new_name (type_variables_of s) n → m ≡ n
    kept_apart m n h k e = position-injective name_eq name_eq-Decides (type_variables_of s) m n h k (apart _ _ e)

    variables_apart : (v w : Variable) → IsIn (free_variables_of s) v → IsIn (free_variables_of s) w
        → renamed_variable (new_name (type_variables_of s)) (new_variable (free_variables_of s)) v
        ≡ renamed_variable (new_name (type_variables_of s)) (new_variable (free_variables_of s)) w → v ≡ w
    variables_apart v w h k e = position-injective variable_eq variable_eq-Decides (free_variables_of s) v w h k (apart _ _ (ap (λ (x : Variable). x.0) e))

    -- the closed form of a sequent, opened, is the sequent with new names
    opened-closed_form : opened named (closed_form s) ≡ renamed_sequent (new_name (type_variables_of s)) (new_variable (free_variables_of s)) s
    opened-closed_form =
        let hypotheses : map (open_term named (closed_types (type_variables_of s) (free_variables_of s)))
        (map (close_term (type_variables_of s) (free_variables_of s)) s.hypotheses)
        ≡ map (renamed (new_name (type_variables_of s)) (new_variable (free_variables_of s))) s.hypotheses =
        map-twice _ _ s.hypotheses ∙ map-each _ _ s.hypotheses
        (All-weaker _ _ (λ t o. open-close_term (type_variables_of s) (free_variables_of s) t o.terms) s.hypotheses (hypotheses-IsOver s)) in
        let conclusion = open-close_term (type_variables_of s) (free_variables_of s) s.conclusion (conclusion-IsOver s).terms in
        λ i. record { hypotheses = hypotheses i; conclusion = conclusion i }

    pub closed_form-IsOpen : IsSequent s → SequentWithin s → IsOpen named (closed_form s)
    closed_form-IsOpen is within =
        let r = new_name (type_variables_of s) in
        let q = new_variable (free_variables_of s) in
        let types : type_variables_of (renamed_sequent r q s) ≡ map named (numbers 0 (length (type_variables_of s))) =
        type_variables-renamed r q s kept_apart variables_apart
        ∙ sym (map-twice named (λ n. position_or_len (name_eq n) (type_variables_of s)) (type_variables_of s))
        ∙ ap (map named)
        (positions name_eq name_eq-Decides (type_variables_of s)
        (distinct-IsDistinct name_eq (λ m n e. turned_names m n e) (flat_map type_variable_places (terms_of s)))) in
        let terms : free_variables_of (renamed_sequent r q s) ≡ open_variables named 0 (closed_types (type_variables_of s) (free_variables_of s)) =
        free_variables-renamed r q s kept_apart variables_apart
        ∙ map-each _ _ (free_variables_of s) (All-each _ (free_variables_of s) (λ v i. from_zero v))
        ∙ sym (open_variables-are (type_variables_of s) 0 (free_variables_of s)
        (distinct-IsDistinct variable_eq (λ v w e. turned_variables v w e) (flat_map free_places (terms_of s)))) in
        record {
          is_sequent = subst IsSequent (sym opened-closed_form) (IsSequent-renamed r q s kept_apart variables_apart is);
          within = subst SequentWithin (sym opened-closed_form) (SequentWithin-renamed r q s kept_apart variables_apart within);
          type_variables = ap type_variables_of opened-closed_form ∙ types;
          free_variables = ap free_variables_of opened-closed_form ∙ terms;
        }
      where
        from_zero : (v : Variable) → ◌≡◌ {A = Variable} (new_variable (free_variables_of s) v, renamed_type (new_name (type_variables_of s)) v.1)
            (named (0 + position_or_len (variable_eq v) (free_variables_of s)), renamed_type (new_name (type_variables_of s)) v.1)
        from_zero v = let z : position_or_len (variable_eq v) (free_variables_of s) ≡ 0 + position_or_len (variable_eq v) (free_variables_of s) =
            omega arith in λ i. (named (z i), renamed_type (new_name (type_variables_of s)) v.1)

        turned_names : (m n : Name) → name_eq m n ≡ false → name_eq n m ≡ false
        turned_names = turned name_eq name_eq-Decides

        turned_variables : (v w : Variable) → variable_eq v w ≡ false → variable_eq w v ≡ false
        turned_variables = turned variable_eq variable_eq-Decides
