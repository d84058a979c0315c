-- Two sequents have one closed form exactly where a one-to-one renaming takes one to the other.
use Rattle.std.proofs.Common.{◌≡◌, ℕ, zero, suc, ◌<◌, List, [], ◌∷◌, map, length, get_or, Bool, true, false, cond, inl, inr, refl, sym, ap, subst, ◌∙◌, arith}
use Rattle.std.proofs.lemmas.List.{get_or-map}
use Rattle.std.specs.Bool.{Decides}
use Rattle.std.specs.List.{AllByRecursion, IsDistinct, flat_map, position_or_len}
use Rattle.std.proofs.Math.Path.{ap₂}
use Rattle.hol_spec.specs.Names.{Name}
use Rattle.hol_spec.specs.NameEquality.{name_eq}
use Rattle.hol_laws.specs.NameEqualityLaws.{name_eq-Decides}
use Rattle.hol_laws.specs.ListLaws.{distinct-IsDistinct}
use Rattle.hol_spec.specs.Types as type
use Rattle.hol_spec.specs.Types.{HolType, HolTypes, variable_places, variable_places_of_all}
use Rattle.hol_spec.specs.Terms as term
use Rattle.hol_spec.specs.Terms.{Term, Variable, variable_eq, type_variable_places, free_places}
use Rattle.hol_laws.specs.TermLaws.{variable_eq-Decides}
use Rattle.hol_spec.specs.Sequents.{Sequent, IsSequent, terms_of, type_variables_of, free_variables_of}
use Rattle.hol_spec.specs.Limits.{SequentWithin}
use Rattle.hol_spec.specs.ClosedForm.{ClosedType, ClosedTypes, ClosedTerm, ClosedSequent, close_type, close_types, close_term, closed_form}
use Rattle.hol_spec.specs.Lists.{IsIn}
use Rattle.hol_laws.specs.Members.{All-each, All-at, All-left, All-right, map-each, map-twice}
use Rattle.hol_spec.specs.Renamings.{renamed_type, renamed_types, renamed_variable, renamed, renamed_sequent, AreAlike, ClosedFormsAlike}
use Rattle.hol_laws.specs.RenamingLaws.{agree, length_map}
use Rattle.hol_laws.specs.RenamedSequents.{IsOver, type_variables-renamed, free_variables-renamed, IsSequent-renamed, SequentWithin-renamed, free_variables-known, hypotheses-IsOver, conclusion-IsOver}
use Rattle.hol_laws.specs.PositionLaws.{position-cons, turned, position-first, position-later, position-injective}

-- Places in lists.
get_or-IsIn : {A : Type 0} (xs : List A) (k : ℕ) (d : A) → k < length xs → IsIn xs (get_or xs k d)
get_or-IsIn [] k d l = absurd (omega (arith, l))
get_or-IsIn (x ∷ xs) zero d l = inl refl
get_or-IsIn (x ∷ xs) (suc k) d l = inr (get_or-IsIn xs k d (omega (arith, l)))

module _ {A : Type 0} (same : A → A → Bool) (decides : (x y : A) → Decides (same x y) (x ≡ y)) where
  position-within : (xs : List A) (x : A) → IsIn xs x → position_or_len (same x) xs < length xs
  position-within [] x k = absurd k
  position-within (y ∷ ys) x k = go (same x y) refl (decides x y) (λ i. position-within ys x i) k
    where
      go : (b : Bool) → same x y ≡ b → Decides (same x y) (x ≡ y) → (IsIn ys x → position_or_len (same x) ys < length ys) → IsIn (y ∷ ys) x
          → position_or_len (same x) (y ∷ ys) < length (y ∷ ys)
      go true e d later k = let p = position-cons (same x) y ys true e in omega (arith, p)
      go false e d later (inl is) = absurd (let yes = d.1 is in cc)
      go false e d later (inr i) = let p = position-cons (same x) y ys false e in let l = later i in omega (arith, p, l)

  -- at the place of an element is the element
  get_or-position : (xs : List A) (x d : A) → IsIn xs x → get_or xs (position_or_len (same x) xs) d ≡ x
  get_or-position [] x d k = absurd k
  get_or-position (y ∷ ys) x d k = go (same x y) refl (decides x y) (λ i. get_or-position ys x d i) k
    where
      go : (b : Bool) → same x y ≡ b → Decides (same x y) (x ≡ y) → (IsIn ys x → get_or ys (position_or_len (same x) ys) d ≡ x) → IsIn (y ∷ ys) x
          → get_or (y ∷ ys) (position_or_len (same x) (y ∷ ys)) d ≡ x
      go true e p later k = ap (λ n. get_or (y ∷ ys) n d) (position-cons (same x) y ys true e) ∙ sym (p.0 e)
      go false e p later (inl is) = absurd (let yes = p.1 is in cc)
      go false e p later (inr i) = ap (λ n. get_or (y ∷ ys) n d) (position-cons (same x) y ys false e) ∙ later i

  -- in a list without repeats the element at a place has that place
  position-get_or : (xs : List A) (k : ℕ) (d : A) → IsDistinct same xs → k < length xs → position_or_len (same (get_or xs k d)) xs ≡ k
  unfolding IsDistinct
  position-get_or [] k d h l = absurd (omega (arith, l))
  position-get_or (x ∷ xs) zero d h l = position-first same decides x xs
  position-get_or (x ∷ xs) (suc k) d h l =
      let m : k < length xs = omega (arith, l) in
      position-later same decides x (get_or xs k d) xs (All-at _ xs (get_or xs k d) h.0 (get_or-IsIn xs k d m)) ∙ ap suc (position-get_or xs k d h.1 m)

  -- so the places of two equal elements are equal
  get_or-injective : (xs : List A) (i j : ℕ) (d e : A) → IsDistinct same xs → i < length xs → j < length xs → get_or xs i d ≡ get_or xs j e → i ≡ j
  get_or-injective xs i j d e h l m p =
      sym (position-get_or xs i d h l) ∙ ap (λ x. position_or_len (same x) xs) p ∙ position-get_or xs j e h m

-- a map that is one to one on a list keeps the places
position-map : {A B : Type 0} (same : A → A → Bool) (eq : B → B → Bool) (f : A → B) (x : A) (xs : List A) → AllByRecursion (λ y. eq (f x) (f y) ≡ same x y) xs
    → position_or_len (eq (f x)) (map f xs) ≡ position_or_len (same x) xs
position-map same eq f x [] h = refl
position-map same eq f x (y ∷ ys) h = go (same x y) refl (position-map same eq f x ys h.1)
  where
    go : (b : Bool) → same x y ≡ b → position_or_len (eq (f x)) (map f ys) ≡ position_or_len (same x) ys
        → position_or_len (eq (f x)) (f y ∷ map f ys) ≡ position_or_len (same x) (y ∷ ys)
    go b e later = position-cons (eq (f x)) (f y) (map f ys) b (h.0 ∙ e) ∙ ap (λ k. cond b 0 (suc k)) later ∙ sym (position-cons (same x) y ys b e)

type_variables-distinct : (s : Sequent) → IsDistinct name_eq (type_variables_of s)
type_variables-distinct s = distinct-IsDistinct name_eq (λ m n e. turned name_eq name_eq-Decides m n e) (flat_map type_variable_places (terms_of s))

free_variables-distinct : (s : Sequent) → IsDistinct variable_eq (free_variables_of s)
free_variables-distinct s = distinct-IsDistinct variable_eq (λ v w e. turned variable_eq variable_eq-Decides v w e) (flat_map free_places (terms_of s))

-- A renaming keeps the closed form.
module _ (r : Name → Name) (ns : List Name) (one : (m n : Name) → IsIn ns m → IsIn ns n → r m ≡ r n → m ≡ n) where
  mutual
    close_type-renamed : (t : HolType) → AllByRecursion (IsIn ns) (variable_places t) → close_type (map r ns) (renamed_type r t) ≡ close_type ns t
    close_type-renamed (type.HolType.variable n) h =
        ap ClosedType.parameter
        (position-map name_eq name_eq r n ns (All-each _ ns (λ m k. agree name_eq name_eq name_eq-Decides name_eq-Decides r n m (one n m h.0 k))))
    close_type-renamed (type.HolType.operator n ts) h = ap (ClosedType.operator n) (close_types-renamed ts h)

    close_types-renamed : (ts : HolTypes) → AllByRecursion (IsIn ns) (variable_places_of_all ts)
        → close_types (map r ns) (renamed_types r ts) ≡ close_types ns ts
    close_types-renamed type.HolTypes.none h = refl
    close_types-renamed (type.HolTypes.more t ts) h =
        ap₂ ClosedTypes.more (close_type-renamed t (All-left _ (variable_places t) (variable_places_of_all ts) h))
        (close_types-renamed ts (All-right _ (variable_places t) (variable_places_of_all ts) h))

  module _ (q : Variable → Name) (vs : List Variable)
      (other : (v w : Variable) → IsIn vs v → IsIn vs w → renamed_variable r q v ≡ renamed_variable r q w → v ≡ w) where
    close_term-renamed : (t : Term) → AllByRecursion (IsIn ns) (type_variable_places t) → AllByRecursion (IsIn vs) (free_places t)
        → close_term (map r ns) (map (renamed_variable r q) vs) (renamed r q t) ≡ close_term ns vs t
    close_term-renamed (term.Term.free n t) h k =
        ap ClosedTerm.parameter (position-map variable_eq variable_eq (renamed_variable r q) (n, t) vs
        (All-each _ vs (λ w i. agree variable_eq variable_eq variable_eq-Decides variable_eq-Decides (renamed_variable r q) (n, t) w (other (n, t) w k.0 i))))
    close_term-renamed (term.Term.bound i) h k = refl
    close_term-renamed (term.Term.constant n t) h k = ap (ClosedTerm.constant n) (close_type-renamed t h)
    close_term-renamed (term.Term.app f x) h k =
        ap₂ ClosedTerm.app
        (close_term-renamed f (All-left _ (type_variable_places f) (type_variable_places x) h) (All-left _ (free_places f) (free_places x) k))
        (close_term-renamed x (All-right _ (type_variable_places f) (type_variable_places x) h) (All-right _ (free_places f) (free_places x) k))
    close_term-renamed (term.Term.lam t b) h k =
        ap₂ ClosedTerm.lam (close_type-renamed t (All-left _ (variable_places t) (type_variable_places b) h))
        (close_term-renamed b (All-right _ (variable_places t) (type_variable_places b) h) k)

module _ (r : Name → Name) (q : Variable → Name) (s : Sequent)
    (one : (m n : Name) → IsIn (type_variables_of s) m → IsIn (type_variables_of s) n → r m ≡ r n → m ≡ n)
    (other : (v w : Variable) → IsIn (free_variables_of s) v → IsIn (free_variables_of s) w → renamed_variable r q v ≡ renamed_variable r q w → v ≡ w) where
  -- the closed form over given lists of parameters
  abbrev closed_over : List Name → List Variable → Sequent → ClosedSequent
  closed_over ns vs t = record {
    type_variable_count = length ns;
    free_variable_types = map (λ v. close_type ns v.1) vs;
    hypotheses = map (close_term ns vs) t.hypotheses;
    conclusion = close_term ns vs t.conclusion;
  }

  pub closed_form-renamed : closed_form (renamed_sequent r q s) ≡ closed_form s
  closed_form-renamed =
      let ns = type_variables_of s in
      let vs = free_variables_of s in
      let count : length (map r ns) ≡ length ns = length_map r ns in
      let types : map (λ v. close_type (map r ns) v.1) (map (renamed_variable r q) vs) ≡ map (λ v. close_type ns v.1) vs =
      map-twice _ (renamed_variable r q) vs ∙ map-each _ _ vs
      (All-each _ vs (λ v i. close_type-renamed r ns one v.1 (All-at _ vs v (free_variables-known s) i))) in
      let term : (u : Term) → IsOver ns vs u → close_term (map r ns) (map (renamed_variable r q) vs) (renamed r q u) ≡ close_term ns vs u =
      λ u o. close_term-renamed r ns one q vs other u o.types o.terms in
      let hypotheses : map (close_term (map r ns) (map (renamed_variable r q) vs)) (map (renamed r q) s.hypotheses) ≡ map (close_term ns vs) s.hypotheses =
      map-twice _ (renamed r q) s.hypotheses ∙ map-each _ _ s.hypotheses
      (All-each _ s.hypotheses (λ h i. term h (All-at _ s.hypotheses h (hypotheses-IsOver s) i))) in
      let conclusion = term s.conclusion (conclusion-IsOver s) in
      (λ i. closed_over (type_variables-renamed r q s one other i) (free_variables-renamed r q s one other i) (renamed_sequent r q s))
      ∙ (λ i. record { type_variable_count = count i; free_variable_types = types i; hypotheses = hypotheses i; conclusion = conclusion i })

pub alike-closed : (s t : Sequent) → AreAlike s t → closed_form s ≡ closed_form t
alike-closed s t a =
    let is = a.is_renaming in
    sym (closed_form-renamed a.type_names a.names s is.type_variables_apart is.free_variables_apart) ∙ ap closed_form is.takes

-- Where the closed forms are one, each parameter of the first sequent takes the name of that of the second with its number.
module _ (ns ns' : List Name) where
  abbrev name_of : Name → Name
  name_of n = get_or ns' (position_or_len (name_eq n) ns) n

  mutual
    type-taken : (t u : HolType) → AllByRecursion (IsIn ns') (variable_places u) → close_type ns t ≡ close_type ns' u → renamed_type name_of t ≡ u
    type-taken (type.HolType.variable m) (type.HolType.variable n) h e =
        let f : position_or_len (name_eq m) ns ≡ position_or_len (name_eq n) ns' = cc in
        ap type.HolType.variable (ap (λ k. get_or ns' k m) f ∙ get_or-position name_eq name_eq-Decides ns' n m h.0)
    type-taken (type.HolType.variable m) (type.HolType.operator n us) h e = absurd (cc)
    type-taken (type.HolType.operator m ts) (type.HolType.variable n) h e = absurd (cc)
    type-taken (type.HolType.operator m ts) (type.HolType.operator n us) h e =
        let f : m ≡ n = cc in
        let g : close_types ns ts ≡ close_types ns' us = cc in
        ap₂ type.HolType.operator f (types-taken ts us h g)

    types-taken : (ts us : HolTypes) → AllByRecursion (IsIn ns') (variable_places_of_all us) → close_types ns ts ≡ close_types ns' us
        → renamed_types name_of ts ≡ us
    types-taken type.HolTypes.none type.HolTypes.none h e = refl
    types-taken type.HolTypes.none (type.HolTypes.more u us) h e = absurd (cc)
    types-taken (type.HolTypes.more t ts) type.HolTypes.none h e = absurd (cc)
    types-taken (type.HolTypes.more t ts) (type.HolTypes.more u us) h e =
        let f : close_type ns t ≡ close_type ns' u = cc in
        let g : close_types ns ts ≡ close_types ns' us = cc in
        ap₂ type.HolTypes.more (type-taken t u (All-left _ (variable_places u) (variable_places_of_all us) h) f)
        (types-taken ts us (All-right _ (variable_places u) (variable_places_of_all us) h) g)

  -- one to one
  name_of-apart : length ns ≡ length ns' → IsDistinct name_eq ns' → (m n : Name) → IsIn ns m → IsIn ns n → name_of m ≡ name_of n → m ≡ n
  name_of-apart count d m n h k e =
      let a = position-within name_eq name_eq-Decides ns m h in
      let b = position-within name_eq name_eq-Decides ns n k in
      position-injective name_eq name_eq-Decides ns m n h k
      (get_or-injective name_eq name_eq-Decides ns' (position_or_len (name_eq m) ns) (position_or_len (name_eq n) ns) m n d (omega (arith, a, count))
      (omega (arith, b, count)) e)

  module _ (vs vs' : List Variable) (known : AllByRecursion (λ v. AllByRecursion (IsIn ns') (variable_places v.1)) vs')
      (types : map (λ (v : Variable). close_type ns v.1) vs ≡ map (λ (v : Variable). close_type ns' v.1) vs') where
    abbrev variable_at : Variable → Variable
    variable_at v = get_or vs' (position_or_len (variable_eq v) vs) v

    abbrev variable_name : Variable → Name
    variable_name v = (variable_at v).0

    as_many : length vs ≡ length vs'
    as_many = sym (length_map (λ (v : Variable). close_type ns v.1) vs) ∙ ap length types ∙ length_map (λ (v : Variable). close_type ns' v.1) vs'

    variable_at-type : (v : Variable) → IsIn vs v → close_type ns v.1 ≡ close_type ns' (variable_at v).1
    variable_at-type v i =
        let k = position_or_len (variable_eq v) vs in
        let l : k < length vs = position-within variable_eq variable_eq-Decides vs v i in
        let m : k < length vs' = let c = as_many in omega (arith, l, c) in
        let e = ClosedType.parameter 0 in
        ap (λ (w : Variable). close_type ns w.1) (sym (get_or-position variable_eq variable_eq-Decides vs v v i))
        ∙ sym (get_or-map (λ (w : Variable). close_type ns w.1) vs k v e l)
        ∙ ap (λ ts. get_or ts k e) types
        ∙ get_or-map (λ (w : Variable). close_type ns' w.1) vs' k v e m

    variable_at-IsIn : (v : Variable) → IsIn vs v → IsIn vs' (variable_at v)
    variable_at-IsIn v i =
        let l = position-within variable_eq variable_eq-Decides vs v i in
        let c = as_many in
        get_or-IsIn vs' (position_or_len (variable_eq v) vs) v (omega (arith, l, c))

    -- a variable becomes the one with its number
    variable-taken : (v : Variable) → IsIn vs v → renamed_variable name_of variable_name v ≡ variable_at v
    variable-taken v i =
        let t : renamed_type name_of v.1 ≡ (variable_at v).1 =
        type-taken v.1 (variable_at v).1 (All-at _ vs' (variable_at v) known (variable_at-IsIn v i)) (variable_at-type v i) in
        λ j. ((variable_at v).0, t j)

    variables-apart : IsDistinct variable_eq vs' → (v w : Variable) → IsIn vs v → IsIn vs w
        → renamed_variable name_of variable_name v ≡ renamed_variable name_of variable_name w → v ≡ w
    variables-apart d v w h k e =
        let a = position-within variable_eq variable_eq-Decides vs v h in
        let b = position-within variable_eq variable_eq-Decides vs w k in
        let c = as_many in
        position-injective variable_eq variable_eq-Decides vs v w h k
        (get_or-injective variable_eq variable_eq-Decides vs' (position_or_len (variable_eq v) vs) (position_or_len (variable_eq w) vs) v w d
        (omega (arith, a, c)) (omega (arith, b, c))
        (sym (variable-taken v h) ∙ e ∙ variable-taken w k))

    term-taken : (t u : Term) → AllByRecursion (IsIn vs) (free_places t) → AllByRecursion (IsIn ns') (type_variable_places u)
        → AllByRecursion (IsIn vs') (free_places u)
        → close_term ns vs t ≡ close_term ns' vs' u → renamed name_of variable_name t ≡ u
    term-taken (term.Term.free m t) (term.Term.free n u) o h k e =
        let f : position_or_len (variable_eq (m, t)) vs ≡ position_or_len (variable_eq (n, u)) vs' = cc in
        ap (λ (v : Variable). term.Term.free v.0 v.1)
        (variable-taken (m, t) o.0 ∙ ap (λ p. get_or vs' p (m, t)) f ∙ get_or-position variable_eq variable_eq-Decides vs' (n, u) (m, t) k.0)
    term-taken (term.Term.bound i) (term.Term.bound j) o h k e = cc
    term-taken (term.Term.constant m t) (term.Term.constant n u) o h k e =
        let a : m ≡ n = cc in
        let b : close_type ns t ≡ close_type ns' u = cc in
        ap₂ term.Term.constant a (type-taken t u h b)
    term-taken (term.Term.app t x) (term.Term.app u y) o h k e =
        let a : close_term ns vs t ≡ close_term ns' vs' u = cc in
        let b : close_term ns vs x ≡ close_term ns' vs' y = cc in
        ap₂ term.Term.app
        (term-taken t u (All-left _ (free_places t) (free_places x) o) (All-left _ (type_variable_places u) (type_variable_places y) h)
        (All-left _ (free_places u) (free_places y) k) a)
        (term-taken x y (All-right _ (free_places t) (free_places x) o) (All-right _ (type_variable_places u) (type_variable_places y) h)
        (All-right _ (free_places u) (free_places y) k) b)
    term-taken (term.Term.lam t x) (term.Term.lam u y) o h k e =
        let a : close_type ns t ≡ close_type ns' u = cc in
        let b : close_term ns vs x ≡ close_term ns' vs' y = cc in
        ap₂ term.Term.lam (type-taken t u (All-left _ (variable_places u) (type_variable_places y) h) a)
        (term-taken x y o (All-right _ (variable_places u) (type_variable_places y) h) k b)
    term-taken t u o h k e = absurd (cc)

    terms-taken_in_order : (ts us : List Term) → AllByRecursion (IsOver ns vs) ts → AllByRecursion (IsOver ns' vs') us
        → map (close_term ns vs) ts ≡ map (close_term ns' vs') us → map (renamed name_of variable_name) ts ≡ us
    terms-taken_in_order [] [] o p e = refl
    terms-taken_in_order [] (u ∷ us) o p e = absurd (cc)
    terms-taken_in_order (t ∷ ts) [] o p e = absurd (cc)
    terms-taken_in_order (t ∷ ts) (u ∷ us) o p e =
        let a : close_term ns vs t ≡ close_term ns' vs' u = cc in
        let b : map (close_term ns vs) ts ≡ map (close_term ns' vs') us = cc in
        ap₂ (λ x l. x ∷ l) (term-taken t u o.0.terms p.0.types p.0.terms a) (terms-taken_in_order ts us o.1 p.1 b)

pub closed-alike : (s t : Sequent) → closed_form s ≡ closed_form t → AreAlike s t
closed-alike s t e =
    let ns = type_variables_of s in
    let ns' = type_variables_of t in
    let vs = free_variables_of s in
    let vs' = free_variables_of t in
    let known = free_variables-known t in
    let count : length ns ≡ length ns' = ap (λ (c : ClosedSequent). c.type_variable_count) e in
    let types : map (λ (v : Variable). close_type ns v.1) vs ≡ map (λ (v : Variable). close_type ns' v.1) vs' =
    ap (λ (c : ClosedSequent). c.free_variable_types) e in
    let hypotheses = terms-taken_in_order ns ns' vs vs' known types s.hypotheses t.hypotheses (hypotheses-IsOver s) (hypotheses-IsOver t)
    (ap (λ (c : ClosedSequent). c.hypotheses) e) in
    let over = conclusion-IsOver t in
    let conclusion = term-taken ns ns' vs vs' known types s.conclusion t.conclusion (conclusion-IsOver s).terms over.types over.terms
    (ap (λ (c : ClosedSequent). c.conclusion) e) in
    record {
      type_names = name_of ns ns';
      names = variable_name ns ns' vs vs' known types;
      is_renaming = record {
        type_variables_apart = name_of-apart ns ns' count (type_variables-distinct t);
        free_variables_apart = variables-apart ns ns' vs vs' known types (free_variables-distinct t);
        takes = λ i. record { hypotheses = hypotheses i; conclusion = conclusion i };
      };
    }

pub closed_forms_alike : ClosedFormsAlike
closed_forms_alike s t = (closed-alike s t, alike-closed s t)

-- So to be alike is to be so both ways and through a third.
pub AreAlike-itself : (s : Sequent) → AreAlike s s
AreAlike-itself s = closed-alike s s refl

pub AreAlike-turned : (s t : Sequent) → AreAlike s t → AreAlike t s
AreAlike-turned s t a = closed-alike t s (sym (alike-closed s t a))

pub AreAlike-through : (s t u : Sequent) → AreAlike s t → AreAlike t u → AreAlike s u
AreAlike-through s t u a b = closed-alike s u (alike-closed s t a ∙ alike-closed t u b)

-- What is alike to a sequent is one, within the same limits.
pub AreAlike-IsSequent : (s t : Sequent) → AreAlike s t → IsSequent s → IsSequent t
AreAlike-IsSequent s t a is =
    let by = a.is_renaming in
    subst IsSequent by.takes (IsSequent-renamed a.type_names a.names s by.type_variables_apart by.free_variables_apart is)

pub AreAlike-SequentWithin : (s t : Sequent) → AreAlike s t → SequentWithin s → SequentWithin t
AreAlike-SequentWithin s t a within =
    let by = a.is_renaming in
    subst SequentWithin by.takes (SequentWithin-renamed a.type_names a.names s by.type_variables_apart by.free_variables_apart within)
