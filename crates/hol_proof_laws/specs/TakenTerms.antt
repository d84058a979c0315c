-- What a rule concludes is over the symbols over which its premises and its parameters are.
use Rattle.std.proofs.Common.{◌≡◌, ℕ, zero, suc, List, [], ◌∷◌, map, Bool, true, false, cond, Some, refl, sym, ap, subst, ◌∙◌}
use Rattle.std.specs.Prelude.{slice_get, nat_lt, nat_eq, ◌-◌}
use Rattle.std.specs.Option.{unwrap_or}
use Rattle.std.specs.Map.{lookup}
use Rattle.std.specs.List.{AllByRecursion}
use Rattle.std.proofs.lemmas.Option.{same_Some}
use Rattle.hol_spec.specs.Names.{Name}
use Rattle.hol_spec.specs.NameEquality.{name_eq}
use Rattle.hol_spec.specs.Types as type
use Rattle.hol_spec.specs.Types.{HolType, HolTypes, variable_places, variable_places_of_all, count}
use Rattle.hol_spec.specs.Primitives.{bool, function, generic, generic_variable, equality_type}
use Rattle.hol_spec.specs.Substitution.{TypePairs, substitute, substitute_all, Instance}
use Rattle.hol_spec.specs.Terms as term
use Rattle.hol_spec.specs.Terms.{Term, Variable, variable_eq, type_under, HasType, equation, term_eq}
use Rattle.hol_spec.specs.TermBinding.{lift_at, lift, put_at, close_at}
use Rattle.hol_spec.specs.TermSubstitution.{TermPairs, term_image, sub}
use Rattle.hol_laws.specs.TermSubstitutionLaws.{application_type-is, abstraction_type-is}
use Rattle.hol_spec.specs.Lists.{IsIn}
use Rattle.hol_laws.specs.Members.{All-each, All-left, All-right}
use Rattle.hol_laws.specs.GenericInstances.{filled_in, filled_in_all, lookup-told, Instance-substitute, count-substitute_all}
use Rattle.hol_spec.specs.Symbols.{Symbol}
use Rattle.hol_spec.specs.Taken.{OperatorTaken, ConstantTaken, TypeTaken, TypesTaken, TermTaken, TermsTaken}
use Rattle.hol_spec.specs.Taken as items

module _ (ps : List Symbol) where
  pub function-taken : (a b : HolType) → TypeTaken ps a → TypeTaken ps b → TypeTaken ps (function a b)
  function-taken a b ha hb = (items.OperatorTaken.of_arity refl, (ha, (hb, tt {0})))

  pub bool-taken : TypeTaken ps bool
  bool-taken = (items.OperatorTaken.of_arity refl, tt {0})

  -- the type of a term over what is taken is over it
  type-taken : (binders : List HolType) → ((k : ℕ) (a : HolType) → slice_get binders k ≡ Some a → TypeTaken ps a) → (t : Term) (a : HolType) → TermTaken ps t
      → type_under binders t ≡ Some a → TypeTaken ps a
  type-taken binders b (term.Term.free n t) a h e = subst (TypeTaken ps) (same_Some _ _ e) h
  type-taken binders b (term.Term.bound k) a h e = b k a e
  type-taken binders b (term.Term.constant n t) a h e = subst (TypeTaken ps) (same_Some _ _ e) h.1
  type-taken binders b (term.Term.app f x) a h e =
      let p = application_type-is (type_under binders f) (type_under binders x) a e in
      (type-taken binders b f (function p.0 a) h.0 p.1.0).1.1.0
  type-taken binders b (term.Term.lam t c) a h e =
      let p = abstraction_type-is t (type_under (t ∷ binders) c) a e in
      subst (TypeTaken ps) (sym p.1.1) (function-taken t p.0 h.0 (type-taken (t ∷ binders) (under t b h.0) c p.0 h.1 p.1.0))
    where
      under : (t : HolType) → ((k : ℕ) (a : HolType) → slice_get binders k ≡ Some a → TypeTaken ps a) → TypeTaken ps t → (k : ℕ) (a : HolType)
          → slice_get (t ∷ binders) k ≡ Some a → TypeTaken ps a
      under t b h zero a e = subst (TypeTaken ps) (same_Some _ _ e) h
      under t b h (suc k) a e = b k a e

  pub type_of-taken : (t : Term) (a : HolType) → TermTaken ps t → HasType t a → TypeTaken ps a
  type_of-taken t a h e = type-taken [] (λ k b e. absurd (cc)) t a h e

  pub equation-taken : (a : HolType) (x y : Term) → TypeTaken ps a → TermTaken ps x → TermTaken ps y → TermTaken ps (equation a x y)
  equation-taken a x y ha hx hy = (
    (
      (
        items.ConstantTaken.instance (equality_type generic) refl ((generic_variable, a) ∷ [], refl),
        function-taken a (function a bool) ha (function-taken a bool ha bool-taken),
      ),
      hx,
    ),
    hy,
  )

  pub record Sides (a : HolType) (x y : Term) : Type 0 where
    pub ty : TypeTaken ps a
    pub left : TermTaken ps x
    pub right : TermTaken ps y

  pub sides : (a : HolType) (x y : Term) (t : Term) → t ≡ equation a x y → TermTaken ps t → Sides a x y
  sides a x y t e h = let k : TermTaken ps (equation a x y) = subst (TermTaken ps) e h in record { ty = k.0.0.1.1.0; left = k.0.1; right = k.1 }

  cond-taken : (b : Bool) (x y : Term) → TermTaken ps x → TermTaken ps y → TermTaken ps (cond b x y)
  cond-taken true x y hx hy = hx
  cond-taken false x y hx hy = hy

  pub close-taken : (d : ℕ) (v : Variable) (t : Term) → TermTaken ps t → TermTaken ps (close_at d v t)
  close-taken d v (term.Term.free n t) h = cond-taken (variable_eq (n, t) v) (term.Term.bound d) (term.Term.free n t) (tt {0}) h
  close-taken d v (term.Term.bound k) h = tt
  close-taken d v (term.Term.constant n t) h = h
  close-taken d v (term.Term.app f x) h = (close-taken d v f h.0, close-taken d v x h.1)
  close-taken d v (term.Term.lam t b) h = (h.0, close-taken (suc d) v b h.1)

  lift-taken : (c k : ℕ) (t : Term) → TermTaken ps t → TermTaken ps (lift_at c k t)
  lift-taken c k (term.Term.free n t) h = h
  lift-taken c k (term.Term.bound j) h = tt
  lift-taken c k (term.Term.constant n t) h = h
  lift-taken c k (term.Term.app f x) h = (lift-taken c k f h.0, lift-taken c k x h.1)
  lift-taken c k (term.Term.lam t b) h = (h.0, lift-taken (suc c) k b h.1)

  pub put-taken : (d : ℕ) (u t : Term) → TermTaken ps u → TermTaken ps t → TermTaken ps (put_at d u t)
  put-taken d u (term.Term.free n t) hu h = h
  put-taken d u (term.Term.bound j) hu h =
      cond-taken (nat_lt j d) (term.Term.bound j) (cond (nat_eq j d) (lift d u) (term.Term.bound (j - 1))) (tt {0})
      (cond-taken (nat_eq j d) (lift d u) (term.Term.bound (j - 1)) (lift-taken 0 d u hu) (tt {0}))
  put-taken d u (term.Term.constant n t) hu h = h
  put-taken d u (term.Term.app f x) hu h = (put-taken d u f hu h.0, put-taken d u x hu h.1)
  put-taken d u (term.Term.lam t b) hu h = (h.0, put-taken (suc d) u b hu h.1)

-- an instance by a function is one by pairs
mutual
  pairs-filled_in : (f : Name → HolType) (ns : List Name) (t : HolType) → AllByRecursion (IsIn ns) (variable_places t) → substitute (map (λ n. (n, f n)) ns) t
      ≡ filled_in f t
  pairs-filled_in f ns (type.HolType.variable n) h = ap (λ o. unwrap_or o (type.HolType.variable n)) (lookup-told f ns n h.0)
  pairs-filled_in f ns (type.HolType.operator n ts) h = ap (type.HolType.operator n) (all_pairs-filled_in f ns ts h)

  all_pairs-filled_in : (f : Name → HolType) (ns : List Name) (ts : HolTypes) → AllByRecursion (IsIn ns) (variable_places_of_all ts)
      → substitute_all (map (λ n. (n, f n)) ns) ts ≡ filled_in_all f ts
  all_pairs-filled_in f ns type.HolTypes.none h = refl
  all_pairs-filled_in f ns (type.HolTypes.more t ts) h =
      λ i. type.HolTypes.more (pairs-filled_in f ns t (All-left (IsIn ns) (variable_places t) (variable_places_of_all ts) h) i)
      (all_pairs-filled_in f ns ts (All-right (IsIn ns) (variable_places t) (variable_places_of_all ts) h) i)

instance-substituted : (pairs : TypePairs) (g t : HolType) → Instance g t → Instance g (substitute pairs t)
instance-substituted pairs g t h =
    let w = Instance-substitute pairs g t h in
    (map (λ n. (n, w.0 n)) (variable_places g), pairs-filled_in w.0 (variable_places g) g (All-each _ (variable_places g) (λ n k. k)) ∙ sym w.1)

module _ (ps : List Symbol) (pairs : TypePairs) (terms : TermPairs) (types_taken : AllByRecursion (λ (p : Name × HolType). TypeTaken ps p.1) pairs)
    (terms_taken : AllByRecursion (λ (p : Variable × Term). TermTaken ps p.1) terms) where
  image-taken : (qs : TypePairs) (n : Name) → AllByRecursion (λ (p : Name × HolType). TypeTaken ps p.1) qs
      → TypeTaken ps (unwrap_or (lookup (name_eq n) qs) (type.HolType.variable n))
  image-taken [] n h = tt
  image-taken (q ∷ qs) n h = go (name_eq n q.0) (image-taken qs n h.1)
    where
      go : (b : Bool) → TypeTaken ps (unwrap_or (lookup (name_eq n) qs) (type.HolType.variable n))
          → TypeTaken ps (unwrap_or (cond b (Some q.1) (lookup (name_eq n) qs)) (type.HolType.variable n))
      go true k = h.0
      go false k = k

  mutual
    pub substitute-taken : (t : HolType) → TypeTaken ps t → TypeTaken ps (substitute pairs t)
    substitute-taken (type.HolType.variable n) h = image-taken pairs n types_taken
    substitute-taken (type.HolType.operator n ts) h = (subst (OperatorTaken ps n) (sym (count-substitute_all pairs ts)) h.0, substitute_all-taken ts h.1)

    substitute_all-taken : (ts : HolTypes) → TypesTaken ps ts → TypesTaken ps (substitute_all pairs ts)
    substitute_all-taken type.HolTypes.none h = tt
    substitute_all-taken (type.HolTypes.more t ts) h = (substitute-taken t h.0, substitute_all-taken ts h.1)

  constant-substituted : (n : Name) (t : HolType) → ConstantTaken ps n t → ConstantTaken ps n (substitute pairs t)
  constant-substituted n t (items.ConstantTaken.instance g e i) = items.ConstantTaken.instance g e (instance-substituted pairs g t i)
  constant-substituted n t (items.ConstantTaken.input h) = items.ConstantTaken.input h

  term_image-taken : (qs : TermPairs) (v : Variable) → TypeTaken ps v.1 → AllByRecursion (λ (p : Variable × Term). TermTaken ps p.1) qs
      → TermTaken ps (term_image qs v)
  term_image-taken [] v o h = o
  term_image-taken (q ∷ qs) v o h = go (variable_eq v q.0) (term_image-taken qs v o h.1)
    where
      go : (b : Bool) → TermTaken ps (term_image qs v) → TermTaken ps (unwrap_or (cond b (Some q.1) (lookup (variable_eq v) qs)) (term.Term.free v.0 v.1))
      go true k = h.0
      go false k = k

  pub sub-taken : (t : Term) → TermTaken ps t → TermTaken ps (sub pairs terms t)
  sub-taken (term.Term.free n t) h = term_image-taken terms (n, substitute pairs t) (substitute-taken t h) terms_taken
  sub-taken (term.Term.bound k) h = tt
  sub-taken (term.Term.constant n t) h = (constant-substituted n t h.0, substitute-taken t h.1)
  sub-taken (term.Term.app f x) h = (sub-taken f h.0, sub-taken x h.1)
  sub-taken (term.Term.lam t b) h = (substitute-taken t h.0, sub-taken b h.1)
