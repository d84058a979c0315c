-- What a substitution makes of a premise, by the sequent that it makes: the images are told, and are among what the sequent has.
use Rattle.std.proofs.Common.{◌≡◌, ⊎_elim, ℕ, zero, suc, refl, sym, subst, inl, inr, List, [], ◌∷◌, map, Some, None, slice_get, unwrap_or}
use Rattle.std.specs.List.{AllByRecursion, flat_map}
use Rattle.std.specs.Map.{lookup}
use Rattle.std.proofs.lemmas.Option.{same_Some}
use Rattle.hol_spec.specs.Lists.{IsIn}
use Rattle.hol_spec.specs.NameEquality.{name_eq}
use Rattle.hol_laws.specs.NameEqualityLaws.{name_eq-Decides}
use Rattle.hol_spec.specs.Types.{HolType, HolTypes, variable, operator, none, more, variable_places, variable_places_of_all}
use Rattle.hol_spec.specs.Primitives.{function}
use Rattle.hol_spec.specs.Substitution.{TypePairs, image, substitute, substitute_all}
use Rattle.hol_spec.specs.Terms.{Term, free, bound, constant, app, lam, Variable, variable_eq, term_eq, HasType, type_under, type_variable_places, free_places}
use Rattle.hol_laws.specs.TermLaws.{variable_eq-Decides, term_eq-Decides}
use Rattle.hol_laws.specs.TermSubstitutionLaws.{type_under-term_image, application_type-is, abstraction_type-is}
use Rattle.hol_spec.specs.TermSubstitution.{TermPairs, term_image, sub, AreFitting}
use Rattle.hol_spec.specs.Sequents.{Sequent, terms_of, type_variables_of, free_variables_of}
use Rattle.hol_spec.specs.Proofs.{sequent_at}
use Rattle.hol_laws.specs.Members.{All-append, All-at, All-each, IsIn-left, IsIn-right, IsIn-either, IsIn-distinct, IsIn-distinct_of}
use Rattle.translate_laws.specs.BodyTyping.{IsIn-map}
use Rattle.lp_spec.specs.Modules.{Declaration}
use Rattle.translate_spec.specs.Scopes.{SymbolMap}
use Rattle.hol_term.specs.declared.Variable.{Variable as AVariable}
use Rattle.hol_term.specs.Subterms.{variables_of}
use Rattle.hol_rules.specs.declared.made.Substitution.{Substitution}
use Rattle.hol_rules.specs.Kept.{Kept}
use Rattle.translate_term.specs.Told.{TellsType, TellsTypes, TellsTerm}
use Rattle.translate_proof.specs.Environments.{Given, IsTold}
use Rattle.translate_proof.specs.Images.{type_pairs, term_pairs, variable_image, HasOwnVariable, IsSubstituted}
use Rattle.translate_proof.specs.Told.{TellsStep}
use Rattle.translate_proof.proofs.SequentLaws.{typed-closed}

module _ (d : List Declaration) (symbols : SymbolMap) where
  -- the type of a told term is told
  pub type-of-told : (binders : List HolType) → ((k : ℕ) (a : HolType) → slice_get binders k ≡ Some a → TellsType d symbols a) → (t : Term) (a : HolType)
      → TellsTerm d symbols t → type_under binders t ≡ Some a → TellsType d symbols a
  type-of-told binders b (free n t) a h e = subst (TellsType d symbols) (same_Some _ _ e) h
  type-of-told binders b (bound k) a h e = b k a e
  type-of-told binders b (constant n t) a h e = subst (TellsType d symbols) (same_Some _ _ e) h.ty
  type-of-told binders b (app f x) a h e =
      let p = application_type-is (type_under binders f) (type_under binders x) a e in
      (type-of-told binders b f (function p.0 a) h.0 p.1.0).1.1.0
  type-of-told binders b (lam t c) a h e =
      let p = abstraction_type-is t (type_under (t ∷ binders) c) a e in
      subst (TellsType d symbols) (sym p.1.1) (refl, (h.0, (type-of-told (t ∷ binders) (under t b h.0) c p.0 h.1 p.1.0, tt {0})))
    where
      under : (t : HolType) → ((k : ℕ) (a : HolType) → slice_get binders k ≡ Some a → TellsType d symbols a) → TellsType d symbols t → (k : ℕ) (a : HolType)
          → slice_get (t ∷ binders) k ≡ Some a → TellsType d symbols a
      under t b h zero a e = subst (TellsType d symbols) (same_Some _ _ e) h
      under t b h (suc k) a e = b k a e

  module _ (pairs : TypePairs) (terms : TermPairs) (fitting : AreFitting terms) where
    mutual
      -- where what types make of a type is told, so are the types that are put
      images-told : (t : HolType) → TellsType d symbols (substitute pairs t) → AllByRecursion (λ n. TellsType d symbols (image pairs n)) (variable_places t)
      images-told (variable n) h = (h, tt {0})
      images-told (operator n ts) h = all_images-told ts h.1

      all_images-told : (ts : HolTypes) → TellsTypes d symbols (substitute_all pairs ts)
          → AllByRecursion (λ n. TellsType d symbols (image pairs n)) (variable_places_of_all ts)
      all_images-told none h = tt
      all_images-told (more t ts) h = All-append _ (variable_places t) (variable_places_of_all ts) (images-told t h.0) (all_images-told ts h.1)

    image-typed : (v : Variable) → HasType (term_image terms v) v.1
    image-typed v = type_under-term_image [] terms v fitting

    -- where what a substitution makes of a term is told, so are the types and the terms that are put
    types-told : (t : Term) → TellsTerm d symbols (sub pairs terms t) → AllByRecursion (λ n. TellsType d symbols (image pairs n)) (type_variable_places t)
    types-told (free n t) h = images-told t
        (type-of-told [] (λ k a e. absurd (cc)) (term_image terms (n, substitute pairs t)) (substitute pairs t) h (image-typed (n, substitute pairs t)))
    types-told (bound k) h = tt
    types-told (constant n t) h = images-told t h.ty
    types-told (app f x) h = All-append _ (type_variable_places f) (type_variable_places x) (types-told f h.0) (types-told x h.1)
    types-told (lam t b) h = All-append _ (variable_places t) (type_variable_places b) (images-told t h.0) (types-told b h.1)

    terms-told : (t : Term) → TellsTerm d symbols (sub pairs terms t)
        → AllByRecursion (λ v. TellsTerm d symbols (term_image terms (v.0, substitute pairs v.1))) (free_places t)
    terms-told (free n t) h = (h, tt {0})
    terms-told (bound k) h = tt
    terms-told (constant n t) h = tt
    terms-told (app f x) h = All-append _ (free_places f) (free_places x) (terms-told f h.0) (terms-told x h.1)
    terms-told (lam t b) h = terms-told b h.1

    pub all_types-told : (ts : List Term) → AllByRecursion (λ t. TellsTerm d symbols (sub pairs terms t)) ts
        → AllByRecursion (λ n. TellsType d symbols (image pairs n)) (flat_map type_variable_places ts)
    all_types-told [] h = tt
    all_types-told (t ∷ ts) h = All-append _ (type_variable_places t) (flat_map type_variable_places ts) (types-told t h.0) (all_types-told ts h.1)

    pub all_terms-told : (ts : List Term) → AllByRecursion (λ t. TellsTerm d symbols (sub pairs terms t)) ts
        → AllByRecursion (λ v. TellsTerm d symbols (term_image terms (v.0, substitute pairs v.1))) (flat_map free_places ts)
    all_terms-told [] h = tt
    all_terms-told (t ∷ ts) h = All-append _ (free_places t) (flat_map free_places ts) (terms-told t h.0) (all_terms-told ts h.1)

-- what is in a part is in the whole
in-flat : {A B : Type 0} (f : A → List B) (xs : List A) (x : A) (y : B) → IsIn xs x → IsIn (f x) y → IsIn (flat_map f xs) y
in-flat f [] x y i j = absurd i
in-flat f (z ∷ zs) x y (inl e) j = IsIn-left (f z) (flat_map f zs) y (subst (λ w. IsIn (f w) y) e j)
in-flat f (z ∷ zs) x y (inr i) j = IsIn-right (f z) (flat_map f zs) y (in-flat f zs x y i j)

-- a variable that nothing is put for is free in what is made, with its type changed
free-sub : (pairs : TypePairs) (terms : TermPairs) (t : Term) (v : Variable) → lookup (variable_eq (v.0, substitute pairs v.1)) terms ≡ None
    → IsIn (free_places t) v → IsIn (free_places (sub pairs terms t)) (v.0, substitute pairs v.1)
free-sub pairs terms (free n t) v e (inl is) =
    subst (λ (w : Variable). IsIn (free_places (term_image terms (w.0, substitute pairs w.1))) (v.0, substitute pairs v.1)) is
    (subst (λ o. IsIn (free_places (unwrap_or o (free v.0 (substitute pairs v.1)))) (v.0, substitute pairs v.1)) (sym e) (inl refl))
free-sub pairs terms (free n t) v e (inr i) = absurd i
free-sub pairs terms (bound k) v e i = absurd i
free-sub pairs terms (constant n t) v e i = absurd i
free-sub pairs terms (app f x) v e i =
    ⊎_elim (λ l. IsIn-left (free_places (sub pairs terms f)) (free_places (sub pairs terms x)) (v.0, substitute pairs v.1) (free-sub pairs terms f v e l))
    (λ r. IsIn-right (free_places (sub pairs terms f)) (free_places (sub pairs terms x)) (v.0, substitute pairs v.1) (free-sub pairs terms x v e r))
    (IsIn-either (free_places f) (free_places x) v i)
free-sub pairs terms (lam t b) v e i = free-sub pairs terms b v e i

part-of : {A B : Type 0} (f : A → List B) (xs : List A) (y : B) → IsIn (flat_map f xs) y → (x : A) × IsIn xs x × IsIn (f x) y
part-of f [] y i = absurd i
part-of f (z ∷ zs) y i = ⊎_elim (λ l. (z, inl refl, l)) (λ r. let w = part-of f zs y r in (w.0, inr w.1, w.2)) (IsIn-either (f z) (flat_map f zs) y i)

-- a step by substitution
module _ (k : Kept) (put : Substitution) (id one : ℕ) (is : IsSubstituted k put id one) where
  abbrev made : Term → Term
  made t = sub (type_pairs k.trees put) (term_pairs k.trees put) t

  abbrev own : Sequent
  own = sequent_at k.made id

  abbrev premise : Sequent
  premise = sequent_at k.made one

  pub hypotheses-there : AllByRecursion (λ h. IsIn own.hypotheses (made h)) premise.hypotheses
  hypotheses-there = All-each _ premise.hypotheses
      (λ h i. subst (λ l. IsIn l (made h)) (sym is.hypotheses)
      (IsIn-distinct term_eq term_eq-Decides (map made premise.hypotheses) (made h) (IsIn-map made premise.hypotheses h i)))

  terms-there : AllByRecursion (λ t. IsIn (terms_of own) (made t)) (terms_of premise)
  terms-there =
      All-append _ premise.hypotheses (premise.conclusion ∷ [])
      (All-each _ premise.hypotheses (λ h i. IsIn-left own.hypotheses (own.conclusion ∷ []) (made h) (All-at _ premise.hypotheses h hypotheses-there i)))
      (IsIn-right own.hypotheses (own.conclusion ∷ []) (made premise.conclusion) (inl (sym is.conclusion)), tt {0})

  pub variables-there : (variables : List AVariable) → variables_of k.trees variables ≡ free_variables_of own
      → AllByRecursion (HasOwnVariable k.trees put variables) (free_variables_of premise)
  variables-there variables e =
      All-each _ (free_variables_of premise) (λ v i absent.
      let w = part-of free_places (terms_of premise) v (IsIn-distinct_of variable_eq variable_eq-Decides (flat_map free_places (terms_of premise)) v i) in
      let u : Variable = (v.0, substitute (type_pairs k.trees put) v.1) in
      subst (λ l. IsIn l u) (sym e)
      (IsIn-distinct variable_eq variable_eq-Decides (flat_map free_places (terms_of own)) u
      (in-flat free_places (terms_of own) (made w.0) u (All-at _ (terms_of premise) w.0 terms-there w.1)
      (free-sub (type_pairs k.trees put) (term_pairs k.trees put) w.0 v absent w.2))))

  module _ (given : Given) (told : TellsStep given k id) where
    all-told : AllByRecursion (λ t. TellsTerm given.declarations given.symbols (made t)) (terms_of premise)
    all-told =
        let whole = All-append (TellsTerm given.declarations given.symbols) own.hypotheses (own.conclusion ∷ []) told.hypotheses (told.conclusion, tt {0}) in
        All-each _ (terms_of premise)
        (λ t i. All-at (TellsTerm given.declarations given.symbols) (terms_of own) (made t) whole (All-at _ (terms_of premise) t terms-there i))

    pub names-told : AllByRecursion (λ n. TellsType given.declarations given.symbols (image (type_pairs k.trees put) n)) (type_variables_of premise)
    names-told =
        All-each _ (type_variables_of premise) (λ n i.
        All-at _ (flat_map type_variable_places (terms_of premise)) n
        (all_types-told given.declarations given.symbols (type_pairs k.trees put) (term_pairs k.trees put) is.fitting (terms_of premise) all-told)
        (IsIn-distinct_of name_eq name_eq-Decides (flat_map type_variable_places (terms_of premise)) n i))

    pub images-are-told : AllByRecursion (λ v. IsTold given (variable_image k.trees put v)) (free_variables_of premise)
    images-are-told =
        All-each _ (free_variables_of premise) (λ v i.
        record {
          told = All-at _ (flat_map free_places (terms_of premise)) v
              (all_terms-told given.declarations given.symbols (type_pairs k.trees put) (term_pairs k.trees put) is.fitting (terms_of premise) all-told)
              (IsIn-distinct_of variable_eq variable_eq-Decides (flat_map free_places (terms_of premise)) v i);
          closed = typed-closed (variable_image k.trees put v) (substitute (type_pairs k.trees put) v.1)
              (type_under-term_image [] (term_pairs k.trees put) (v.0, substitute (type_pairs k.trees put) v.1) is.fitting);
        })
