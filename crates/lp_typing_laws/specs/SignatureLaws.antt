-- The signature is typed as far as it has types: each declared type has a sort.
use Rattle.std.proofs.Common.{◌≡◌, refl, subst, ℕ, List, [], ◌∷◌, Some, None}
use Rattle.std.specs.List.{AllByRecursion}
use Rattle.lp_binding_laws.specs.LookUps.{option_map-some, option_and_then-some, AllByRecursion-slice_get}
use Rattle.lp_spec.specs.CalculusLaws.{SignatureTyped}
use Rattle.lp_spec.specs.Trees.{Tree, SortType, SortKind, Var, Sym, App, loose}
use Rattle.lp_spec.specs.Modules.{Declaration, signature, symbol_declaration, symbol_type, types, arr_of, arr_type, term_type, eq_type, select_type, proof_type, refl_type, fun_ext_type, app_thm_type, prop_ext_type, eq_mp_type, two_functions, products, applied, term_of, bools, proof_of, sub_symbol, sub_abs_symbol, sub_rep_symbol, part_domains, part_arguments, part_arguments_inside, sub_type, sub_abs_type, sub_rep_type, sub_abs_rep_type, sub_rep_abs_type}
use Rattle.lp_typing_laws.specs.ConversionLaws.{IsClosed}
use Rattle.lp_spec.specs.Typing.{is_type, is_kind, Typed, of_type, of_variable, of_symbol, of_product, of_application, IsSorted, IsBodyOf}
use Rattle.lp_spec.specs.Conversion.{definition_of, symbol_definition}
use Rattle.lp_typing_laws.specs.Soundness.{IsSoundDeclaration, IsSound, symbol_type-sorted}
use Rattle.lp_typing_laws.specs.SignatureForms.{Typed-types, Typed-bools, Typed-arr_of, Typed-term_of, Typed-proof_of, Typed-apply, Typed-eq_of}

module _ (m : List Declaration) (closed : IsClosed m) where
  -- what has the sort Type has a sort
  type_sorted : {t : Tree} → Typed m [] t SortType → IsSorted m [] t
  type_sorted h = record { sort = SortType; is = is_type; by = h }

  -- what has the sort Kind has a sort
  kind_sorted : {t : Tree} → Typed m [] t SortKind → IsSorted m [] t
  kind_sorted h = record { sort = SortKind; is = is_kind; by = h }

  -- the type of arr
  arr_typed : Typed m [] arr_type SortType
  arr_typed = of_product (Typed-types m) (of_product (Typed-types m) (Typed-types m) is_type) is_type

  -- the type of term
  term_typed : Typed m [] term_type SortKind
  term_typed = of_product (Typed-types m) of_type is_kind

  -- the type of eq
  eq_typed : Typed m [] eq_type SortType
  eq_typed = of_product (Typed-types m) (Typed-term_of m (Typed-arr_of m (of_variable refl refl) (Typed-arr_of m (of_variable refl refl) (Typed-bools m))))
      is_type

  -- the type of select
  select_typed : Typed m [] select_type SortType
  select_typed = of_product (Typed-types m) (Typed-term_of m (Typed-arr_of m (Typed-arr_of m (of_variable refl refl) (Typed-bools m)) (of_variable refl refl)))
      is_type

  -- the type of proof
  proof_typed : Typed m [] proof_type SortKind
  proof_typed = of_product (Typed-term_of m (Typed-bools m)) of_type is_kind

  -- the type of refl
  refl_typed : Typed m [] refl_type SortType
  refl_typed =
      of_product (Typed-types m)
      (of_product (Typed-term_of m (of_variable refl refl))
      (Typed-proof_of m (Typed-eq_of m closed (of_variable refl refl) (of_variable refl refl) (of_variable refl refl))) is_type) is_type

  -- a product over a, b and two functions from a to b
  over_functions : {t : Tree} → Typed m (term_of (arr_of (Var 2) (Var 1)) ∷ term_of (arr_of (Var 1) (Var 0)) ∷ types ∷ types ∷ []) t SortType
      → Typed m [] (products two_functions t) SortType
  over_functions h =
      of_product (Typed-types m) (of_product (Typed-types m)
      (of_product (Typed-term_of m (Typed-arr_of m (of_variable refl refl) (of_variable refl refl)))
      (of_product (Typed-term_of m (Typed-arr_of m (of_variable refl refl) (of_variable refl refl))) h is_type) is_type) is_type) is_type

  -- the type of fun_ext
  fun_ext_typed : Typed m [] fun_ext_type SortType
  fun_ext_typed =
      over_functions (of_product
      (of_product (Typed-term_of m (of_variable refl refl))
      (Typed-proof_of m (Typed-eq_of m closed (of_variable refl refl)
      (Typed-apply m closed (Var 4) (Var 3) (of_variable refl refl) (of_variable refl refl) (of_variable refl refl) (of_variable refl refl))
      (Typed-apply m closed (Var 4) (Var 3) (of_variable refl refl) (of_variable refl refl) (of_variable refl refl) (of_variable refl refl)))) is_type)
      (Typed-proof_of m (Typed-eq_of m closed (Typed-arr_of m (of_variable refl refl) (of_variable refl refl)) (of_variable refl refl) (of_variable refl refl)))
      is_type)

  -- the type of app_thm
  app_thm_typed : Typed m [] app_thm_type SortType
  app_thm_typed =
      over_functions
      (of_product (Typed-term_of m (of_variable refl refl)) (of_product (Typed-term_of m (of_variable refl refl))
      (of_product (Typed-proof_of m
      (Typed-eq_of m closed (Typed-arr_of m (of_variable refl refl) (of_variable refl refl)) (of_variable refl refl) (of_variable refl refl)))
      (of_product (Typed-proof_of m (Typed-eq_of m closed (of_variable refl refl) (of_variable refl refl) (of_variable refl refl)))
      (Typed-proof_of m (Typed-eq_of m closed (of_variable refl refl)
      (Typed-apply m closed (Var 7) (Var 6) (of_variable refl refl) (of_variable refl refl) (of_variable refl refl) (of_variable refl refl))
      (Typed-apply m closed (Var 7) (Var 6) (of_variable refl refl) (of_variable refl refl) (of_variable refl refl) (of_variable refl refl))))
      is_type) is_type) is_type) is_type)

  -- the type of prop_ext
  prop_ext_typed : Typed m [] prop_ext_type SortType
  prop_ext_typed =
      of_product (Typed-term_of m (Typed-bools m)) (of_product (Typed-term_of m (Typed-bools m))
      (of_product (of_product (Typed-proof_of m (of_variable refl refl)) (Typed-proof_of m (of_variable refl refl)) is_type)
      (of_product (of_product (Typed-proof_of m (of_variable refl refl)) (Typed-proof_of m (of_variable refl refl)) is_type)
      (Typed-proof_of m (Typed-eq_of m closed (Typed-bools m) (of_variable refl refl) (of_variable refl refl))) is_type) is_type) is_type) is_type

  -- the type of eq_mp
  eq_mp_typed : Typed m [] eq_mp_type SortType
  eq_mp_typed =
      of_product (Typed-term_of m (Typed-bools m)) (of_product (Typed-term_of m (Typed-bools m))
      (of_product (Typed-proof_of m (Typed-eq_of m closed (Typed-bools m) (of_variable refl refl) (of_variable refl refl)))
      (of_product (Typed-proof_of m (of_variable refl refl)) (Typed-proof_of m (of_variable refl refl)) is_type) is_type) is_type) is_type

  -- a product over a type, a predicate on it, a term of it and a proof that the predicate holds of the term
  abbrev part : List Tree
  part = proof_of (App (Var 1) (Var 0)) ∷ term_of (Var 1) ∷ term_of (arr_of (Var 0) bools) ∷ types ∷ []

  over_part : {t : Tree} → Typed m part t SortType → Typed m [] (products part_domains t) SortType
  over_part h =
      of_product (Typed-types m)
      (of_product (Typed-term_of m (Typed-arr_of m (of_variable refl refl) (Typed-bools m)))
      (of_product (Typed-term_of m (of_variable refl refl))
      (of_product (Typed-proof_of m
      (Typed-apply m closed (Var 2) bools (of_variable refl refl) (Typed-bools m) (of_variable refl refl) (of_variable refl refl)))
      h is_type) is_type) is_type) is_type

  -- `sub` at a type, a predicate, a term and a proof
  sub_at : Typed m part (applied (Sym sub_symbol) part_arguments) types
  sub_at = of_application
      (of_application (of_application (of_application (of_symbol refl) (of_variable refl refl) refl) (of_variable refl refl) refl) (of_variable refl refl) refl)
      (of_variable refl refl) refl

  -- these, under a further entry
  module _ {A : Tree} where
    sub_inside : Typed m (A ∷ part) (applied (Sym sub_symbol) part_arguments_inside) types
    sub_inside = of_application
        (of_application (of_application (of_application (of_symbol refl) (of_variable refl refl) refl) (of_variable refl refl) refl) (of_variable refl refl)
        refl) (of_variable refl refl) refl

    abs_inside : {x : Tree} → Typed m (A ∷ part) x (term_of (Var 4))
        → Typed m (A ∷ part) (App (applied (Sym sub_abs_symbol) part_arguments_inside) x) (term_of (applied (Sym sub_symbol) part_arguments_inside))
    abs_inside h =
        Typed-apply m closed (Var 4) (applied (Sym sub_symbol) part_arguments_inside) (of_variable refl refl) sub_inside
        (of_application
        (of_application (of_application (of_application (of_symbol refl) (of_variable refl refl) refl) (of_variable refl refl) refl) (of_variable refl refl)
        refl) (of_variable refl refl) refl) h

    rep_inside : {x : Tree} → Typed m (A ∷ part) x (term_of (applied (Sym sub_symbol) part_arguments_inside))
        → Typed m (A ∷ part) (App (applied (Sym sub_rep_symbol) part_arguments_inside) x) (term_of (Var 4))
    rep_inside h =
        Typed-apply m closed (applied (Sym sub_symbol) part_arguments_inside) (Var 4) sub_inside (of_variable refl refl)
        (of_application
        (of_application (of_application (of_application (of_symbol refl) (of_variable refl refl) refl) (of_variable refl refl) refl) (of_variable refl refl)
        refl) (of_variable refl refl) refl) h

  -- the types of the five symbols of parts
  sub_typed : Typed m [] sub_type SortType
  sub_typed = over_part (Typed-types m)

  sub_abs_typed : Typed m [] sub_abs_type SortType
  sub_abs_typed = over_part (Typed-term_of m (Typed-arr_of m (of_variable refl refl) sub_at))

  sub_rep_typed : Typed m [] sub_rep_type SortType
  sub_rep_typed = over_part (Typed-term_of m (Typed-arr_of m sub_at (of_variable refl refl)))

  sub_abs_rep_typed : Typed m [] sub_abs_rep_type SortType
  sub_abs_rep_typed =
      over_part (of_product (Typed-term_of m sub_at)
      (Typed-proof_of m (Typed-eq_of m closed sub_inside (abs_inside (rep_inside (of_variable refl refl))) (of_variable refl refl))) is_type)

  sub_rep_abs_typed : Typed m [] sub_rep_abs_type SortType
  sub_rep_abs_typed =
      over_part (of_product (Typed-term_of m (of_variable refl refl))
      (Typed-proof_of m (Typed-eq_of m closed (Typed-bools m)
      (Typed-eq_of m closed (of_variable refl refl) (rep_inside (abs_inside (of_variable refl refl))) (of_variable refl refl))
      (Typed-apply m closed (Var 4) bools (of_variable refl refl) (Typed-bools m) (of_variable refl refl) (of_variable refl refl)))) is_type)

  -- each declared type of the signature has a sort, over every closed module
  types_sorted : AllByRecursion (λ (d : Declaration). IsSorted m [] d.ty) signature
  types_sorted = (
    kind_sorted of_type,
    (
      type_sorted (Typed-types m),
      (
        type_sorted (Typed-types m),
        (
          type_sorted arr_typed,
          (
            kind_sorted term_typed,
            (
              type_sorted eq_typed,
              (
                type_sorted select_typed,
                (
                  kind_sorted proof_typed,
                  (
                    type_sorted refl_typed,
                    (
                      type_sorted fun_ext_typed,
                      (
                        type_sorted app_thm_typed,
                        (
                          type_sorted prop_ext_typed,
                          (
                            type_sorted eq_mp_typed,
                            (
                              type_sorted sub_typed,
                              (
                                type_sorted sub_abs_typed,
                                (type_sorted sub_rep_typed, (type_sorted sub_abs_rep_typed, (type_sorted sub_rep_abs_typed, tt {0}))),
                              ),
                            ),
                          ),
                        ),
                      ),
                    ),
                  ),
                ),
              ),
            ),
          ),
        ),
      ),
    ),
  )

-- each declared type of the signature is closed
types_closed : AllByRecursion (λ (d : Declaration). loose d.ty ≡ 0) signature
types_closed = (
  refl,
  (refl, (refl, (refl, (refl, (refl, (refl, (refl, (refl, (refl, (refl, (refl, (refl, (refl, (refl, (refl, (refl, (refl, tt {0}))))))))))))))))),
)

-- no symbol of the signature has a body
bodies_absent : AllByRecursion (λ (d : Declaration). IsBodyOf [] d.form d.body d.ty) signature
bodies_absent = (
  refl,
  (refl, (refl, (refl, (refl, (refl, (refl, (refl, (refl, (refl, (refl, (refl, (refl, (refl, (refl, (refl, (refl, (refl, tt {0}))))))))))))))))),
)

-- no symbol of the signature stands for a body
definitions_absent : AllByRecursion (λ (d : Declaration). definition_of d.form d.body ≡ None) signature
definitions_absent =
    (refl, (refl, (refl, (refl, (refl, (refl, (refl, (refl, (refl, (refl, (refl, (refl, (refl, (refl, (refl, (refl, (refl, (refl, tt {0}))))))))))))))))))

-- the signature alone is closed
signature_closed : IsClosed []
signature_closed = record { types = types; definitions = definitions }
  where
    types : (s : ℕ) (A : Tree) → symbol_type [] s ≡ Some A → loose A ≡ 0
    types s A e =
        let h = option_map-some (λ (d : Declaration). d.ty) (symbol_declaration [] s) A e in
        subst (λ w. loose w ≡ 0) h.2 (AllByRecursion-slice_get (λ (d : Declaration). loose d.ty ≡ 0) signature types_closed s h.0 h.1)

    definitions : (s : ℕ) (t : Tree) → symbol_definition [] s ≡ Some t → loose t ≡ 0
    definitions s t e =
        let h = option_and_then-some (λ (d : Declaration). definition_of d.form d.body) (symbol_declaration [] s) t e in
        let none = AllByRecursion-slice_get (λ (d : Declaration). definition_of d.form d.body ≡ None) signature definitions_absent s h.0 h.1 in
        absurd (cc)

-- each declaration of the signature is sound over the signature alone
pub signature_sound : IsSound []
signature_sound = record { each = go }
  where
    go : (s : ℕ) (d : Declaration) → symbol_declaration [] s ≡ Some d → IsSoundDeclaration [] d
    go s d at = record {
      closed = AllByRecursion-slice_get (λ (d : Declaration). loose d.ty ≡ 0) signature types_closed s d at;
      sorted = AllByRecursion-slice_get (λ (d : Declaration). IsSorted [] [] d.ty) signature (types_sorted [] signature_closed) s d at;
      body = AllByRecursion-slice_get (λ (d : Declaration). IsBodyOf [] d.form d.body d.ty) signature bodies_absent s d at;
    }

-- the law of the signature holds
pub signature_typed : SignatureTyped
signature_typed = symbol_type-sorted [] signature_sound
