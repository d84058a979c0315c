-- A type is Kind or has a sort (Barendregt, 1992, the lemma of correctness of types).
use Rattle.std.proofs.Common.{◌≡◌, ◌⊎◌, inl, inr, ⊎_elim, refl, ◌∙◌, subst, ℕ, zero, suc, arith, List, [], ◌∷◌, Some}
use Rattle.std.specs.Prelude.{slice_get}
use Rattle.std.proofs.lemmas.Option.{slice_get_within, same_Some}
use Rattle.lp_spec.specs.Trees.{Tree, SortType, SortKind, Pi, lift, put}
use Rattle.lp_binding_laws.specs.Composition.{suc_lift}
use Rattle.lp_binding_laws.specs.SubstitutionLaws.{lift_one}
use Rattle.lp_spec.specs.Modules.{Declaration}
use Rattle.lp_typing_laws.specs.ConversionLaws.{IsClosed}
use Rattle.lp_spec.specs.Typing.{IsSort, is_type, is_kind, Typed, of_type, of_variable, of_symbol, of_product, of_abstraction, of_application, of_conversion, IsContext, nothing, entry, IsSorted}
use Rattle.lp_typing_laws.specs.TypingLaws.{loose-IsSort, weaken, Typed-anywhere, Typed-put}
use Rattle.lp_typing_laws.specs.Inversion.{Typed-Pi}
use Rattle.lp_typing_laws.specs.Soundness.{IsSound, IsSound-closed, symbol_type-sorted}

-- a sort has no variable to put an argument for
put-IsSort : {s : Tree} (x : Tree) → IsSort s → put x s ≡ s
put-IsSort x is_type = refl
put-IsSort x is_kind = refl

-- a product is not Kind
pub Pi-SortKind : {a b : Tree} → Pi a b ≡ SortKind → ⊥
Pi-SortKind e = cc

module _ (m : List Declaration) (closed : IsClosed m) where
  -- a product's body has a sort with an argument put in
  pub IsSorted-put : {G : List Tree} {x A B s : Tree} → Typed m G x A → IsSort s → Typed m (A ∷ G) B s → IsSorted m G (put x B)
  IsSorted-put {G = G} {x = x} {B = B} hx s hB = record { sort = _; is = s; by = subst (Typed m G (put x B)) (put-IsSort x s) (Typed-put m closed hx hB) }

  -- the type of a variable is a type
  pub Typed-lift : {G : List Tree} → IsContext m G → (n : ℕ) (A : Tree) → slice_get G n ≡ Some A → Typed m G (lift (suc n) A) SortType
  Typed-lift nothing n A e = absurd (let h = slice_get_within [] n A e in omega arith)
  Typed-lift (entry {G = G} {A = B} c h) zero A e = subst (λ w. Typed m (B ∷ G) (lift 1 w) SortType) (same_Some _ _ e) (weaken m closed h)
  Typed-lift (entry {G = G} {A = B} c h) (suc n) A e =
      subst (λ w. Typed m (B ∷ G) w SortType) (lift_one (lift (suc n) A) ∙ suc_lift (suc n) A) (weaken m closed (Typed-lift c n A e))

module _ (m : List Declaration) (sound : IsSound m) where
  -- over a sound module, in a context whose entries are types, what has a type has Kind or a type that has a sort
  pub regular : {G : List Tree} {t A : Tree} → IsContext m G → Typed m G t A → (A ≡ SortKind) ⊎ IsSorted m G A
  regular c of_type = inl refl
  regular {G = G} c (of_variable {n = n} {A = A} at e) =
      inr (record { sort = SortType; is = is_type; by = subst (λ w. Typed m G w SortType) e (Typed-lift m (IsSound-closed m sound) c n A at) })
  regular {G = G} c (of_symbol {s = s} {A = A} e) =
      let h = symbol_type-sorted m sound s A e in
      inr (record { sort = h.sort; is = h.is; by = Typed-anywhere m (IsSound-closed m sound) G (loose-IsSort h.is) h.by })
  regular c (of_product a b is_type) = inr (record { sort = SortKind; is = is_kind; by = of_type })
  regular c (of_product a b is_kind) = inl refl
  regular c (of_abstraction p s b) = inr (record { sort = _; is = s; by = p })
  regular {G = G} c (of_application f a e) = inr (subst (IsSorted m G) e (⊎_elim
      (λ bad. absurd (Pi-SortKind bad))
      (λ h. let p = Typed-Pi h.by in IsSorted-put m (IsSound-closed m sound) a p.is p.body)
      (regular c f)))
  regular c (of_conversion t k b s) = inr (record { sort = _; is = s; by = b })

  -- the type of an application has a sort
  pub IsSorted-codomain : {G : List Tree} {f x A B : Tree} → IsContext m G → Typed m G f (Pi A B) → Typed m G x A → IsSorted m G (put x B)
  IsSorted-codomain c hf hx = ⊎_elim
      (λ bad. absurd (Pi-SortKind bad))
      (λ w. let p = Typed-Pi w.by in IsSorted-put m (IsSound-closed m sound) hx p.is p.body)
      (regular c hf)
