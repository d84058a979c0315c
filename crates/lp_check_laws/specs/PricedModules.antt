-- The check of a shaped module: each declaration is found its type, at a price of at most 64 times the square of its weight in the module.
use Rattle.std.proofs.Common.{◌≡◌, inl, inr, ℕ, zero, suc, ◌+◌, ◌*◌, ◌≤◌, List, [], ◌∷◌, ◌++◌, append_assoc, length, Bool, true, Option, Some, None, refl, sym, ap, subst, ◌∙◌, arith}
use Rattle.std.specs.Prelude.{slice_get, take}
use Rattle.std.specs.Option.{option_map_or}
use Rattle.std.proofs.lemmas.List.{length-append}
use Rattle.std.proofs.Math.Seq.{take-append_seam}
use Rattle.lp_spec.specs.declared.form.Form.{Form}
use Rattle.lp_spec.specs.declared.form.Form.TheVariants.{Symbol, Def, Thm}
use Rattle.lp_spec.specs.Trees.{Tree, SortType, SortKind, Var, Sym, App, Lam, Pi, size}
use Rattle.lp_spec.specs.Modules.{Declaration, symbol_type}
use Rattle.lp_spec.specs.Weight.{spread, spreads, tree_weight, weight, greatest, bound}
use Rattle.lp_typing_laws.specs.ConversionLaws.{symbol_type-append}
use Rattle.lp_typing_laws.specs.Soundness.{IsSound, IsSound-closed, IsSound-after}
use Rattle.lp_typing_laws.specs.SignatureLaws.{signature_sound}
use Rattle.lp_spec.specs.Check.{Found, Ends, Check, declaration_plan}
use Rattle.lp_spec.specs.Shaped.{IsConstant, type_variable, at_type, IsTerm, of_entry, of_constant, of_function, of_binder, IsDeclared, of_types, of_terms, of_proofs, of_products, IsProof, call, at_a_type, at_a_term, at_a_proof, at_a_definition, at_abstractions, called, hypothesis, under_binder, IsDefinition, defined, under_type, IsBodyShaped, IsShaped, IsLast, last_call, last_defined, IsLaw, at_close_abstractions, law_last, at_close_equation, law_under, IsCallDefinition, by_type, by_term, call_under}
use Rattle.lp_check_laws.specs.ShapedPasses.{AreShaped, shaped-typed, shaped-passes, square-cube}
use Rattle.std.proofs.Math.Path.{ap₂, subst₂}
use Rattle.std.proofs.lemmas.Option.{same_Some}
use Rattle.lp_binding_laws.specs.LookUps.{slice_get-seam}

-- each symbol of a tree is declared, and the sort of kinds isn't in it
abbrev pub IsKnown : List Declaration → Tree → Type 0
IsKnown m SortType = Unit {0}
IsKnown m SortKind = ⊥
IsKnown m (Var n) = Unit {0}
IsKnown m (Sym s) = (A : Tree) × (symbol_type m s ≡ Some A)
IsKnown m (App f x) = IsKnown m f × IsKnown m x
IsKnown m (Lam a b) = IsKnown m a × IsKnown m b
IsKnown m (Pi a b) = IsKnown m a × IsKnown m b

module _ (m : List Declaration) where
  constant-known : {G : List Tree} {t A : Tree} → IsConstant m G t A → IsKnown m t
  constant-known (type_variable e) = tt
  constant-known (IsConstant.constant {A = A} e s) = (A, e)
  constant-known (at_type f a e) = (constant-known f, constant-known a)

  term-known : {G : List Tree} {t a : Tree} → IsTerm m G t a → IsKnown m t
  term-known (of_entry e q s) = tt
  term-known (of_constant h s) = constant-known h
  term-known (of_function f x) = (term-known f, term-known x)
  term-known (of_binder ha hb h) = (((_, refl), constant-known ha), term-known h)

  pub declared-known : {G : List Tree} {A : Tree} → IsDeclared m G A → IsKnown m A
  declared-known of_types = (_, refl)
  declared-known (of_terms h) = ((_, refl), constant-known h)
  declared-known (of_proofs h) = ((_, refl), term-known h)
  declared-known (of_products a b) = (declared-known a, declared-known b)

  pub proof-known : {b : Bool} {G : List Tree} {t A : Tree} → IsProof m b G t A → IsKnown m t
  proof-known (call {A = A} e s) = (A, e)
  proof-known (at_a_type f a e) = (proof-known f, constant-known a)
  proof-known (at_a_term f x e) = (proof-known f, term-known x)
  proof-known (at_a_proof f h e) = (proof-known f, proof-known h)
  proof-known (at_a_definition f c t s h e) = (proof-known f, proof-known h)
  proof-known (at_abstractions f ha hb ht hu h e) = (proof-known f, (((_, refl), constant-known ha), proof-known h))
  proof-known (called h) = proof-known h
  proof-known (hypothesis e q) = tt
  proof-known (under_binder a h) = (declared-known a, proof-known h)

  pub definition-known : {G : List Tree} {t A : Tree} → IsDefinition m G t A → IsKnown m t
  definition-known (defined h) = term-known h
  definition-known (under_type h) = ((_, refl), definition-known h)

module _ (m : List Declaration) where
  last-known : {G : List Tree} {t A : Tree} → IsLast m G t A → IsKnown m t
  last-known (last_call h) = proof-known m h
  last-known (last_defined f x d z y v s ss sp e) = (proof-known m f, term-known m x)

  pub law-known : {G : List Tree} {t A : Tree} → IsLaw m G t A → IsKnown m t
  law-known (at_close_abstractions f ha hb ht hu h c e) = (proof-known m f, (((_, refl), constant-known m ha), last-known h))
  law-known (law_last big h) = last-known h
  law-known (at_close_equation f hl hr ss sp h c e) = (proof-known m f, last-known h)
  law-known (law_under a h) = (declared-known m a, law-known h)

  pub call-known : {G : List Tree} {t A : Tree} → IsCallDefinition m G t A → IsKnown m t
  call-known (by_type h) = proof-known m h
  call-known (by_term h c) = proof-known m h
  call-known (call_under h) = ((_, refl), call-known h)

-- further declarations leave the spread of declared symbols
module _ (m more : List Declaration) where
  spreads-more : (args : List Tree) (t : Tree) → IsKnown m t → spreads (m ++ more) args t ≡ spreads m args t
  spreads-more args SortType h = refl
  spreads-more args SortKind h = absurd h
  spreads-more args (Var n) h = refl
  spreads-more args (Sym s) h = ap (λ o. option_map_or (spread args) o 0) (symbol_type-append m more s h.0 h.1 ∙ sym h.1)
  spreads-more args (App f x) h = ap₂ (λ i j. i + j) (spreads-more (x ∷ args) f h.0) (spreads-more [] x h.1)
  spreads-more args (Lam a b) h = ap₂ (λ i j. i + j) (spreads-more [] a h.0) (spreads-more [] b h.1)
  spreads-more args (Pi a b) h = ap₂ (λ i j. i + j) (spreads-more [] a h.0) (spreads-more [] b h.1)

  weight-known : (t : Tree) → IsKnown m t → tree_weight (m ++ more) t ≡ tree_weight m t
  weight-known t h = ap (λ n. size t + n) (spreads-more [] t h)

  body-weight : (f : Form) (body : Option Tree) (A : Tree) → IsBodyShaped m f body A
      → option_map_or (tree_weight (m ++ more)) body 0 ≡ option_map_or (tree_weight m) body 0
  body-weight f None A h = refl
  body-weight Symbol (Some t) A h = absurd (cc)
  body-weight Def (Some t) A (inl h) = weight-known t (definition-known m h)
  body-weight Def (Some t) A (inr h) = weight-known t (call-known m h.0)
  body-weight Thm (Some t) A (inl h) = weight-known t (proof-known m h.proof)
  body-weight Thm (Some t) A (inr h) = weight-known t (law-known m h.law)

  -- a shaped declaration weighs the same over more
  pub weight-more : (d : Declaration) → IsShaped m d → weight (m ++ more) d ≡ weight m d
  weight-more d h = ap₂ (λ i j. i + j) (weight-known d.ty (declared-known m h.ty)) (body-weight d.form d.body d.ty h.body)

-- a declaration of the module, after those before it, over which it is shaped
record Placed (m : List Declaration) (i : ℕ) (d : Declaration) : Type 0 where
  front : List Declaration
  rest : List Declaration
  is : m ≡ front ++ d ∷ rest
  place : i ≡ length front
  sound : IsSound front
  shaped : IsShaped front d

placed : (before ds : List Declaration) → IsSound before → AreShaped before ds → (i : ℕ) (d : Declaration) → slice_get ds i ≡ Some d
    → Placed (before ++ ds) (length before + i) d
placed before [] sound h i d e = absurd (cc)
placed before (x ∷ xs) sound h zero d e =
    record {
      front = before;
      rest = xs;
      is = ap (λ y. before ++ y ∷ xs) (same_Some _ _ e);
      place = omega arith;
      sound = sound;
      shaped = subst (IsShaped before) (same_Some _ _ e) h.0;
    }
placed before (x ∷ xs) sound h (suc i) d e =
    let count : length (before ++ x ∷ []) + i ≡ length before + suc i = omega (arith, length-append before (x ∷ [])) in
    subst₂ (λ l n. Placed l n d) (append_assoc before (x ∷ []) xs) count
    (placed (before ++ x ∷ []) xs (IsSound-after before x sound (shaped-typed before x sound h.0)) h.1 i d e)

-- the check of a declaration finds its type, at a price within 64 times the square of its weight in the module
pub record IsPriced (m : List Declaration) (i : ℕ) (d : Declaration) : Type 0 where
  pub price : ℕ
  pub check : Check m i (Found d.ty) price
  pub within : price ≤ 64 * (weight m d * weight m d)

priced : (m : List Declaration) (i : ℕ) (d : Declaration) → Placed m i d → IsPriced m i d
priced m i d h =
    let p = shaped-passes h.front (IsSound-closed h.front h.sound) d h.shaped in
    let front : take i m ≡ h.front = ap (λ n. take n m) h.place ∙ ap (take (length h.front)) h.is ∙ take-append_seam h.front (d ∷ h.rest) in
    let w : weight h.front d ≡ weight m d = sym (ap (λ l. weight l d) h.is ∙ weight-more h.front (d ∷ h.rest) d h.shaped) in
    record {
      price = p.price;
      check = record {
        declaration = d;
        at = ap (slice_get m) h.place ∙ ap (λ l. slice_get l (length h.front)) h.is ∙ slice_get-seam h.front h.rest d;
        ends = subst (λ l. Ends l true (declaration_plan d) (Found d.ty) p.price) (sym front) p.ends;
      };
      within = subst (λ n. p.price ≤ 64 * (n * n)) w p.within;
    }

-- Kernel says yes, within the price: each declaration of a shaped module
pub shaped-priced : (m : List Declaration) → AreShaped [] m → (i : ℕ) (d : Declaration) → slice_get m i ≡ Some d → IsPriced m i d
shaped-priced m h i d e = let zero_first : 0 + i ≡ i = omega arith in priced m i d (subst (λ n. Placed m n d) zero_first (placed [] m signature_sound h i d e))

-- within the bound that is written, where that isn't cut off
pub IsPriced-bound : (m : List Declaration) (i : ℕ) (d : Declaration) → (p : IsPriced m i d) → 64 * (weight m d * weight m d * weight m d) ≤ greatest
    → p.price ≤ bound m d
IsPriced-bound m i d p fits =
    let w = weight m d in
    let most : 64 * (w * w) ≤ bound m d = omega (arith, square-cube w, fits) in
    omega (arith, p.within, most)
