-- A shaped declaration passes, at a price of at most 64 times the square of its weight.
use Rattle.std.proofs.Common.{◌≡◌, inl, inr, sym, subst, ℕ, zero, suc, ◌+◌, ◌*◌, ◌≤◌, arith, true, List, [], ◌∷◌, ◌++◌, Option, Some, None}
use Rattle.std.specs.Prelude.{◌-◌}
use Rattle.std.specs.Option.{option_map_or}
use Rattle.std.proofs.lemmas.Option.{slice_get_within}
use Rattle.lp_spec.specs.declared.form.Form.{Form}
use Rattle.lp_spec.specs.declared.form.Form.TheVariants.{Symbol, Def, Thm}
use Rattle.lp_spec.specs.Trees.{Tree, SortType, Pi, size}
use Rattle.lp_spec.specs.Modules.{Declaration, types}
use Rattle.lp_spec.specs.Weight.{spreads, tree_weight, weight, greatest, bound}
use Rattle.lp_typing_laws.specs.Soundness.{IsSound, IsSound-closed, IsSound-after}
use Rattle.lp_typing_laws.specs.SignatureLaws.{signature_sound}
use Rattle.lp_spec.specs.Typing.{IsTypedAfter, AreTypedAfter, WellTyped}
use Rattle.lp_check_laws.specs.CheckerLaw.{HasBody, check-sound}
use Rattle.lp_typing_laws.specs.ConversionLaws.{IsClosed}
use Rattle.lp_spec.specs.Check.{Infer, Found, Plan, Say, Ask, if_type, unless_kind, Ends, said, asked, body_plan, declaration_plan}
use Rattle.lp_spec.specs.Shaped.{Near, near_same, near_arrows, near_product, IsDeclared, IsDefinition, defined, under_type, IsBodyShaped, IsShaped}
use Rattle.lp_check_laws.specs.Found.{Finds}
use Rattle.lp_check_laws.specs.TermPrice.{size-positive, AreSmall, small-entry, unless-kind}
use Rattle.lp_check_laws.specs.SizedTerms.{sized, find-term}
use Rattle.lp_check_laws.specs.DeclaredPrice.{find-declared, convert-near}
use Rattle.lp_check_laws.specs.ProofPrice.{cost, priced}
use Rattle.lp_check_laws.specs.LawPrice.{convert-close, find-law, law-size, find-call-definition, in-all}

-- a number is no greater than its square
square : (n : ℕ) → n ≤ n * n
square zero = omega arith
square (suc n) = omega arith

-- the sum of what the type and the body cost
whole' : (x s y z : ℕ)
    → 7 * ((x + s + (y + z)) + (x + s + (y + z))) * x + (7 * ((x + s + (y + z)) + (x + s + (y + z))) + 40) * (y + z) + 3 * x ≤ 64 *
    ((x + s + (y + z)) * (x + s + (y + z)))
whole' x s y z = omega (arith, square (x + s + (y + z)))

-- what the type costs alone
alone : (x s : ℕ) → 7 * ((x + s) + (x + s)) * x ≤ 64 * ((x + s + 0) * (x + s + 0))
alone x s = omega arith

module _ (m : List Declaration) (closed : IsClosed m) where
  pub no-entries : (e : ℕ) → AreSmall m e []
  no-entries e = record { each = λ n A at. absurd (let h = slice_get_within [] n A at in omega arith) }

  -- what is found of a definition, near its declared type
  record FindsDefinition (G : List Tree) (t A : Tree) (most : ℕ) : Type 0 where
    found : Tree
    near : Near m A found
    plain : {rest : Tree} {n : ℕ} → Ends m true (Say (Found rest)) (Found rest) n → Ends m true (unless_kind found (Say (Found rest))) (Found rest) n
    finds : Finds m (Infer G t) found most

  find-definition : (w e : ℕ) {G : List Tree} {t A : Tree} → IsDefinition m G t A → AreSmall m e G → size t ≤ e → size t + spreads m [] t + e ≤ suc w
      → FindsDefinition G t A (7 * suc w * size t)
  find-definition w e (defined h) g le less =
      let k = find-term m closed w (sized m closed (suc w) e h g le less) in
      record { found = k.found; near = near_arrows k.unfolded; plain = λ h. unless-kind m closed k.unfolded h; finds = k.finds }
  find-definition w e {G = G} (under_type h) g le less =
      let k = find-definition w e h (small-entry m {A = types} (omega (arith, le)) g) (omega (arith, le)) (omega (arith, less)) in
      let t : Finds m (Infer G types) SortType 1 = record { steps = 0; ends = said; within = omega arith } in
      record {
        found = Pi types k.found;
        near = near_product near_same k.near;
        plain = λ h. h;
        finds = record { steps = _; ends = asked t.ends (asked k.finds.ends (k.plain said)); within = omega (arith, t.within, k.finds.within) };
      }

  -- the plan finds the tree, within so many steps
  pub record Passes (p : Plan) (t : Tree) (most : ℕ) : Type 0 where
    pub price : ℕ
    pub ends : Ends m true p (Found t) price
    pub within : price ≤ most

  -- a body whose type is found near the declared type passes
  passes-body : {A t F : Tree} {j k : ℕ} → Finds m (Infer [] A) SortType j → Finds m (Infer [] t) F k → Near m A F
      → Passes (Ask (Infer [] A) (λ s. if_type s (body_plan A (Some t)))) A (j + k + 3 * size A)
  passes-body ha ht near =
      let c = convert-near m closed near in
      record { price = _; ends = asked ha.ends (asked ht.ends (asked c.ends said)); within = omega (arith, ha.within, ht.within, c.within) }

  -- the same, as a bound by the weight
  module _ (w : ℕ) (A : Tree) where
    by-weight : (t : Tree) → suc w ≡ (size A + spreads m [] A + (size t + spreads m [] t)) + (size A + spreads m [] A + (size t + spreads m [] t))
        → 7 * suc w * size A + cost w * (size t + spreads m [] t) + 3 * size A ≤ 64 *
        ((size A + spreads m [] A + (size t + spreads m [] t)) * (size A + spreads m [] A + (size t + spreads m [] t)))
    by-weight t e =
        subst (λ n. 7 * n * size A + (7 * n + 40) * (size t + spreads m [] t) + 3 * size A ≤ 64 *
        ((size A + spreads m [] A + (size t + spreads m [] t)) * (size A + spreads m [] A + (size t + spreads m [] t)))) (sym e)
        (whole' (size A) (spreads m [] A) (size t) (spreads m [] t))

  -- the plan of a shaped declaration
  passes : (f : Form) (A : Tree) (body : Option Tree) → IsDeclared m [] A → IsBodyShaped m f body A
      → Passes (Ask (Infer [] A) (λ s. if_type s (body_plan A body))) A
      (64 * ((tree_weight m A + option_map_or (tree_weight m) body 0) * (tree_weight m A + option_map_or (tree_weight m) body 0)))
  passes Symbol A None ha h =
      let wt = tree_weight m A in
      let w = wt + wt - 1 in
      let is : suc w ≡ wt + wt = omega (arith, size-positive A) in
      let p = find-declared m closed w wt ha (no-entries wt) (omega arith) (omega (arith, is)) in
      let bound : 7 * suc w * size A ≤ 64 * ((wt + 0) * (wt + 0)) =
      subst (λ n. 7 * n * size A ≤ 64 * ((wt + 0) * (wt + 0))) (sym is) (alone (size A) (spreads m [] A)) in
      record { price = _; ends = asked p.ends said; within = omega (arith, p.within, bound) }
  passes Symbol A (Some t) ha h = absurd (cc)
  passes Def A None ha h = absurd h
  passes Def A (Some t) ha (inr h) =
      let wt = tree_weight m A + tree_weight m t in
      let w = wt + wt - 1 in
      let is : suc w ≡ wt + wt = omega (arith, size-positive A) in
      let p = find-declared m closed w wt ha (no-entries wt) (omega arith) (omega (arith, is)) in
      let k = find-call-definition m closed w wt h.0 (no-entries wt) (omega arith) (omega (arith, is)) in
      record {
        price = _;
        ends = asked p.ends (asked k.finds.ends (asked k.converts.ends said));
        within =
            omega (arith, p.within, k.finds.within, k.converts.within, k.paid, in-all m closed w A t is (omega (arith, h.1)));
      }
  passes Def A (Some t) ha (inl h) =
      let wt = tree_weight m A + tree_weight m t in
      let w = wt + wt - 1 in
      let is : suc w ≡ wt + wt = omega (arith, size-positive A) in
      let p = find-declared m closed w wt ha (no-entries wt) (omega arith) (omega (arith, is)) in
      let k = find-definition w wt h (no-entries wt) (omega arith) (omega (arith, is)) in
      let c = passes-body p k.finds k.near in
      record { price = c.price; ends = c.ends; within = omega (arith, c.within, by-weight w A t is) }
  passes Thm A None ha h = absurd h
  passes Thm A (Some t) ha (inr h) =
      let wt = tree_weight m A + tree_weight m t in
      let w = wt + wt - 1 in
      let is : suc w ≡ wt + wt = omega (arith, size-positive A) in
      let p = find-declared m closed w wt ha (no-entries wt) (omega arith) (omega (arith, is)) in
      let k = find-law m closed w wt h.law (no-entries wt) (omega arith) (omega (arith, is)) in
      let c = convert-close m closed h.close in
      record {
        price = _;
        ends = asked p.ends (asked k.finds.ends (asked c.finds.ends said));
        within =
            omega (arith, p.within, k.finds.within, c.finds.within, k.paid, c.within, in-all m closed w A t is (omega (arith, law-size m closed h.law)));
      }
  passes Thm A (Some t) ha (inl h) =
      let wt = tree_weight m A + tree_weight m t in
      let w = wt + wt - 1 in
      let is : suc w ≡ wt + wt = omega (arith, size-positive A) in
      let p = find-declared m closed w wt ha (no-entries wt) (omega arith) (omega (arith, is)) in
      let k = priced m closed w wt h.proof [] (no-entries wt) (omega arith) (omega (arith, is)) in
      let c = passes-body p k.finds h.near in
      record { price = c.price; ends = c.ends; within = omega (arith, c.within, k.paid, by-weight w A t is) }

  -- Kernel says yes, and the price is within the bound: a shaped declaration passes within 64 times the square of its weight.
  pub shaped-passes : (d : Declaration) → IsShaped m d → Passes (declaration_plan d) d.ty (64 * (weight m d * weight m d))
  shaped-passes d h = passes d.form d.ty d.body h.ty h.body

HasBody-shaped : (m : List Declaration) (f : Form) (body : Option Tree) (A : Tree) → IsBodyShaped m f body A → HasBody f body
HasBody-shaped m Symbol body A h = h
HasBody-shaped m Def None A h = h
HasBody-shaped m Def (Some t) A h = tt
HasBody-shaped m Thm None A h = h
HasBody-shaped m Thm (Some t) A h = tt

-- a shaped declaration is typed over a sound module
pub shaped-typed : (m : List Declaration) (d : Declaration) → IsSound m → IsShaped m d → IsTypedAfter m d
shaped-typed m d sound h =
    let p = shaped-passes m (IsSound-closed m sound) d h in
    check-sound m sound d d.ty p.price (HasBody-shaped m d.form d.body d.ty h.body) p.ends

-- the cube bounds the square
pub square-cube : (n : ℕ) → 64 * (n * n) ≤ 64 * (n * n * n)
square-cube zero = omega arith
square-cube (suc n) = omega arith

-- a shaped declaration whose bound is within the greatest number passes within its bound
pub shaped-within : (m : List Declaration) (closed : IsClosed m) (d : Declaration) → IsShaped m d → 64 * (weight m d * weight m d * weight m d) ≤ greatest
    → Passes m closed (declaration_plan d) d.ty (bound m d)
shaped-within m closed d h fits =
    let p = shaped-passes m closed d h in
    let w = weight m d in
    let all : 64 * (w * w) ≤ bound m d = omega (arith, square-cube w, fits) in
    record { price = p.price; ends = p.ends; within = omega (arith, p.within, all) }

-- each of the declarations is shaped over these and those before it
abbrev pub AreShaped : List Declaration → List Declaration → Type 0
AreShaped before [] = Unit {0}
AreShaped before (d ∷ ds) = IsShaped before d × AreShaped (before ++ d ∷ []) ds

shaped-after : (before ds : List Declaration) → IsSound before → AreShaped before ds → AreTypedAfter before ds
shaped-after before [] sound h = tt
shaped-after before (d ∷ ds) sound h = let t = shaped-typed before d sound h.0 in (t, shaped-after (before ++ d ∷ []) ds (IsSound-after before d sound t) h.1)

-- a module of shaped declarations is well typed
pub shaped-WellTyped : (m : List Declaration) → AreShaped [] m → WellTyped m
shaped-WellTyped m h = shaped-after [] m signature_sound h
