-- Costs of the inferences of the signature and of the two lemmas at their arguments: a constant times the costs of the types and terms,
-- beside those of the proofs.
use Rattle.std.proofs.Common.{ℕ, ◌+◌, ◌*◌, ◌≤◌, List, [], ◌∷◌, arith}
use Rattle.lp_spec.specs.Trees.{Tree, Sym, size}
use Rattle.lp_spec.specs.Modules.{Declaration, applied, refl_of, fun_ext_symbol, app_thm_symbol, prop_ext_symbol, eq_mp_symbol, sub_symbol, sub_abs_symbol, sub_rep_symbol, sub_abs_rep_symbol, sub_rep_abs_symbol}
use Rattle.lp_spec.specs.Lemmas.{sym_lemma, trans_lemma}
use Rattle.lp_check_laws.specs.Sizes.{size-lift}
use Rattle.translate_spec.specs.ProofTrees.{sym_symbol, trans_symbol}
use Rattle.translate_laws.specs.Bodies.{HasLemmas}
use Rattle.image_bound_laws.specs.Costs.{cost, symbol-cost}

module _ (m : List Declaration) (c : ℕ) where
  pub refl_of-cost : (a x : Tree) → cost m [] a ≤ c → cost m [] x ≤ c → cost m [] (refl_of a x) ≤ 6 * c + 100
  refl_of-cost a x h k =
      let i = size-lift 0 a in
      let j = size-lift 0 x in
      omega (arith, h, k, i, j)

  pub eq_mp-cost : (p q h k : Tree) → cost m [] p ≤ c → cost m [] q ≤ c
      → cost m [] (applied (Sym eq_mp_symbol) (p ∷ q ∷ h ∷ k ∷ [])) ≤ 10 * c + 100 + cost m [] h + cost m [] k
  eq_mp-cost p q h k i j =
      let a = size-lift 0 p in
      let b = size-lift 0 q in
      omega (arith, i, j, a, b)

  pub prop_ext-cost : (p q h k : Tree) → cost m [] p ≤ c → cost m [] q ≤ c
      → cost m [] (applied (Sym prop_ext_symbol) (p ∷ q ∷ h ∷ k ∷ [])) ≤ 10 * c + 100 + cost m [] h + cost m [] k
  prop_ext-cost p q h k i j =
      let a = size-lift 0 p in
      let b = size-lift 0 q in
      let d = size-lift 1 p in
      let e = size-lift 1 q in
      omega (arith, i, j, a, b, d, e)

  pub fun_ext-cost : (a b f g h : Tree) → cost m [] a ≤ c → cost m [] b ≤ c → cost m [] f ≤ c → cost m [] g ≤ c
      → cost m [] (applied (Sym fun_ext_symbol) (a ∷ b ∷ f ∷ g ∷ h ∷ [])) ≤ 20 * c + 100 + cost m [] h
  fun_ext-cost a b f g h i j k l =
      let a0 = size-lift 0 a in
      let b0 = size-lift 0 b in
      let f0 = size-lift 0 f in
      let g0 = size-lift 0 g in
      let a1 = size-lift 1 a in
      let b1 = size-lift 1 b in
      let f1 = size-lift 1 f in
      let g1 = size-lift 1 g in
      omega (arith, i, j, k, l, a0, b0, f0, g0, a1, b1, f1, g1)

  pub app_thm-cost : (a b f g x y h k : Tree) → cost m [] a ≤ c → cost m [] b ≤ c → cost m [] f ≤ c → cost m [] g ≤ c → cost m [] x ≤ c → cost m [] y ≤ c
      → cost m [] (applied (Sym app_thm_symbol) (a ∷ b ∷ f ∷ g ∷ x ∷ y ∷ h ∷ k ∷ [])) ≤ 40 * c + 200 + cost m [] h + cost m [] k
  app_thm-cost a b f g x y h k ha hb hf hg hx hy =
      let a0 = size-lift 0 a in
      let b0 = size-lift 0 b in
      let f0 = size-lift 0 f in
      let g0 = size-lift 0 g in
      let x0 = size-lift 0 x in
      let y0 = size-lift 0 y in
      omega (arith, ha, hb, hf, hg, hx, hy, a0, b0, f0, g0, x0, y0)

  -- a symbol of parts, where it stands at these arguments besides: the proof is written in the type of what it gives
  abbrev pub IsPartBound : List Tree → ℕ → Type 0
  IsPartBound args s = (a p w h : Tree) → cost m [] a ≤ c → cost m [] p ≤ c → cost m [] w ≤ c → cost m args (applied (Sym s) (a ∷ p ∷ w ∷ h ∷ [])) ≤ 60 * c +
      300 + cost m [] h + 4 * size h

  pub sub-cost : IsPartBound [] sub_symbol
  sub-cost a p w h i j k =
      let a0 = size-lift 0 a in
      let p0 = size-lift 0 p in
      let w0 = size-lift 0 w in
      omega (arith, i, j, k, a0, p0, w0)

  pub sub_abs-cost : IsPartBound [] sub_abs_symbol
  sub_abs-cost a p w h i j k =
      let a0 = size-lift 0 a in
      let p0 = size-lift 0 p in
      let w0 = size-lift 0 w in
      let h0 = size-lift 0 h in
      omega (arith, i, j, k, a0, p0, w0, h0)

  pub sub_rep-cost : IsPartBound [] sub_rep_symbol
  sub_rep-cost a p w h i j k =
      let a0 = size-lift 0 a in
      let p0 = size-lift 0 p in
      let w0 = size-lift 0 w in
      let h0 = size-lift 0 h in
      omega (arith, i, j, k, a0, p0, w0, h0)

  pub sub_abs_rep-cost : (x : Tree) → cost m [] x ≤ c → IsPartBound (x ∷ []) sub_abs_rep_symbol
  sub_abs_rep-cost x l a p w h i j k =
      let x0 = size-lift 0 x in
      let a0 = size-lift 0 a in
      let p0 = size-lift 0 p in
      let w0 = size-lift 0 w in
      let h0 = size-lift 0 h in
      omega (arith, l, i, j, k, a0, p0, w0, h0, x0)

  pub sub_rep_abs-cost : (x : Tree) → cost m [] x ≤ c → IsPartBound (x ∷ []) sub_rep_abs_symbol
  sub_rep_abs-cost x l a p w h i j k =
      let x0 = size-lift 0 x in
      let a0 = size-lift 0 a in
      let p0 = size-lift 0 p in
      let w0 = size-lift 0 w in
      let h0 = size-lift 0 h in
      omega (arith, l, i, j, k, a0, p0, w0, h0, x0)

  pub sym-cost : HasLemmas m → (a x y h : Tree) → cost m [] a ≤ c → cost m [] x ≤ c → cost m [] y ≤ c
      → cost m [] (applied (Sym sym_symbol) (a ∷ x ∷ y ∷ h ∷ [])) ≤ 20 * c + 100 + cost m [] h
  sym-cost lemmas a x y h ha hx hy =
      let a0 = size-lift 0 a in
      let x0 = size-lift 0 x in
      let y0 = size-lift 0 y in
      let head = symbol-cost m sym_symbol (a ∷ x ∷ y ∷ h ∷ []) sym_lemma.ty lemmas.symmetry in
      omega (arith, ha, hx, hy, a0, x0, y0, head)

  pub trans-cost : HasLemmas m → (a x y z h k : Tree) → cost m [] a ≤ c → cost m [] x ≤ c → cost m [] y ≤ c → cost m [] z ≤ c
      → cost m [] (applied (Sym trans_symbol) (a ∷ x ∷ y ∷ z ∷ h ∷ k ∷ [])) ≤ 30 * c + 200 + cost m [] h + cost m [] k
  trans-cost lemmas a x y z h k ha hx hy hz =
      let a0 = size-lift 0 a in
      let x0 = size-lift 0 x in
      let y0 = size-lift 0 y in
      let z0 = size-lift 0 z in
      let head = symbol-cost m trans_symbol (a ∷ x ∷ y ∷ z ∷ h ∷ k ∷ []) trans_lemma.ty lemmas.transitivity in
      omega (arith, ha, hx, hy, hz, a0, x0, y0, z0, head)
