-- Head steps and spreads of trees whose symbols have other numbers are those of the trees.
use Rattle.std.proofs.Common.{◌≡◌, ℕ, zero, suc, ◌+◌, refl, sym, ap, ◌∙◌, List, [], ◌∷◌, ◌++◌, map, Option, Some, None, arith}
use Rattle.std.specs.Prelude.{option_map}
use Rattle.std.specs.Option.{option_map_or}
use Rattle.std.proofs.Math.Path.{ap₂}
use Rattle.std.proofs.lemmas.List.{map-append}
use Rattle.lp_spec.specs.Trees.{Tree, SortType, SortKind, Var, Sym, App, Lam, Pi, put, put_all, size}
use Rattle.lp_spec.specs.Modules.{Declaration, symbol_type, applied, types, arr_symbol, term_symbol, arr_of, term_of}
use Rattle.lp_spec.specs.Conversion.{symbol_definition}
use Rattle.lp_spec.specs.Weight.{spread_after, spread, symbol_spread, spreads}
use Rattle.lp_spec.specs.HeadSteps.{given, unfolded, symbol_step, spine_step, head_step}
use Rattle.share_spec.specs.MovedTrees.{moved_symbol, moved}
use Rattle.share_laws.specs.MovedLaws.{moved-lift, moved-put, moved-put_all, moved-applied, size-moved, moved_symbol-is_low, IsMoved, moved-symbol_type, moved-symbol_definition}

-- a body that is no abstraction over `type`, at arguments
given-other : (before : List Tree) (t : Tree) (args : List Tree) → ((b : Tree) → t ≡ Lam types b → ⊥)
    → given before t args ≡ Some (applied (put_all before t) args)
given-other before (Lam (Sym zero) b) args h = absurd (h b refl)
given-other before _ args h = refl

-- a symbol at arguments, where the rewriting rule doesn't apply
step-other : (m : List Declaration) (s : ℕ) (args : List Tree) → ((a b : Tree) → s ≡ term_symbol → args ≡ arr_of a b ∷ [] → ⊥)
    → symbol_step m s args ≡ unfolded (symbol_definition m s) args
step-other m (suc (suc (suc (suc zero)))) (App (App (Sym (suc (suc (suc zero)))) a) b ∷ []) h = absurd (h a b refl refl)
step-other m s args h = refl

module _ (g : ℕ → ℕ) where
  -- what becomes an arrow is one
  is_arrow : (t a b : Tree) → moved g t ≡ arr_of a b → (c : Tree) × (d : Tree) × (t ≡ arr_of c d)
  is_arrow (App (App (Sym s) c) d) a b e =
      let k : moved_symbol g s ≡ arr_symbol = cc in
      (c, d, ap (λ r. App (App (Sym r) c) d) (moved_symbol-is_low g s arr_symbol (omega arith) k))
  is_arrow (App (App SortType c) d) a b e = absurd (cc)
  is_arrow (App (App SortKind c) d) a b e = absurd (cc)
  is_arrow (App (App (Var n) c) d) a b e = absurd (cc)
  is_arrow (App (App (App f x) c) d) a b e = absurd (cc)
  is_arrow (App (App (Lam f x) c) d) a b e = absurd (cc)
  is_arrow (App (App (Pi f x) c) d) a b e = absurd (cc)
  is_arrow (App SortType d) a b e = absurd (cc)
  is_arrow (App SortKind d) a b e = absurd (cc)
  is_arrow (App (Var n) d) a b e = absurd (cc)
  is_arrow (App (Sym s) d) a b e = absurd (cc)
  is_arrow (App (Lam f x) d) a b e = absurd (cc)
  is_arrow (App (Pi f x) d) a b e = absurd (cc)
  is_arrow SortType a b e = absurd (cc)
  is_arrow SortKind a b e = absurd (cc)
  is_arrow (Var n) a b e = absurd (cc)
  is_arrow (Sym s) a b e = absurd (cc)
  is_arrow (Lam f x) a b e = absurd (cc)
  is_arrow (Pi f x) a b e = absurd (cc)

  no_types : (s : ℕ) (b c : Tree) → Lam (Sym (moved_symbol g (suc s))) b ≡ Lam types c → ⊥
  no_types s b c e = let k : moved_symbol g (suc s) ≡ 0 = cc in let i = moved_symbol-is_low g (suc s) 0 (omega arith) k in absurd (cc)

  applied_whole : (before : List Tree) (t : Tree) (args : List Tree) → ((b : Tree) → moved g t ≡ Lam types b → ⊥)
      → given (map (moved g) before) (moved g t) (map (moved g) args) ≡ option_map (moved g) (Some (applied (put_all before t) args))
  applied_whole before t args h =
      given-other (map (moved g) before) (moved g t) (map (moved g) args) h
      ∙ ap Some (ap (λ f. applied f (map (moved g) args)) (sym (moved-put_all g before t)) ∙ sym (moved-applied g (put_all before t) args))

  given-moved : (before : List Tree) (t : Tree) (args : List Tree)
      → given (map (moved g) before) (moved g t) (map (moved g) args) ≡ option_map (moved g) (given before t args)
  given-moved before (Lam (Sym zero) b) (x ∷ args) =
      ap (λ l. given l (moved g b) (map (moved g) args)) (sym (map-append (moved g) before (x ∷ []))) ∙ given-moved (before ++ x ∷ []) b args
  given-moved before (Lam (Sym zero) b) [] = refl
  given-moved before (Lam (Sym (suc s)) b) args = applied_whole before (Lam (Sym (suc s)) b) args (λ c e. no_types s (moved g b) c e)
  given-moved before (Lam SortType b) args = applied_whole before (Lam SortType b) args (λ c e. absurd (cc))
  given-moved before (Lam SortKind b) args = applied_whole before (Lam SortKind b) args (λ c e. absurd (cc))
  given-moved before (Lam (Var n) b) args = applied_whole before (Lam (Var n) b) args (λ c e. absurd (cc))
  given-moved before (Lam (App f x) b) args = applied_whole before (Lam (App f x) b) args (λ c e. absurd (cc))
  given-moved before (Lam (Lam f x) b) args = applied_whole before (Lam (Lam f x) b) args (λ c e. absurd (cc))
  given-moved before (Lam (Pi f x) b) args = applied_whole before (Lam (Pi f x) b) args (λ c e. absurd (cc))
  given-moved before SortType args = applied_whole before SortType args (λ c e. absurd (cc))
  given-moved before SortKind args = applied_whole before SortKind args (λ c e. absurd (cc))
  given-moved before (Var n) args = applied_whole before (Var n) args (λ c e. absurd (cc))
  given-moved before (Sym s) args = applied_whole before (Sym s) args (λ c e. absurd (cc))
  given-moved before (App f x) args = applied_whole before (App f x) args (λ c e. absurd (cc))
  given-moved before (Pi a b) args = applied_whole before (Pi a b) args (λ c e. absurd (cc))

  unfolded-moved : (o : Option Tree) (args : List Tree) → unfolded (option_map (moved g) o) (map (moved g) args) ≡ option_map (moved g) (unfolded o args)
  unfolded-moved None args = refl
  unfolded-moved (Some t) args = given-moved [] t args

  -- how far a type spreads
  spread_after-moved : (before args : List Tree) (t : Tree) → spread_after (map (moved g) before) (map (moved g) args) (moved g t) ≡ spread_after before args t
  spread_after-moved before (u ∷ us) (Pi a b) =
      ap₂ (λ i j. i + j) (ap size (sym (moved-put_all g before a)) ∙ size-moved g (put_all before a))
      (ap (λ l. spread_after l (map (moved g) us) (moved g b)) (sym (map-append (moved g) before (u ∷ []))) ∙ spread_after-moved (before ++ u ∷ []) us b)
  spread_after-moved before [] t = ap size (sym (moved-put_all g before t)) ∙ size-moved g (put_all before t)
  spread_after-moved before (u ∷ us) SortType = ap size (sym (moved-put_all g before SortType)) ∙ size-moved g (put_all before SortType)
  spread_after-moved before (u ∷ us) SortKind = ap size (sym (moved-put_all g before SortKind)) ∙ size-moved g (put_all before SortKind)
  spread_after-moved before (u ∷ us) (Var n) = ap size (sym (moved-put_all g before (Var n))) ∙ size-moved g (put_all before (Var n))
  spread_after-moved before (u ∷ us) (Sym s) = ap size (sym (moved-put_all g before (Sym s))) ∙ size-moved g (put_all before (Sym s))
  spread_after-moved before (u ∷ us) (App f x) = ap size (sym (moved-put_all g before (App f x))) ∙ size-moved g (put_all before (App f x))
  spread_after-moved before (u ∷ us) (Lam a b) = ap size (sym (moved-put_all g before (Lam a b))) ∙ size-moved g (put_all before (Lam a b))

module _ (g : ℕ → ℕ) (m n : List Declaration) (h : IsMoved g m n) where
  other_moved : (s : ℕ) (args : List Tree) → ((a b : Tree) → s ≡ term_symbol → args ≡ arr_of a b ∷ [] → ⊥)
      → symbol_step n (moved_symbol g s) (map (moved g) args) ≡ option_map (moved g) (symbol_step m s args)
  other_moved s args other =
      step-other n (moved_symbol g s) (map (moved g) args) (λ a b e f. not_rule args a b (other) (moved_symbol-is_low g s term_symbol (omega arith) e) f)
      ∙ ap (λ o. unfolded o (map (moved g) args)) (moved-symbol_definition g m n h s)
      ∙ unfolded-moved g (symbol_definition m s) args
      ∙ ap (option_map (moved g)) (sym (step-other m s args other))
    where
      not_rule : (args : List Tree) (a b : Tree) → ((a b : Tree) → s ≡ term_symbol → args ≡ arr_of a b ∷ [] → ⊥) → s ≡ term_symbol
          → map (moved g) args ≡ arr_of a b ∷ [] → ⊥
      not_rule [] a b o e f = absurd (cc)
      not_rule (x ∷ []) a b o e f = let k = is_arrow g x a b (cc) in o k.0 k.1 e (ap (λ t. t ∷ []) k.2)
      not_rule (x ∷ y ∷ args) a b o e f = absurd (cc)

  symbol_step-moved : (s : ℕ) (args : List Tree) → symbol_step n (moved_symbol g s) (map (moved g) args) ≡ option_map (moved g) (symbol_step m s args)
  symbol_step-moved (suc (suc (suc (suc zero)))) (App (App (Sym (suc (suc (suc zero)))) a) b ∷ []) =
      ap (λ t. Some (Pi (term_of (moved g a)) t)) (sym (moved-lift g 1 (term_of b)))
  symbol_step-moved s args = other_moved s args (λ a b e f. absurd (cc))

  spine_step-moved : (t : Tree) (args : List Tree) → spine_step n (moved g t) (map (moved g) args) ≡ option_map (moved g) (spine_step m t args)
  spine_step-moved (App f x) args = spine_step-moved f (x ∷ args)
  spine_step-moved (Lam a b) (x ∷ args) = ap Some (ap (λ f. applied f (map (moved g) args)) (sym (moved-put g x b)) ∙ sym (moved-applied g (put x b) args))
  spine_step-moved (Lam a b) [] = refl
  spine_step-moved (Sym s) args = symbol_step-moved s args
  spine_step-moved (Pi a b) args = refl
  spine_step-moved (Var k) args = refl
  spine_step-moved SortType args = refl
  spine_step-moved SortKind args = refl

  -- A head step of the moved tree is that of the tree
  pub head_step-moved : (t : Tree) → head_step n (moved g t) ≡ option_map (moved g) (head_step m t)
  head_step-moved t = spine_step-moved t []

  pub head_step-Some : (t u : Tree) → head_step m t ≡ Some u → head_step n (moved g t) ≡ Some (moved g u)
  head_step-Some t u e = head_step-moved t ∙ ap (option_map (moved g)) e

  pub head_step-None : (t : Tree) → head_step m t ≡ None → head_step n (moved g t) ≡ None
  head_step-None t e = head_step-moved t ∙ ap (option_map (moved g)) e

  symbol_spread-moved : (s : ℕ) (args : List Tree) → symbol_spread n (moved_symbol g s) (map (moved g) args) ≡ symbol_spread m s args
  symbol_spread-moved s args = ap (λ o. option_map_or (spread (map (moved g) args)) o 0) (moved-symbol_type g m n h s) ∙ both (symbol_type m s)
    where
      both : (o : Option Tree) → option_map_or (spread (map (moved g) args)) (option_map (moved g) o) 0 ≡ option_map_or (spread args) o 0
      both None = refl
      both (Some t) = spread_after-moved g [] args t

  pub spreads-moved : (args : List Tree) (t : Tree) → spreads n (map (moved g) args) (moved g t) ≡ spreads m args t
  spreads-moved args SortType = refl
  spreads-moved args SortKind = refl
  spreads-moved args (Var k) = refl
  spreads-moved args (Sym s) = symbol_spread-moved s args
  spreads-moved args (App f x) = ap₂ (λ i j. i + j) (spreads-moved (x ∷ args) f) (spreads-moved [] x)
  spreads-moved args (Lam a b) = ap₂ (λ i j. i + j) (spreads-moved [] a) (spreads-moved [] b)
  spreads-moved args (Pi a b) = ap₂ (λ i j. i + j) (spreads-moved [] a) (spreads-moved [] b)
