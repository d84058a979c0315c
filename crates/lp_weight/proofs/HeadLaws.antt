-- Spreads as they are noted, step by step.
use Rattle.std.proofs.Common.{◌≡◌, ℕ, zero, suc, ◌+◌, ◌-◌, ◌*◌, ◌<◌, ◌≤◌, refl, sym, ap, ◌∙◌, subst, arith, List, [], ◌∷◌, ◌++◌, length, Bool, true, false, Some, None, inl, inr, ◌⊎◌, ⊎_elim}
use Rattle.std.specs.Prelude.{nat_lt, slice_get, min}
use Rattle.std.proofs.lemmas.Option.{same_Some}
use Rattle.std.specs.Option.{option_map_or}
use Rattle.std.proofs.Math.Nat.{mul-suc, suc-mul}
use Rattle.std.proofs.lemmas.List.{length-append}
use Rattle.lp_spec.specs.Trees.{Tree, Sym, App, Pi, size}
use Rattle.lp_spec.specs.Modules.{symbol_type}
use Rattle.lp_spec.specs.Weight.{greatest, spread, spreads}
use Rattle.lp_binding_laws.specs.Binding.{size-positive}
use Rattle.lp_term.specs.declared.LpId.{LpId}
use Rattle.lp_term.specs.declared.LpNode.{LpNode}
use Rattle.lp_term.specs.declared.LpNode.TheVariants as node
use Rattle.lp_term.specs.Tables.{tree_at, tree_of_node}
use Rattle.holide_sig.specs.declared.module.Module.{Module}
use Rattle.holide_sig.specs.Modules.{declarations_of}
use Rattle.lp_weight.specs.declared.column.Head.{Head}
use Rattle.lp_weight.specs.declared.column.Front.{Front}
use Rattle.lp_weight.specs.declared.column.Front.TheVariants.{Symbol, Plain}
use Rattle.lp_weight.specs.declared.column.Spread.{Spread}
use Rattle.lp_weight.specs.Saturation.{saturated}
use Rattle.lp_weight.specs.Occurrences.{occurrences, spread_by}
use Rattle.lp_weight.specs.Spreads.{IsAfter, IsPlain, IsFront, IsCount, IsSpread, IsColumn}
use Rattle.lp_weight.proofs.SpreadLaws.{spreads-split}
use Rattle.lp_weight.proofs.OccurrenceLaws.{spread-by}

product-above : (a b : ℕ) → 1 ≤ a → b ≤ a * b
product-above zero b l = absurd (omega (arith, l))
product-above (suc a) b l = omega (arith, suc-mul a b)

product-past : (a b : ℕ) → 1 ≤ b → a ≤ a * b
product-past a zero l = absurd (omega (arith, l))
product-past a (suc b) l = omega (arith, mul-suc a b)

-- a product of numbers that stop at g, of which one is lessened by 1, where at least 1 is added
product-stops : (g z o s : ℕ) → 1 ≤ g → 1 ≤ z → 1 ≤ s → min (z + min o g * (min s g - 1)) g ≡ min (z + o * (s - 1)) g
product-stops g z o s lg lz ls = go (nat_lt g s) refl (nat_lt g o) refl
  where
    great : (o : ℕ) → g < s → min (z + min o g * (g - 1)) g ≡ min (z + o * (s - 1)) g
    great zero l = let e : min 0 g ≡ 0 = omega arith in rw e (omega arith)
    great (suc o) l =
        let one : 1 ≤ min (suc o) g = omega (arith, lg) in
        let pos : 1 ≤ suc o = omega arith in
        omega (arith, l, lg, lz, product-above (min (suc o) g) (g - 1) one, product-above (suc o) (s - 1) pos)

    often : (s : ℕ) → 1 ≤ s → g < o → min (z + g * (s - 1)) g ≡ min (z + o * (s - 1)) g
    often zero l h = absurd (omega (arith, l))
    often (suc zero) l h = let e : suc zero - 1 ≡ 0 = omega arith in rw e (omega arith)
    often (suc (suc s)) l h =
        let one : 1 ≤ suc (suc s) - 1 = omega arith in
        omega (arith, h, product-past g (suc (suc s) - 1) one, product-past o (suc (suc s) - 1) one)

    go : (b : Bool) → nat_lt g s ≡ b → (c : Bool) → nat_lt g o ≡ c → min (z + min o g * (min s g - 1)) g ≡ min (z + o * (s - 1)) g
    go true h c k = let l : g < s = grind (arith, h) in let e : min s g ≡ g = omega (arith, l) in rw e (great o l)
    go false h true k =
        let l : s ≤ g = grind (arith, h) in
        let m : g < o = grind (arith, k) in
        let e : min s g ≡ s = omega (arith, l) in
        let f : min o g ≡ g = omega (arith, m) in
        rw (e, f) (often s ls m)
    go false h false k =
        let l : s ≤ g = grind (arith, h) in
        let m : o ≤ g = grind (arith, k) in
        let e : min s g ≡ s = omega (arith, l) in
        let f : min o g ≡ o = omega (arith, m) in
        rw (e, f) refl

-- what is spent with a domain and an argument more
spent-sum : (total spent z domain o count s arg : ℕ) → spent ≡ saturated total → 1 ≤ z → domain ≡ saturated z → count ≡ saturated o → 1 ≤ s → arg ≡ saturated s
    → saturated (saturated (spent + domain) + saturated (count * (arg - 1))) ≡ saturated (total + (z + o * (s - 1)))
spent-sum total spent z domain o count s arg et lz ed ec ls ea =
    let stops : saturated (total + z + count * (arg - 1)) ≡ saturated (total + z + o * (s - 1)) =
    rw (ec, ea) (product-stops greatest (total + z) o s (omega arith) (omega (arith, lz)) ls)
    in
    let flat : saturated (saturated (spent + domain) + saturated (count * (arg - 1))) ≡ saturated (total + z + count * (arg - 1)) = omega (arith, et, ed) in
    let same : total + z + o * (s - 1) ≡ total + (z + o * (s - 1)) = omega arith in
    flat ∙ stops ∙ ap saturated same

-- a head with an argument that the next product takes
pub after-product : (m : Module) (head : Head) (body : LpId) (a b u : Tree) (spent domain count arg : ℕ) → tree_at m.table head.rest.0 ≡ Pi a b
    → tree_at m.table body.0 ≡ b → body.0 < length m.table
    → domain ≡ saturated (size a) → count ≡ saturated (occurrences 0 b) → arg ≡ saturated (size u) → spent
    ≡ saturated (saturated (head.spent + domain) + saturated (count * (arg - 1)))
    → (t : Tree) → IsAfter m t head → IsAfter m (App t u) (record { rest = body; spent = spent })
after-product m head body a b u spent domain count arg is at known ed ec ea es t h = record {
  known = known;
  total = h.total + (size a + occurrences 0 b * (size u - 1));
  spent = es ∙ spent-sum h.total head.spent (size a) domain (occurrences 0 b) count (size u) arg h.spent (size-positive a) ed ec (size-positive u) ea;
  spread = λ args.
      let step = h.spread (u ∷ args) ∙ ap (λ w. h.total + spread_by (u ∷ args) w) is in
      let flat : h.total + (size a + occurrences 0 b * (size u - 1) + spread_by args b)
      ≡ h.total + (size a + occurrences 0 b * (size u - 1)) + spread_by args b = omega arith in
      step ∙ flat ∙ ap (λ w. h.total + (size a + occurrences 0 b * (size u - 1)) + spread_by args w) (sym at);
}

-- a type that isn't a product takes no argument
spread_by-leaf : (ts : List Tree) (n : LpNode) → ((a b : LpId) → n ≡ node.Pi a b → ⊥) → (u : Tree) (us : List Tree) → spread_by (u ∷ us) (tree_of_node ts n)
    ≡ spread_by us (tree_of_node ts n)
spread_by-leaf ts node.SortType h u [] = refl
spread_by-leaf ts node.SortType h u (v ∷ us) = refl
spread_by-leaf ts node.SortKind h u [] = refl
spread_by-leaf ts node.SortKind h u (v ∷ us) = refl
spread_by-leaf ts (node.Var n) h u [] = refl
spread_by-leaf ts (node.Var n) h u (v ∷ us) = refl
spread_by-leaf ts (node.Sym n) h u [] = refl
spread_by-leaf ts (node.Sym n) h u (v ∷ us) = refl
spread_by-leaf ts (node.App f x) h u [] = refl
spread_by-leaf ts (node.App f x) h u (v ∷ us) = refl
spread_by-leaf ts (node.Lam a b) h u [] = refl
spread_by-leaf ts (node.Lam a b) h u (v ∷ us) = refl
spread_by-leaf ts (node.Pi a b) h u us = absurd (h a b refl)

pub after-leaf : (m : Module) (head : Head) (n : LpNode) (u : Tree) → tree_at m.table head.rest.0 ≡ tree_of_node m.table n
    → ((a b : LpId) → n ≡ node.Pi a b → ⊥) → (t : Tree) → IsAfter m t head → IsAfter m (App t u) head
after-leaf m head n u is leaf t h = record {
  known = h.known;
  total = h.total;
  spent = h.spent;
  spread = λ args. h.spread (u ∷ args) ∙ ap (λ k. h.total + k)
      (ap (spread_by (u ∷ args)) is ∙ spread_by-leaf m.table n leaf u args ∙ ap (spread_by args) (sym is));
}

-- a symbol alone
pub symbol-front : (m : Module) (s : ℕ) (rest : LpId) → rest.0 < length m.table → symbol_type (declarations_of m) s ≡ Some (tree_at m.table rest.0)
    → IsFront m (Sym s) (Symbol (record { rest = rest; spent = 0 }))
symbol-front m s rest known is = record {
  known = known;
  total = 0;
  spent = zero-saturated;
  spread = λ args. ap (λ w. option_map_or (spread args) w 0) is ∙ spread-by args (tree_at m.table rest.0) ∙ zero-sum (spread_by args (tree_at m.table rest.0));
}
  where
    zero-saturated : 0 ≡ saturated 0
    zero-saturated = omega arith

    zero-sum : (n : ℕ) → n ≡ 0 + n
    zero-sum n = omega arith

-- a symbol that isn't the module's
pub no_symbol-front : (m : Module) (s : ℕ) → symbol_type (declarations_of m) s ≡ None → IsFront m (Sym s) (Plain 0)
no_symbol-front m s is = record { none = λ args. ap (λ w. option_map_or (spread args) w 0) is; count = tt }

-- a tree applied to an argument has no symbol at its head where it has none
pub plain-applied : (m : Module) (t u : Tree) (count : ℕ) → IsPlain m t count → IsPlain m (App t u) 0
plain-applied m t u count h = record { none = λ args. h.none (u ∷ args); count = tt }

-- what is left of a type at its head is a tree of the table
pub front-known : (m : Module) (t : Tree) (head : Head) → IsFront m t (Symbol head) → head.rest.0 < length m.table
front-known m t head h = h.known

-- the spreads of all symbols of a tree
pub plain-spreads : (m : Module) (t : Tree) (s : Spread) (count : ℕ) → IsSpread m t s → s.front ≡ Plain count → s.inner
    ≡ saturated (spreads (declarations_of m) [] t)
plain-spreads m t s count is e = let plain : IsPlain m t count =
    subst (IsFront m t) e is.front in omega (arith, is.inner, plain.none [], spreads-split (declarations_of m) [] t)

pub head-spreads : (m : Module) (t : Tree) (s : Spread) (head : Head) (z n : ℕ) → IsSpread m t s → s.front ≡ Symbol head → z
    ≡ saturated (size (tree_at m.table head.rest.0)) → n ≡ saturated (saturated (s.inner + head.spent) + z)
    → n ≡ saturated (spreads (declarations_of m) [] t)
head-spreads m t s head z n is e ez en =
    let h : IsAfter m t head = subst (IsFront m t) e is.front in
    omega (arith, is.inner, ez, en, h.spent, h.spread [], bare (tree_at m.table head.rest.0), spreads-split (declarations_of m) [] t)
  where
    bare : (t : Tree) → spread_by [] t ≡ size t
    bare t = refl

-- how often the variable of a product occurs, as it is noted
pub plain-count : (m : Module) (t a b : Tree) (count : ℕ) → IsFront m t (Plain count) → t ≡ Pi a b → count ≡ saturated (occurrences 0 b)
plain-count m t a b count h e = subst (λ w. IsCount w count) e h.count

-- a column of nothing
no-entry : (i : ℕ) (s : Spread) → slice_get [] i ≡ Some s → ⊥
no-entry i s h = cc

pub column-none : (m : Module) (column : List Spread) → column ≡ [] → IsColumn m column
column-none m column e = subst (IsColumn m) (sym e) (λ i s h. absurd (no-entry i s h))

last-or : (xs : List Spread) (s : Spread) (i : ℕ) (x : Spread) → slice_get (xs ++ s ∷ []) i ≡ Some x → (slice_get xs i ≡ Some x) ⊎ ((i ≡ length xs) × (x ≡ s))
last-or [] s zero x h = inr (refl, sym (same_Some _ _ h))
last-or [] s (suc i) x h = absurd (no-entry i x h)
last-or (y ∷ xs) s zero x h = inl h
last-or (y ∷ xs) s (suc i) x h = ⊎_elim (λ a. inl a) (λ b. inr (ap suc b.0, b.1)) (last-or xs s i x h)

-- a column with the next spread
pub column-more : (m : Module) (column : List Spread) (s : Spread) → IsColumn m column → IsSpread m (tree_at m.table (length column)) s
    → IsColumn m (column ++ s ∷ [])
column-more m column s h is =
    λ i x e. ⊎_elim (λ old. h i x old)
    (λ new. subst (IsSpread m (tree_at m.table i)) (sym new.1) (subst (λ k. IsSpread m (tree_at m.table k) s) (sym new.0) is)) (last-or column s i x e)

-- the spreads of an application
pub spread-app : (m : Module) (t u : Tree) (function : Spread) (front : Front) (argument n : ℕ) → IsSpread m t function → argument
    ≡ saturated (spreads (declarations_of m) [] u) → n ≡ saturated (function.inner + argument) → IsFront m (App t u) front
    → IsSpread m (App t u) (record { front = front; inner = n })
spread-app m t u function front argument n is ea en h = record { front = h; inner = omega (arith, is.inner, ea, en) }

-- the spreads of a symbol alone
pub spread-symbol : (m : Module) (s : ℕ) (front : Front) → IsFront m (Sym s) front → IsSpread m (Sym s) (record { front = front; inner = 0 })
spread-symbol m s front h = record { front = h; inner = omega arith }

-- a column with a spread more is longer
pub column-longer : (old new : List Spread) (s : Spread) → new ≡ old ++ s ∷ [] → length new ≡ length old + 1
column-longer old new s e = ap length e ∙ length-append old (s ∷ [])
