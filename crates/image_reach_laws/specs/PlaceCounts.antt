-- The places of a symbol in a tree, and to how many arguments each is applied.
use Rattle.std.proofs.Common.{◌≡◌, ℕ, suc, ◌+◌, ◌≤◌, List, [], ◌∷◌, length, refl, subst, arith}
use Rattle.std.specs.List.{AllByRecursion}
use Rattle.lp_spec.specs.Trees.{Tree, SortType, SortKind, Var, Sym, App, Lam, Pi, lift_at}
use Rattle.lp_spec.specs.Modules.{applied, products, abstractions}
use Rattle.lp_spec.specs.ModuleOrder.{symbols}

-- at each place in a tree a symbol is applied to n arguments, where the tree itself is applied to k
abbrev pub IsAppliedTo : ℕ → ℕ → ℕ → Tree → Type 0
IsAppliedTo s n k SortType = Unit {0}
IsAppliedTo s n k SortKind = Unit {0}
IsAppliedTo s n k (Var i) = Unit {0}
IsAppliedTo s n k (Sym r) = s ≡ r → k ≡ n
IsAppliedTo s n k (App f x) = IsAppliedTo s n (suc k) f × IsAppliedTo s n 0 x
IsAppliedTo s n k (Lam a b) = IsAppliedTo s n 0 a × IsAppliedTo s n 0 b
IsAppliedTo s n k (Pi a b) = IsAppliedTo s n 0 a × IsAppliedTo s n 0 b

-- a symbol has no place in a tree
abbrev pub Lacks : ℕ → Tree → Type 0
Lacks s SortType = Unit {0}
Lacks s SortKind = Unit {0}
Lacks s (Var i) = Unit {0}
Lacks s (Sym r) = s ≡ r → ⊥
Lacks s (App f x) = Lacks s f × Lacks s x
Lacks s (Lam a b) = Lacks s a × Lacks s b
Lacks s (Pi a b) = Lacks s a × Lacks s b

module _ (s : ℕ) where
  -- what has no place is applied to any number of arguments at each
  pub lacking-applied : (n k : ℕ) (t : Tree) → Lacks s t → IsAppliedTo s n k t
  lacking-applied n k SortType h = tt
  lacking-applied n k SortKind h = tt
  lacking-applied n k (Var i) h = tt
  lacking-applied n k (Sym r) h = λ e. absurd (h e)
  lacking-applied n k (App f x) h = (lacking-applied n (suc k) f h.0, lacking-applied n 0 x h.1)
  lacking-applied n k (Lam a b) h = (lacking-applied n 0 a h.0, lacking-applied n 0 b h.1)
  lacking-applied n k (Pi a b) h = (lacking-applied n 0 a h.0, lacking-applied n 0 b h.1)

  pub lacking-all : (n : ℕ) (ts : List Tree) → AllByRecursion (Lacks s) ts → AllByRecursion (IsAppliedTo s n 0) ts
  lacking-all n [] h = tt
  lacking-all n (t ∷ ts) h = (lacking-applied n 0 t h.0, lacking-all n ts h.1)

  -- a tree over fewer symbols lacks it
  pub small-lacks : (t : Tree) → symbols t ≤ s → Lacks s t
  small-lacks SortType h = tt
  small-lacks SortKind h = tt
  small-lacks (Var i) h = tt
  small-lacks (Sym r) h = λ e. absurd (omega (arith, h, e))
  small-lacks (App f x) h = (small-lacks f (omega (arith, h)), small-lacks x (omega (arith, h)))
  small-lacks (Lam a b) h = (small-lacks a (omega (arith, h)), small-lacks b (omega (arith, h)))
  small-lacks (Pi a b) h = (small-lacks a (omega (arith, h)), small-lacks b (omega (arith, h)))

  -- in a tree that is lifted
  pub lifted-lacks : (c d : ℕ) (t : Tree) → Lacks s t → Lacks s (lift_at c d t)
  lifted-lacks c d SortType h = tt
  lifted-lacks c d SortKind h = tt
  lifted-lacks c d (Var i) h = tt
  lifted-lacks c d (Sym r) h = h
  lifted-lacks c d (App f x) h = (lifted-lacks c d f h.0, lifted-lacks c d x h.1)
  lifted-lacks c d (Lam a b) h = (lifted-lacks c d a h.0, lifted-lacks (suc c) d b h.1)
  lifted-lacks c d (Pi a b) h = (lifted-lacks c d a h.0, lifted-lacks (suc c) d b h.1)

  pub lifted-applied : (n k c d : ℕ) (t : Tree) → IsAppliedTo s n k t → IsAppliedTo s n k (lift_at c d t)
  lifted-applied n k c d SortType h = tt
  lifted-applied n k c d SortKind h = tt
  lifted-applied n k c d (Var i) h = tt
  lifted-applied n k c d (Sym r) h = h
  lifted-applied n k c d (App f x) h = (lifted-applied n (suc k) c d f h.0, lifted-applied n 0 c d x h.1)
  lifted-applied n k c d (Lam a b) h = (lifted-applied n 0 c d a h.0, lifted-applied n 0 (suc c) d b h.1)
  lifted-applied n k c d (Pi a b) h = (lifted-applied n 0 c d a h.0, lifted-applied n 0 (suc c) d b h.1)

  -- in an application to several arguments, and under several binders
  pub applied-lacks : (f : Tree) (xs : List Tree) → Lacks s f → AllByRecursion (Lacks s) xs → Lacks s (applied f xs)
  applied-lacks f [] h k = h
  applied-lacks f (x ∷ xs) h k = applied-lacks (App f x) xs (h, k.0) k.1

  pub applied-applied : (n k : ℕ) (f : Tree) (xs : List Tree) → IsAppliedTo s n (k + length xs) f → AllByRecursion (IsAppliedTo s n 0) xs
      → IsAppliedTo s n k (applied f xs)
  applied-applied n k f [] h a = let e : k + 0 ≡ k = omega arith in subst (λ j. IsAppliedTo s n j f) e h
  applied-applied n k f (x ∷ xs) h a =
      let e : k + suc (length xs) ≡ suc (k + length xs) = omega arith in
      applied-applied n k (App f x) xs (subst (λ j. IsAppliedTo s n j f) e h, a.0) a.1

  pub abstracted-applied : (n : ℕ) (domains : List Tree) (t : Tree) → AllByRecursion (IsAppliedTo s n 0) domains → IsAppliedTo s n 0 t
      → IsAppliedTo s n 0 (abstractions domains t)
  abstracted-applied n [] t h k = k
  abstracted-applied n (a ∷ domains) t h k = (h.0, abstracted-applied n domains t h.1 k)

-- how many domains a product has, and the symbol at the head of what it ends in
abbrev pub domain_count : Tree → ℕ
domain_count (Pi a b) = suc (domain_count b)
domain_count t = 0

abbrev pub end_symbol : Tree → ℕ
end_symbol (Pi a b) = end_symbol b
end_symbol (App f x) = end_symbol f
end_symbol (Sym r) = r
end_symbol t = 0

pub domain_count-products : (domains : List Tree) (t : Tree) → domain_count (products domains t) ≡ length domains + domain_count t
domain_count-products [] t = omega arith
domain_count-products (a ∷ domains) t = let rest = domain_count-products domains t in omega (arith, rest)

pub end_symbol-products : (domains : List Tree) (t : Tree) → end_symbol (products domains t) ≡ end_symbol t
end_symbol-products [] t = refl
end_symbol-products (a ∷ domains) t = end_symbol-products domains t
