-- Renamings and substitutions as functions of the variable (Abadi, Cardelli, Curien and Lévy, 1991).
use Rattle.std.specs.Prelude.{ℕ, zero, suc}
use Rattle.lp_spec.specs.Trees.{Tree, SortType, SortKind, Var, Sym, App, Lam, Pi}

-- a renaming under a binder
abbrev pub up : (ℕ → ℕ) → ℕ → ℕ
up r zero = zero
up r (suc n) = suc (r n)

-- a tree with its loose variables renamed
abbrev pub ren : (ℕ → ℕ) → Tree → Tree
ren r SortType = SortType
ren r SortKind = SortKind
ren r (Var n) = Var (r n)
ren r (Sym s) = Sym s
ren r (App f x) = App (ren r f) (ren r x)
ren r (Lam a b) = Lam (ren r a) (ren (up r) b)
ren r (Pi a b) = Pi (ren r a) (ren (up r) b)

-- a substitution under a binder
abbrev pub ups : (ℕ → Tree) → ℕ → Tree
ups s zero = Var zero
ups s (suc n) = ren suc (s n)

-- a tree with its loose variables replaced
abbrev pub sub : (ℕ → Tree) → Tree → Tree
sub s SortType = SortType
sub s SortKind = SortKind
sub s (Var n) = s n
sub s (Sym x) = Sym x
sub s (App f x) = App (sub s f) (sub s x)
sub s (Lam a b) = Lam (sub s a) (sub (ups s) b)
sub s (Pi a b) = Pi (sub s a) (sub (ups s) b)

-- a for 0, and the others lowered
abbrev pub cons : Tree → (ℕ → Tree) → ℕ → Tree
cons a s zero = a
cons a s (suc n) = s n
