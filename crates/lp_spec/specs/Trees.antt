-- Trees of the lambda-Pi calculus, with numbers for bound variables (de Bruijn, 1972).
-- A variable's number counts the binders between it and its own; one that passes all binders of the tree is loose.
use Rattle.std.specs.Prelude.{ℕ, suc, ◌+◌, ◌-◌, nat_lt, nat_eq, max, Bool, true, false, ◌&&◌, if◌then◌else◌, List, length, reverse, slice_get}
use Rattle.std.specs.Option.{option_map_or}

pub data Tree : Type 0 where
  SortType : Tree
  SortKind : Tree
  Var : ℕ → Tree
  Sym : ℕ → Tree
  App : Tree → Tree → Tree
  Lam : Tree → Tree → Tree
  Pi : Tree → Tree → Tree

-- a variable under c binders, where the loose ones rise by k
abbrev pub raised : ℕ → ℕ → ℕ → ℕ
raised c k n = if nat_lt n c then n else n + k

-- a part under c binders of a tree whose loose variables rise by k
abbrev pub lift_at : ℕ → ℕ → Tree → Tree
lift_at c k SortType = SortType
lift_at c k SortKind = SortKind
lift_at c k (Var n) = Var (raised c k n)
lift_at c k (Sym s) = Sym s
lift_at c k (App f x) = App (lift_at c k f) (lift_at c k x)
lift_at c k (Lam a b) = Lam (lift_at c k a) (lift_at (suc c) k b)
lift_at c k (Pi a b) = Pi (lift_at c k a) (lift_at (suc c) k b)

-- the tree whose loose variables rise by k
abbrev pub lift : ℕ → Tree → Tree
lift k t = lift_at 0 k t

-- what stands for the variable n where a, lifted by d, is put for the variable d and the greater ones are lowered
abbrev pub put_var : ℕ → Tree → ℕ → Tree
put_var d a n = if nat_lt n d then Var n else (if nat_eq n d then lift d a else Var (n - 1))

-- a tree with a put for the variable d
abbrev pub put_at : ℕ → Tree → Tree → Tree
put_at d a SortType = SortType
put_at d a SortKind = SortKind
put_at d a (Var n) = put_var d a n
put_at d a (Sym s) = Sym s
put_at d a (App f x) = App (put_at d a f) (put_at d a x)
put_at d a (Lam t b) = Lam (put_at d a t) (put_at (suc d) a b)
put_at d a (Pi t b) = Pi (put_at d a t) (put_at (suc d) a b)

-- the body of a binder with a put for its variable
abbrev pub put : Tree → Tree → Tree
put a t = put_at 0 a t

-- what stands for the variable n under d binders where arguments are put for the innermost loose variables at once:
-- they stand in the order of an application, so the last is put for the innermost
abbrev pub put_all_var : ℕ → List Tree → ℕ → Tree
put_all_var d args n =
    if nat_lt n d then Var n else option_map_or (lift d) (slice_get (reverse args) (n - d)) (Var (n - length args))

-- a part under d binders of a tree with arguments put for its innermost loose variables
abbrev pub put_all_at : ℕ → List Tree → Tree → Tree
put_all_at d args SortType = SortType
put_all_at d args SortKind = SortKind
put_all_at d args (Var n) = put_all_var d args n
put_all_at d args (Sym s) = Sym s
put_all_at d args (App f x) = App (put_all_at d args f) (put_all_at d args x)
put_all_at d args (Lam t b) = Lam (put_all_at d args t) (put_all_at (suc d) args b)
put_all_at d args (Pi t b) = Pi (put_all_at d args t) (put_all_at (suc d) args b)

-- the body of as many binders as there are arguments, with each put for its variable
abbrev pub put_all : List Tree → Tree → Tree
put_all args t = put_all_at 0 args t

-- how many nodes a tree has
abbrev pub size : Tree → ℕ
size SortType = 1
size SortKind = 1
size (Var n) = 1
size (Sym s) = 1
size (App f x) = 1 + size f + size x
size (Lam a b) = 1 + size a + size b
size (Pi a b) = 1 + size a + size b

-- how many nodes the longest path of a tree has
abbrev pub depth : Tree → ℕ
depth SortType = 1
depth SortKind = 1
depth (Var n) = 1
depth (Sym s) = 1
depth (App f x) = 1 + max (depth f) (depth x)
depth (Lam a b) = 1 + max (depth a) (depth b)
depth (Pi a b) = 1 + max (depth a) (depth b)

-- how many binders round a tree leave it no loose variable
abbrev pub loose : Tree → ℕ
loose SortType = 0
loose SortKind = 0
loose (Var n) = suc n
loose (Sym s) = 0
loose (App f x) = max (loose f) (loose x)
loose (Lam a b) = max (loose a) (loose b - 1)
loose (Pi a b) = max (loose a) (loose b - 1)

-- whether two trees are one
abbrev pub tree_eq : Tree → Tree → Bool
tree_eq SortType SortType = true
tree_eq SortKind SortKind = true
tree_eq (Var n) (Var m) = nat_eq n m
tree_eq (Sym s) (Sym r) = nat_eq s r
tree_eq (App f x) (App g y) = tree_eq f g && tree_eq x y
tree_eq (Lam a b) (Lam c d) = tree_eq a c && tree_eq b d
tree_eq (Pi a b) (Pi c d) = tree_eq a c && tree_eq b d
tree_eq _ _ = false
