-- Renamings and substitutions leave closed trees alone, and pass through putting and lifting.
use Rattle.std.proofs.Common.{◌≡◌, ℕ, zero, suc, ◌<◌, ◌≤◌, refl, sym, ap, ◌∙◌, arith}
use Rattle.std.proofs.Math.Path.{fun_ext, ap₂}
use Rattle.lp_spec.specs.Trees.{Tree, SortType, SortKind, Var, Sym, App, Lam, Pi, lift, put, loose}
use Rattle.lp_binding_laws.specs.Composition.{ren_ren, sub_ren, ren_sub, sub_sub, sub_var, lift_is, put_is}
use Rattle.lp_spec.specs.Substitution.{up, ren, ups, sub, cons}

-- the renaming moves no variable below c
pub record Fixes (c : ℕ) (r : ℕ → ℕ) : Type 0 where
  pub each : (n : ℕ) → n < c → r n ≡ n

-- under a binder it moves none below c + 1
Fixes-up : {c : ℕ} {r : ℕ → ℕ} → Fixes c r → Fixes (suc c) (up r)
Fixes-up {c = c} {r = r} f = record { each = go }
  where
    go : (n : ℕ) → n < suc c → up r n ≡ n
    go zero h = refl
    go (suc n) h = ap suc (f.each n (omega arith))

-- a renaming that moves no loose variable of a tree leaves it alone
pub ren_fixed : (c : ℕ) (r : ℕ → ℕ) (t : Tree) → Fixes c r → loose t ≤ c → ren r t ≡ t
ren_fixed c r SortType f h = refl
ren_fixed c r SortKind f h = refl
ren_fixed c r (Var n) f h = ap Var (f.each n (omega (arith, h)))
ren_fixed c r (Sym s) f h = refl
ren_fixed c r (App g x) f h = ap₂ App (ren_fixed c r g f (omega (arith, h))) (ren_fixed c r x f (omega (arith, h)))
ren_fixed c r (Lam a b) f h = ap₂ Lam (ren_fixed c r a f (omega (arith, h))) (ren_fixed (suc c) (up r) b (Fixes-up f) (omega (arith, h)))
ren_fixed c r (Pi a b) f h = ap₂ Pi (ren_fixed c r a f (omega (arith, h))) (ren_fixed (suc c) (up r) b (Fixes-up f) (omega (arith, h)))

-- a renaming leaves a closed tree alone
pub ren_closed : (r : ℕ → ℕ) (t : Tree) → loose t ≡ 0 → ren r t ≡ t
ren_closed r t h = ren_fixed 0 r t (record { each = λ n lt. absurd (omega arith) }) (omega (arith, h))

-- the substitution puts itself for each variable below c
pub record FixesVariables (c : ℕ) (s : ℕ → Tree) : Type 0 where
  pub each : (n : ℕ) → n < c → s n ≡ Var n

-- under a binder it puts itself for each below c + 1
FixesVariables-ups : {c : ℕ} {s : ℕ → Tree} → FixesVariables c s → FixesVariables (suc c) (ups s)
FixesVariables-ups {c = c} {s = s} f = record { each = go }
  where
    go : (n : ℕ) → n < suc c → ups s n ≡ Var n
    go zero h = refl
    go (suc n) h = ap (ren suc) (f.each n (omega arith))

-- a substitution that puts itself for each loose variable of a tree leaves the tree alone
pub sub_fixed : (c : ℕ) (s : ℕ → Tree) (t : Tree) → FixesVariables c s → loose t ≤ c → sub s t ≡ t
sub_fixed c s SortType f h = refl
sub_fixed c s SortKind f h = refl
sub_fixed c s (Var n) f h = f.each n (omega (arith, h))
sub_fixed c s (Sym x) f h = refl
sub_fixed c s (App g x) f h = ap₂ App (sub_fixed c s g f (omega (arith, h))) (sub_fixed c s x f (omega (arith, h)))
sub_fixed c s (Lam a b) f h = ap₂ Lam (sub_fixed c s a f (omega (arith, h))) (sub_fixed (suc c) (ups s) b (FixesVariables-ups f) (omega (arith, h)))
sub_fixed c s (Pi a b) f h = ap₂ Pi (sub_fixed c s a f (omega (arith, h))) (sub_fixed (suc c) (ups s) b (FixesVariables-ups f) (omega (arith, h)))

-- a substitution leaves a closed tree alone
pub sub_closed : (s : ℕ → Tree) (t : Tree) → loose t ≡ 0 → sub s t ≡ t
sub_closed s t h = sub_fixed 0 s t (record { each = λ n lt. absurd (omega arith) }) (omega (arith, h))

-- a renaming of what is put for a variable
ren_cons : (r : ℕ → ℕ) (x : Tree) (n : ℕ) → ren r (cons x Var n) ≡ cons (ren r x) Var (up r n)
ren_cons r x zero = refl
ren_cons r x (suc n) = refl

-- a renaming passes through putting
pub ren-put : (r : ℕ → ℕ) (x b : Tree) → ren r (put x b) ≡ put (ren r x) (ren (up r) b)
ren-put r x b =
    ap (ren r) (put_is x b) ∙ ren_sub r (cons x Var) b ∙ ap (λ w. sub w b) (fun_ext (ren_cons r x))
    ∙ sym (sub_ren (cons (ren r x) Var) (up r) b) ∙ sym (put_is (ren r x) (ren (up r) b))

-- a substitution in what is put for a variable
sub_cons : (s : ℕ → Tree) (x : Tree) (n : ℕ) → sub s (cons x Var n) ≡ sub (cons (sub s x) Var) (ups s n)
sub_cons s x zero = refl
sub_cons s x (suc n) = sym (sub_var (s n)) ∙ sym (sub_ren (cons (sub s x) Var) suc (s n))

-- a substitution passes through putting
pub sub-put : (s : ℕ → Tree) (x b : Tree) → sub s (put x b) ≡ put (sub s x) (sub (ups s) b)
sub-put s x b =
    ap (sub s) (put_is x b) ∙ sub_sub s (cons x Var) b ∙ ap (λ w. sub w b) (fun_ext (sub_cons s x))
    ∙ sym (sub_sub (cons (sub s x) Var) (ups s) b) ∙ sym (put_is (sub s x) (sub (ups s) b))

-- to lift by one is to rename each variable to the next
pub lift_one : (t : Tree) → lift 1 t ≡ ren suc t
lift_one t = lift_is 1 t ∙ ap (λ w. ren w t) (fun_ext (λ n. grind arith))

-- a renaming passes through lifting
pub ren-lift : (r : ℕ → ℕ) (t : Tree) → ren (up r) (lift 1 t) ≡ lift 1 (ren r t)
ren-lift r t = ap (ren (up r)) (lift_one t) ∙ ren_ren (up r) suc t ∙ sym (ren_ren suc r t) ∙ sym (lift_one (ren r t))

-- a substitution passes through lifting
pub sub-lift : (s : ℕ → Tree) (t : Tree) → sub (ups s) (lift 1 t) ≡ lift 1 (sub s t)
sub-lift s t = ap (sub (ups s)) (lift_one t) ∙ sub_ren (ups s) suc t ∙ sym (ren_sub suc s t) ∙ sym (lift_one (sub s t))
