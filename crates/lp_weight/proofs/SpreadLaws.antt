-- Sizes of variables and spreads of symbols, step by step.
use Rattle.std.proofs.Common.{◌≡◌, ℕ, suc, ◌+◌, ◌-◌, ◌≤◌, refl, ap, ◌∙◌, arith, List, [], ◌∷◌, length, reverse, Bool, true, false, Option, Some, None}
use Rattle.std.specs.Prelude.{nat_lt, slice_get, option_map, if◌then◌else◌}
use Rattle.std.specs.Option.{option_map_or}
use Rattle.std.proofs.lemmas.Option.{slice_get-map}
use Rattle.lp_spec.specs.Trees.{Tree, SortType, SortKind, Var, Sym, App, Lam, Pi, size, lift, put_all_var, put_all_at}
use Rattle.lp_spec.specs.Modules.{Declaration}
use Rattle.lp_spec.specs.Weight.{spreads, tree_weight, weight}
use Rattle.lp_check_laws.specs.Sizes.{size-lift}
use Rattle.lp_term.specs.declared.LpId.{LpId}
use Rattle.lp_term.specs.Tables.{tree_at}
use Rattle.holide_sig.specs.declared.decls.Decl.{Decl}
use Rattle.holide_sig.specs.declared.module.Module.{Module}
use Rattle.holide_sig.specs.Modules.{declaration_in, declarations_of}
use Rattle.lp_weight.specs.Weights.{head_spread, inner_spreads, weight_at}
use Rattle.std.proofs.Math.Path.{ap₂}

-- the spreads of a tree are that of its head and the others
pub spreads-split : (m : List Declaration) (args : List Tree) (t : Tree) → spreads m args t ≡ inner_spreads m t + head_spread m args t
spreads-split m args SortType = refl
spreads-split m args SortKind = refl
spreads-split m args (Var n) = refl
spreads-split m args (Sym s) = omega arith
spreads-split m args (App f x) = omega (arith, spreads-split m (x ∷ args) f)
spreads-split m args (Lam a b) = omega arith
spreads-split m args (Pi a b) = omega arith

-- the size of what stands for a variable
pub size-variable : (d : ℕ) (us : List Tree) (n : ℕ) (o : Option Tree) → slice_get (reverse us) (n - d) ≡ o → d ≤ n → size (put_all_var d us n)
    ≡ option_map_or size o 1
size-variable d us n o e le = go (nat_lt n d) refl
  where
    go : (b : Bool) → nat_lt n d ≡ b → size (if b then Var n else option_map_or (lift d) (slice_get (reverse us) (n - d)) (Var (n - length us)))
        ≡ option_map_or size o 1
    go true h = absurd (grind (arith, h, le))
    go false h = ap (λ w. size (option_map_or (lift d) w (Var (n - length us)))) e ∙ either o
      where
        either : (o : Option Tree) → size (option_map_or (lift d) o (Var (n - length us))) ≡ option_map_or size o 1
        either None = refl
        either (Some t) = size-lift d t

-- the weight of a declaration by number
pub weight_at-decl : (m : Module) (i : ℕ) (d : Decl) → slice_get m.decls i ≡ Some d → weight_at (declarations_of m) i
    ≡ weight (declarations_of m) (declaration_in m.table d)
weight_at-decl m i d e = ap (λ o. option_map_or (weight (declarations_of m)) o 0)
    (slice_get-map (declaration_in m.table) m.decls i ∙ ap (option_map (declaration_in m.table)) e)

-- a body's weight
pub body-weight : (ds : List Declaration) (ts : List Tree) (body : Option LpId) (b : LpId) → body ≡ Some b
    → option_map_or (tree_weight ds) (option_map (λ id. tree_at ts id.0) body) 0 ≡ tree_weight ds (tree_at ts b.0)
body-weight ds ts body b e = ap (λ o. option_map_or (tree_weight ds) (option_map (λ (id : LpId). tree_at ts id.0) o) 0) e

pub no_body-weight : (ds : List Declaration) (ts : List Tree) (body : Option LpId) → body ≡ None
    → option_map_or (tree_weight ds) (option_map (λ id. tree_at ts id.0) body) 0 ≡ 0
no_body-weight ds ts body e = ap (λ o. option_map_or (tree_weight ds) (option_map (λ (id : LpId). tree_at ts id.0) o) 0) e

-- no argument put in leaves a tree alone
pub put_all_at-none : (d : ℕ) (t : Tree) → put_all_at d [] t ≡ t
put_all_at-none d SortType = refl
put_all_at-none d SortKind = refl
put_all_at-none d (Var n) = grind arith
put_all_at-none d (Sym s) = refl
put_all_at-none d (App f x) = ap₂ App (put_all_at-none d f) (put_all_at-none d x)
put_all_at-none d (Lam a b) = ap₂ Lam (put_all_at-none d a) (put_all_at-none (suc d) b)
put_all_at-none d (Pi a b) = ap₂ Pi (put_all_at-none d a) (put_all_at-none (suc d) b)
