-- The nodes of a filler, each made over those before it.
use Rattle.std.proofs.Common.{◌≡◌, ◌<◌, sym, ap, ◌∙◌, List, length, Some}
use Rattle.lp_spec.specs.Trees.{Tree, Var, Sym, App, Lam, lift}
use Rattle.lp_spec.specs.Modules.{term_of, eq_of, term_symbol, eq_symbol, select_symbol}
use Rattle.lp_term.specs.declared.LpId.{LpId}
use Rattle.lp_term.specs.Tables.{tree_at, Holds, Keeps}
use Rattle.lp_term.specs.TableLaws.{Holds-tree_at, Keeps-trans, tree_at-Stays}
use Rattle.translate_spec.specs.Scopes.{filler}
use Rattle.std.proofs.Math.Path.{ap₂}

module _ (t0 t1 t2 t3 t4 t5 t6 : List Tree) (ty lifted variable equation domain test : LpId) (known : ty.0 < length t0)
    (k1 : Keeps t0 t1) (k2 : Keeps t1 t2) (k3 : Keeps t2 t3) (k4 : Keeps t3 t4) (k5 : Keeps t4 t5) (k6 : Keeps t5 t6) where
  pub filling-keeps : Keeps t0 t6
  filling-keeps = Keeps-trans k1 (Keeps-trans k2 (Keeps-trans k3 (Keeps-trans k4 (Keeps-trans k5 k6))))

  module _ (h1 : Holds t1 lifted.0 (lift 1 (tree_at t0 ty.0))) (h2 : Holds t2 variable.0 (Var 0))
      (h3 : Holds t3 equation.0 (App (App (App (Sym eq_symbol) (tree_at t2 lifted.0)) (tree_at t2 variable.0)) (tree_at t2 variable.0)))
      (h4 : Holds t4 domain.0 (App (Sym term_symbol) (tree_at t3 ty.0))) (h5 : Holds t5 test.0 (Lam (tree_at t4 domain.0) (tree_at t4 equation.0))) where
    lifted-is : tree_at t2 lifted.0 ≡ lift 1 (tree_at t0 ty.0)
    lifted-is = Holds-tree_at t2 lifted.0 _ (k2.stays.each lifted.0 _ h1)

    equation-is : tree_at t4 equation.0 ≡ eq_of (lift 1 (tree_at t0 ty.0)) (Var 0) (Var 0)
    equation-is =
        Holds-tree_at t4 equation.0 _ (k4.stays.each equation.0 _ h3)
        ∙ ap₂ (λ a x. App (App (App (Sym eq_symbol) a) x) x) lifted-is (Holds-tree_at t2 variable.0 _ h2)

    domain-is : tree_at t4 domain.0 ≡ term_of (tree_at t0 ty.0)
    domain-is = Holds-tree_at t4 domain.0 _ h4 ∙ ap (App (Sym term_symbol)) (sym (tree_at-Stays (Keeps-trans k1 (Keeps-trans k2 k3)).stays ty.0 known))

    test-is : tree_at t5 test.0 ≡ Lam (term_of (tree_at t0 ty.0)) (eq_of (lift 1 (tree_at t0 ty.0)) (Var 0) (Var 0))
    test-is = Holds-tree_at t5 test.0 _ h5 ∙ ap₂ Lam domain-is equation-is

    pub filling-made : (r : LpId) → Holds t6 r.0 (App (App (Sym select_symbol) (tree_at t5 ty.0)) (tree_at t5 test.0)) → Holds t6 r.0 (filler (tree_at t0 ty.0))
    filling-made r h = h ∙ ap₂ (λ a x. Some (App (App (Sym select_symbol) a) x))
        (sym (tree_at-Stays (Keeps-trans k1 (Keeps-trans k2 (Keeps-trans k3 (Keeps-trans k4 k5)))).stays ty.0 known)) test-is
