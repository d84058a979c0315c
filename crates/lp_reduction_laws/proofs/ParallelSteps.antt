-- Parallel steps: any redexes of a tree at once (Tait and Martin-Löf; Takahashi, Parallel reductions in lambda-calculus, 1995).
use Rattle.std.proofs.Common.{◌≡◌, ℕ, zero, suc, sym, ap, ◌∙◌, Some}
use Rattle.std.specs.Prelude.{List}
use Rattle.std.proofs.Math.Path.{subst₂}
use Rattle.lp_spec.specs.Trees.{Tree, SortType, SortKind, Var, Sym, App, Lam, Pi, lift, put}
use Rattle.lp_spec.specs.Substitution.{up, ren, ups, sub, cons}
use Rattle.lp_binding_laws.specs.Composition.{put_is}
use Rattle.lp_binding_laws.specs.SubstitutionLaws.{ren_closed, sub_closed, ren-put, sub-put, lift_one, ren-lift, sub-lift}
use Rattle.lp_spec.specs.Modules.{Declaration, arr_of, term_of}
use Rattle.lp_spec.specs.Conversion.{symbol_definition, Step, beta, delta, rule, app_function, app_argument, lam_domain, lam_body, pi_domain, pi_body, Steps, done, next}
use Rattle.lp_typing_laws.specs.ConversionLaws.{IsClosed, Steps-trans, Steps-under}

-- a step of any redexes of a tree at once
pub data Parallel (m : List Declaration) : Tree → Tree → Type 0 where
  p_type : Parallel m SortType SortType
  p_kind : Parallel m SortKind SortKind
  p_var : {n : ℕ} → Parallel m (Var n) (Var n)
  p_sym : {s : ℕ} → Parallel m (Sym s) (Sym s)
  p_app : {f g x y : Tree} → Parallel m f g → Parallel m x y → Parallel m (App f x) (App g y)
  p_lam : {a c b d : Tree} → Parallel m a c → Parallel m b d → Parallel m (Lam a b) (Lam c d)
  p_pi : {a c b d : Tree} → Parallel m a c → Parallel m b d → Parallel m (Pi a b) (Pi c d)
  p_beta : {a b d x y u : Tree} → Parallel m b d → Parallel m x y → put y d ≡ u → Parallel m (App (Lam a b) x) u
  p_delta : {s : ℕ} {u : Tree} → symbol_definition m s ≡ Some u → Parallel m (Sym s) u
  p_rule : {a c b d u : Tree} → Parallel m a c → Parallel m b d → Pi (term_of c) (lift 1 (term_of d)) ≡ u → Parallel m (term_of (arr_of a b)) u

module _ (m : List Declaration) where
  -- no redex need be taken
  pub Parallel-refl : (t : Tree) → Parallel m t t
  Parallel-refl SortType = p_type
  Parallel-refl SortKind = p_kind
  Parallel-refl (Var n) = p_var
  Parallel-refl (Sym s) = p_sym
  Parallel-refl (App f x) = p_app (Parallel-refl f) (Parallel-refl x)
  Parallel-refl (Lam a b) = p_lam (Parallel-refl a) (Parallel-refl b)
  Parallel-refl (Pi a b) = p_pi (Parallel-refl a) (Parallel-refl b)

  -- one redex may be taken
  pub Step-Parallel : {t u : Tree} → Step m t u → Parallel m t u
  Step-Parallel (beta e) = p_beta (Parallel-refl _) (Parallel-refl _) e
  Step-Parallel (delta h) = p_delta h
  Step-Parallel (rule e) = p_rule (Parallel-refl _) (Parallel-refl _) e
  Step-Parallel (app_function h) = p_app (Step-Parallel h) (Parallel-refl _)
  Step-Parallel (app_argument h) = p_app (Parallel-refl _) (Step-Parallel h)
  Step-Parallel (lam_domain h) = p_lam (Step-Parallel h) (Parallel-refl _)
  Step-Parallel (lam_body h) = p_lam (Parallel-refl _) (Step-Parallel h)
  Step-Parallel (pi_domain h) = p_pi (Step-Parallel h) (Parallel-refl _)
  Step-Parallel (pi_body h) = p_pi (Parallel-refl _) (Step-Parallel h)

  module _ (closed : IsClosed m) where
    -- renamings keep parallel steps
    pub Parallel-ren : (r : ℕ → ℕ) {t u : Tree} → Parallel m t u → Parallel m (ren r t) (ren r u)
    Parallel-ren r p_type = p_type
    Parallel-ren r p_kind = p_kind
    Parallel-ren r p_var = p_var
    Parallel-ren r p_sym = p_sym
    Parallel-ren r (p_app f x) = p_app (Parallel-ren r f) (Parallel-ren r x)
    Parallel-ren r (p_lam a b) = p_lam (Parallel-ren r a) (Parallel-ren (up r) b)
    Parallel-ren r (p_pi a b) = p_pi (Parallel-ren r a) (Parallel-ren (up r) b)
    Parallel-ren r (p_beta {d = d} {y = y} b x e) = p_beta (Parallel-ren (up r) b) (Parallel-ren r x) (sym (ren-put r y d) ∙ ap (ren r) e)
    Parallel-ren r (p_delta {s = s} {u = u} h) = p_delta (h ∙ ap Some (sym (ren_closed r u (closed.definitions s u h))))
    Parallel-ren r (p_rule {c = c} {d = d} a b e) =
        p_rule (Parallel-ren r a) (Parallel-ren r b) (ap (Pi (term_of (ren r c))) (sym (ren-lift r (term_of d))) ∙ ap (ren r) e)

    -- lifting keeps parallel steps
    pub Parallel-lift : {t u : Tree} → Parallel m t u → Parallel m (lift 1 t) (lift 1 u)
    Parallel-lift {t = t} {u = u} h = subst₂ (Parallel m) (sym (lift_one t)) (sym (lift_one u)) (Parallel-ren suc h)

    -- parallel steps of a substitution, under a binder
    Parallel-ups : (s w : ℕ → Tree) → ((n : ℕ) → Parallel m (s n) (w n)) → (n : ℕ) → Parallel m (ups s n) (ups w n)
    Parallel-ups s w h zero = p_var
    Parallel-ups s w h (suc n) = Parallel-ren suc (h n)

    -- where a substitution goes by parallel steps to another, so does what they make of a parallel step
    pub Parallel-sub : (s w : ℕ → Tree) {t u : Tree} → ((n : ℕ) → Parallel m (s n) (w n)) → Parallel m t u → Parallel m (sub s t) (sub w u)
    Parallel-sub s w h p_type = p_type
    Parallel-sub s w h p_kind = p_kind
    Parallel-sub s w h (p_var {n = n}) = h n
    Parallel-sub s w h p_sym = p_sym
    Parallel-sub s w h (p_app f x) = p_app (Parallel-sub s w h f) (Parallel-sub s w h x)
    Parallel-sub s w h (p_lam a b) = p_lam (Parallel-sub s w h a) (Parallel-sub (ups s) (ups w) (Parallel-ups s w h) b)
    Parallel-sub s w h (p_pi a b) = p_pi (Parallel-sub s w h a) (Parallel-sub (ups s) (ups w) (Parallel-ups s w h) b)
    Parallel-sub s w h (p_beta {d = d} {y = y} b x e) =
        p_beta (Parallel-sub (ups s) (ups w) (Parallel-ups s w h) b) (Parallel-sub s w h x) (sym (sub-put w y d) ∙ ap (sub w) e)
    Parallel-sub s w h (p_delta {s = j} {u = u} k) = p_delta (k ∙ ap Some (sym (sub_closed w u (closed.definitions j u k))))
    Parallel-sub s w h (p_rule {c = c} {d = d} a b e) =
        p_rule (Parallel-sub s w h a) (Parallel-sub s w h b) (ap (Pi (term_of (sub w c))) (sym (sub-lift w (term_of d))) ∙ ap (sub w) e)

    -- parallel steps of what is put for a variable
    Parallel-cons : {x y : Tree} → Parallel m x y → (n : ℕ) → Parallel m (cons x Var n) (cons y Var n)
    Parallel-cons h zero = h
    Parallel-cons h (suc n) = p_var

    -- putting keeps parallel steps, of the argument and of the body
    pub Parallel-put : {x y b d : Tree} → Parallel m x y → Parallel m b d → Parallel m (put x b) (put y d)
    Parallel-put {x = x} {y = y} {b = b} {d = d} hx hb =
        subst₂ (Parallel m) (sym (put_is x b)) (sym (put_is y d)) (Parallel-sub (cons x Var) (cons y Var) (Parallel-cons hx) hb)

-- a parallel step is a chain of steps
pub Parallel-Steps : {m : List Declaration} {t u : Tree} → Parallel m t u → Steps m t u
Parallel-Steps p_type = done
Parallel-Steps p_kind = done
Parallel-Steps p_var = done
Parallel-Steps p_sym = done
Parallel-Steps (p_app {g = g} {x = x} hf hx) =
    Steps-trans (Steps-under (λ w. App w x) (λ a b. app_function) (Parallel-Steps hf)) (Steps-under (App g) (λ a b. app_argument) (Parallel-Steps hx))
Parallel-Steps (p_lam {c = c} {b = b} ha hb) =
    Steps-trans (Steps-under (λ w. Lam w b) (λ a b. lam_domain) (Parallel-Steps ha)) (Steps-under (Lam c) (λ a b. lam_body) (Parallel-Steps hb))
Parallel-Steps (p_pi {c = c} {b = b} ha hb) =
    Steps-trans (Steps-under (λ w. Pi w b) (λ a b. pi_domain) (Parallel-Steps ha)) (Steps-under (Pi c) (λ a b. pi_body) (Parallel-Steps hb))
Parallel-Steps (p_beta {a = a} {d = d} {x = x} hb hx e) =
    Steps-trans (Steps-under (λ w. App w x) (λ a b. app_function) (Steps-under (Lam a) (λ a b. lam_body) (Parallel-Steps hb)))
    (Steps-trans (Steps-under (App (Lam a d)) (λ a b. app_argument) (Parallel-Steps hx)) (next (beta e) done))
Parallel-Steps (p_delta h) = next (delta h) done
Parallel-Steps (p_rule {c = c} {b = b} ha hb e) =
    Steps-trans (Steps-under (λ w. term_of (arr_of w b)) (λ p q h. app_argument (app_function (app_argument h))) (Parallel-Steps ha))
    (Steps-trans (Steps-under (λ w. term_of (arr_of c w)) (λ p q h. app_argument (app_argument h)) (Parallel-Steps hb)) (next (rule e) done))
