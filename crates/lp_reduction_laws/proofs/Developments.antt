-- The complete development of a tree takes all its redexes at once, and each parallel step goes on to it (Takahashi, 1995).
use Rattle.std.proofs.Common.{◌≡◌, ℕ, suc, zero, refl, sym, ap, subst, List, Option, Some, None}
use Rattle.std.specs.Prelude.{unwrap_or}
use Rattle.std.proofs.Math.Path.{subst₂}
use Rattle.lp_spec.specs.Trees.{Tree, SortType, SortKind, Var, Sym, App, Lam, Pi, lift, put}
use Rattle.lp_spec.specs.Modules.{Declaration, arr_symbol, arr_of, term_of}
use Rattle.lp_spec.specs.Conversion.{symbol_definition}
use Rattle.lp_typing_laws.specs.ConversionLaws.{IsClosed}
use Rattle.lp_reduction_laws.proofs.ParallelSteps.{Parallel, p_type, p_kind, p_var, p_sym, p_app, p_lam, p_pi, p_beta, p_delta, p_rule, Parallel-refl, Parallel-lift, Parallel-put}

-- which redex an application is
pub data Redex : Tree → Tree → Type 0 where
  is_beta : {a b x : Tree} → Redex (Lam a b) x
  is_rule : {a b : Tree} → Redex (Sym 4) (App (App (Sym 3) a) b)
  is_none : {f x : Tree} → Redex f x

-- the redex that an application is
abbrev pub redex : (f x : Tree) → Redex f x
redex (Lam a b) x = is_beta
redex (Sym (suc (suc (suc (suc zero))))) (App (App (Sym (suc (suc (suc zero)))) a) b) = is_rule
redex f x = is_none

-- the body of an abstraction
abbrev pub body_of : Tree → Tree
body_of (Lam a b) = b
body_of _ = SortType

-- the function of an application
abbrev pub function_of : Tree → Tree
function_of (App f x) = f
function_of _ = SortType

-- the argument of an application
abbrev pub argument_of : Tree → Tree
argument_of (App f x) = x
argument_of _ = SortType

-- `term (arr a b)` as a product, from `arr a b`
abbrev pub product_of : Tree → Tree
product_of y = Pi (term_of (argument_of (function_of y))) (lift 1 (term_of (argument_of y)))

-- the development of an application, from those of its parts
abbrev pub developed_application : {f x : Tree} → Redex f x → Tree → Tree → Tree
developed_application is_beta g y = put y (body_of g)
developed_application is_rule g y = product_of y
developed_application is_none g y = App g y

-- the complete development of a tree
abbrev pub developed : List Declaration → Tree → Tree
developed m SortType = SortType
developed m SortKind = SortKind
developed m (Var n) = Var n
developed m (Sym s) = unwrap_or (symbol_definition m s) (Sym s)
developed m (App f x) = developed_application (redex f x) (developed m f) (developed m x)
developed m (Lam a b) = Lam (developed m a) (developed m b)
developed m (Pi a b) = Pi (developed m a) (developed m b)

-- what an abstraction goes to
record FromLam (m : List Declaration) (a b u : Tree) : Type 0 where
  pub domain : Tree
  pub body : Tree
  pub is : Lam domain body ≡ u
  pub domain_by : Parallel m a domain
  pub body_by : Parallel m b body

-- an abstraction goes to an abstraction
Parallel-Lam : {m : List Declaration} {a b u : Tree} → Parallel m (Lam a b) u → FromLam m a b u
Parallel-Lam (p_lam {c = c} {d = d} h k) = record { domain = c; body = d; is = refl; domain_by = h; body_by = k }

-- a symbol that stands for nothing stays
Parallel-Sym : {m : List Declaration} {s : ℕ} {u : Tree} → symbol_definition m s ≡ None → Parallel m (Sym s) u → Sym s ≡ u
Parallel-Sym none p_sym = refl
Parallel-Sym none (p_delta h) = absurd (cc)

-- what an application of such a symbol goes to
record FromApp (m : List Declaration) (s : ℕ) (a u : Tree) : Type 0 where
  pub argument : Tree
  pub is : App (Sym s) argument ≡ u
  pub argument_by : Parallel m a argument

-- `arr a` goes to `arr` at what a goes to
Parallel-arr : {m : List Declaration} {a u : Tree} → Parallel m (App (Sym arr_symbol) a) u → FromApp m arr_symbol a u
Parallel-arr (p_app {y = y} f x) = record { argument = y; is = ap (λ g. App g y) (Parallel-Sym refl f); argument_by = x }

-- what `arr a b` goes to
record FromArr (m : List Declaration) (a b u : Tree) : Type 0 where
  pub left : Tree
  pub right : Tree
  pub is : arr_of left right ≡ u
  pub left_by : Parallel m a left
  pub right_by : Parallel m b right

-- `arr a b` goes to `arr` at what a and b go to
Parallel-arr_of : {m : List Declaration} {a b u : Tree} → Parallel m (arr_of a b) u → FromArr m a b u
Parallel-arr_of (p_app {y = y} f x) =
    let h = Parallel-arr f in
    record { left = h.argument; right = y; is = ap (λ g. App g y) h.is; left_by = h.argument_by; right_by = x }

module _ (m : List Declaration) (closed : IsClosed m) where
  -- where the parts of an application go on to their developments, the application does
  application_develops : {f x g y df dx : Tree} → (r : Redex f x) → Parallel m f g → Parallel m x y → df ≡ developed m f → dx ≡ developed m x
      → Parallel m g df → Parallel m y dx → Parallel m (App g y) (developed_application r df dx)
  application_develops {g = g} {y = y} {df = df} {dx = dx} (is_beta {a = a} {b = b}) f x ef ex hf hx =
      let h = Parallel-Lam f in
      let k = Parallel-Lam (subst₂ (Parallel m) (sym h.is) ef hf) in
      subst₂ (λ w z. Parallel m (App w y) (put dx (body_of z))) h.is (sym ef) (p_beta (subst (Parallel m h.body) (ap body_of k.is) k.body_by) hx refl)
  application_develops {g = g} {y = y} {df = df} {dx = dx} (is_rule {a = a} {b = b}) f x ef ex hf hx =
      let h = Parallel-arr_of x in
      let k = Parallel-arr_of (subst (λ w. Parallel m w dx) (sym h.is) hx) in
      subst₂ (λ w z. Parallel m (App w z) (product_of dx)) (Parallel-Sym refl f) h.is (p_rule k.left_by k.right_by (ap product_of k.is))
  application_develops is_none f x ef ex hf hx = p_app hf hx

  -- a symbol goes to its development
  symbol_develops : (s : ℕ) (o : Option Tree) → symbol_definition m s ≡ o → Parallel m (Sym s) (unwrap_or o (Sym s))
  symbol_develops s None e = p_sym
  symbol_develops s (Some t) e = p_delta e

  -- The triangle: whatever parallel step a tree takes, another leads on to its complete development.
  pub Parallel-developed : {t u : Tree} → Parallel m t u → Parallel m u (developed m t)
  Parallel-developed p_type = p_type
  Parallel-developed p_kind = p_kind
  Parallel-developed p_var = p_var
  Parallel-developed (p_sym {s = s}) = symbol_develops s (symbol_definition m s) refl
  Parallel-developed (p_app {f = f} {x = x} hf hx) = application_develops (redex f x) hf hx refl refl (Parallel-developed hf) (Parallel-developed hx)
  Parallel-developed (p_lam a b) = p_lam (Parallel-developed a) (Parallel-developed b)
  Parallel-developed (p_pi a b) = p_pi (Parallel-developed a) (Parallel-developed b)
  Parallel-developed (p_beta {b = b} {x = x} hb hx e) =
      subst (λ w. Parallel m w (put (developed m x) (developed m b))) e (Parallel-put m closed (Parallel-developed hx) (Parallel-developed hb))
  Parallel-developed (p_delta {s = s} {u = u} h) = subst (Parallel m u) (ap (λ o. unwrap_or o (Sym s)) (sym h)) (Parallel-refl m u)
  Parallel-developed (p_rule {a = a} {b = b} ha hb e) =
      subst (λ w. Parallel m w (Pi (term_of (developed m a)) (lift 1 (term_of (developed m b))))) e
      (p_pi (p_app p_sym (Parallel-developed ha)) (Parallel-lift m closed (p_app p_sym (Parallel-developed hb))))
