-- Steps and conversion: chains joined and reversed, and what renamings, substitutions and further declarations keep of them.
use Rattle.std.proofs.Common.{◌≡◌, ℕ, sym, ap, ◌∙◌, subst, List, ◌++◌, Some}
use Rattle.std.proofs.Math.Path.{subst₂}
use Rattle.lp_binding_laws.specs.LookUps.{slice_get-append, option_map-append, option_and_then-append}
use Rattle.lp_spec.specs.Trees.{Tree, Var, Pi, put, loose}
use Rattle.lp_spec.specs.Substitution.{up, ren, ups, sub, cons}
use Rattle.lp_binding_laws.specs.Composition.{put_is}
use Rattle.lp_binding_laws.specs.SubstitutionLaws.{ren_closed, sub_closed, ren-put, sub-put, ren-lift, sub-lift}
use Rattle.lp_spec.specs.Modules.{Declaration, signature, symbol_declaration, symbol_type, term_of}
use Rattle.lp_spec.specs.Conversion.{symbol_definition, definition_of, Step, beta, delta, rule, app_function, app_argument, lam_domain, lam_body, pi_domain, pi_body, Steps, done, next, Conv, same, forth, back}

-- every declared type and every definition is closed
pub record IsClosed (m : List Declaration) : Type 0 where
  pub types : (s : ℕ) (A : Tree) → symbol_type m s ≡ Some A → loose A ≡ 0
  pub definitions : (s : ℕ) (t : Tree) → symbol_definition m s ≡ Some t → loose t ≡ 0

-- two chains of steps are one
pub Steps-trans : {m : List Declaration} {t u v : Tree} → Steps m t u → Steps m u v → Steps m t v
Steps-trans done k = k
Steps-trans (next h r) k = next h (Steps-trans r k)

-- where each step of a part is a step of the whole, so is a chain
pub Steps-under : {m : List Declaration} (f : Tree → Tree) → ((a b : Tree) → Step m a b → Step m (f a) (f b)) → {t u : Tree} → Steps m t u → Steps m (f t) (f u)
Steps-under f h done = done
Steps-under f h (next s r) = next (h _ _ s) (Steps-under f h r)

-- two conversions are one
pub Conv-trans : {m : List Declaration} {t u v : Tree} → Conv m t u → Conv m u v → Conv m t v
Conv-trans same k = k
Conv-trans (forth h c) k = forth h (Conv-trans c k)
Conv-trans (back h c) k = back h (Conv-trans c k)

-- a conversion goes both ways
pub Conv-sym : {m : List Declaration} {t u : Tree} → Conv m t u → Conv m u t
Conv-sym same = same
Conv-sym (forth h c) = Conv-trans (Conv-sym c) (back h same)
Conv-sym (back h c) = Conv-trans (Conv-sym c) (forth h same)

-- where each step of a part is a step of the whole, conversion of the parts is conversion of the wholes
pub Conv-under : {m : List Declaration} (f : Tree → Tree) → ((a b : Tree) → Step m a b → Step m (f a) (f b)) → {t u : Tree} → Conv m t u → Conv m (f t) (f u)
Conv-under f h same = same
Conv-under f h (forth s c) = forth (h _ _ s) (Conv-under f h c)
Conv-under f h (back s c) = back (h _ _ s) (Conv-under f h c)

-- a chain of steps is a conversion
pub Steps-Conv : {m : List Declaration} {t u : Tree} → Steps m t u → Conv m t u
Steps-Conv done = same
Steps-Conv (next h r) = forth h (Steps-Conv r)

-- equal trees are convertible
pub Conv-equal : {m : List Declaration} {t u : Tree} → t ≡ u → Conv m t u
Conv-equal {m = m} {t = t} e = subst (Conv m t) e same

module _ (m : List Declaration) (closed : IsClosed m) where
  -- renamings keep steps
  pub Step-ren : (r : ℕ → ℕ) {t u : Tree} → Step m t u → Step m (ren r t) (ren r u)
  Step-ren r (beta {b = b} {x = x} e) = beta (sym (ren-put r x b) ∙ ap (ren r) e)
  Step-ren r (delta {s = s} {u = u} h) = delta (h ∙ ap Some (sym (ren_closed r u (closed.definitions s u h))))
  Step-ren r (rule {a = a} {b = b} e) = rule (ap (Pi (term_of (ren r a))) (sym (ren-lift r (term_of b))) ∙ ap (ren r) e)
  Step-ren r (app_function h) = app_function (Step-ren r h)
  Step-ren r (app_argument h) = app_argument (Step-ren r h)
  Step-ren r (lam_domain h) = lam_domain (Step-ren r h)
  Step-ren r (lam_body h) = lam_body (Step-ren (up r) h)
  Step-ren r (pi_domain h) = pi_domain (Step-ren r h)
  Step-ren r (pi_body h) = pi_body (Step-ren (up r) h)

  -- substitutions keep steps
  pub Step-sub : (s : ℕ → Tree) {t u : Tree} → Step m t u → Step m (sub s t) (sub s u)
  Step-sub s (beta {b = b} {x = x} e) = beta (sym (sub-put s x b) ∙ ap (sub s) e)
  Step-sub s (delta {s = k} {u = u} h) = delta (h ∙ ap Some (sym (sub_closed s u (closed.definitions k u h))))
  Step-sub s (rule {a = a} {b = b} e) = rule (ap (Pi (term_of (sub s a))) (sym (sub-lift s (term_of b))) ∙ ap (sub s) e)
  Step-sub s (app_function h) = app_function (Step-sub s h)
  Step-sub s (app_argument h) = app_argument (Step-sub s h)
  Step-sub s (lam_domain h) = lam_domain (Step-sub s h)
  Step-sub s (lam_body h) = lam_body (Step-sub (ups s) h)
  Step-sub s (pi_domain h) = pi_domain (Step-sub s h)
  Step-sub s (pi_body h) = pi_body (Step-sub (ups s) h)

  -- renamings keep conversion
  pub Conv-ren : (r : ℕ → ℕ) {t u : Tree} → Conv m t u → Conv m (ren r t) (ren r u)
  Conv-ren r same = same
  Conv-ren r (forth h c) = forth (Step-ren r h) (Conv-ren r c)
  Conv-ren r (back h c) = back (Step-ren r h) (Conv-ren r c)

  -- substitutions keep conversion
  pub Conv-sub : (s : ℕ → Tree) {t u : Tree} → Conv m t u → Conv m (sub s t) (sub s u)
  Conv-sub s same = same
  Conv-sub s (forth h c) = forth (Step-sub s h) (Conv-sub s c)
  Conv-sub s (back h c) = back (Step-sub s h) (Conv-sub s c)

  -- what is put in convertible trees leaves them convertible
  pub Conv-put : (x : Tree) {B C : Tree} → Conv m B C → Conv m (put x B) (put x C)
  Conv-put x {B = B} {C = C} h = subst₂ (Conv m) (sym (put_is x B)) (sym (put_is x C)) (Conv-sub (cons x Var) h)

-- further declarations keep steps and conversion
module _ (m more : List Declaration) where
  -- a symbol keeps its declaration
  pub symbol_declaration-append : (s : ℕ) (d : Declaration) → symbol_declaration m s ≡ Some d → symbol_declaration (m ++ more) s ≡ Some d
  symbol_declaration-append s d h = slice_get-append (signature ++ m) more s d h

  -- a symbol keeps its type
  pub symbol_type-append : (s : ℕ) (A : Tree) → symbol_type m s ≡ Some A → symbol_type (m ++ more) s ≡ Some A
  symbol_type-append s A h = option_map-append (λ d. d.ty) (signature ++ m) more s A h

  -- a symbol keeps what it stands for
  pub symbol_definition-append : (s : ℕ) (t : Tree) → symbol_definition m s ≡ Some t → symbol_definition (m ++ more) s ≡ Some t
  symbol_definition-append s t h = option_and_then-append (λ d. definition_of d.form d.body) (signature ++ m) more s t h

  -- a step stays a step
  pub Step-append : {t u : Tree} → Step m t u → Step (m ++ more) t u
  Step-append (beta e) = beta e
  Step-append (delta {s = s} {u = u} h) = delta (symbol_definition-append s u h)
  Step-append (rule e) = rule e
  Step-append (app_function h) = app_function (Step-append h)
  Step-append (app_argument h) = app_argument (Step-append h)
  Step-append (lam_domain h) = lam_domain (Step-append h)
  Step-append (lam_body h) = lam_body (Step-append h)
  Step-append (pi_domain h) = pi_domain (Step-append h)
  Step-append (pi_body h) = pi_body (Step-append h)

  -- a conversion stays a conversion
  pub Conv-append : {t u : Tree} → Conv m t u → Conv (m ++ more) t u
  Conv-append same = same
  Conv-append (forth h c) = forth (Step-append h) (Conv-append c)
  Conv-append (back h c) = back (Step-append h) (Conv-append c)
