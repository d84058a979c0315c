-- The tree of a term with a term put for a bound number, and translation of substitution as putting.
use Rattle.std.proofs.Common.{◌≡◌, ℕ, zero, suc, List, [], ◌∷◌, ◌++◌, append_assoc, refl, sym, ap, ◌∙◌, arith}
use Rattle.std.proofs.Math.Path.{fun_ext, ap₂}
use Rattle.std.proofs.lemmas.List.{append-nil}
use Rattle.hol_spec.specs.Terms.{Term, free, bound, constant, app, lam}
use Rattle.hol_spec.specs.TermBinding as binding
use Rattle.hol_laws.specs.TermRenamings as renaming
use Rattle.hol_laws.specs.TermRenamings.{rename, replace, up_terms}
use Rattle.lp_spec.specs.Trees.{Tree, Var, App, Lam, lift, put, put_all_var, put_all}
use Rattle.lp_binding_laws.specs.Composition.{sub_var, put_is, ups_put_all, put_all_at_is}
use Rattle.lp_spec.specs.Substitution.{ups, sub, cons}
use Rattle.lp_spec.specs.Modules.{term_of}
use Rattle.lp_binding_laws.specs.Arguments.{put-put_all}
use Rattle.translate_spec.specs.Scopes.{SymbolMap, type_tree, Scope, inside, term_tree}
use Rattle.translate_laws.specs.ScopeLaws.{same_scope, through, term_tree-sub, term_tree-lift}
use Rattle.translate_laws.specs.TermScopeLaws.{with_bounds}
use Rattle.translate_laws.specs.SimultaneousArguments.{after, after-append, put-ups, sub-cons_lift}

module _ (symbols : SymbolMap) where
  -- the tree of a term whose numbers are renamed
  term_tree-rename : (r : ℕ → ℕ) (scope : Scope) (t : Term) → term_tree symbols scope (rename r t)
      ≡ term_tree symbols (with_bounds (λ k. scope.bounds (r k)) scope) t
  term_tree-rename r scope (free n t) = refl
  term_tree-rename r scope (bound k) = refl
  term_tree-rename r scope (constant n t) = refl
  term_tree-rename r scope (app f x) = ap₂ App (term_tree-rename r scope f) (term_tree-rename r scope x)
  term_tree-rename r scope (lam t b) =
      ap (Lam (term_of (type_tree symbols scope.types t)))
      (term_tree-rename (renaming.up r) (inside scope) b
      ∙ ap (λ w. term_tree symbols w b)
      (same_scope (with_bounds (λ k. (inside scope).bounds (renaming.up r k)) (inside scope)) (inside (with_bounds (λ k. scope.bounds (r k)) scope))
      (λ n. refl) (λ v. refl) (λ h. refl) go))
    where
      go : (k : ℕ) → (inside scope).bounds (renaming.up r k) ≡ (inside (with_bounds (λ k. scope.bounds (r k)) scope)).bounds k
      go zero = refl
      go (suc k) = refl

  -- a term whose numbers pass a binder more
  term_tree-passing : (scope : Scope) (t : Term) → term_tree symbols (inside scope) (rename suc t) ≡ lift 1 (term_tree symbols scope t)
  term_tree-passing scope t = term_tree-rename suc (inside scope) t ∙ sym (term_tree-lift symbols scope t)

  -- the tree of a term with terms put for its numbers
  term_tree-replace : (s : ℕ → Term) (scope : Scope) (t : Term) → term_tree symbols scope (replace s t)
      ≡ term_tree symbols (with_bounds (λ k. term_tree symbols scope (s k)) scope) t
  term_tree-replace s scope (free n t) = refl
  term_tree-replace s scope (bound k) = refl
  term_tree-replace s scope (constant n t) = refl
  term_tree-replace s scope (app f x) = ap₂ App (term_tree-replace s scope f) (term_tree-replace s scope x)
  term_tree-replace s scope (lam t b) =
      ap (Lam (term_of (type_tree symbols scope.types t)))
      (term_tree-replace (up_terms s) (inside scope) b
      ∙ ap (λ w. term_tree symbols w b)
      (same_scope (with_bounds (λ k. term_tree symbols (inside scope) (up_terms s k)) (inside scope))
      (inside (with_bounds (λ k. term_tree symbols scope (s k)) scope)) (λ n. refl) (λ v. refl) (λ h. refl) go))
    where
      go : (k : ℕ) → term_tree symbols (inside scope) (up_terms s k) ≡ (inside (with_bounds (λ k. term_tree symbols scope (s k)) scope)).bounds k
      go zero = refl
      go (suc k) = term_tree-passing scope (s k)

  -- the body of an abstraction with an argument put in
  pub term_tree-put : (u : Term) (scope : Scope) (t : Term)
      → put (term_tree symbols scope u) (term_tree symbols (inside scope) t) ≡ term_tree symbols scope (binding.put u t)
  term_tree-put u scope t =
      put_is (term_tree symbols scope u) (term_tree symbols (inside scope) t)
      ∙ term_tree-sub symbols (cons (term_tree symbols scope u) Var) (inside scope) t
      ∙ ap (λ w. term_tree symbols w t)
      (same_scope (through (cons (term_tree symbols scope u) Var) (inside scope)) (with_bounds (λ k. term_tree symbols scope (renaming.cons u bound k)) scope)
      (λ n. back (scope.types n)) (λ v. back (scope.terms v)) (λ h. back (scope.proofs h)) go)
      ∙ sym (term_tree-replace (renaming.cons u bound) scope t)
      ∙ ap (term_tree symbols scope) (sym (renaming.put_is u t))
    where
      back : (x : Tree) → sub (cons (term_tree symbols scope u) Var) (lift 1 x) ≡ x
      back x = sub-cons_lift Var (term_tree symbols scope u) x ∙ sub_var x

      go : (k : ℕ) → sub (cons (term_tree symbols scope u) Var) ((inside scope).bounds k) ≡ term_tree symbols scope (renaming.cons u bound k)
      go zero = refl
      go (suc k) = back (scope.bounds k)

-- one tree more is put after the others
after-snoc : (us : List Tree) (x : Tree) (n : ℕ) → after Var (us ++ x ∷ []) n ≡ cons x (after Var us) n
after-snoc us x n = ap (λ w. w n) (after-append Var us (x ∷ []))

put_all_var-snoc : (us : List Tree) (x : Tree) (n : ℕ) → put_all_var 0 (us ++ x ∷ []) n ≡ put x (sub (ups (put_all_var 0 us)) (Var n))
put_all_var-snoc us x n = sym (put-put_all x us (Var n)) ∙ ap (put x) (sym (ups_put_all 0 us n))

-- to put all is to substitute each after those before it
put_all-from : (xs us : List Tree) → ((n : ℕ) → put_all_var 0 us n ≡ after Var us n) → (n : ℕ) → put_all_var 0 (us ++ xs) n ≡ after Var (us ++ xs) n
put_all-from [] us h n = ap (λ l. put_all_var 0 l n) (append-nil us) ∙ h n ∙ ap (λ l. after Var l n) (sym (append-nil us))
put_all-from (x ∷ xs) us h n =
    ap (λ l. put_all_var 0 l n) (sym (append_assoc us (x ∷ []) xs)) ∙ put_all-from xs (us ++ x ∷ []) one n
    ∙ ap (λ l. after Var l n) (append_assoc us (x ∷ []) xs)
  where
    one : (n : ℕ) → put_all_var 0 (us ++ x ∷ []) n ≡ after Var (us ++ x ∷ []) n
    one n = put_all_var-snoc us x n ∙ put-ups (put_all_var 0 us) x (Var n) ∙ ap (λ w. cons x w n) (fun_ext h) ∙ sym (after-snoc us x n)

pub put_all-after : (xs : List Tree) (t : Tree) → put_all xs t ≡ sub (after Var xs) t
put_all-after xs t = put_all_at_is 0 xs t ∙ ap (λ w. sub w t) (fun_ext (put_all-from xs [] none))
  where
    none : (n : ℕ) → put_all_var 0 [] n ≡ Var n
    none n = grind arith
