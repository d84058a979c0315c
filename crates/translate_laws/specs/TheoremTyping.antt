-- A theorem in a scope is typed by its sequent in that scope: its symbol, applied to what stands for its type variables, its free variables
-- and its hypotheses, proves what its conclusion becomes.
use Rattle.std.proofs.Common.{◌≡◌, ℕ, ◌≤◌, List, [], ◌∷◌, map, Bool, true, false, cond, ◌⊎◌, inl, inr, refl, sym, ap, ◌∙◌, arith}
use Rattle.std.specs.List.{AllByRecursion}
use Rattle.hol_spec.specs.Names.{Name}
use Rattle.hol_spec.specs.Primitives.{bool}
use Rattle.hol_spec.specs.Terms.{Term, Variable, variable_eq, HasType, type_variable_places, free_places}
use Rattle.hol_laws.specs.TermLaws.{variable_eq-Decides}
use Rattle.hol_spec.specs.TermBinding.{loose}
use Rattle.hol_laws.specs.TermTyping.{loose-typed}
use Rattle.hol_spec.specs.Sequents.{Sequent, terms_of, type_variables_of, free_variables_of}
use Rattle.lp_spec.specs.Trees.{Tree, Var, lift}
use Rattle.lp_spec.specs.Substitution.{sub, cons}
use Rattle.lp_spec.specs.Modules.{Declaration}
use Rattle.hol_spec.specs.Lists.{IsIn}
use Rattle.hol_laws.specs.Members.{All-part}
use Rattle.hol_laws.specs.RenamedSequents.{all_type_variables, all_free_variables}
use Rattle.translate_spec.specs.Scopes.{SymbolMap, Scope, term_tree, under_term, under_terms, under_proof, under_proofs}
use Rattle.translate_laws.specs.ScopeLaws.{through, term_tree-sub}
use Rattle.translate_laws.specs.TermScopeLaws.{term_tree-agrees, AreInstances}
use Rattle.translate_laws.specs.SimultaneousArguments.{after, sub-cons_lift}

-- a formula whose variables are among these
pub record IsFormula (symbols : SymbolMap) (P : Name → Type 0) (Q : Variable → Type 0) (h : Term) : Type 0 where
  pub instances : AreInstances symbols h
  pub type_variables : AllByRecursion P (type_variable_places h)
  pub free_variables : AllByRecursion Q (free_places h)
  pub closed : loose h ≤ 0

module _ (s : Sequent) where
  -- each term of it is a formula over its own variables
  pub term-IsFormula : (symbols : SymbolMap) (t : Term) → IsIn (terms_of s) t → AreInstances symbols t → HasType t bool
      → IsFormula symbols (IsIn (type_variables_of s)) (IsIn (free_variables_of s)) t
  term-IsFormula symbols t i instances typed = record {
    instances = instances;
    type_variables = All-part _ type_variable_places (terms_of s) t (all_type_variables s) i;
    free_variables = All-part _ free_places (terms_of s) t (all_free_variables s) i;
    closed = loose-typed [] t bool typed;
  }

module _ (m : List Declaration) (G : List Tree) (symbols : SymbolMap) (other : Scope) (P : Name → Type 0) (Q : Variable → Type 0) where
  -- a scope after a substitution and the other scope agree on these type variables, and on these free variables
  abbrev pub TypesAgree : (ℕ → Tree) → Scope → Type 0
  TypesAgree s scope = (n : Name) → P n → sub s (scope.types n) ≡ other.types n

  abbrev pub TermsAgree : (ℕ → Tree) → Scope → Type 0
  TermsAgree s scope = (v : Variable) → Q v → sub s (scope.terms v) ≡ other.terms v

  pub TypesAgree-under : (s : ℕ → Tree) (x : Tree) (scope : Scope) → TypesAgree s scope → (n : Name) → P n
      → sub (cons x s) (lift 1 (scope.types n)) ≡ other.types n
  TypesAgree-under s x scope a n p = sub-cons_lift s x (scope.types n) ∙ a n p

  pub TermsAgree-under : (s : ℕ → Tree) (x : Tree) (scope : Scope) → TermsAgree s scope → (v : Variable) → Q v
      → sub (cons x s) (lift 1 (scope.terms v)) ≡ other.terms v
  TermsAgree-under s x scope a v q = sub-cons_lift s x (scope.terms v) ∙ a v q

  pub terms-TypesAgree : (vs : List Variable) (scope : Scope) (s : ℕ → Tree) → TypesAgree s scope
      → TypesAgree (after s (map other.terms vs)) (under_terms vs scope)
  terms-TypesAgree [] scope s a = a
  terms-TypesAgree (v ∷ vs) scope s a = terms-TypesAgree vs (under_term v scope) (cons (other.terms v) s) (TypesAgree-under s (other.terms v) scope a)

  set_agrees : (b : Bool) (s : ℕ → Tree) (v w : Variable) (x : Tree) → (b ≡ true → v ≡ w) → (b ≡ false → sub s x ≡ other.terms v)
      → sub (cons (other.terms w) s) (cond b (Var 0) (lift 1 x)) ≡ other.terms v
  set_agrees true s v w x e f = ap other.terms (sym (e refl))
  set_agrees false s v w x e f = sub-cons_lift s (other.terms w) x ∙ f refl

  pub terms-agree : (vs : List Variable) (scope : Scope) (s : ℕ → Tree) (v : Variable) → (IsIn vs v ⊎ (sub s (scope.terms v) ≡ other.terms v))
      → sub (after s (map other.terms vs)) ((under_terms vs scope).terms v) ≡ other.terms v
  terms-agree [] scope s v (inl k) = absurd k
  terms-agree [] scope s v (inr e) = e
  terms-agree (w ∷ ws) scope s v h = terms-agree ws (under_term w scope) (cons (other.terms w) s) v
      (go (variable_eq v w) (variable_eq-Decides v w).0 (variable_eq-Decides v w).1 h)
    where
      go : (b : Bool) → (b ≡ true → v ≡ w) → (v ≡ w → b ≡ true) → (IsIn (w ∷ ws) v ⊎ (sub s (scope.terms v) ≡ other.terms v))
          → IsIn ws v ⊎ (sub (cons (other.terms w) s) (cond b (Var 0) (lift 1 (scope.terms v))) ≡ other.terms v)
      go b e f (inl (inl is)) = inr (set_agrees b s v w (scope.terms v) e (λ no. absurd (let yes = f is in cc)))
      go b e f (inl (inr i)) = inl i
      go b e f (inr a) = inr (set_agrees b s v w (scope.terms v) e (λ no. a))

  -- what a formula becomes after the substitution
  pub formula-agrees : (s : ℕ → Tree) (scope : Scope) → TypesAgree s scope → TermsAgree s scope → (h : Term) → IsFormula symbols P Q h
      → sub s (term_tree symbols scope h) ≡ term_tree symbols other h
  formula-agrees s scope a b h f =
      term_tree-sub symbols s scope h
      ∙ term_tree-agrees symbols P Q 0 (through s scope) other (record { types = a; terms = b; bounds = λ k l. absurd (omega (arith, l)) }) h f.instances
      f.type_variables f.free_variables f.closed

  pub proofs-TypesAgree : (hs : List Term) (scope : Scope) (s : ℕ → Tree) → TypesAgree s scope
      → TypesAgree (after s (map other.proofs hs)) (under_proofs hs scope)
  proofs-TypesAgree [] scope s a = a
  proofs-TypesAgree (h ∷ hs) scope s a = proofs-TypesAgree hs (under_proof h scope) (cons (other.proofs h) s) (TypesAgree-under s (other.proofs h) scope a)

  pub proofs-TermsAgree : (hs : List Term) (scope : Scope) (s : ℕ → Tree) → TermsAgree s scope
      → TermsAgree (after s (map other.proofs hs)) (under_proofs hs scope)
  proofs-TermsAgree [] scope s a = a
  proofs-TermsAgree (h ∷ hs) scope s a = proofs-TermsAgree hs (under_proof h scope) (cons (other.proofs h) s) (TermsAgree-under s (other.proofs h) scope a)

-- the constants of a sequent are instances of their generic types
pub record HasInstances (symbols : SymbolMap) (s : Sequent) : Type 0 where
  pub hypotheses : AllByRecursion (AreInstances symbols) s.hypotheses
  pub conclusion : AreInstances symbols s.conclusion
