-- The scope of a sequent, under its binders and more, lets the binders stand for its parameters by their numbers.
use Rattle.std.proofs.Common.{◌≡◌, ℕ, zero, suc, ◌+◌, ◌-◌, List, [], ◌∷◌, length, Bool, true, false, cond, refl, sym, ap, ◌∙◌, arith}
use Rattle.std.proofs.Math.Path.{fun_ext}
use Rattle.hol_spec.specs.Names.{Name}
use Rattle.hol_spec.specs.NameEquality.{name_eq}
use Rattle.hol_spec.specs.Types.{HolType}
use Rattle.hol_spec.specs.Terms.{Term, Variable, variable_eq, term_eq}
use Rattle.hol_spec.specs.Sequents.{Sequent, type_variables_of, free_variables_of}
use Rattle.lp_spec.specs.Trees.{Tree, Var, Sym, lift}
use Rattle.lp_spec.specs.Modules.{bools}
use Rattle.lp_binding_laws.specs.Composition.{lift_zero}
use Rattle.lp_binding_laws.specs.Binding.{lift-lift}
use Rattle.translate_spec.specs.Scopes.{SymbolMap, TypeScope, Scope, type_tree, filler, unfilled, under_types, under_term, under_terms, under_proof, under_proofs, scope_of, scope_of_types, scope_of_terms}
use Rattle.translate_laws.specs.ListedScopes.{under_all, under_types-all, under_terms-all, under_terms-types, under_proofs-types, under_proofs-terms, filler-lift}
use Rattle.translate_laws.specs.ScopeLaws.{type_tree-lift}
use Rattle.translate_proof.specs.Placed.{placed}

suc_lift : (k : ℕ) (x : Tree) → lift k (lift 1 x) ≡ lift (suc k) x
suc_lift k x = lift-lift k 1 x ∙ ap (λ j. lift j x) (let e : k + 1 ≡ suc k = omega arith in e)

lift_own : (k : ℕ) → lift k (Var 0) ≡ Var k
lift_own k = grind arith

module _ {A : Type 0} (same : A → A → Bool) where
  lift-under_all : (j : ℕ) (xs : List A) (f : A → Tree) (y : A)
      → lift j (under_all same xs f y) ≡ placed same (j + length xs) xs (λ z. lift (j + length xs) (f z)) y
  lift-under_all j [] f y = ap (λ k. lift k (f y)) (let e : j ≡ j + 0 = omega arith in e)
  lift-under_all j (x ∷ xs) f y =
      lift-under_all j xs (λ z. cond (same z x) (Var 0) (lift 1 (f z))) y
      ∙ ap (λ g. placed same (j + length xs) xs g y) (fun_ext (λ z. go (same z x) z))
      ∙ ap (λ k. placed same k xs (λ z. cond (same z x) (Var k) (lift (j + suc (length xs)) (f z))) y) less
    where
      less : j + length xs ≡ j + suc (length xs) - 1
      less = omega arith

      one : suc (j + length xs) ≡ j + suc (length xs)
      one = omega arith

      go : (b : Bool) (z : A) → lift (j + length xs) (cond b (Var 0) (lift 1 (f z))) ≡ cond b (Var (j + length xs)) (lift (j + suc (length xs)) (f z))
      go true z = lift_own (j + length xs)
      go false z = suc_lift (j + length xs) (f z) ∙ ap (λ k. lift k (f z)) one

-- under the binders of type variables alone
pub placed-under_types : (names : List Name) (n : Name) → placed name_eq (0 + 0 + 0 + length names) names (λ m. bools) n ≡ under_types names unfilled n
placed-under_types names n =
    ap (λ k. placed name_eq k names (λ m. bools) n) (let e : 0 + 0 + 0 + length names ≡ 0 + length names = omega arith in e)
    ∙ sym (lift-under_all name_eq 0 names unfilled n) ∙ lift_zero (under_all name_eq names unfilled n) ∙ sym (under_types-all names unfilled n)

under_proofs-all : (hs : List Term) (scope : Scope) (h : Term) → (under_proofs hs scope).proofs h ≡ under_all term_eq hs scope.proofs h
under_proofs-all [] scope h = refl
under_proofs-all (g ∷ hs) scope h = under_proofs-all hs (under_proof g scope) h

under_terms-proofs : (vs : List Variable) (scope : Scope) (h : Term) → (under_terms vs scope).proofs h ≡ lift (length vs) (scope.proofs h)
under_terms-proofs [] scope h = sym (lift_zero (scope.proofs h))
under_terms-proofs (v ∷ vs) scope h = under_terms-proofs vs (under_term v scope) h ∙ suc_lift (length vs) (scope.proofs h)

-- the filler of a type under binders
filler-lifts : (symbols : SymbolMap) (k : ℕ) (scope : TypeScope) (a : HolType)
    → lift k (filler (type_tree symbols scope a)) ≡ filler (type_tree symbols (λ n. lift k (scope n)) a)
filler-lifts symbols zero scope a =
    lift_zero (filler (type_tree symbols scope a)) ∙ ap (λ w. filler (type_tree symbols w a)) (fun_ext (λ n. sym (lift_zero (scope n))))
filler-lifts symbols (suc k) scope a =
    sym (suc_lift k (filler (type_tree symbols scope a)))
    ∙ ap (lift k) (filler-lift (type_tree symbols scope a) ∙ ap filler (type_tree-lift symbols scope a))
    ∙ filler-lifts symbols k (λ n. lift 1 (scope n)) a
    ∙ ap (λ w. filler (type_tree symbols w a)) (fun_ext (λ n. suc_lift k (scope n)))

module _ (symbols : SymbolMap) (s : Sequent) (inside : ℕ) where
  abbrev names : List Name
  names = type_variables_of s

  abbrev variables : List Variable
  variables = free_variables_of s

  abbrev below_terms : ℕ
  below_terms = inside + length s.hypotheses + length variables

  abbrev pub placed_types : TypeScope
  placed_types = placed name_eq (below_terms + length names) names (λ n. bools)

  pub types-placed : (n : Name) → lift inside ((scope_of symbols s).types n) ≡ placed_types n
  types-placed n =
      ap (lift inside) (under_proofs-types s.hypotheses (scope_of_terms symbols s) n
      ∙ ap (lift (length s.hypotheses)) (under_terms-types variables (scope_of_types symbols s) n))
      ∙ lift-lift inside (length s.hypotheses) (lift (length variables) (under_types names unfilled n))
      ∙ lift-lift (inside + length s.hypotheses) (length variables) (under_types names unfilled n)
      ∙ ap (lift below_terms) (under_types-all names unfilled n)
      ∙ lift-under_all name_eq below_terms names unfilled n

  pub terms-placed : (v : Variable)
      → lift inside ((scope_of symbols s).terms v)
      ≡ placed variable_eq (inside + length s.hypotheses + length variables) variables
      (λ w. filler (type_tree symbols (λ n. lift inside ((scope_of symbols s).types n)) w.1)) v
  terms-placed v =
      ap (lift inside) (under_proofs-terms s.hypotheses (scope_of_terms symbols s) v)
      ∙ lift-lift inside (length s.hypotheses) ((scope_of_terms symbols s).terms v)
      ∙ ap (lift (inside + length s.hypotheses)) (under_terms-all variables (scope_of_types symbols s) v)
      ∙ lift-under_all variable_eq (inside + length s.hypotheses) variables (scope_of_types symbols s).terms v
      ∙ ap (λ f. placed variable_eq below_terms variables f v) (fun_ext (λ w. filler-lifts symbols below_terms (under_types names unfilled) w.1
      ∙ ap (λ g. filler (type_tree symbols g w.1)) (fun_ext outside)))
    where
      outside : (n : Name) → lift below_terms (under_types names unfilled n) ≡ lift inside ((scope_of symbols s).types n)
      outside n =
          sym (lift-lift (inside + length s.hypotheses) (length variables) (under_types names unfilled n))
          ∙ sym (lift-lift inside (length s.hypotheses) (lift (length variables) (under_types names unfilled n)))
          ∙ ap (lift inside) (sym (under_proofs-types s.hypotheses (scope_of_terms symbols s) n
          ∙ ap (lift (length s.hypotheses)) (under_terms-types variables (scope_of_types symbols s) n)))

  pub proofs-placed : (h : Term) → lift inside ((scope_of symbols s).proofs h) ≡ placed term_eq (inside + length s.hypotheses) s.hypotheses (λ g. Sym 0) h
  proofs-placed h =
      ap (lift inside) (under_proofs-all s.hypotheses (scope_of_terms symbols s) h)
      ∙ lift-under_all term_eq inside s.hypotheses (scope_of_terms symbols s).proofs h
      ∙ ap (λ f. placed term_eq (inside + length s.hypotheses) s.hypotheses f h)
      (fun_ext (λ g. ap (lift (inside + length s.hypotheses)) (under_terms-proofs variables (scope_of_types symbols s) g)))
