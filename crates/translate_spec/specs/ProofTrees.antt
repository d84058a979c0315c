-- The proofs of steps, row by row: each in the scope of its sequent, with its premises as theorems in a scope.
use Rattle.std.specs.Prelude.{ℕ, ◌+◌, List, [], ◌∷◌, length}
use Rattle.hol_spec.specs.Types.{HolType, operator, more}
use Rattle.hol_spec.specs.Primitives.{bool}
use Rattle.hol_spec.specs.Substitution.{TypePairs}
use Rattle.hol_spec.specs.Terms.{Term, bound, constant, app, lam, equation, Variable}
use Rattle.hol_spec.specs.Definitions.{TypeNames}
use Rattle.hol_spec.specs.NewTypes.{new_type}
use Rattle.hol_spec.specs.TypeDefinitions.{abstracted, represented, new_variable, old_variable}
use Rattle.hol_spec.specs.TermSubstitution.{TermPairs}
use Rattle.hol_spec.specs.Sequents.{Sequent}
use Rattle.lp_spec.specs.Trees.{Tree, Var, Sym, App, Lam}
use Rattle.lp_spec.specs.Modules.{signature, applied, term_of, proof_of, refl_of, fun_ext_symbol, app_thm_symbol, prop_ext_symbol, eq_mp_symbol, sub_abs_rep_symbol, sub_rep_abs_symbol}
use Rattle.translate_spec.specs.Scopes.{SymbolMap, type_tree, Scope, term_tree, filled, lifted, under_term, under_proof, set_proof, theorem_tree, images}

-- the two lemmas with which every module begins
abbrev pub sym_symbol : ℕ
sym_symbol = length signature

abbrev pub trans_symbol : ℕ
trans_symbol = length signature + 1

-- a premise: its symbol and its sequent
abbrev pub Premise : Type 0
Premise = ℕ × Sequent

abbrev pub premise_tree : Scope → Premise → Tree
premise_tree scope p = theorem_tree scope p.0 p.1

-- the predicate of a theorem |- f t, and the term in which it holds
abbrev pub predicate : Term → Term
predicate (app f t) = f
predicate t = t

abbrev pub witness : Term → Term
witness (app f t) = t
witness t = t

module _ (symbols : SymbolMap) (scope : Scope) where
  abbrev ty : HolType → Tree
  ty a = type_tree symbols scope.types a

  abbrev tm : Term → Tree
  tm t = term_tree symbols scope t

  abbrev pub refl_tree : HolType → Term → Tree
  refl_tree a t = refl_of (ty a) (tm t)

  abbrev pub eq_mp_tree : Term → Term → Premise → Premise → Tree
  eq_mp_tree p q one two = applied (Sym eq_mp_symbol) (tm p ∷ tm q ∷ premise_tree scope one ∷ premise_tree scope two ∷ [])

  abbrev pub abs_tree : Variable → Term → Tree
  abs_tree v t = Lam (term_of (ty v.1)) (term_tree symbols (under_term v scope) t)

  abbrev pub fun_ext_tree : Variable → HolType → Term → Term → Premise → Tree
  fun_ext_tree v b t u one =
      applied (Sym fun_ext_symbol) (ty v.1 ∷ ty b ∷ abs_tree v t ∷ abs_tree v u ∷ Lam (term_of (ty v.1)) (premise_tree (under_term v scope) one) ∷ [])

  abbrev pub app_thm_tree : HolType → HolType → Term → Term → Term → Term → Premise → Premise → Tree
  app_thm_tree a b f g x y one two =
      applied (Sym app_thm_symbol) (ty a ∷ ty b ∷ tm f ∷ tm g ∷ tm x ∷ tm y ∷ premise_tree scope one ∷ premise_tree scope two ∷ [])

  abbrev pub prop_ext_tree : Term → Term → Premise → Premise → Tree
  prop_ext_tree p q one two =
      applied (Sym prop_ext_symbol)
      (tm p ∷ tm q ∷ Lam (proof_of (tm p)) (premise_tree (under_proof p scope) two) ∷ Lam (proof_of (tm q)) (premise_tree (under_proof q scope) one) ∷ [])

  abbrev pub sym_tree : HolType → Term → Term → Premise → Tree
  sym_tree a x y one = applied (Sym sym_symbol) (ty a ∷ tm x ∷ tm y ∷ premise_tree scope one ∷ [])

  abbrev pub trans_tree : HolType → Term → Term → Term → Premise → Premise → Tree
  trans_tree a x y z one two = applied (Sym trans_symbol) (ty a ∷ tm x ∷ tm y ∷ tm z ∷ premise_tree scope one ∷ premise_tree scope two ∷ [])

  -- in the scope of premise 2 the proof of p is premise 1
  abbrev pub prove_hyp_tree : Term → Premise → Premise → Tree
  prove_hyp_tree p one two = premise_tree (set_proof p (premise_tree scope one) scope) two

  -- the images stand for the variables
  abbrev pub subst_tree : TypePairs → TermPairs → Premise → Tree
  subst_tree pairs terms one = premise_tree (images symbols pairs terms scope) one

  -- reflexivity proves an equation whose left side becomes its right side
  abbrev pub self_proof : Term → Tree
  self_proof (app (app (constant n (operator f (more a ts))) x) t) = refl_tree a t
  self_proof h = Sym 0

  -- the constants stand for the variables, and their defining equations are proved by reflexivity
  abbrev pub constants_scope : TermPairs → Scope
  constants_scope terms = let scope_of_images = images symbols [] terms scope in record
      { types = scope_of_images.types; terms = scope_of_images.terms; proofs = self_proof; bounds = scope_of_images.bounds }

  -- a symbol of parts at the type c, the predicate and the term of a premise |- f t, and the premise
  abbrev pub part_arguments_of : HolType → Premise → List Tree
  part_arguments_of c one = ty c ∷ tm (predicate one.1.conclusion) ∷ tm (witness one.1.conclusion) ∷ premise_tree scope one ∷ []

  abbrev pub part_tree : ℕ → HolType → Premise → Tree
  part_tree s c one = applied (Sym s) (part_arguments_of c one)

-- extensionality of what is equal at each term of a type by a symbol of parts
abbrev pub law_tree : SymbolMap → Scope → HolType → HolType → Term → Term → ℕ → HolType → Premise → Tree
law_tree symbols scope a b t u s c one =
    applied (Sym fun_ext_symbol)
    (type_tree symbols scope.types a ∷ type_tree symbols scope.types b ∷ term_tree symbols scope (lam a t) ∷ term_tree symbols scope (lam a u)
    ∷ Lam (term_of (type_tree symbols scope.types a)) (App (part_tree symbols (lifted scope) s c one) (Var 0)) ∷ [])

-- (\a. abs (rep a)) = (\a. a), and (\r. rep (abs r) = r) = (\r. f r)
abbrev pub first_law_tree : SymbolMap → Scope → TypeNames → HolType → Premise → Tree
first_law_tree symbols scope names c one =
    law_tree symbols scope (new_type names) (new_type names) (abstracted names c (represented names c (bound 0))) (bound 0) sub_abs_rep_symbol c one

abbrev pub second_law_tree : SymbolMap → Scope → TypeNames → HolType → Premise → Tree
second_law_tree symbols scope names c one =
    law_tree symbols scope c bool (equation c (represented names c (abstracted names c (bound 0))) (bound 0)) (app (predicate one.1.conclusion) (bound 0))
    sub_rep_abs_symbol c one

-- in version 5: abs (rep a) = a, and f r = (rep (abs r) = r). The premise stands where nothing is put for its free variables, as in what the symbols
-- of the definition stand for
abbrev pub first_law_free_tree : SymbolMap → Scope → TypeNames → HolType → Premise → Tree
first_law_free_tree symbols scope names c one = App (part_tree symbols (filled symbols scope.types) sub_abs_rep_symbol c one)
    (term_tree symbols scope (new_variable names))

abbrev pub second_law_free_tree : SymbolMap → Scope → TypeNames → HolType → Premise → Tree
second_law_free_tree symbols scope names c one =
    applied (Sym sym_symbol)
    (type_tree symbols scope.types bool ∷ term_tree symbols scope (equation c (represented names c (abstracted names c (old_variable c))) (old_variable c))
    ∷ term_tree symbols scope (app (predicate one.1.conclusion) (old_variable c))
    ∷ App (part_tree symbols (filled symbols scope.types) sub_rep_abs_symbol c one) (term_tree symbols scope (old_variable c)) ∷ [])
