-- The proofs that stand under binders of their own.
use Rattle.std.proofs.Common.{◌≡◌, [], ◌∷◌}
use Rattle.hol_spec.specs.Types.{HolType}
use Rattle.hol_spec.specs.Terms.{Term, Variable}
use Rattle.lp_spec.specs.Trees.{Tree, Sym, App, Lam}
use Rattle.lp_spec.specs.Modules.{applied, term_of, term_symbol, proof_symbol, fun_ext_symbol, prop_ext_symbol}
use Rattle.translate_spec.specs.ProofTrees.{Premise, fun_ext_tree, prop_ext_tree}
use Rattle.translate_spec.specs.Scopes.{SymbolMap, Scope, type_tree, term_tree, theorem_tree, under_term, under_proof}

pub fun_ext-made : (symbols : SymbolMap) (scope : Scope) (v : Variable) (b c : HolType) (t f u g : Term) (one : Premise) (x y z : Tree) → x
    ≡ type_tree symbols scope.types v.1 → y ≡ type_tree symbols scope.types v.1 → z ≡ type_tree symbols scope.types v.1
    → b ≡ c → t ≡ f → u ≡ g
    → applied (Sym fun_ext_symbol)
    (type_tree symbols scope.types v.1 ∷ type_tree symbols scope.types b ∷ Lam (term_of x) (term_tree symbols (under_term v scope) t) ∷ Lam (term_of y)
    (term_tree symbols (under_term v scope) u)
    ∷ Lam (App (Sym term_symbol) z) (theorem_tree (under_term v scope) one.0 one.1) ∷ [])
    ≡ fun_ext_tree symbols scope v c f g one
fun_ext-made symbols scope v b c t f u g one x y z p q r k l m = λ i.
    applied (Sym fun_ext_symbol)
    (type_tree symbols scope.types v.1 ∷ type_tree symbols scope.types (k i) ∷ Lam (term_of (p i)) (term_tree symbols (under_term v scope) (l i)) ∷ Lam
    (term_of (q i)) (term_tree symbols (under_term v scope) (m i))
    ∷ Lam (App (Sym term_symbol) (r i)) (theorem_tree (under_term v scope) one.0 one.1) ∷ [])

pub prop_ext-made : (symbols : SymbolMap) (scope : Scope) (p q : Term) (one two : Premise) (x y : Tree) → x ≡ term_tree symbols scope p → y
    ≡ term_tree symbols scope q
    → applied (Sym prop_ext_symbol)
    (term_tree symbols scope p ∷ term_tree symbols scope q ∷ Lam (App (Sym proof_symbol) x) (theorem_tree (under_proof p scope) two.0 two.1)
    ∷ Lam (App (Sym proof_symbol) y) (theorem_tree (under_proof q scope) one.0 one.1) ∷ [])
    ≡ prop_ext_tree symbols scope p q one two
prop_ext-made symbols scope p q one two x y a b = λ i.
    applied (Sym prop_ext_symbol)
    (term_tree symbols scope p ∷ term_tree symbols scope q ∷ Lam (App (Sym proof_symbol) (a i)) (theorem_tree (under_proof p scope) two.0 two.1)
    ∷ Lam (App (Sym proof_symbol) (b i)) (theorem_tree (under_proof q scope) one.0 one.1) ∷ [])
