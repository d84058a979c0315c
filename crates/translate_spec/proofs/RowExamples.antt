-- Worked rows: the definitions compute to the trees that are wanted.
use Rattle.std.specs.Prelude.{◌≡◌, ℕ, List, [], ◌∷◌, codes, if◌then◌else◌}
use Rattle.std.proofs.Common.{refl}
use Rattle.hol_spec.specs.Names.{Name}
use Rattle.hol_spec.specs.NameEquality.{name_eq}
use Rattle.hol_spec.specs.Types.{HolType, variable, operator, none, more}
use Rattle.hol_spec.specs.Primitives.{bool, function, generic}
use Rattle.hol_spec.specs.Terms.{Term, free, bound, constant, app, lam, equation}
use Rattle.hol_spec.specs.Sequents.{Sequent}
use Rattle.lp_spec.specs.Trees.{Tree, Var, Sym, App, Lam, Pi}
use Rattle.lp_spec.specs.Modules.{applied, types, bools, term_of, arr_of, eq_of, proof_of, refl_of, prop_ext_symbol}
use Rattle.translate_spec.specs.Scopes.{SymbolMap, sequent_tree, generic_tree, filler, scope_of}
use Rattle.translate_spec.specs.ProofTrees.{trans_symbol}
use Rattle.hol_spec.specs.Rules.{nothing, term, substitution, constants}
use Rattle.hol_spec.specs.declared.StepKind.TheVariants.{Trans, Subst, DeductAntisym, BetaConv, DefineConstList}
use Rattle.translate_spec.specs.Rows.{proof_tree}

abbrev name : List ℕ → Name
name text = text ∷ []

abbrev boolean : List ℕ → Term
boolean text = free (name text) bool

abbrev p : Term
p = boolean (codes "p")

abbrev q : Term
q = boolean (codes "q")

abbrev r : Term
r = boolean (codes "r")

-- all constants are input constants but for c and d, of type bool -> bool
abbrev symbols : SymbolMap
symbols = record {
  operator = λ n k. 90;
  constant = λ n. if name_eq n (name (codes "c")) then 15 else (if name_eq n (name (codes "d")) then 16 else 17);
  generic = λ n. if name_eq n (name (codes "c")) then function bool bool else (if name_eq n (name (codes "d")) then function bool bool else generic);
}

abbrev S : Tree
S = filler bools

-- What vanishes: |- p = n z, |- n z = r, by trans |- p = r.
abbrev a : HolType
a = variable (name (codes "a"))

abbrev m : Term
m = app (constant (name (codes "n")) (function a bool)) (free (name (codes "z")) a)

abbrev first : Sequent
first = record { hypotheses = []; conclusion = equation bool p m }

abbrev second : Sequent
second = record { hypotheses = []; conclusion = equation bool m r }

abbrev joined : Sequent
joined = record { hypotheses = []; conclusion = equation bool p r }

first_type : sequent_tree symbols first ≡ Pi types
    (Pi (term_of bools) (Pi (term_of (Var 1)) (proof_of (eq_of bools (Var 1) (App (App (Sym 17) (arr_of (Var 2) bools)) (Var 0))))))
first_type = refl

vanished : proof_tree symbols (scope_of symbols joined) Trans (18 ∷ 19 ∷ []) (first ∷ second ∷ []) nothing
    ≡ applied (Sym trans_symbol)
    (bools ∷ Var 1 ∷ App (App (Sym 17) (arr_of bools bools)) S ∷ Var 0 ∷ applied (Sym 18) (bools ∷ Var 1 ∷ S ∷ []) ∷ applied (Sym 19)
    (bools ∷ S ∷ Var 0 ∷ []) ∷ [])
vanished = refl

-- What merges: {p, q} |- r, by subst of q to p {p} |- r.
abbrev apart : Sequent
apart = record { hypotheses = p ∷ q ∷ []; conclusion = r }

abbrev merged : Sequent
merged = record { hypotheses = p ∷ []; conclusion = r }

merged_body : proof_tree symbols (scope_of symbols merged) Subst (18 ∷ []) (apart ∷ []) (substitution [] (((name (codes "q"), bool), p) ∷ []))
    ≡ applied (Sym 18) (Var 2 ∷ Var 2 ∷ Var 1 ∷ Var 0 ∷ Var 0 ∷ [])
merged_body = refl

-- Types first: |- k x x', with a to bool and x : bool to q.
abbrev k : Term
k = constant (name (codes "k")) (function a (function bool bool))

abbrev types_first : Sequent
types_first = record { hypotheses = []; conclusion = app (app k (free (name (codes "x")) a)) (boolean (codes "x")) }

abbrev both_q : Sequent
both_q = record { hypotheses = []; conclusion = app (app (constant (name (codes "k")) (function bool (function bool bool))) q) q }

types_first_body : proof_tree symbols (scope_of symbols both_q) Subst (18 ∷ []) (types_first ∷ [])
    (substitution ((name (codes "a"), bool) ∷ []) (((name (codes "x"), bool), q) ∷ []))
    ≡ applied (Sym 18) (bools ∷ Var 0 ∷ Var 0 ∷ [])
types_first_body = refl

-- Capture: |- u (\y. x), x to the free y.
abbrev over_y : Term → Term
over_y t = app (constant (name (codes "u")) (function (function bool bool) bool)) (lam bool t)

captured : sequent_tree symbols (record { hypotheses = []; conclusion = over_y (boolean (codes "y")) })
    ≡ Pi (term_of bools) (proof_of (App (App (Sym 17) (arr_of (arr_of bools bools) bools)) (Lam (term_of bools) (Var 1))))
captured = refl

-- Removal up to renaming: {u (\y. y)} |- p and |- u (\z. z).
abbrev u : Term
u = over_y (bound 0)

abbrev U : Tree
U = App (App (Sym 17) (arr_of (arr_of bools bools) bools)) (Lam (term_of bools) (Var 0))

removed : proof_tree symbols (scope_of symbols (record { hypotheses = []; conclusion = equation bool p u })) DeductAntisym (18 ∷ 19 ∷ [])
    (record { hypotheses = u ∷ []; conclusion = p } ∷ record { hypotheses = []; conclusion = u } ∷ []) nothing
    ≡ applied (Sym prop_ext_symbol) (Var 0 ∷ U ∷ Lam (proof_of (Var 0)) (Sym 19) ∷ Lam (proof_of U) (applied (Sym 18) (Var 1 ∷ Var 0 ∷ [])) ∷ [])
removed = refl

-- One head step: (\x. (\y. y) x) p.
abbrev redex : Term
redex = app (lam bool (app (lam bool (bound 0)) (bound 0))) p

contracted_body : proof_tree symbols (scope_of symbols (record { hypotheses = []; conclusion = equation bool redex (app (lam bool (bound 0)) p) })) BetaConv []
    [] (term redex)
    ≡ refl_of bools (App (Lam (term_of bools) (Var 0)) (Var 0))
contracted_body = refl

-- A list of constants: {v = I, w = I} |- v = I.
abbrev I : Term
I = lam bool (bound 0)

abbrev on_bool : HolType
on_bool = function bool bool

abbrev v : Term
v = free (name (codes "v")) on_bool

abbrev w : Term
w = free (name (codes "w")) on_bool

abbrev R : Tree
R = refl_of (arr_of bools bools) (Lam (term_of bools) (Var 0))

listed_body : proof_tree symbols (scope_of symbols (record { hypotheses = []; conclusion = equation on_bool (constant (name (codes "c")) on_bool) I }))
    DefineConstList (18 ∷ [])
    (record { hypotheses = equation on_bool v I ∷ equation on_bool w I ∷ []; conclusion = equation on_bool v I } ∷ [])
    (constants ((name (codes "c"), (name (codes "v"), on_bool)) ∷ (name (codes "d"), (name (codes "w"), on_bool)) ∷ []))
    ≡ applied (Sym 18) (Sym 15 ∷ Sym 16 ∷ R ∷ R ∷ [])
listed_body = refl

-- The type of abs: (a -> b) -> two b a.
abbrev b : HolType
b = variable (name (codes "b"))

abs_type : generic_tree symbols (function (function a b) (operator (name (codes "two")) (more b (more a none))))
    ≡ Pi types (Pi types (term_of (arr_of (arr_of (Var 1) (Var 0)) (applied (Sym 90) (Var 0 ∷ Var 1 ∷ [])))))
abs_type = refl
