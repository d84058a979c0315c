-- Worked rows of rules: what the machine makes is computed.
use Rattle.std.specs.Prelude.{ℕ, List, [], ◌∷◌, ◌++◌, ◌≡◌, Err, codes}
use Rattle.std.proofs.Common.{refl}
use Rattle.hol_spec.specs.Types.{HolType}
use Rattle.hol_spec.specs.Primitives.{bool, function}
use Rattle.hol_spec.specs.Terms.{Term, equation}
use Rattle.common.specs.declared.faults.Kind.TheVariants.{NotTheSequent, VarInHyps}
use Rattle.article_spec.specs.declared.commands.Item.{Item}
use Rattle.article_spec.specs.declared.commands.Word.TheVariants as word
use Rattle.hol_spec.specs.declared.StepKind.TheVariants.{Axiom, Restate}
use Rattle.hol_spec.specs.Rules.{derived}
use Rattle.article_spec.proofs.SmallArticles.{w, n, obeyed, listed, bool_type, type_variable, to, free, constant, applied, abstracted, equals, W, V, sequents, kinds, numbers, named, boolean}

abbrev p : Term
p = boolean (codes "p")

abbrev q : Term
q = boolean (codes "q")

abbrev r : Term
r = boolean (codes "r")

-- weakening: {q} |- p is assumed, {q, r} |- p exported
abbrev weakens : List Item
weakens = listed (V (codes "q") ∷ []) ++ V (codes "p") ++ w word.Axiom ∷ listed (V (codes "q") ∷ V (codes "r") ∷ []) ++ V (codes "p") ++ w word.Thm ∷ []

weakened : sequents (obeyed weakens) ≡ derived (q ∷ []) p ∷ derived (q ∷ r ∷ []) p ∷ []
weakened = refl

weakened_kinds : kinds (obeyed weakens) ≡ Axiom ∷ Restate ∷ []
weakened_kinds = refl

weakened_numbers : numbers (obeyed weakens) ≡ (0 ∷ [], 1 ∷ [], [])
weakened_numbers = refl

-- and the reverse
strengthened : obeyed (listed (V (codes "q") ∷ V (codes "r") ∷ []) ++ V (codes "p") ++ w word.Axiom ∷ listed (V (codes "q") ∷ []) ++ V (codes "p")
    ++ w word.Thm ∷ []) ≡ Err (44, NotTheSequent)
strengthened = refl

-- a variable of the hypotheses
bound_hypothesis : obeyed (W (codes "q") ++ equals bool_type (V (codes "q")) (V (codes "q")) ++ w word.Assume ∷ w word.AbsThm ∷ []) ≡ Err (53, VarInHyps)
bound_hypothesis = refl

-- what vanishes: m is n z, an input at a type variable
abbrev a_type : List Item
a_type = type_variable (codes "a")

abbrev m_lines : List Item
m_lines = applied (constant (codes "n") (to a_type bool_type)) (free (codes "z") a_type)

abbrev vanishes : List Item
vanishes = w word.Nil ∷ equals bool_type (V (codes "p")) m_lines ++ w word.Axiom ∷ w word.Nil ∷ equals bool_type m_lines (V (codes "r"))
    ++ w word.Axiom ∷ w word.Trans ∷ w word.Nil ∷ equals bool_type (V (codes "p")) (V (codes "r")) ++ w word.Thm ∷ []

abbrev m : Term
m = Term.app (Term.constant (named (codes "n")) (function (HolType.variable (named (codes "a"))) bool))
    (Term.free (named (codes "z")) (HolType.variable (named (codes "a"))))

vanished : sequents (obeyed vanishes) ≡ derived [] (equation bool p m) ∷ derived [] (equation bool m r) ∷ derived [] (equation bool p r) ∷ derived []
    (equation bool p r) ∷ []
vanished = refl

-- types first: |- k x x', with a to bool, then x : bool to q
abbrev k_lines : List Item
k_lines = applied (applied (constant (codes "k") (to a_type (to bool_type bool_type))) (free (codes "x") a_type)) (V (codes "x"))

abbrev types_first : List Item
types_first = listed (listed (listed ((n (codes "a") ∷ []) ∷ bool_type ∷ []) ∷ []) ∷ listed (listed (W (codes "x") ∷ V (codes "q") ∷ []) ∷ []) ∷ [])
    ++ w word.Nil ∷ k_lines ++ w word.Axiom ∷ w word.Subst ∷ []

abbrev k : HolType → Term
k a = Term.constant (named (codes "k")) (function a (function bool bool))

types_put_first : sequents (obeyed types_first)
    ≡ derived [] (Term.app (Term.app (k (HolType.variable (named (codes "a")))) (Term.free (named (codes "x")) (HolType.variable (named (codes "a")))))
    (boolean (codes "x")))
    ∷ derived [] (Term.app (Term.app (k bool) q) q) ∷ []
types_put_first = refl

-- hypotheses merge: {p, q} |- r with q to p
abbrev no_types : List (List Item) → List Item
no_types pairs = listed (listed [] ∷ listed pairs ∷ [])

hypotheses_merged : sequents
    (obeyed (no_types (listed (W (codes "q") ∷ V (codes "p") ∷ []) ∷ []) ++ listed (V (codes "p") ∷ V (codes "q") ∷ []) ++ V (codes "r")
    ++ w word.Axiom ∷ w word.Subst ∷ []))
    ≡ derived (p ∷ q ∷ []) r ∷ derived (p ∷ []) r ∷ []
hypotheses_merged = refl

-- capture: |- u (\y. x) with x to the free y
abbrev u_lines : List Item
u_lines = constant (codes "u") (to (to bool_type bool_type) bool_type)

abbrev u : Term
u = Term.constant (named (codes "u")) (function (function bool bool) bool)

no_capture : sequents
    (obeyed (no_types (listed (W (codes "x") ∷ V (codes "y") ∷ []) ∷ []) ++ w word.Nil ∷ applied u_lines (abstracted (W (codes "y")) (V (codes "x")))
    ++ w word.Axiom ∷ w word.Subst ∷ []))
    ≡ derived [] (Term.app u (Term.lam bool (boolean (codes "x")))) ∷ derived [] (Term.app u (Term.lam bool (boolean (codes "y")))) ∷ []
no_capture = refl

-- removal up to renaming: {u (\y. y)} |- p and |- u (\z. z)
abbrev identity_lines : List ℕ → List Item
identity_lines y = abstracted (W y) (V y)

abbrev U : Term
U = Term.app u (Term.lam bool (Term.bound 0))

removed_renamed : sequents
    (obeyed (listed (applied u_lines (identity_lines (codes "y")) ∷ []) ++ V (codes "p")
    ++ w word.Axiom ∷ w word.Nil ∷ applied u_lines (identity_lines (codes "z")) ++ w word.Axiom ∷ w word.DeductAntisym ∷ []))
    ≡ derived (U ∷ []) p ∷ derived [] U ∷ derived [] (equation bool p U) ∷ []
removed_renamed = refl

-- one head step: (\x. (\y. y) x) p
one_head_step : sequents
    (obeyed (applied (abstracted (W (codes "x")) (applied (identity_lines (codes "y")) (V (codes "x")))) (V (codes "p")) ++ w word.BetaConv ∷ []))
    ≡ derived [] (equation bool (Term.app (Term.lam bool (Term.app (Term.lam bool (Term.bound 0)) (Term.bound 0))) p)
    (Term.app (Term.lam bool (Term.bound 0)) p)) ∷ []
one_head_step = refl
