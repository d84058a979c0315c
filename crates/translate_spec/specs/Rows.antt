-- The proof of a step by its rule: each row of the table of bodies, read off the step's premises and parameters.
-- Source: Assaf and Burel, "Translating HOL to Dedukti", 3.
use Rattle.hol_spec.specs.declared.Version.TheVariants.{Five, Six}
use Rattle.std.specs.Prelude.{ℕ, List, [], ◌∷◌, unwrap_or, Bool, true, false}
use Rattle.hol_spec.specs.Types.{HolType, operator, more}
use Rattle.hol_spec.specs.Primitives.{bool}
use Rattle.hol_spec.specs.Terms.{Term, constant, app, lam, type_of}
use Rattle.hol_spec.specs.TermBinding.{put}
use Rattle.hol_spec.specs.DefinitionLists.{constants_put}
use Rattle.hol_spec.specs.Sequents.{Sequent}
use Rattle.hol_spec.specs.Rules.{Parameters}
use Rattle.hol_spec.specs.declared.StepKind.{StepKind}
use Rattle.hol_spec.specs.declared.StepKind.TheVariants.{Refl, Assume, EqMp, AbsThm, AppThm, DeductAntisym, BetaConv, Sym, Trans, ProveHyp, Subst, Axiom, Restate, DefineConst, DefineConstList, FirstLaw, SecondLaw}
use Rattle.lp_spec.specs.Trees.{Tree}
use Rattle.lp_spec.specs.Trees as tree
use Rattle.translate_spec.specs.Scopes.{SymbolMap, Scope}
use Rattle.translate_spec.specs.ProofTrees.{Premise, premise_tree, refl_tree, trans_tree, eq_mp_tree, sym_tree, fun_ext_tree, app_thm_tree, prop_ext_tree, prove_hyp_tree, subst_tree, constants_scope, witness, first_law_tree, second_law_tree, first_law_free_tree, second_law_free_tree}

-- whether a step of this kind has a proof
abbrev pub has_row : StepKind → Bool
has_row Axiom = false
has_row kind = true

-- the type and the sides of an equation
abbrev pub equated_type : Term → HolType
equated_type (app (app (constant n (operator f (more a ts))) x) y) = a
equated_type t = bool

abbrev pub left_side : Term → Term
left_side (app (app e x) y) = x
left_side t = t

abbrev pub right_side : Term → Term
right_side (app (app e x) y) = y
right_side t = t

-- the argument's type and the result's, of a type of functions
abbrev pub argument_type : HolType → HolType
argument_type (operator n (more a ts)) = a
argument_type t = t

abbrev pub result_type : HolType → HolType
result_type (operator n (more a (more b ts))) = b
result_type t = t

-- what a redex becomes
abbrev pub contracted : Term → Term
contracted (app (lam a t) u) = put u t
contracted t = t

-- a row with a parameter, with one premise and with two
abbrev pub of_term : (Term → Tree) → Parameters → Tree
of_term row (Parameters.term t) = row t
of_term row given = tree.Sym 0

abbrev pub of_one : (Premise → Tree) → List ℕ → List Sequent → Tree
of_one row (j ∷ []) (one ∷ []) = row (j, one)
of_one row js ss = tree.Sym 0

abbrev pub of_two : (Premise → Premise → Tree) → List ℕ → List Sequent → Tree
of_two row (j ∷ k ∷ []) (one ∷ two ∷ []) = row (j, one) (k, two)
of_two row js ss = tree.Sym 0

abbrev pub type_or : Term → HolType
type_or t = unwrap_or (type_of t) bool

abbrev abs_row : SymbolMap → Scope → Parameters → Premise → Tree
abs_row symbols scope (Parameters.variable v) one =
    fun_ext_tree symbols scope v (equated_type one.1.conclusion) (left_side one.1.conclusion) (right_side one.1.conclusion) one
abs_row symbols scope given one = tree.Sym 0

abbrev subst_row : SymbolMap → Scope → Parameters → Premise → Tree
subst_row symbols scope (Parameters.substitution pairs terms) one = subst_tree symbols scope pairs terms one
subst_row symbols scope given one = tree.Sym 0

abbrev definition_row : SymbolMap → Scope → Parameters → Tree
definition_row symbols scope (Parameters.constant n t) = refl_tree symbols scope (type_or t) t
definition_row symbols scope given = tree.Sym 0

abbrev list_row : SymbolMap → Scope → Parameters → Premise → Tree
list_row symbols scope (Parameters.constants pairs) one = premise_tree (constants_scope symbols scope (constants_put pairs)) one
list_row symbols scope given one = tree.Sym 0

-- a law of the type operator with these names, by the theorem that defines it
abbrev first_law_row : SymbolMap → Scope → Parameters → Premise → Tree
first_law_row symbols scope (Parameters.type_operator names Six) one = first_law_tree symbols scope names (type_or (witness one.1.conclusion)) one
first_law_row symbols scope (Parameters.type_operator names Five) one = first_law_free_tree symbols scope names (type_or (witness one.1.conclusion)) one
first_law_row symbols scope given one = tree.Sym 0

abbrev second_law_row : SymbolMap → Scope → Parameters → Premise → Tree
second_law_row symbols scope (Parameters.type_operator names Six) one = second_law_tree symbols scope names (type_or (witness one.1.conclusion)) one
second_law_row symbols scope (Parameters.type_operator names Five) one = second_law_free_tree symbols scope names (type_or (witness one.1.conclusion)) one
second_law_row symbols scope given one = tree.Sym 0

abbrev app_row : SymbolMap → Scope → Premise → Premise → Tree
app_row symbols scope one two =
    let f = equated_type one.1.conclusion in
    app_thm_tree symbols scope (argument_type f) (result_type f) (left_side one.1.conclusion) (right_side one.1.conclusion) (left_side two.1.conclusion)
    (right_side two.1.conclusion) one two

-- the proof of a step, by its rule; an assumption has none
abbrev pub proof_tree : SymbolMap → Scope → StepKind → List ℕ → List Sequent → Parameters → Tree
proof_tree symbols scope Refl js ss given = of_term (λ t. refl_tree symbols scope (type_or t) t) given
proof_tree symbols scope Assume js ss given = of_term scope.proofs given
proof_tree symbols scope EqMp js ss given = of_two (λ one two. eq_mp_tree symbols scope (left_side one.1.conclusion) (right_side one.1.conclusion) one two) js
    ss
proof_tree symbols scope AbsThm js ss given = of_one (abs_row symbols scope given) js ss
proof_tree symbols scope AppThm js ss given = of_two (app_row symbols scope) js ss
proof_tree symbols scope DeductAntisym js ss given = of_two (λ one two. prop_ext_tree symbols scope one.1.conclusion two.1.conclusion one two) js ss
proof_tree symbols scope BetaConv js ss given = of_term (λ t. refl_tree symbols scope (type_or t) (contracted t)) given
proof_tree symbols scope Sym js ss given = of_one
    (λ one. sym_tree symbols scope (equated_type one.1.conclusion) (left_side one.1.conclusion) (right_side one.1.conclusion) one) js ss
proof_tree symbols scope Trans js ss given =
    of_two (λ one two. trans_tree symbols scope (equated_type one.1.conclusion) (left_side one.1.conclusion) (right_side one.1.conclusion)
    (right_side two.1.conclusion) one two) js ss
proof_tree symbols scope ProveHyp js ss given = of_two (λ one two. prove_hyp_tree symbols scope one.1.conclusion one two) js ss
proof_tree symbols scope Subst js ss given = of_one (subst_row symbols scope given) js ss
proof_tree symbols scope Restate js ss given = of_one (premise_tree scope) js ss
proof_tree symbols scope DefineConst js ss given = definition_row symbols scope given
proof_tree symbols scope DefineConstList js ss given = of_one (list_row symbols scope given) js ss
proof_tree symbols scope Axiom js ss given = tree.Sym 0
proof_tree symbols scope FirstLaw js ss given = of_one (first_law_row symbols scope given) js ss
proof_tree symbols scope SecondLaw js ss given = of_one (second_law_row symbols scope given) js ss
