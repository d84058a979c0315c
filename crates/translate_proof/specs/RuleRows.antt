-- The tree of each rule in a scope, by the numbers of its steps.
use Rattle.std.specs.Prelude.{ℕ, IfOk, Result}
use Rattle.hol_spec.specs.Proofs.{sequent_at}
use Rattle.hol_spec.specs.Sequents.{Sequent}
use Rattle.hol_spec.specs.Terms.{Term}
use Rattle.hol_term.specs.declared.Variable.{Variable}
use Rattle.hol_rules.specs.Kept.{Kept}
use Rattle.hol_rules.specs.Views.{variable_view}
use Rattle.holide_sig.specs.declared.module.Module.{Module}
use Rattle.lp_spec.specs.Trees.{Tree}
use Rattle.lp_term.specs.declared.LpId.{LpId}
use Rattle.lp_term.specs.Tables.{Holds}
use Rattle.translate_spec.specs.ProofTrees.{app_thm_tree, eq_mp_tree, fun_ext_tree, prop_ext_tree, prove_hyp_tree, refl_tree, sym_tree, trans_tree}
use Rattle.translate_spec.specs.Rows.{equated_type, left_side, right_side}
use Rattle.translate_spec.specs.Scopes.{term_tree, theorem_tree, under_proof, under_term}
use Rattle.translate_proof.specs.declared.ground.Ground.{Ground}
use Rattle.translate_proof.specs.declared.premise.Premise.{Premise}
use Rattle.translate_proof.specs.declared.scope.Environment.{Environment}
use Rattle.translate_proof.specs.Environments.{Given, Represents}
use Rattle.translate_proof.specs.Grounds.{TellsTypeAt}
use Rattle.translate_proof.specs.Rescoped.{with_scope}
use Rattle.translate_proof.specs.Told.{TellsStep}

-- the conclusion of a step
abbrev pub conclusion_at : Kept → ℕ → Term
conclusion_at k id = (sequent_at k.made id).conclusion

-- a premise: its symbol and its sequent
abbrev pub premise_at : Kept → Premise → ℕ × Sequent
premise_at k one = (one.symbol, sequent_at k.made one.id)

-- a premise as a theorem
abbrev pub theorem_row : Kept → Premise → Given → Tree
theorem_row k one given = theorem_tree given.scope one.symbol (sequent_at k.made one.id)

-- the tree of a step's conclusion
abbrev pub conclusion_row : Kept → ℕ → Given → Tree
conclusion_row k id given = term_tree given.symbols given.scope (conclusion_at k id)

abbrev pub refl_row : Kept → ℕ → Given → Tree
refl_row k id given = refl_tree given.symbols given.scope (equated_type (conclusion_at k id)) (right_side (conclusion_at k id))

abbrev pub eq_mp_row : Kept → Premise → Premise → Given → Tree
eq_mp_row k one two given =
    eq_mp_tree given.symbols given.scope (left_side (conclusion_at k one.id)) (right_side (conclusion_at k one.id)) (premise_at k one) (premise_at k two)

abbrev pub sym_row : Kept → Premise → Given → Tree
sym_row k one given =
    sym_tree given.symbols given.scope (equated_type (conclusion_at k one.id)) (left_side (conclusion_at k one.id)) (right_side (conclusion_at k one.id))
    (premise_at k one)

abbrev pub trans_row : Kept → Premise → Premise → Given → Tree
trans_row k one two given =
    trans_tree given.symbols given.scope (equated_type (conclusion_at k one.id)) (left_side (conclusion_at k one.id)) (right_side (conclusion_at k one.id))
    (right_side (conclusion_at k two.id)) (premise_at k one) (premise_at k two)

abbrev pub app_thm_row : Kept → ℕ → Premise → Premise → Given → Tree
app_thm_row k id one two given =
    app_thm_tree given.symbols given.scope (equated_type (conclusion_at k two.id)) (equated_type (conclusion_at k id))
    (left_side (conclusion_at k one.id)) (right_side (conclusion_at k one.id))
    (left_side (conclusion_at k two.id)) (right_side (conclusion_at k two.id)) (premise_at k one) (premise_at k two)

abbrev pub abs_thm_row : Kept → Variable → Premise → Given → Tree
abs_thm_row k v one given =
    fun_ext_tree given.symbols given.scope (variable_view k.trees v) (equated_type (conclusion_at k one.id))
    (left_side (conclusion_at k one.id)) (right_side (conclusion_at k one.id)) (premise_at k one)

abbrev pub deduct_antisym_row : Kept → Premise → Premise → Given → Tree
deduct_antisym_row k one two given =
    prop_ext_tree given.symbols given.scope (conclusion_at k one.id) (conclusion_at k two.id) (premise_at k one) (premise_at k two)

abbrev pub prove_hyp_row : Kept → Premise → Premise → Given → Tree
prove_hyp_row k one two given = prove_hyp_tree given.symbols given.scope (conclusion_at k one.id) (premise_at k one) (premise_at k two)

-- what is given under the binder of a variable, and under one that proves the conclusion of a step
abbrev pub under_variable : Kept → Variable → Given → Given
under_variable k v given = with_scope given (under_term (variable_view k.trees v) given.scope)

abbrev pub under_conclusion : Kept → ℕ → Given → Given
under_conclusion k id given = with_scope given (under_proof (conclusion_at k id) given.scope)

-- what `abs_thm` is told: an environment under the binder of its variable stands too
abbrev pub TellsUnderVariable : Module → Ground → Environment → Variable → ℕ → Type 0
TellsUnderVariable m on inner v one =
    (given : Given) × Represents given m on.proof.now.trees on.env.now × Represents (under_variable on.proof.now v given) m on.proof.now.trees inner
    × TellsTypeAt on.proof.now v.ty given × TellsStep given on.proof.now one

-- and what it makes
abbrev pub MakesUnderVariable : {E : Type 0} → Module → Module → Ground → Environment → Variable → Premise → Result LpId E → Type 0
MakesUnderVariable old new on inner v one result =
    IfOk result (λ r. (given : Given) → Represents given old on.proof.now.trees on.env.now
    → Represents (under_variable on.proof.now v given) old on.proof.now.trees inner
    → TellsTypeAt on.proof.now v.ty given → TellsStep given on.proof.now one.id → Holds new.table r.0 (abs_thm_row on.proof.now v one given))

-- what `deduct_antisym` is told: environments in which a binder proves the one conclusion and the other stand too
abbrev pub TellsUnderProofs : Module → Ground → Environment → Environment → ℕ → ℕ → Type 0
TellsUnderProofs m on first second one two =
    (given : Given) × Represents given m on.proof.now.trees on.env.now × Represents (under_conclusion on.proof.now one given) m on.proof.now.trees first
    × Represents (under_conclusion on.proof.now two given) m on.proof.now.trees second × TellsStep given on.proof.now one × TellsStep given on.proof.now two

-- and what it makes
abbrev pub MakesUnderProofs : {E : Type 0} → Module → Module → Ground → Environment → Environment → Premise → Premise → Result LpId E → Type 0
MakesUnderProofs old new on first second one two result =
    IfOk result (λ r. (given : Given) → Represents given old on.proof.now.trees on.env.now
    → Represents (under_conclusion on.proof.now one.id given) old on.proof.now.trees first
    → Represents (under_conclusion on.proof.now two.id given) old on.proof.now.trees second → TellsStep given on.proof.now one.id
    → TellsStep given on.proof.now two.id
    → Holds new.table r.0 (deduct_antisym_row on.proof.now one two given))
