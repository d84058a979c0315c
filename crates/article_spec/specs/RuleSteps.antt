-- The step that each rule makes of its premises and of what else it is given, or the first of its conditions that fails.
-- Source: HOL Light's kernel; the OpenTheory article file format, versions 5 and 6, "Commands".
use Rattle.std.specs.Prelude.{ℕ, List, [], ◌∷◌, length, map, not, ◌||◌, nat_eq, Option, None, Some, Result, Ok}
use Rattle.std.specs.List.{list_all, list_any}
use Rattle.std.specs.Option.{ok_or}
use Rattle.common.specs.declared.faults.Kind.{Kind}
use Rattle.common.specs.declared.faults.Kind.TheVariants.{NotBool, TypeMismatch, NotAlike, VarInHyps, NotRedex, BadSubst, NameTaken, NotClosed, ExtraTypeVars, BadDefinitionList, BadTypeVars, NotTheSequent}
use Rattle.hol_spec.specs.Definitions.{TypeNames}
use Rattle.hol_spec.specs.DefinitionLists.{ConstantPairs, names_of, defining_equations, is_definition_list, constants_put}
use Rattle.hol_spec.specs.Defining.{is_closed, has_type_variables_of}
use Rattle.hol_spec.specs.Lists.{distinct}
use Rattle.hol_spec.specs.Measures.{Measure, type_measure, sequent_measure}
use Rattle.hol_spec.specs.Names.{Name}
use Rattle.hol_spec.specs.NameEquality.{name_eq}
use Rattle.hol_spec.specs.NewTypes.{new_type, abstraction_type, representation_type}
use Rattle.hol_spec.specs.Primitives.{bool, function}
use Rattle.hol_spec.specs.Types.{HolType}
use Rattle.hol_spec.specs.Sequents.{Sequent}
use Rattle.hol_spec.specs.Substitution.{TypePairs}
use Rattle.hol_spec.specs.Symbols.{Symbol, is_taken_constant, is_taken_operator}
use Rattle.hol_spec.specs.Terms.{Term, Variable, app, lam, term_eq, equation, application_type}
use Rattle.hol_spec.specs.TermBinding.{put}
use Rattle.hol_spec.specs.TermSubstitution.{TermPairs, sub}
use Rattle.hol_spec.specs.TypeDefinitions.{are_type_variables_of, first_law_of, second_law_of}
use Rattle.hol_spec.specs.Rules.{Parameters, nothing, derived, joined, removed, abstraction, is_free_in}
use Rattle.hol_spec.specs.Proofs.{Made, Step, symbols_of, sequent_at}
use Rattle.hol_spec.specs.declared.StepKind.{StepKind}
use Rattle.hol_spec.specs.declared.StepKind.TheVariants as by_rule
use Rattle.hol_spec.specs.declared.Version.{Version}
use Rattle.article_spec.specs.Results.{◌>>=◌, ◌>>◌}
use Rattle.article_spec.specs.Conditions.{demand, in_limits, typed, is_of_type, equation_of, all_bool, follows}

-- a step by a rule, from premises, with what it is given
abbrev pub step_by : StepKind → List ℕ → Parameters → Sequent → Step
step_by kind premises parameters sequent = record { kind = kind; premises = premises; parameters = parameters; sequent = sequent }

-- |- t = t
abbrev pub refl_step : Term → Result Step Kind
refl_step t = do
  a ← typed t
  Ok (step_by by_rule.Refl [] (Parameters.term t) (derived [] (equation a t t)))

-- {p} |- p
abbrev pub assume_step : Term → Result Step Kind
assume_step p = do
  demand (is_of_type bool p) NotBool
  Ok (step_by by_rule.Assume [] (Parameters.term p) (derived (p ∷ []) p))

-- from G |- p = q and D |- p: G u D |- q
abbrev pub eq_mp_step : List Made → ℕ → ℕ → Result Step Kind
eq_mp_step made i j = do
  let one = sequent_at made i
  let two = sequent_at made j
  e ← equation_of one
  demand (term_eq two.conclusion e.left) NotAlike
  Ok (step_by by_rule.EqMp (i ∷ j ∷ []) nothing (derived (joined one.hypotheses two.hypotheses) e.right))

-- from G |- t = u, where v is not free in G: G |- (\v. t) = (\v. u)
abbrev pub abs_thm_step : List Made → Variable → ℕ → Result Step Kind
abs_thm_step made v i = do
  let one = sequent_at made i
  e ← equation_of one
  demand (not (is_free_in v one.hypotheses)) VarInHyps
  Ok (step_by by_rule.AbsThm (i ∷ []) (Parameters.variable v)
      (derived one.hypotheses (equation (function v.1 e.ty) (abstraction v e.left) (abstraction v e.right))))

-- from G |- f = g and D |- x = y: G u D |- f x = g y. The types are judged only where both are equations.
abbrev pub app_thm_step : List Made → ℕ → ℕ → Result Step Kind
app_thm_step made i j = do
  let one = sequent_at made i
  let two = sequent_at made j
  f ← equation_of one
  x ← equation_of two
  b ← ok_or (application_type (Some f.ty) (Some x.ty)) TypeMismatch
  Ok (step_by by_rule.AppThm (i ∷ j ∷ []) nothing (derived (joined one.hypotheses two.hypotheses) (equation b (app f.left x.left) (app f.right x.right))))

-- from G |- p and D |- q: (G - {q}) u (D - {p}) |- p = q
abbrev pub deduct_antisym_step : List Made → ℕ → ℕ → Result Step Kind
deduct_antisym_step made i j = do
  let one = sequent_at made i
  let two = sequent_at made j
  Ok (step_by by_rule.DeductAntisym (i ∷ j ∷ []) nothing
      (derived (joined (removed one.hypotheses two.conclusion) (removed two.hypotheses one.conclusion)) (equation bool one.conclusion two.conclusion)))

-- what a redex becomes
abbrev pub contracted : Term → Option Term
contracted (app (lam a t) u) = Some (put u t)
contracted t = None

-- |- (\v. t) u = t[u/v]
abbrev pub beta_conv_step : Term → Result Step Kind
beta_conv_step t = do
  u ← ok_or (contracted t) NotRedex
  a ← typed t
  Ok (step_by by_rule.BetaConv [] (Parameters.term t) (derived [] (equation a t u)))

-- from G |- x = y: G |- y = x
abbrev pub sym_step : List Made → ℕ → Result Step Kind
sym_step made i = do
  let one = sequent_at made i
  e ← equation_of one
  Ok (step_by by_rule.Sym (i ∷ []) nothing (derived one.hypotheses (equation e.ty e.right e.left)))

-- from G |- x = y and D |- y = z: G u D |- x = z
abbrev pub trans_step : List Made → ℕ → ℕ → Result Step Kind
trans_step made i j = do
  let one = sequent_at made i
  let two = sequent_at made j
  e ← equation_of one
  f ← equation_of two
  demand (term_eq f.left e.right) NotAlike
  Ok (step_by by_rule.Trans (i ∷ j ∷ []) nothing (derived (joined one.hypotheses two.hypotheses) (equation e.ty e.left f.right)))

-- from G |- p and D |- q: G u (D - {p}) |- q
abbrev pub prove_hyp_step : List Made → ℕ → ℕ → Result Step Kind
prove_hyp_step made i j = do
  let one = sequent_at made i
  let two = sequent_at made j
  Ok (step_by by_rule.ProveHyp (i ∷ j ∷ []) nothing (derived (joined one.hypotheses (removed two.hypotheses one.conclusion)) two.conclusion))

-- a sequent with types put, then terms; hypotheses that become equal are one, the first
abbrev pub substituted : TypePairs → TermPairs → Sequent → Sequent
substituted types terms s = derived (distinct term_eq (map (sub types terms) s.hypotheses)) (sub types terms s.conclusion)

-- each term has the type of the variable for which it is put, whether the pair counts or not
abbrev pub pairs_fit : TermPairs → Result (Unit {0}) Kind
pairs_fit terms = demand (list_all (λ p. is_of_type p.0.1 p.1) terms) BadSubst

-- the premise with types put, then terms. Each term has the type of the variable for which it is put, whether the pair counts or not.
abbrev pub subst_step : List Made → TypePairs → TermPairs → ℕ → Result Step Kind
subst_step made types terms i = do
  demand (list_all (λ p. is_of_type p.0.1 p.1) terms) BadSubst
  Ok (step_by by_rule.Subst (i ∷ []) (Parameters.substitution types terms) (substituted types terms (sequent_at made i)))

-- the sequent that a list of hypotheses and a conclusion state; repeats are dropped
abbrev pub stated : List Term → Term → Sequent
stated hypotheses conclusion = derived (distinct term_eq hypotheses) conclusion

-- what an article assumes; repeats among the hypotheses are dropped
abbrev pub axiom_step : List Term → Term → Result Step Kind
axiom_step hypotheses conclusion = do
  all_bool (conclusion ∷ hypotheses)
  Ok (step_by by_rule.Axiom [] (Parameters.sequent (stated hypotheses conclusion)) (stated hypotheses conclusion))

-- the sequent of a step again, as it is stated
abbrev pub restatement : ℕ → Sequent → Step
restatement i sequent = step_by by_rule.Restate (i ∷ []) (Parameters.sequent sequent) sequent

-- the premise's conclusion, under its hypotheses and perhaps more; repeats among the hypotheses are dropped
abbrev pub restate_step : List Made → ℕ → List Term → Term → Result Step Kind
restate_step made i hypotheses conclusion = do
  all_bool (conclusion ∷ hypotheses)
  follows (sequent_at made i) (stated hypotheses conclusion)
  Ok (restatement i (stated hypotheses conclusion))

-- |- n = t, for a new constant n that stands for the closed term t. The type of t has each of its type variables.
abbrev pub define_const_step : List Made → Name → Term → Result Step Kind
define_const_step made n t = do
  demand (not (is_taken_constant (symbols_of made) n)) NameTaken
  demand (is_closed t) NotClosed
  a ← typed t
  demand (has_type_variables_of a t) ExtraTypeVars
  Ok (step_by by_rule.DefineConst [] (Parameters.constant n t) (derived [] (equation a (Term.constant n a) t)))

-- from v = t, .. |- p: |- p[c/v, ..], for new constants c. What is judged of one definition is judged of all before the next.
abbrev pub define_const_list_step : List Made → ConstantPairs → ℕ → Result Step Kind
define_const_list_step made pairs i = do
  let one = sequent_at made i
  let equations = defining_equations pairs one.hypotheses
  demand (not (list_any (is_taken_constant (symbols_of made)) (names_of pairs))) NameTaken
  demand (list_all (λ e. is_closed e.1) equations) NotClosed
  demand (list_all (λ e. has_type_variables_of e.0.1 e.1) equations) ExtraTypeVars
  demand (is_definition_list pairs one) BadDefinitionList
  Ok (step_by by_rule.DefineConstList (i ∷ []) (Parameters.constants pairs) (derived [] (sub [] (constants_put pairs) one.conclusion)))

-- the predicate and the witness that a conclusion applies it to
abbrev pub application_parts : Term → Option (Term × Term)
application_parts (app f t) = Some (f, t)
application_parts t = None

-- what is judged of a predicate, where there is one
abbrev pub predicate_fits : List Name → Option (Term × Term) → Result (Unit {0}) Kind
predicate_fits variables None = Ok tt
predicate_fits variables (Some parts) = do
  demand (is_closed parts.0) NotClosed
  demand (are_type_variables_of variables parts.0) BadTypeVars

-- nothing has the name of the operator or of one of its constants, which have two names
abbrev pub are_new_names : List Symbol → TypeNames → Result (Unit {0}) Kind
are_new_names symbols names =
    demand (not (is_taken_operator symbols names.operator || is_taken_constant symbols names.abstraction || is_taken_constant symbols names.representation
    || name_eq names.abstraction names.representation)) NameTaken

-- what the definition of a type operator makes: the operator with its constants, and its two laws
pub record NewType : Type 0 where
  pub definition : Made
  pub first : Step
  pub second : Step

-- the measures of all that it makes, in an article of a version
abbrev pub type_measures : Version → TypeNames → HolType → Term → List Measure
type_measures version names c f =
    type_measure (new_type names) ∷ type_measure (abstraction_type names c) ∷ type_measure (representation_type names c)
    ∷ sequent_measure (first_law_of version names c) ∷ sequent_measure (second_law_of version names c f) ∷ []

-- what is made where the predicate f says which part of the type c the new one is
abbrev pub made_of_type : Version → TypeNames → ℕ → HolType → Term → NewType
made_of_type version names i c f = record {
  definition = Made.type_definition names c f i;
  first = step_by by_rule.FirstLaw (i ∷ []) (Parameters.type_operator names version) (first_law_of version names c);
  second = step_by by_rule.SecondLaw (i ∷ []) (Parameters.type_operator names version) (second_law_of version names c f);
}

-- from |- f t, for a new operator N and new constants abs and rep: |- (\a. abs (rep a)) = (\a. a) and |- (\r. rep (abs r) = r) = (\r. f r),
-- or, in an article of version 5, |- abs (rep a) = a and |- f r = (rep (abs r) = r).
-- The limits on all that is made come last, every size before any depth.
abbrev pub type_laws : Version → List Made → TypeNames → ℕ → Result NewType Kind
type_laws version made names i = do
  let one = sequent_at made i
  are_new_names (symbols_of made) names
  predicate_fits names.variables (application_parts one.conclusion)
  demand (nat_eq (length one.hypotheses) 0) NotTheSequent
  (f, t) ← ok_or (application_parts one.conclusion) NotTheSequent
  c ← typed t
  in_limits (type_measures version names c f)
  Ok (made_of_type version names i c f)
