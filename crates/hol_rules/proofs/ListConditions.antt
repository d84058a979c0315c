-- What is judged of a list of constants, one condition after another.
use Rattle.std.proofs.Common.{◌≡◌, ℕ, refl, ap, ◌∙◌, List, [], ◌∷◌, Bool, true, false, None, Some, Result, Ok, Err}
use Rattle.std.specs.Prelude.{not}
use Rattle.std.specs.List.{list_all, list_any}
use Rattle.std.proofs.lemmas.Option.{same_Some}
use Rattle.common.specs.declared.faults.Fault.{Fault}
use Rattle.common.specs.declared.faults.Fault.TheVariants.{Memory, Refused}
use Rattle.common.specs.declared.faults.Kind.{Kind}
use Rattle.common.specs.declared.faults.Kind.TheVariants.{NameTaken, NotClosed, ExtraTypeVars, BadDefinitionList}
use Rattle.hol_spec.specs.Defining.{is_closed, has_type_variables_of}
use Rattle.hol_spec.specs.DefinitionLists.{ConstantPairs, names_of, defining_equations, is_definition_list, constants_put}
use Rattle.hol_spec.specs.Proofs.{Made, Step, symbols_of, sequent_at}
use Rattle.hol_spec.specs.Rules.{Parameters, derived}
use Rattle.hol_spec.specs.Sequents.{Sequent}
use Rattle.hol_spec.specs.Symbols.{Symbol, is_taken_constant}
use Rattle.hol_spec.specs.TermSubstitution.{TermPairs, sub}
use Rattle.hol_spec.specs.declared.StepKind.TheVariants as by_rule
use Rattle.article_spec.specs.Results.{◌>>◌, Fails}
use Rattle.article_spec.specs.Conditions.{demand}
use Rattle.article_spec.specs.RuleSteps.{step_by, define_const_list_step}
use Rattle.hol_defs.specs.Faults.{first_failing, list_fault, Refuses}
use Rattle.hol_rules.proofs.RuleSteps.{met}

-- four conditions in a row
four-refused : (b c d e : Bool) (r : Result Step Kind) (k : Kind)
    → first_failing ((b, NameTaken) ∷ (c, NotClosed) ∷ (d, ExtraTypeVars) ∷ (e, BadDefinitionList) ∷ []) ≡ Some k
    → (demand b NameTaken >> (demand c NotClosed >> (demand d ExtraTypeVars >> (demand e BadDefinitionList >> r)))) ≡ Err k
four-refused false c d e r k h = ap Err (same_Some _ _ h)
four-refused true false d e r k h = ap Err (same_Some _ _ h)
four-refused true true false e r k h = ap Err (same_Some _ _ h)
four-refused true true true false r k h = ap Err (same_Some _ _ h)
four-refused true true true true r k h = absurd (cc)

-- and all of them hold
record AllFour (b c d e : Bool) : Type 0 where
  first : b ≡ true
  second : c ≡ true
  third : d ≡ true
  fourth : e ≡ true

four-hold : (b c d e : Bool) → first_failing ((b, NameTaken) ∷ (c, NotClosed) ∷ (d, ExtraTypeVars) ∷ (e, BadDefinitionList) ∷ []) ≡ None → AllFour b c d e
four-hold false c d e h = absurd (cc)
four-hold true false d e h = absurd (cc)
four-hold true true false e h = absurd (cc)
four-hold true true true false h = absurd (cc)
four-hold true true true true h = record { first = refl; second = refl; third = refl; fourth = refl }

-- the conditions of a list of constants
pub record AreFit (symbols : List Symbol) (pairs : ConstantPairs) (one : Sequent) : Type 0 where
  pub new : not (list_any (is_taken_constant symbols) (names_of pairs)) ≡ true
  pub closed : list_all (λ e. is_closed e.1) (defining_equations pairs one.hypotheses) ≡ true
  pub variables : list_all (λ e. has_type_variables_of e.0.1 e.1) (defining_equations pairs one.hypotheses) ≡ true
  pub list : is_definition_list pairs one ≡ true

pub are-fit : (symbols : List Symbol) (pairs : ConstantPairs) (one : Sequent) → list_fault symbols pairs one ≡ None → AreFit symbols pairs one
are-fit symbols pairs one none =
    let es : TermPairs = defining_equations pairs one.hypotheses in
    let h = four-hold (not (list_any (is_taken_constant symbols) (names_of pairs))) (list_all (λ e. is_closed e.1) es)
    (list_all (λ e. has_type_variables_of e.0.1 e.1) es) (is_definition_list pairs one) none in
    record { new = h.first; closed = h.second; variables = h.third; list = h.fourth }

module _ (made : List Made) (pairs : ConstantPairs) (i : ℕ) where
  abbrev one : Sequent
  one = sequent_at made i

  abbrev es : TermPairs
  es = defining_equations pairs one.hypotheses

  -- the step that is made where all of them hold
  abbrev pub listed_step : Step
  listed_step = step_by by_rule.DefineConstList (i ∷ []) (Parameters.constants pairs) (derived [] (sub [] (constants_put pairs) one.conclusion))

  -- what a judgement of numbers refuses
  pub list-fails : (fault : Fault) → Refuses fault (list_fault (symbols_of made) pairs one) → Fails fault (define_const_list_step made pairs i)
  list-fails Memory h = tt
  list-fails (Refused k) h =
      four-refused (not (list_any (is_taken_constant (symbols_of made)) (names_of pairs))) (list_all (λ e. is_closed e.1) es)
      (list_all (λ e. has_type_variables_of e.0.1 e.1) es) (is_definition_list pairs one) (Ok listed_step) k h

  pub list-is : AreFit (symbols_of made) pairs one → define_const_list_step made pairs i ≡ Ok listed_step
  list-is h =
      met (not (list_any (is_taken_constant (symbols_of made)) (names_of pairs))) NameTaken _ h.new
      ∙ met (list_all (λ e. is_closed e.1) es) NotClosed _ h.closed
      ∙ met (list_all (λ e. has_type_variables_of e.0.1 e.1) es) ExtraTypeVars _ h.variables
      ∙ met (is_definition_list pairs one) BadDefinitionList (Ok listed_step) h.list
