-- What a block does, part by part: n is the constant that it defines, m the one before it, or f.
use Rattle.std.proofs.Common.{◌≡◌, ℕ, pos, false, List, [], ◌∷◌, ◌++◌, Some, refl, ◌∙◌, Ok, codes, append-nil}
use Rattle.std.specs.FinMap as entries
use Rattle.hol_spec.specs.Names.{Name}
use Rattle.hol_spec.specs.Primitives.{bool}
use Rattle.hol_spec.specs.Terms.{Term, Variable, app, equation}
use Rattle.hol_spec.specs.Sequents.{Sequent}
use Rattle.hol_spec.specs.Definitions.{Definition}
use Rattle.hol_spec.specs.Symbols.{defined, generic_type, is_taken_constant}
use Rattle.hol_spec.specs.Rules.{Parameters, nothing, derived}
use Rattle.hol_spec.specs.Proofs.{Made, symbols_of}
use Rattle.hol_spec.specs.declared.StepKind.TheVariants as by_rule
use Rattle.article_spec.specs.declared.commands.Item.{Item}
use Rattle.article_spec.specs.declared.commands.Item.TheVariants as item
use Rattle.article_spec.specs.declared.commands.Word.TheVariants as word
use Rattle.article_spec.specs.State.{Object, theorem}
use Rattle.article_spec.specs.State as object
use Rattle.article_spec.specs.RuleSteps.{step_by}
use Rattle.article_spec.specs.Step.{obey}
use Rattle.article_trial_laws.specs.Trials.{f, truths, p, at_p, wrapped}
use Rattle.article_trial_laws.specs.TrialLines.{said}
use Rattle.article_trial_laws.specs.TrialSteps.{Dictionary, Has, Has-other, refers, follows_word, IsAt, sequent_at-is, obeyed, state, Concludes, inferred, defining}
use Rattle.hol_laws.specs.NameEqualityLaws.{name_eq-refl}

abbrev pub x : Variable
x = (codes "x" ∷ [], bool)

-- |- p = p, |- n = \x. m x, |- n p = (\x. m x) p, |- (\x. m x) p = m p, and |- n p = m p
abbrev pub p_is_p : Sequent
p_is_p = derived [] (equation bool p p)

abbrev pub is_wrapped : Name → Name → Sequent
is_wrapped n m = derived [] (equation truths (Term.constant n truths) (wrapped m))

abbrev pub at_p_is_wrapped : Name → Name → Sequent
at_p_is_wrapped n m = derived [] (equation bool (at_p n) (app (wrapped m) p))

abbrev pub wrapped_at_p : Name → Sequent
wrapped_at_p m = derived [] (equation bool (app (wrapped m) p) (at_p m))

abbrev pub are_alike : Name → Name → Sequent
are_alike n m = derived [] (equation bool (at_p n) (at_p m))

-- the parts of a block
abbrev pub wrap : List Item
wrap = said (codes "4 ref 5 ref 4 ref varTerm appTerm absTerm 6 def")

abbrev pub define : List Item
define = said (codes "defineConst")

abbrev pub apply : List Item
apply = said (codes "3 ref appThm")

abbrev pub contract : List Item
contract = said (codes "6 ref 2 ref appTerm betaConv")

abbrev pub join : List Item
join = said (codes "trans")

abbrev pub chain : List Item
chain = said (codes "7 ref trans")

abbrev pub keep : List Item
keep = said (codes "7 def pop 1 ref constTerm 5 def pop")

-- what a block keeps: its theorem and its constant
abbrev pub kept : Name → Dictionary → ℕ → Dictionary
kept n d i = entries.insert (entries.insert d (pos 7) (theorem i)) (pos 5) (object.term (Term.constant n truths))

-- a constant of the type that it has
pub uses : (n : Name) (d : Dictionary) (made : List Made) (rest : List Object) → generic_type (symbols_of made) n ≡ Some truths
    → obey (state d made (object.type truths ∷ object.constant n ∷ rest)) word.ConstTerm ≡ Ok (state d made (object.term (Term.constant n truths) ∷ rest))
uses n d made rest generic = rw (generic, append-nil made) refl

module _ (n m : Name) (d : Dictionary) (made : List Made) where
  -- the name, and \x. m x, which is kept
  pub wraps : Has d 4 (object.variable x) → Has d 5 (object.term (Term.constant m truths))
      → obeyed (state d made []) (item.Name n ∷ wrap)
      ≡ Ok (state (entries.insert d (pos 6) (object.term (wrapped m))) made (object.term (wrapped m) ∷ object.name n ∷ []))
  wraps four five =
      let own : List Object = object.name n ∷ [] in
      refers 4 (object.variable x) d made own (said (codes "5 ref 4 ref varTerm appTerm absTerm 6 def")) four
      ∙ refers 5 (object.term (Term.constant m truths)) d made (object.variable x ∷ own) (said (codes "4 ref varTerm appTerm absTerm 6 def")) five
      ∙ refers 4 (object.variable x) d made (object.term (Term.constant m truths) ∷ object.variable x ∷ own) (said (codes "varTerm appTerm absTerm 6 def")) four

  pub defines : is_taken_constant (symbols_of made) n ≡ false
      → Concludes d made (object.term (wrapped m) ∷ object.name n ∷ []) define (object.constant n ∷ [])
      (symbols_of made ++ defined (Definition.constant n (wrapped m)) ∷ []) (is_wrapped n m)
  defines new =
      defining d made _ _ (object.constant n ∷ []) (defined (Definition.constant n (wrapped m)) ∷ [])
      (step_by by_rule.DefineConst [] (Parameters.constant n (wrapped m)) (is_wrapped n m)) (rw new refl)

  pub applies : (rest : List Object) (i j : ℕ) → Has d 3 (theorem j) → IsAt made j p_is_p → IsAt made i (is_wrapped n m)
      → Concludes d made (theorem i ∷ rest) apply rest (symbols_of made) (at_p_is_wrapped n m)
  applies rest i j three its own =
      inferred d made _ _ rest (step_by by_rule.AppThm (i ∷ j ∷ []) nothing (at_p_is_wrapped n m))
      (rw (three, sequent_at-is made i _ own, sequent_at-is made j _ its) refl)

  pub contracts : (rest : List Object) → Has d 6 (object.term (wrapped m)) → Has d 2 (object.term p)
      → Concludes d made rest contract rest (symbols_of made) (wrapped_at_p m)
  contracts rest six two =
      inferred d made _ _ rest (step_by by_rule.BetaConv [] (Parameters.term (app (wrapped m) p)) (wrapped_at_p m))
      (refers 6 (object.term (wrapped m)) d made rest (said (codes "2 ref appTerm betaConv")) six
      ∙ refers 2 (object.term p) d made (object.term (wrapped m) ∷ rest) (said (codes "appTerm betaConv")) two)

  pub joins : (rest : List Object) (i j : ℕ) → IsAt made i (at_p_is_wrapped n m) → IsAt made j (wrapped_at_p m)
      → Concludes d made (theorem j ∷ theorem i ∷ rest) join rest (symbols_of made) (are_alike n m)
  joins rest i j own next =
      inferred d made _ _ rest (step_by by_rule.Trans (i ∷ j ∷ []) nothing (are_alike n m))
      (rw (sequent_at-is made i _ own, sequent_at-is made j _ next, name_eq-refl m) refl)

  pub chains : (rest : List Object) (i j : ℕ) → Has d 7 (theorem j) → IsAt made i (are_alike n m) → IsAt made j (are_alike m f)
      → Concludes d made (theorem i ∷ rest) chain rest (symbols_of made) (are_alike n f)
  chains rest i j seven own before =
      inferred d made _ _ rest (step_by by_rule.Trans (i ∷ j ∷ []) nothing (are_alike n f))
      (rw (seven, sequent_at-is made i _ own, sequent_at-is made j _ before, name_eq-refl m) refl)

module _ (n : Name) (d : Dictionary) (made : List Made) where
  pub keeps : (i : ℕ) → Has d 1 (object.type truths) → generic_type (symbols_of made) n ≡ Some truths
      → obeyed (state d made (theorem i ∷ object.constant n ∷ [])) keep ≡ Ok (state (kept n d i) made [])
  keeps i one generic =
      let with_theorem : Dictionary = entries.insert d (pos 7) (theorem i) in
      refers 1 (object.type truths) with_theorem made (object.constant n ∷ []) (said (codes "constTerm 5 def pop"))
      (Has-other d 7 (theorem i) 1 (object.type truths) refl one)
      ∙ follows_word word.ConstTerm with_theorem made (object.type truths ∷ object.constant n ∷ []) _ (said (codes "5 def pop"))
      (uses n with_theorem made [] generic)
