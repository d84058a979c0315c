-- In a tale each told step has told premises, and the laws of a type definition are told together.
use Rattle.std.proofs.Common.{◌≡◌, ℕ, suc, ◌+◌, ◌-◌, Bool, true, false, cond, List, [], ◌∷◌, ◌++◌, map, refl, sym, ap, subst, ◌∙◌, arith}
use Rattle.std.specs.List.{AllByRecursion}
use Rattle.hol_laws.specs.Members.{All-append, All-weaker}
use Rattle.hol_spec.specs.declared.Version.{Version}
use Rattle.hol_spec.specs.Symbols.{defined}
use Rattle.hol_spec.specs.Definitions.{Definition}
use Rattle.hol_spec.specs.TypeDefinitions.{first_law_of, second_law_of}
use Rattle.hol_spec.specs.Terms.{Term, equation}
use Rattle.hol_spec.specs.TermSubstitution.{sub}
use Rattle.hol_spec.specs.DefinitionLists.{definitions_in, constants_put}
use Rattle.hol_spec.specs.Rules.{Parameters, derived}
use Rattle.hol_spec.specs.Rules as rule
use Rattle.hol_spec.specs.Proofs.{Made, Step, steps_of, sequent_at}
use Rattle.hol_spec.specs.declared.StepKind.{StepKind}
use Rattle.hol_spec.specs.declared.StepKind.TheVariants as by_rule
use Rattle.hol_proof_laws.specs.ProofLaws.{steps_of-push, steps_of-symbols}
use Rattle.article_spec.specs.RuleSteps.{step_by, restatement}
use Rattle.article_write_laws.specs.InferenceWords.{is_inference}
use Rattle.article_write_laws.specs.Flags.{count, selected}
use Rattle.article_write_laws.specs.Tales.{next, IsTold, Tale}
use Rattle.article_write_laws.specs.Tales as tales
use Rattle.article_write_laws.specs.Retelling.{selected-on, selected-off, next-grown}
use Rattle.article_write_laws.specs.DefinedSteps.{steps-grown}
use Rattle.article_write_laws.specs.DefinitionsMade.{law-grown}
use Rattle.article_write_laws.specs.FixedPoint.{IsClosed}

module _ (q : ℕ) (version : Version) (flag is_export : ℕ → Bool) where
  abbrev Closed : List Made → Type 0
  Closed made = AllByRecursion (IsClosed flag) (selected flag 0 (steps_of made))

  -- one step more
  grow : (made whole : List Made) (x : Step) → Closed made → steps_of whole ≡ steps_of made ++ x ∷ []
      → (flag (next made) ≡ true → IsClosed flag (record { number = next made; step = x })) → Closed whole
  grow made whole x h grown f = go (flag (next made)) refl
    where
      go : (b : Bool) → flag (next made) ≡ b → Closed whole
      go true on = subst (AllByRecursion (IsClosed flag)) (sym (selected-on q version flag is_export made whole x grown on))
          (All-append (IsClosed flag) (selected flag 0 (steps_of made)) (record { number = next made; step = x } ∷ []) h (f on, tt {0}))
      go false off = subst (AllByRecursion (IsClosed flag)) (sym (selected-off q version flag is_export made whole x grown off)) h

  told-flagged : (made : List Made) (is : List ℕ) → AllByRecursion (IsTold q version flag is_export made) is → AllByRecursion (λ i. flag i ≡ true) is
  told-flagged made is h = All-weaker (IsTold q version flag is_export made) (λ i. flag i ≡ true) (λ i k. k.flagged) is h

  no-first : (kind : StepKind) → is_inference kind ≡ true → kind ≡ by_rule.FirstLaw → ⊥
  no-first kind e is = absurd (let z = sym (ap is_inference is) ∙ e in cc)

  no-second : (kind : StepKind) → is_inference kind ≡ true → kind ≡ by_rule.SecondLaw → ⊥
  no-second kind e is = absurd (let z = sym (ap is_inference is) ∙ e in cc)

  pub closed : {made : List Made} {ax ex : List ℕ} → Tale q version flag is_export made ax ex → Closed made
  closed tales.Tale.empty = tt
  closed (tales.Tale.input {made = made} x t input takes is) =
      subst (λ l. AllByRecursion (IsClosed flag) (selected flag 0 l)) (sym (ap steps_of is ∙ steps_of-symbols made (x ∷ []))) (closed t)
  closed (tales.Tale.inferred {made = made} {whole = whole} x t kind internal h is) =
      grow made whole x (closed t) (ap steps_of is ∙ steps_of-push made x)
      (λ on. record {
        on = on;
        premises = told-flagged made x.premises (h on).premises;
        with_second = λ e. absurd (no-first x.kind kind e);
        with_first =
            λ e. absurd (no-second x.kind kind e);
      })
  closed (tales.Tale.assumed {made = made} {whole = whole} s t internal new h is all_is) =
      let x = step_by by_rule.Axiom [] (Parameters.sequent s) s in
      grow made whole x (closed t) (ap steps_of is ∙ steps_of-push made x)
      (λ on. record { on = on; premises = tt {0}; with_second = λ e. absurd (cc); with_first = λ e. absurd (cc) })
  closed (tales.Tale.met {made = made} {whole = whole} s i t internal old h is) =
      let x = restatement i s in
      grow made whole x (closed t) (ap steps_of is ∙ steps_of-push made x)
      (λ on. record { on = on; premises = ((h on).1.flagged, tt {0}); with_second = λ e. absurd (cc); with_first = λ e. absurd (cc) })
  closed (tales.Tale.met_export {made = made} {whole = whole} s i t off is) =
      let x = restatement i s in
      grow made whole x (closed t) (ap steps_of is ∙ steps_of-push made x) (λ on. absurd (let z = sym off ∙ on in cc))
  closed (tales.Tale.exported {made = made} {whole = whole} s i t external on new h premise weaker is all_is) =
      let x = restatement i s in
      grow made whole x (closed t) (ap steps_of is ∙ steps_of-push made x)
      (λ k. record { on = k; premises = (premise.flagged, tt {0}); with_second = λ e. absurd (cc); with_first = λ e. absurd (cc) })
  closed (tales.Tale.constant {made = made} {whole = whole} n u a t internal takes h is) =
      let x = step_by by_rule.DefineConst [] (Parameters.constant n u) (derived [] (equation a (Term.constant n a) u)) in
      grow made whole x (closed t) (steps-grown q version flag is_export made whole (defined (Definition.constant n u) ∷ []) x is)
      (λ on. record { on = on; premises = tt {0}; with_second = λ e. absurd (cc); with_first = λ e. absurd (cc) })
  closed (tales.Tale.constants {made = made} {whole = whole} i pairs t internal takes h is) =
      let x = step_by by_rule.DefineConstList (i ∷ []) (rule.constants pairs) (derived [] (sub [] (constants_put pairs) (sequent_at made i).conclusion)) in
      grow made whole x (closed t) (steps-grown q version flag is_export made whole (map defined (definitions_in pairs (sequent_at made i).hypotheses)) x is)
      (λ on. record { on = on; premises = ((h on).premise.flagged, tt {0}); with_second = λ e. absurd (cc); with_first = λ e. absurd (cc) })
  closed (tales.Tale.type {made = made} {whole = whole} i names c f made_in t one two takes same h is) =
      let x1 = step_by by_rule.FirstLaw (i ∷ []) (rule.type_operator names made_in) (first_law_of made_in names c) in
      let x2 = step_by by_rule.SecondLaw (i ∷ []) (rule.type_operator names made_in) (second_law_of made_in names c f) in
      let mid = (made ++ Made.type_definition names c f i ∷ []) ++ Made.step x1 ∷ [] in
      let grown1 = law-grown made names c f i x1 in
      let number : next mid ≡ suc (next made) = next-grown q version flag is_export made mid x1 grown1
      ∙ (let e : next made + 1 ≡ suc (next made) = omega arith in e) in
      let half = grow made mid x1 (closed t) grown1
      (λ on. record { on = on; premises = ((h on).premise.flagged, tt {0}); with_second = λ e. same ∙ on; with_first = λ e. absurd (cc) }) in
      grow mid whole x2 half (ap steps_of is ∙ steps_of-push mid x2)
      (λ on.
      let first : flag (next made) ≡ true = sym same ∙ ap flag (sym number) ∙ on in
      let counted : count flag (suc (next made)) ≡ suc (count flag (next made)) =
      ap (λ b. cond b (suc (count flag (next made))) (count flag (next made))) first in
      let before : next mid - 1 ≡ next made = omega (arith, number) in
      record {
        on = on;
        premises = ((h first).premise.flagged, tt {0});
        with_second = λ e. absurd (cc);
        with_first = λ e. ap (count flag) before ∙ (let z : count flag (next made) ≡ count flag (suc (next made)) - 1 = omega (arith, counted) in z) ∙ ap
            (λ k. count flag k - 1) (sym number);
      })
