-- The law of articles: whatever articles a run read, what its exports reach can be told by one, where one can say it and it isn't too long.
use Rattle.std.proofs.Common.{◌≡◌, ℕ, ◌<◌, ◌^◌, List, [], ◌∷◌, ◌++◌, map, sym, ap, subst, ◌∙◌, arith}
use Rattle.std.specs.List.{AllByRecursion}
use Rattle.hol_spec.specs.Terms.{Term, Variable, equation}
use Rattle.hol_spec.specs.TermSubstitution.{sub}
use Rattle.hol_spec.specs.Definitions.{Definition}
use Rattle.hol_spec.specs.DefinitionLists.{definitions_in, constants_put}
use Rattle.hol_spec.specs.TypeDefinitions.{first_law_of, second_law_of}
use Rattle.hol_spec.specs.Symbols.{defined}
use Rattle.hol_spec.specs.declared.StepKind.TheVariants as by_rule
use Rattle.article_spec.specs.RuleSteps.{step_by, restatement}
use Rattle.hol_laws.specs.TermTyping.{loose-typed}
use Rattle.hol_laws.specs.Members.{All-append, All-weaker}
use Rattle.hol_spec.specs.Rules.{Parameters, derived}
use Rattle.hol_spec.specs.Proofs.{Made, Step, Accepted, steps_of, sequent_at}
use Rattle.hol_proof_laws.specs.ProofLaws.{steps_of-push, steps_of-symbols}
use Rattle.article_write_spec.specs.Mentions.{Need}
use Rattle.article_write_spec.specs.ReachedSteps.{Numbered, reached_steps}
use Rattle.article_write_spec.specs.BinderNames.{binder_number}
use Rattle.article_write_laws.specs.SymbolUses.{nil-append}
use Rattle.article_write_laws.specs.BuiltSteps.{IsBuiltTerm, IsBuiltPair, built-within}
use Rattle.article_write_laws.specs.WritableDrafts.{TermNamed, VariableNamed, IsNamed, GivenFine, steps-writable}
use Rattle.article_write_laws.specs.FreshNames.{binder_number-small}
use Rattle.article_write_laws.specs.Flags.{selected-all}
use Rattle.article_write_laws.specs.DefinitionsMade.{law-grown}
use Rattle.article_write_laws.specs.ReachLaws.{reached-selected, flag-numbers}
use Rattle.article_write_laws.specs.Histories.{IsGood, History}
use Rattle.article_write_laws.specs.Histories as histories
use Rattle.article_write_laws.specs.HistoryTales.{tale}
use Rattle.article_write_laws.specs.GoodRuns.{runs-good}
use Rattle.article_write_spec.specs.Retold.{RetellsBy, reaches, RunsAreRetold}
use Rattle.article_write_laws.specs.ArticleLaws.{is_told, retells}

module _ (q : ℕ) (small : q < 2 ^ 64) where
  named : (t : Term) → IsBuiltTerm t → TermNamed t → IsNamed q small t
  named t h k = record { names = k; closed = loose-typed [] t h.ty h.typed; small = (let w = built-within t h.ty h.typed h.built in omega (arith, w.depth)) }

  all-named : (ts : List Term) → AllByRecursion IsBuiltTerm ts → AllByRecursion TermNamed ts → AllByRecursion (IsNamed q small) ts
  all-named [] h k = tt
  all-named (t ∷ ts) h k = (named t h.0 k.0, all-named ts h.1 k.1)

  pairs-named : (ps : List (Variable × Term)) → AllByRecursion IsBuiltPair ps → AllByRecursion (λ (p : Variable × Term). VariableNamed p.0 × TermNamed p.1) ps
      → AllByRecursion (λ (p : Variable × Term). VariableNamed p.0 × IsNamed q small p.1) ps
  pairs-named [] h k = tt
  pairs-named (p ∷ ps) h k = ((k.0.0, named p.1 h.0.term k.0.1), pairs-named ps h.1 k.1)

  fine : (g : Parameters) → IsGood g → GivenFine q small g
  fine Parameters.nothing h = tt
  fine (Parameters.term t) h = named t h.built h.named
  fine (Parameters.variable v) h = h.named
  fine (Parameters.substitution types terms) h = (h.named.0, pairs-named terms h.built.1 h.named.1)
  fine (Parameters.sequent s) h = (all-named s.hypotheses h.built.hypotheses h.named.0, named s.conclusion h.built.conclusion h.named.1)
  fine (Parameters.constant n t) h = (h.named.0, named t h.built h.named.1)
  fine (Parameters.constants pairs) h = h.named
  fine (Parameters.type_operator names version) h = h.named

-- each step of a history was given what is good
abbrev AreGood : List Made → Type 0
AreGood made = AllByRecursion (λ (x : Step). IsGood x.parameters) (steps_of made)

one-good : (made whole : List Made) (x : Step) → AreGood made → IsGood x.parameters → steps_of whole ≡ steps_of made ++ x ∷ [] → AreGood whole
one-good made whole x h g e = subst (AllByRecursion (λ (y : Step). IsGood y.parameters)) (sym e)
    (All-append (λ (y : Step). IsGood y.parameters) (steps_of made) (x ∷ []) h (g, tt {0}))

history-good : {made : List Made} {ax ex : List ℕ} → History made ax ex → AreGood made
history-good histories.History.empty = tt
history-good (histories.History.input {made = made} x h i is) =
    subst (AllByRecursion (λ (y : Step). IsGood y.parameters)) (sym (ap steps_of is ∙ steps_of-symbols made (x ∷ []))) (history-good h)
history-good (histories.History.inferred {made = made} {whole = whole} x h k g is) =
    one-good made whole x (history-good h) g (ap steps_of is ∙ steps_of-push made x)
history-good (histories.History.assumed {made = made} {whole = whole} s h n g is all_is) =
    let x = step_by by_rule.Axiom [] (Parameters.sequent s) s in
    one-good made whole x (history-good h) g (ap steps_of is ∙ steps_of-push made x)
history-good (histories.History.met {made = made} {whole = whole} s i h o g is) =
    one-good made whole (restatement i s) (history-good h) g (ap steps_of is ∙ steps_of-push made (restatement i s))
history-good (histories.History.met_export {made = made} {whole = whole} s i h o g is) =
    one-good made whole (restatement i s) (history-good h) g (ap steps_of is ∙ steps_of-push made (restatement i s))
history-good (histories.History.exported {made = made} {whole = whole} s i h n g is all_is) =
    one-good made whole (restatement i s) (history-good h) g (ap steps_of is ∙ steps_of-push made (restatement i s))
history-good (histories.History.constant {made = made} {whole = whole} n t a h k g is) =
    let new = defined (Definition.constant n t) in
    let x = step_by by_rule.DefineConst [] (Parameters.constant n t) (derived [] (equation a (Term.constant n a) t)) in
    one-good made whole x (history-good h) g (ap steps_of is ∙ steps_of-push (made ++ Made.symbol new ∷ []) x
    ∙ ap (λ l. l ++ x ∷ []) (steps_of-symbols made (new ∷ [])))
history-good (histories.History.constants {made = made} {whole = whole} i pairs h n k l g is) =
    let new = map defined (definitions_in pairs (sequent_at made i).hypotheses) in
    let x = step_by by_rule.DefineConstList (i ∷ []) (Parameters.constants pairs) (derived [] (sub [] (constants_put pairs) (sequent_at made i).conclusion)) in
    one-good made whole x (history-good h) g (ap steps_of is ∙ steps_of-push (made ++ map Made.symbol new) x
    ∙ ap (λ l. l ++ x ∷ []) (steps_of-symbols made new))
history-good (histories.History.type {made = made} {whole = whole} i names c f version h l g is) =
    let x1 = step_by by_rule.FirstLaw (i ∷ []) (Parameters.type_operator names version) (first_law_of version names c) in
    let x2 = step_by by_rule.SecondLaw (i ∷ []) (Parameters.type_operator names version) (second_law_of version names c f) in
    let two = (made ++ Made.type_definition names c f i ∷ []) ++ Made.step x1 ∷ [] in
    one-good two whole x2 (one-good made two x1 (history-good h) g (law-grown made names c f i x1)) g (ap steps_of is ∙ steps_of-push two x2)

-- the told steps are the reached ones
told-reaches : (run : Accepted) → is_told run ≡ reaches run
told-reaches run = λ d i. sym (flag-numbers (map Need.step run.exports) 0 (steps_of run.made) i) d

pub runs_are_retold : RunsAreRetold
runs_are_retold articles version run accepts h =
    let g = runs-good articles run accepts in
    let small = binder_number-small (reached_steps run) h.few in
    let q = binder_number (reached_steps run) in
    let all = subst (AllByRecursion (λ (y : Numbered). IsGood y.step.parameters)) (sym (reached-selected (map Need.step run.exports) 0 (steps_of run.made)))
    (selected-all (λ x. IsGood x.parameters) (is_told run) 0 (steps_of run.made) (history-good g.history)) in
    let writable = steps-writable q small version run.exports (reached_steps run)
    (All-weaker (λ (y : Numbered). IsGood y.step.parameters) (λ (y : Numbered). GivenFine q small y.step.parameters)
    (λ y k. fine q small y.step.parameters k) (reached_steps run) all) h.short in
    let r = retells version run
    (tale version run g.proof g.over h.fits h.few g.history [] (sym (nil-append run.made)) [] (sym (nil-append run.exports)) (tt {0})) writable h.short in
    (r.0, subst (λ f. RetellsBy f version run r.0) (told-reaches run) r.1)
