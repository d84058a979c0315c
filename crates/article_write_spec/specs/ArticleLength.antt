-- The length of the article of a run, counted step by step; and that it is that of its text, as a statement.
use Rattle.std.specs.Prelude.{◌≡◌, ℕ, suc, ◌+◌, ◌*◌, ◌==◌, Bool, true, false, List, [], length}
use Rattle.std.specs.List.{list_any}
use Rattle.hol_spec.specs.declared.Version.{Version}
use Rattle.hol_spec.specs.Sequents.{Sequent}
use Rattle.hol_spec.specs.Rules.{Parameters}
use Rattle.hol_spec.specs.Proofs.{Step, Accepted, IsProof}
use Rattle.hol_spec.specs.declared.StepKind.{StepKind}
use Rattle.hol_spec.specs.declared.StepKind.TheVariants.{Axiom, Restate, DefineConst, DefineConstList, FirstLaw, SecondLaw}
use Rattle.article_spec.specs.declared.commands.Word.TheVariants as word
use Rattle.article_write_spec.specs.ReachedSteps.{Numbered, reached_steps}
use Rattle.article_write_spec.specs.BinderNames.{binder_number}
use Rattle.article_write_spec.specs.Drafts.{Kept}
use Rattle.article_write_spec.specs.WrittenSteps.{word_of}
use Rattle.article_write_spec.specs.Article.{version_items, article}
use Rattle.article_write_spec.specs.Lengths.{items_length, name_length, word_length, Tally, key_length, add, note, count_each, capped}
use Rattle.article_write_spec.specs.TermLengths.{count_type, count_variable, count_under}

-- what a list of so many elements has behind them
abbrev pub list_length : ℕ → ℕ
list_length n = word_length word.Nil + n * word_length word.Cons

abbrev pub count_list : {A : Type 0} → (A → Tally → Tally) → List A → Tally → Tally
count_list count xs m = add (list_length (length xs)) (count_each count xs m)

abbrev pub count_pair : (Tally → Tally) → (Tally → Tally) → Tally → Tally
count_pair one two m = add (list_length 2) (two (one m))

abbrev pub count_premise : ℕ → Tally → Tally
count_premise i m = add (key_length m.kept (Kept.theorem i)) m

abbrev pub count_theorem : ℕ → Tally → Tally
count_theorem i m = add (word_length word.Pop) (note (Kept.theorem i) m)

abbrev pub count_made : StepKind → ℕ → Tally → Tally
count_made DefineConst i m = add (word_length word.Pop) (count_theorem i m)
count_made DefineConstList i m = add (word_length word.Pop) (count_theorem i m)
count_made FirstLaw i m = add (3 * word_length word.Pop) (count_theorem i (count_theorem (suc i) m))
count_made kind i m = count_theorem i m

module _ (q : ℕ) where
  abbrev pub count_sequent : Sequent → Tally → Tally
  count_sequent s m = count_under q 0 s.conclusion (count_list (count_under q 0) s.hypotheses m)

  abbrev pub count_given : Parameters → Tally → Tally
  count_given Parameters.nothing m = m
  count_given (Parameters.term t) m = count_under q 0 t m
  count_given (Parameters.variable v) m = count_variable v.0 v.1 m
  count_given (Parameters.substitution types terms) m =
      count_pair (count_list (λ p. count_pair (add (name_length p.0)) (count_type p.1)) types)
      (count_list (λ p. count_pair (count_variable p.0.0 p.0.1) (count_under q 0 p.1)) terms) m
  count_given (Parameters.sequent s) m = count_sequent s m
  count_given (Parameters.constant n t) m = count_under q 0 t (add (name_length n) m)
  count_given (Parameters.constants pairs) m = count_list (λ p. count_pair (add (name_length p.0)) (count_variable p.1.0 p.1.1)) pairs m
  count_given (Parameters.type_operator names version) m =
      count_list (λ n. add (name_length n)) names.variables
      (add (name_length names.operator + name_length names.abstraction + name_length names.representation) m)

  abbrev pub count_export : Step → Tally → Tally
  count_export x m = add (word_length word.Thm) (count_given x.parameters (count_each count_premise x.premises m))

  abbrev pub count_assumption : ℕ → Step → Tally → Tally
  count_assumption i x m = count_theorem i (add (word_length word.Axiom) (count_given x.parameters m))

  abbrev pub count_inferred : ℕ → Step → Tally → Tally
  count_inferred i x m = count_made x.kind i (add (word_length (word_of x.kind)) (count_each count_premise x.premises (count_given x.parameters m)))

  abbrev pub count_restated : Bool → ℕ → Step → Tally → Tally
  count_restated true i x m = count_export x m
  count_restated false i x m = count_assumption i x m

  abbrev pub count_by : StepKind → Bool → ℕ → Step → Tally → Tally
  count_by Axiom is_export i x m = count_assumption i x m
  count_by Restate is_export i x m = count_restated is_export i x m
  count_by SecondLaw is_export i x m = m
  count_by kind is_export i x m = count_inferred i x m

  abbrev pub count_step : List ℕ → Numbered → Tally → Tally
  count_step exports x m = count_by x.step.kind (list_any (λ i. x.number == i) exports) x.number x.step m

abbrev pub tally : Version → Accepted → Tally
tally version run =
    count_each (count_step (binder_number (reached_steps run)) run.exports) (reached_steps run)
    (record { kept = []; length = items_length (version_items version) })

-- The length, up to a number: greater ones are not told apart.
abbrev pub article_length : ℕ → Version → Accepted → ℕ
article_length most version run = capped most (tally version run).length

-- What is counted is the length of the text.
abbrev pub LengthsAreCounted : Type 0
LengthsAreCounted = (most : ℕ) (version : Version) (run : Accepted) → IsProof run.made → article_length most version run
    ≡ capped most (length (article version run))
