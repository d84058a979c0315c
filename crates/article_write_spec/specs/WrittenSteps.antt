-- What is written of a step: what its command takes, from the last popped to the first, its word, and what is kept of what it made.
use Rattle.std.specs.Prelude.{ℕ, suc, ◌==◌, Bool, true, false, List, unwrap_or}
use Rattle.std.specs.List.{list_any}
use Rattle.hol_spec.specs.Sequents.{Sequent}
use Rattle.hol_spec.specs.Rules.{Parameters}
use Rattle.hol_spec.specs.Proofs.{Step}
use Rattle.hol_spec.specs.declared.StepKind.{StepKind}
use Rattle.hol_spec.specs.declared.StepKind.TheVariants.{Refl, Assume, EqMp, AbsThm, AppThm, DeductAntisym, BetaConv, Sym, Trans, ProveHyp, Subst, Axiom, Restate, DefineConst, DefineConstList, FirstLaw, SecondLaw}
use Rattle.article_spec.specs.declared.commands.Word.{Word}
use Rattle.article_spec.specs.declared.commands.Word.TheVariants as word
use Rattle.article_write_spec.specs.ReachedSteps.{Numbered}
use Rattle.article_write_spec.specs.Drafts.{Kept, Draft, key_of, say_name, say_word, pops, keep, refer, write_each, write_list, write_pair}
use Rattle.article_write_spec.specs.WrittenTypes.{write_type, write_variable}
use Rattle.article_write_spec.specs.WrittenTerms.{write_term}

-- a premise is kept, since it was made before
abbrev pub write_premise : ℕ → Draft → Draft
write_premise i d = refer (unwrap_or (key_of (Kept.theorem i) d) 0) d

-- a theorem on top of the stack is kept and taken away
abbrev pub keep_theorem : ℕ → Draft → Draft
keep_theorem i d = say_word word.Pop (keep (Kept.theorem i) d)

-- the word by which a rule is called, beside those that state a sequent
abbrev pub word_of : StepKind → Word
word_of Refl = word.Refl
word_of Assume = word.Assume
word_of EqMp = word.EqMp
word_of AbsThm = word.AbsThm
word_of AppThm = word.AppThm
word_of DeductAntisym = word.DeductAntisym
word_of BetaConv = word.BetaConv
word_of Sym = word.Sym
word_of Trans = word.Trans
word_of ProveHyp = word.ProveHyp
word_of Subst = word.Subst
word_of Axiom = word.Axiom
word_of Restate = word.Thm
word_of DefineConst = word.DefineConst
word_of DefineConstList = word.DefineConstList
word_of FirstLaw = word.DefineTypeOp
word_of SecondLaw = word.DefineTypeOp

-- what a command leaves on the stack: its theorems from the top, and below them what it defined
abbrev pub keep_made : StepKind → ℕ → Draft → Draft
keep_made DefineConst i d = pops 1 (keep_theorem i d)
keep_made DefineConstList i d = pops 1 (keep_theorem i d)
keep_made FirstLaw i d = pops 3 (keep_theorem i (keep_theorem (suc i) d))
keep_made kind i d = keep_theorem i d

module _ (q : ℕ) where
  abbrev pub write_sequent : Sequent → Draft → Draft
  write_sequent s d = write_term q s.conclusion (write_list (write_term q) s.hypotheses d)

  -- what a rule is given beside its premises
  abbrev pub write_given : Parameters → Draft → Draft
  write_given Parameters.nothing d = d
  write_given (Parameters.term t) d = write_term q t d
  write_given (Parameters.variable v) d = write_variable v d
  write_given (Parameters.substitution types terms) d =
      write_pair (write_list (λ p. write_pair (say_name p.0) (write_type p.1)) types)
      (write_list (λ p. write_pair (write_variable p.0) (write_term q p.1)) terms) d
  write_given (Parameters.sequent s) d = write_sequent s d
  write_given (Parameters.constant n t) d = write_term q t (say_name n d)
  write_given (Parameters.constants pairs) d = write_list (λ p. write_pair (say_name p.0) (write_variable p.1)) pairs d
  write_given (Parameters.type_operator names version) d =
      write_list say_name names.variables (say_name names.representation (say_name names.abstraction (say_name names.operator d)))

  -- an export has its premise below the sequent, and leaves nothing
  abbrev pub write_export : Step → Draft → Draft
  write_export x d = say_word word.Thm (write_given x.parameters (write_each write_premise x.premises d))

  -- an assumption, recorded or met again: it has no premise in the article
  abbrev pub write_assumption : ℕ → Step → Draft → Draft
  write_assumption i x d = keep_theorem i (say_word word.Axiom (write_given x.parameters d))

  abbrev pub write_inferred : ℕ → Step → Draft → Draft
  write_inferred i x d = keep_made x.kind i (say_word (word_of x.kind) (write_each write_premise x.premises (write_given x.parameters d)))

  abbrev pub write_restated : Bool → ℕ → Step → Draft → Draft
  write_restated true i x d = write_export x d
  write_restated false i x d = write_assumption i x d

  -- The second law is made with the first.
  abbrev pub write_by : StepKind → Bool → ℕ → Step → Draft → Draft
  write_by Axiom is_export i x d = write_assumption i x d
  write_by Restate is_export i x d = write_restated is_export i x d
  write_by SecondLaw is_export i x d = d
  write_by kind is_export i x d = write_inferred i x d

  abbrev pub write_step : List ℕ → Numbered → Draft → Draft
  write_step exports x d = write_by x.step.kind (list_any (λ i. x.number == i) exports) x.number x.step d
