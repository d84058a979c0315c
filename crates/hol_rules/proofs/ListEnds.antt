-- The definition of a list of constants, at its end.
use Rattle.std.proofs.Common.{◌≡◌, ℕ, ◌<◌, sym, ap, subst, ◌∙◌, List, [], ◌∷◌, ◌++◌, length, map, None, Result, Ok}
use Rattle.std.proofs.Math.Path.{ap₂}
use Rattle.common.specs.declared.faults.Fault.{Fault}
use Rattle.hol_spec.specs.DefinitionLists.{ConstantPairs, constants_put}
use Rattle.hol_spec.specs.Names.{Name}
use Rattle.hol_spec.specs.Proofs.{Made, Step, steps_of, symbols_of, sequent_at, IsStep}
use Rattle.hol_spec.specs.Rules as rule
use Rattle.hol_spec.specs.Sequents.{Sequent as ASequent, IsSequent}
use Rattle.hol_spec.specs.TermSubstitution.{sub}
use Rattle.hol_spec.specs.declared.StepKind.TheVariants as by_rule
use Rattle.hol_term.specs.declared.TermId.{TermId}
use Rattle.hol_term.specs.declared.Variable.{Variable}
use Rattle.hol_term.specs.Tables.{term_at}
use Rattle.hol_defs.specs.Faults.{list_fault}
use Rattle.hol_defs.specs.Lists.{pairs_at, ArePairsKnown}
use Rattle.sequent.specs.declared.Sequent.{Sequent}
use Rattle.sequent.specs.Sequents as numbers
use Rattle.hol_rules.specs.Conclusions.{Defines}
use Rattle.hol_rules.specs.ConstantLists.{constants_in, list_step}
use Rattle.hol_rules.specs.Kept.{Kept, Grows}
use Rattle.hol_rules.specs.Premises.{AreNumbersOf, IsNumberOf, IsStated}
use Rattle.article_spec.specs.RuleSteps.{define_const_list_step}
use Rattle.hol_rules.proofs.Concluded.{concludes-definition}
use Rattle.hol_rules.proofs.Growth.{ArePairsKnown-Keeps, pairs_at-Keeps, sequent_at-Keeps}
use Rattle.hol_rules.proofs.ListConditions.{are-fit, listed_step, list-is}
use Rattle.hol_rules.proofs.ListSymbols.{list-follows}

-- what the step is made of, in a table that has grown
module _ (k mid : Kept) (g : Grows k mid) (pairs : List (Name × Variable)) (h : ArePairsKnown k.trees pairs) (i : ℕ) (premise : Sequent)
    (stated : IsStated k.trees premise (sequent_at k.made i)) (typed : IsSequent (sequent_at k.made i)) where
  abbrev P : ConstantPairs
  P = pairs_at k.trees pairs

  abbrev S : ASequent
  S = sequent_at k.made i

  pub list_at-pairs : ArePairsKnown mid.trees pairs
  list_at-pairs = ArePairsKnown-Keeps g.trees pairs h

  premise-is : numbers.sequent_at mid.trees premise ≡ S
  premise-is = sym (sequent_at-Keeps g.trees premise stated.known) ∙ stated.is

  pub list_at-premise : IsSequent (numbers.sequent_at mid.trees premise)
  list_at-premise = subst IsSequent (sym premise-is) typed

  pairs-are : pairs_at mid.trees pairs ≡ P
  pairs-are = sym (pairs_at-Keeps g.trees pairs h)

  constants-are : constants_in (pairs_at mid.trees pairs) (numbers.sequent_at mid.trees premise) ≡ constants_in P S
  constants-are = ap₂ constants_in pairs-are premise-is

  module _ (concl : TermId) (c : IsNumberOf mid.trees concl (sub [] (constants_put P) (term_at k.trees premise.concl.0))) (hyps : List TermId)
      (hs : AreNumbersOf mid.trees hyps []) where
    abbrev y : Step
    y = list_step mid.trees pairs i (record { hyps = hyps; concl = concl })

    concl-is : term_at mid.trees concl.0 ≡ sub [] (constants_put P) S.conclusion
    concl-is = c.is ∙ ap (λ (s : ASequent). sub [] (constants_put P) s.conclusion) stated.is

    same : y ≡ listed_step k.made P i
    same = λ t. record {
      kind = by_rule.DefineConstList;
      premises = i ∷ [];
      parameters = rule.Parameters.constants (pairs-are t);
      sequent =
          rule.derived (hs.are t) (concl-is t);
    }

    module _ (none : list_fault (symbols_of k.made) P S ≡ None) where
      pub list_at-follows : i < length (steps_of k.made)
          → IsStep (mid.made ++ map Made.symbol (constants_in (pairs_at mid.trees pairs) (numbers.sequent_at mid.trees premise))) y
      list_at-follows l =
          subst (λ cs. IsStep (mid.made ++ map Made.symbol cs) y) (sym constants-are)
          (subst (λ m. IsStep (m ++ map Made.symbol (constants_in P S)) y) (sym g.made)
          (subst (IsStep (k.made ++ map Made.symbol (constants_in P S))) (sym same) (list-follows k.made P i l typed (are-fit (symbols_of k.made) P S none))))

      pub list_at-ended : (new : Kept) (result : Result ℕ Fault)
          → Defines mid (constants_in (pairs_at mid.trees pairs) (numbers.sequent_at mid.trees premise)) (Ok y) new result
          → Defines k (constants_in P S) (define_const_list_step k.made P i) new result
      list_at-ended new result d =
          concludes-definition (constants_in P S) g (define_const_list_step k.made P i) y
          (list-is k.made P i (are-fit (symbols_of k.made) P S none) ∙ ap Ok (sym same)) new result
          (subst (λ cs. Defines mid cs (Ok y) new result) constants-are d)
