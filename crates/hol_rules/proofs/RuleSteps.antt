-- What a rule makes, where its conditions hold, is the step that is wanted, and it follows.
use Rattle.std.proofs.Common.{◌≡◌, ℕ, zero, suc, ◌<◌, refl, sym, ap, subst, ◌∙◌, arith, List, [], ◌∷◌, length, map, Bool, true, false, Option, Some, None, slice_get, Result, Ok, Err}
use Rattle.std.specs.Prelude.{slice_index_or}
use Rattle.std.specs.Option.{ok_or}
use Rattle.std.specs.List.{AllByRecursion, IsAmong}
use Rattle.common.specs.declared.faults.Kind.{Kind}
use Rattle.common.specs.declared.faults.Kind.TheVariants.{NotAlike, NotBool, NotEquation}
use Rattle.hol_spec.specs.Types.{HolType}
use Rattle.hol_laws.specs.TypeLaws.{type_eq-Decides}
use Rattle.hol_spec.specs.Primitives.{bool}
use Rattle.hol_spec.specs.Terms.{Term, term_eq, type_of, HasType, equation}
use Rattle.hol_laws.specs.TermLaws.{term_eq-Decides}
use Rattle.hol_spec.specs.Equations.{Equation, equation_parts}
use Rattle.hol_spec.specs.Sequents.{Sequent, IsSequent}
use Rattle.hol_spec.specs.Rules.{Parameters, Rule, nothing, derived, joined}
use Rattle.hol_spec.specs.Rules as rule
use Rattle.hol_spec.specs.Derivations.{definitions_used}
use Rattle.hol_spec.specs.Proofs.{Made, Step, steps_of, sequents_of, sequent_at, definitions_of, ArePremises, IsLawOfDefinition, IsStep, IsProof}
use Rattle.hol_spec.specs.declared.StepKind.TheVariants as by_rule
use Rattle.hol_proof_laws.specs.EquationLaws.{equation-sides, equation_parts-is}
use Rattle.hol_proof_laws.specs.ProofGrowth.{All-get, proof-sequents}
use Rattle.article_spec.specs.Results.{◌>>◌}
use Rattle.article_spec.specs.Conditions.{demand, has_type, is_of_type, equation_of}
use Rattle.article_spec.specs.RuleSteps.{step_by, refl_step, assume_step, eq_mp_step, sym_step, trans_step}
use Rattle.std.proofs.lemmas.Option.{same_Some}

-- the rule makes this step, and it follows
pub record Makes (made : List Made) (wanted : Result Step Kind) (x : Step) : Type 0 where
  pub is : wanted ≡ Ok x
  pub follows : IsStep made x

-- a step's sequent is the one with its number
pub at_step : (m : List Made) (i : ℕ) → i < length (steps_of m) → slice_get (sequents_of m) i ≡ Some (sequent_at m i)
at_step m i l = from (steps_of m) i l
  where
    from : (xs : List Step) (i : ℕ) → i < length xs → slice_get (map (λ (y : Step). y.sequent) xs) i
        ≡ Some (slice_index_or (map (λ (y : Step). y.sequent) xs) i (record { hypotheses = []; conclusion = Term.bound 0 }))
    from [] i l = absurd (omega arith)
    from (x ∷ xs) zero l = refl
    from (x ∷ xs) (suc i) l = from xs i (omega arith)

-- a step of a proof says a sequent
pub said : (m : List Made) → IsProof m → (i : ℕ) → i < length (steps_of m) → IsSequent (sequent_at m i)
said m p i l = All-get IsSequent (sequents_of m) i (sequent_at m i) (proof-sequents m p) (at_step m i l)

-- a step without premises, and on one or two, that rests on no definition
module _ (m : List Made) (x : Step) where
  pub on_none : x.premises ≡ [] → Rule x.kind [] x.parameters x.sequent → definitions_used x.kind [] x.parameters ≡ []
      → IsLawOfDefinition m x.kind x.premises x.parameters → IsStep m x
  on_none none r u law = record {
    premises = [];
    earlier = subst (λ ns. ArePremises (sequents_of m) ns []) (sym none) (tt {0});
    follows = record { rule = r; defined = subst (AllByRecursion (IsAmong (definitions_of m))) (sym u) (tt {0}) };
    law = law;
  }

  pub on_one : (i : ℕ) → i < length (steps_of m) → x.premises ≡ i ∷ [] → Rule x.kind (sequent_at m i ∷ []) x.parameters x.sequent
      → definitions_used x.kind (sequent_at m i ∷ []) x.parameters ≡ [] → IsLawOfDefinition m x.kind x.premises x.parameters → IsStep m x
  on_one i l one r u law = record {
    premises = sequent_at m i ∷ [];
    earlier = subst (λ ns. ArePremises (sequents_of m) ns (sequent_at m i ∷ [])) (sym one) (at_step m i l, tt {0});
    follows = record { rule = r; defined = subst (AllByRecursion (IsAmong (definitions_of m))) (sym u) (tt {0}) };
    law = law;
  }

  pub on_two : (i j : ℕ) → i < length (steps_of m) → j < length (steps_of m) → x.premises ≡ i ∷ j ∷ []
      → Rule x.kind (sequent_at m i ∷ sequent_at m j ∷ []) x.parameters x.sequent
      → definitions_used x.kind (sequent_at m i ∷ sequent_at m j ∷ []) x.parameters ≡ [] → IsLawOfDefinition m x.kind x.premises x.parameters → IsStep m x
  on_two i j l k two r u law = record {
    premises = sequent_at m i ∷ sequent_at m j ∷ [];
    earlier = subst (λ ns. ArePremises (sequents_of m) ns (sequent_at m i ∷ sequent_at m j ∷ [])) (sym two) (at_step m i l, (at_step m j k, tt {0}));
    follows = record { rule = r; defined = subst (AllByRecursion (IsAmong (definitions_of m))) (sym u) (tt {0}) };
    law = law;
  }

-- a condition that holds is passed
pub met : {A : Type 0} (b : Bool) (k : Kind) (r : Result A Kind) → b ≡ true → (demand b k >> r) ≡ r
met true k r e = refl
met false k r e = absurd (cc)

-- a condition that fails is refused
pub unmet : {A : Type 0} (b : Bool) (k : Kind) (r : Result A Kind) → b ≡ false → (demand b k >> r) ≡ Err k
unmet true k r e = absurd (cc)
unmet false k r e = refl

pub equation_is : (s : Sequent) (e : Equation) → equation_of s ≡ Ok e → s.conclusion ≡ equation e.ty e.left e.right
equation_is s e h = equation_parts-is s.conclusion e (go (equation_parts s.conclusion) h)
  where
    go : (o : Option Equation) → ok_or o NotEquation ≡ Ok e → o ≡ Some e
    go None f = absurd (cc)
    go (Some y) f = cc

pub of_type : (a : HolType) (t : Term) → is_of_type a t ≡ true → HasType t a
of_type a t e = go (type_of t) e
  where
    go : (o : Option HolType) → has_type o a ≡ true → o ≡ Some a
    go None e = absurd (cc)
    go (Some b) e = ap Some ((type_eq-Decides b a).0 e)

pub refl-makes : (m : List Made) (t : Term) (a : HolType) → HasType t a
    → Makes m (refl_step t) (step_by by_rule.Refl [] (Parameters.term t) (derived [] (equation a t t)))
refl-makes m t a h = record { is = rw h refl; follows = on_none m _ refl (rule.Rule.refl h refl) refl (tt {0}) }

pub assume-makes : (m : List Made) (p : Term) → is_of_type bool p ≡ true
    → Makes m (assume_step p) (step_by by_rule.Assume [] (Parameters.term p) (derived (p ∷ []) p))
assume-makes m p h = record { is = met _ NotBool _ h; follows = on_none m _ refl (rule.Rule.assume (of_type bool p h) refl) refl (tt {0}) }

module _ (m : List Made) (p : IsProof m) (i : ℕ) (l : i < length (steps_of m)) (e : Equation) (parts : equation_of (sequent_at m i) ≡ Ok e) where
  first : (sequent_at m i).conclusion ≡ equation e.ty e.left e.right
  first = equation_is (sequent_at m i) e parts

  pub sym-makes : Makes m (sym_step m i) (step_by by_rule.Sym (i ∷ []) nothing (derived (sequent_at m i).hypotheses (equation e.ty e.right e.left)))
  sym-makes = record { is = rw parts refl; follows = on_one m _ i l refl (rule.Rule.sym first refl) refl (tt {0}) }

  module _ (j : ℕ) (k : j < length (steps_of m)) where
    pub eq_mp-makes : (sequent_at m j).conclusion ≡ e.left
        → Makes m (eq_mp_step m i j)
        (step_by by_rule.EqMp (i ∷ j ∷ []) nothing (derived (joined (sequent_at m i).hypotheses (sequent_at m j).hypotheses) e.right))
    eq_mp-makes same =
        let left_type : HasType e.left e.ty = (equation-sides e.ty e.left e.right (sequent_at m i).conclusion first (said m p i l).conclusion).left in
        let truth : HasType e.left bool = subst (λ u. HasType u bool) same (said m p j k).conclusion in
        let ty : e.ty ≡ bool = same_Some _ _ (sym left_type ∙ truth) in
        record {
          is = rw parts (met (term_eq (sequent_at m j).conclusion e.left) NotAlike _ ((term_eq-Decides (sequent_at m j).conclusion e.left).1 same));
          follows = on_two m _ i j l k refl (rule.Rule.eq_mp (first ∙ ap (λ a. equation a e.left e.right) ty) same refl) refl (tt {0});
        }

    pub trans-makes : (f : Equation) → equation_of (sequent_at m j) ≡ Ok f → f.left ≡ e.right
        → Makes m (trans_step m i j)
        (step_by by_rule.Trans (i ∷ j ∷ []) nothing
        (derived (joined (sequent_at m i).hypotheses (sequent_at m j).hypotheses) (equation e.ty e.left f.right)))
    trans-makes f more same =
        let second = equation_is (sequent_at m j) f more in
        let middle : HasType e.right e.ty = (equation-sides e.ty e.left e.right (sequent_at m i).conclusion first (said m p i l).conclusion).right in
        let again : HasType f.left f.ty = (equation-sides f.ty f.left f.right (sequent_at m j).conclusion second (said m p j k).conclusion).left in
        let ty : f.ty ≡ e.ty = same_Some _ _ (sym again ∙ ap type_of same ∙ middle) in
        record {
          is = rw (parts, more) (met (term_eq f.left e.right) NotAlike _ ((term_eq-Decides f.left e.right).1 same));
          follows = on_two m _ i j l k refl (rule.Rule.trans first (second ∙ (λ n. equation (ty n) (same n) f.right)) refl) refl (tt {0});
        }
