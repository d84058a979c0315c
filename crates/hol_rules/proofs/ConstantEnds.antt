-- The definition of a constant: what is judged, and what it comes to.
use Rattle.std.proofs.Common.{◌≡◌, ◌<◌, refl, sym, ap, subst, ◌∙◌, List, [], ◌∷◌, ◌++◌, length, Bool, true, false, None, Some, Result, Ok, Err, IfErr, ℕ}
use Rattle.std.specs.Prelude.{not, unwrap_or}
use Rattle.std.specs.List.{IsAmong}
use Rattle.std.proofs.lemmas.Option.{same_Some}
use Rattle.common.specs.declared.faults.Fault.{Fault}
use Rattle.common.specs.declared.faults.Fault.TheVariants.{Memory, Refused}
use Rattle.common.specs.declared.faults.Kind.{Kind}
use Rattle.common.specs.declared.faults.Kind.TheVariants.{NameTaken, NotClosed, ExtraTypeVars}
use Rattle.hol_spec.specs.Names.{Name}
use Rattle.hol_spec.specs.Types.{HolType}
use Rattle.hol_spec.specs.Primitives.{bool}
use Rattle.hol_spec.specs.Terms.{Term, type_of, HasType, IsTerm, equation}
use Rattle.hol_spec.specs.Definitions.{Definition}
use Rattle.hol_spec.specs.Defining.{is_closed, has_type_variables_of}
use Rattle.hol_spec.specs.Symbols.{Symbol, is_taken_constant}
use Rattle.hol_spec.specs.Taking.{Takes}
use Rattle.hol_spec.specs.Taking as taking
use Rattle.hol_spec.specs.Rules.{Parameters, IsDefining, derived}
use Rattle.hol_spec.specs.Rules as rule
use Rattle.hol_spec.specs.Proofs.{Made, Step, symbols_of, definitions_of, IsStep}
use Rattle.hol_spec.specs.declared.StepKind.TheVariants as by_rule
use Rattle.hol_proof_laws.specs.ProofGrowth.{definitions_of-append}
use Rattle.hol_proof_laws.specs.StepsDerive.{among-last}
use Rattle.article_spec.specs.Results.{◌>>◌, Fails}
use Rattle.article_spec.specs.Conditions.{demand}
use Rattle.article_spec.specs.RuleSteps.{step_by, define_const_step}
use Rattle.hol_defs.specs.Faults.{first_failing, has_own_variables, constant_fault, Refuses}
use Rattle.hol_term.specs.declared.TermId.{TermId}
use Rattle.hol_defs.specs.Symbols.{Taken, symbols_at, AreKnownSymbols}
use Rattle.hol_term.specs.Tables.{Trees, term_at, IsTermAt}
use Rattle.hol_rules.specs.declared.made.Made.TheVariants as one
use Rattle.hol_rules.specs.declared.made.Parameters.TheVariants as parameters
use Rattle.hol_rules.specs.declared.made.Step.{Step as OneStep}
use Rattle.hol_rules.specs.Kept.{Kept, Grows}
use Rattle.hol_rules.specs.Views.{new_step}
use Rattle.hol_rules.specs.Premises.{AreNumbersOf, IsNumberOf}
use Rattle.hol_rules.specs.Conclusions.{Defines}
use Rattle.hol_rules.proofs.Concluded.{Grows-trans, concludes-definition}
use Rattle.hol_rules.proofs.Defined.{AreNewly}
use Rattle.hol_rules.proofs.Ends.{some_of, stepped}
use Rattle.hol_rules.proofs.FunctionEnds.{number-grown}
use Rattle.hol_rules.proofs.RuleSteps.{met}
use Rattle.hol_rules.proofs.SideLaws.{known_term}
use Rattle.std.proofs.Math.Path.{ap₂}
use Rattle.std.proofs.lemmas.Bool.{not-true}

-- three conditions in a row
three-refused : (b c d : Bool) (r : Result Step Kind) (k : Kind) → first_failing ((b, NameTaken) ∷ (c, NotClosed) ∷ (d, ExtraTypeVars) ∷ []) ≡ Some k
    → (demand b NameTaken >> (demand c NotClosed >> (demand d ExtraTypeVars >> r))) ≡ Err k
three-refused false c d r k e = ap Err (same_Some _ _ e)
three-refused true false d r k e = ap Err (same_Some _ _ e)
three-refused true true false r k e = ap Err (same_Some _ _ e)
three-refused true true true r k e = absurd (cc)

three-hold : (b c d : Bool) → first_failing ((b, NameTaken) ∷ (c, NotClosed) ∷ (d, ExtraTypeVars) ∷ []) ≡ None → (b ≡ true) × ((c ≡ true) × (d ≡ true))
three-hold false c d e = absurd (cc)
three-hold true false d e = absurd (cc)
three-hold true true false e = absurd (cc)
three-hold true true true e = (refl, (refl, refl))

module _ (symbols : List Symbol) (n : Name) (t : Term) (a : HolType) (typed : HasType t a) where
  own_variables : has_own_variables t ≡ has_type_variables_of a t
  own_variables = ap (λ o. has_type_variables_of (unwrap_or o bool) t) typed

  judged : constant_fault symbols n t ≡ first_failing
      ((not (is_taken_constant symbols n), NameTaken) ∷ (is_closed t, NotClosed) ∷ (has_type_variables_of a t, ExtraTypeVars) ∷ [])
  judged = ap (λ b. first_failing ((not (is_taken_constant symbols n), NameTaken) ∷ (is_closed t, NotClosed) ∷ (b, ExtraTypeVars) ∷ [])) own_variables

  module _ (none : constant_fault symbols n t ≡ None) where
    holds : (not (is_taken_constant symbols n) ≡ true) × ((is_closed t ≡ true) × (has_type_variables_of a t ≡ true))
    holds = three-hold (not (is_taken_constant symbols n)) (is_closed t) (has_type_variables_of a t) (sym judged ∙ none)

    defining : IsDefining a t
    defining = record { typed = typed; closed = holds.1.0; variables = holds.1.1 }

    -- the constant may be taken
    pub const-takes : Takes symbols (Symbol.defined (Definition.constant n t))
    const-takes = taking.Takes.constant (not-true (is_taken_constant symbols n) holds.0) defining

module _ (made : List Made) (n : Name) (t : Term) (a : HolType) (typed : HasType t a) where
  abbrev d : Definition
  d = Definition.constant n t

  abbrev step : Step
  step = step_by by_rule.DefineConst [] (Parameters.constant n t) (derived [] (equation a (Term.constant n a) t))

  const-refused : (k : Kind) → constant_fault (symbols_of made) n t ≡ Some k → define_const_step made n t ≡ Err k
  const-refused k e = rw typed
      (three-refused (not (is_taken_constant (symbols_of made) n)) (is_closed t) (has_type_variables_of a t) (Ok step) k
      (sym (judged (symbols_of made) n t a typed) ∙ e))

  pub const-fails : (fault : Fault) → Refuses fault (constant_fault (symbols_of made) n t) → Fails fault (define_const_step made n t)
  const-fails Memory h = tt
  const-fails (Refused k) h = const-refused k h

  module _ (none : constant_fault (symbols_of made) n t ≡ None) where
    pub const-is : define_const_step made n t ≡ Ok step
    const-is =
        let h = holds (symbols_of made) n t a typed none in
        rw typed (met (not (is_taken_constant (symbols_of made) n)) NameTaken _ h.0 ∙ met (is_closed t) NotClosed _ h.1.0
        ∙ met (has_type_variables_of a t) ExtraTypeVars (Ok step) h.1.1)

    pub const-follows : IsStep (made ++ Made.symbol (Symbol.defined d) ∷ []) step
    const-follows = record {
      premises = [];
      earlier = tt;
      follows = record {
        rule = rule.Rule.define_const (defining (symbols_of made) n t a typed none) refl;
        defined = (
          subst (λ ds. IsAmong ds d) (sym (definitions_of-append made (Made.symbol (Symbol.defined d) ∷ []))) (among-last (definitions_of made) d),
          tt {0},
        );
      };
      law = tt;
    }

-- what a judgement of numbers refuses
pub const-refuses : (made : List Made) (n : Name) (t : Term) → IsTerm t → (r : Result (Unit {0}) Fault)
    → IfErr r (λ fault. Refuses fault (constant_fault (symbols_of made) n t)) → IfErr r (λ fault. Fails fault (define_const_step made n t))
const-refuses made n t h (Ok x) e = tt
const-refuses made n t h (Err fault) e = let a = some_of (type_of t) h in const-fails made n t a.0 a.1 fault e

-- a constant that is newly taken
pub const-newly : (trees : Trees) (symbols after : List Taken) (xs : List OneStep) (n own : Name) (t : Term) → IsTerm t → own ≡ n → symbols_at trees after
    ≡ symbols_at trees symbols ++ Symbol.defined (Definition.constant n t) ∷ [] → AreKnownSymbols trees after
    → constant_fault (symbols_at trees symbols) n t ≡ None
    → AreNewly trees symbols after xs (one.Const own ∷ []) (Symbol.defined (Definition.constant n t) ∷ [])
const-newly trees symbols after xs n own t h e is known none =
    let a = some_of (type_of t) h in
    record {
      is = is;
      names = ap (λ m. Made.symbol (Symbol.defined (Definition.constant m t)) ∷ []) e;
      known = known;
      numbered = (tt {0}, tt {0});
      count = refl;
      takes = (tt {0}, const-takes (symbols_at trees symbols) n t a.0 a.1 none, tt {0});
    }

-- the equation is made after the constant
module _ (k a mid : Kept) (g : Grows k a) (o : Grows a mid) (n : Name) (t : TermId) (h : IsTermAt k.trees t.0)
    (none : constant_fault (symbols_of k.made) n (term_at k.trees t.0) ≡ None) (ty : HolType) (typed : HasType (term_at k.trees t.0) ty)
    (constant : TermId) (m : IsNumberOf a.trees constant (Term.constant n ty)) where
  abbrev tree : Term
  tree = term_at k.trees t.0

  all : Grows k mid
  all = Grows-trans g o

  own : IsNumberOf k.trees t tree
  own = record { known = known_term k.trees t.0 h; is = refl }

  stays : term_at mid.trees t.0 ≡ tree
  stays = (number-grown all own).is

  pub const_at-term : IsTermAt mid.trees t.0
  const_at-term = subst IsTerm (sym stays) h

  module _ (concl : TermId) (c : (b : HolType) → HasType (term_at a.trees constant.0) b
      → IsNumberOf mid.trees concl (equation b (term_at a.trees constant.0) (term_at a.trees t.0))) where
    made : IsNumberOf mid.trees concl (equation ty (Term.constant n ty) tree)
    made = subst (IsNumberOf mid.trees concl) (ap₂ (equation ty) m.is (number-grown g own).is) (c ty (ap type_of m.is))

    pub const_at-concl : concl.0 < length mid.trees.terms
    const_at-concl = made.known

    module _ (hyps : List TermId) (hs : AreNumbersOf mid.trees hyps []) where
      abbrev y : Step
      y = new_step mid.trees by_rule.DefineConst [] (parameters.Const n t) (record { hyps = hyps; concl = concl })

      same : y ≡ step_by by_rule.DefineConst [] (rule.Parameters.constant n tree) (derived [] (equation ty (Term.constant n ty) tree))
      same = stepped mid.trees by_rule.DefineConst [] (parameters.Const n t) (rule.Parameters.constant n tree) (ap (rule.Parameters.constant n) stays) hyps []
          hs concl _ made

      pub const_at-follows : IsStep (mid.made ++ Made.symbol (Symbol.defined (Definition.constant n (term_at mid.trees t.0))) ∷ []) y
      const_at-follows =
          subst (λ u. IsStep (mid.made ++ Made.symbol (Symbol.defined (Definition.constant n u)) ∷ []) y) (sym stays)
          (subst (λ l. IsStep (l ++ Made.symbol (Symbol.defined (Definition.constant n tree)) ∷ []) y) (sym all.made)
          (subst (IsStep (k.made ++ Made.symbol (Symbol.defined (Definition.constant n tree)) ∷ [])) (sym same) (const-follows k.made n tree ty typed none)))

      pub const_at-ended : (new : Kept) (result : Result ℕ Fault)
          → Defines mid (Symbol.defined (Definition.constant n (term_at mid.trees t.0)) ∷ []) (Ok y) new result
          → Defines k (Symbol.defined (Definition.constant n tree) ∷ []) (define_const_step k.made n tree) new result
      const_at-ended new result d =
          concludes-definition (Symbol.defined (Definition.constant n tree) ∷ []) all (define_const_step k.made n tree) y
          (const-is k.made n tree ty typed none ∙ ap Ok (sym same)) new result
          (subst (λ u. Defines mid (Symbol.defined (Definition.constant n u) ∷ []) (Ok y) new result) stays d)
