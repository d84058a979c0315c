-- A type operator more, and then the steps of its laws.
use Rattle.std.proofs.Common.{◌≡◌, ℕ, zero, suc, ◌+◌, ◌<◌, refl, sym, ap, subst, ◌∙◌, List, [], ◌∷◌, ◌++◌, length, Some, slice_get}
use Rattle.std.proofs.lemmas.List.{length-append}
use Rattle.std.specs.Option.{option_map, option_to_list}
use Rattle.std.specs.List.{AllByRecursion, IsAmong}
use Rattle.hol_spec.specs.Terms.{Term, app, HasType}
use Rattle.hol_spec.specs.Types.{HolType}
use Rattle.hol_spec.specs.Sequents.{Sequent}
use Rattle.hol_spec.specs.Definitions.{Definition, TypeNames}
use Rattle.hol_spec.specs.Defining.{is_closed}
use Rattle.hol_spec.specs.Derivations.{type_definition_in}
use Rattle.hol_spec.specs.Primitives.{bool, function}
use Rattle.hol_spec.specs.TypeDefinitions.{are_type_variables_of, first_law_of, second_law_of, IsTypeDefinition}
use Rattle.hol_spec.specs.declared.Version.{Version}
use Rattle.hol_spec.specs.declared.Version.TheVariants.{Five, Six}
use Rattle.hol_spec.specs.Symbols.{Symbol}
use Rattle.hol_spec.specs.Taking.{AreNew}
use Rattle.hol_spec.specs.Taking as taking
use Rattle.hol_spec.specs.Rules as rule
use Rattle.hol_spec.specs.Proofs.{Made, symbols_of, steps_of, sequents_of, sequent_at, definitions_of, IsDefinedBy, IsStep, IsProof}
use Rattle.hol_spec.specs.declared.StepKind.{StepKind}
use Rattle.hol_spec.specs.declared.StepKind.TheVariants.{FirstLaw, SecondLaw}
use Rattle.article_spec.specs.RuleSteps.{step_by, made_of_type}
use Rattle.hol_proof_laws.specs.ProofGrowth.{sequents_of-append, definitions_of-append}
use Rattle.hol_proof_laws.specs.RuleSequents.{predicate-typed}
use Rattle.hol_proof_laws.specs.StepsDerive.{among-front, among-last}
use Rattle.hol_defs.specs.Symbols.{Taken, symbols_at, AreKnownSymbols}
use Rattle.hol_defs.specs.SymbolLaws.{symbols_at-Keeps}
use Rattle.hol_term.specs.Tables.{Trees, term_at, type_at, IsTermAt, Keeps}
use Rattle.hol_variables.specs.declared.ParamMemo.{ParamMemo}
use Rattle.sequent.specs.declared.Sequent.{Sequent as OneSequent}
use Rattle.sequent.specs.Sequents as numbers
use Rattle.hol_rules.specs.declared.made.Made.{Made as OneMade}
use Rattle.hol_rules.specs.declared.made.Made.TheVariants as one
use Rattle.hol_rules.specs.declared.made.Step.{Step as OneStep}
use Rattle.hol_rules.specs.declared.type_definitions.Laws.{Laws}
use Rattle.hol_rules.specs.declared.type_definitions.LawSteps.{LawSteps}
use Rattle.hol_rules.specs.declared.type_definitions.TypeParts.{TypeParts}
use Rattle.hol_rules.specs.Conclusions.{with_type}
use Rattle.hol_rules.specs.Kept.{Kept, Grows}
use Rattle.hol_rules.specs.Laws.{AreLaws, AreTypeParts, IsWithoutVariables}
use Rattle.hol_rules.specs.Premises.{IsNumberOf, IsStated}
use Rattle.hol_rules.specs.TypeSteps.{with_laws, with_operator, AreLawSteps, IsLawStep, TakesType}
use Rattle.hol_rules.specs.Views.{step_view, made_view, IsStepKnown, IsKept}
use Rattle.hol_rules.proofs.ClosedTerms.{closed-typed}
use Rattle.hol_rules.proofs.Growth.{IsKept-Keeps, made_view-Keeps, step_view-Keeps, IsStepKnown-Keeps}
use Rattle.hol_rules.proofs.Pushed.{made_view-pushed, IsKept-pushed}
use Rattle.hol_rules.proofs.LawTrees.{own-number, own-type, number-kept, type-kept}
use Rattle.hol_rules.proofs.RuleSteps.{at_step, said}
use Rattle.hol_rules.proofs.SideLaws.{number_term}
use Rattle.hol_rules.proofs.Taken.{made_view-things, IsKept-things}

-- a premise stays one
get-left : {A : Type 0} (xs ys : List A) (i : ℕ) (x : A) → slice_get xs i ≡ Some x → slice_get (xs ++ ys) i ≡ Some x
get-left [] ys i x e = absurd (cc)
get-left (y ∷ xs) ys zero x e = e
get-left (y ∷ xs) ys (suc i) x e = get-left xs ys i x e

premise-more : (m ys : List Made) (i : ℕ) (s : Sequent) → slice_get (sequents_of m) i ≡ Some s → slice_get (sequents_of (m ++ ys)) i ≡ Some s
premise-more m ys i s e = ap (λ l. slice_get l i) (sequents_of-append m ys) ∙ get-left (sequents_of m) (sequents_of ys) i s e

used : (m : List Made) (names : TypeNames) (c : HolType) (f u p : Term) → p ≡ app f u → HasType u c
    → IsAmong (definitions_of m) (Definition.type_operator names c f) → AllByRecursion (IsAmong (definitions_of m)) (type_definition_in names p)
used m names c f u p is h k =
    subst (λ q. AllByRecursion (IsAmong (definitions_of m)) (type_definition_in names q)) (sym is)
    (subst (λ o. AllByRecursion (IsAmong (definitions_of m)) (option_to_list (option_map (λ c. Definition.type_operator names c f) o))) (sym h) (k, tt {0}))

-- a law in an article of a version follows by its rule
first_rule : (version : Version) (names : TypeNames) (c : HolType) (f : Term) (one : Sequent) → IsTypeDefinition names c f one
    → rule.Rule FirstLaw (one ∷ []) (rule.Parameters.type_operator names version) (first_law_of version names c)
first_rule Five names c f one d = rule.Rule.first_law_free d refl
first_rule Six names c f one d = rule.Rule.first_law d refl

second_rule : (version : Version) (names : TypeNames) (c : HolType) (f : Term) (one : Sequent) → IsTypeDefinition names c f one
    → rule.Rule SecondLaw (one ∷ []) (rule.Parameters.type_operator names version) (second_law_of version names c f)
second_rule Five names c f one d = rule.Rule.second_law_free d refl
second_rule Six names c f one d = rule.Rule.second_law d refl

-- the parts stay where types and terms come
module _ {a b : Kept} (g : Grows a b) (names : TypeNames) (i : ℕ) (parts : TypeParts) (h : AreTypeParts a names i parts) where
  pub whole-grown : type_at b.trees parts.whole.0 ≡ type_at a.trees parts.whole.0
  whole-grown = (type-kept g.trees (own-type a.trees parts.whole h.whole_known)).is

  pub predicate-grown : term_at b.trees parts.predicate.0 ≡ term_at a.trees parts.predicate.0
  predicate-grown = (number-kept g.trees (own-number a.trees parts.predicate h.predicate_known)).is

  same-sequent : sequent_at b.made i ≡ sequent_at a.made i
  same-sequent = ap (λ m. sequent_at m i) g.made

  pub parts-grown : AreTypeParts b names i parts
  parts-grown = record {
    witness = h.witness;
    concl = subst (IsNumberOf b.trees parts.concl) (ap (λ (s : Sequent). s.conclusion) (sym same-sequent)) (number-kept g.trees h.concl);
    predicate_known = (number-kept g.trees (own-number a.trees parts.predicate h.predicate_known)).known;
    whole_known = (type-kept g.trees (own-type a.trees parts.whole h.whole_known)).known;
    holds = ap (λ (s : Sequent). s.conclusion) same-sequent ∙ h.holds ∙ ap (λ f. app f h.witness) (sym predicate-grown);
    typed = subst (HasType h.witness) (sym whole-grown) h.typed;
    no_hypotheses = ap (λ (s : Sequent). s.hypotheses) same-sequent ∙ h.no_hypotheses;
    new = subst (λ m. AreNew (symbols_of m) names) (sym g.made) h.new;
    closed = ap is_closed predicate-grown ∙ h.closed;
    variables = ap (are_type_variables_of names.variables) predicate-grown ∙ h.variables;
  }

module _ (k : Kept) (proof : IsProof k.made) (names : TypeNames) (i : ℕ) (l : i < length (steps_of k.made)) (parts : TypeParts)
    (h : AreTypeParts k names i parts) where
  abbrev c : HolType
  c = type_at k.trees parts.whole.0

  abbrev f : Term
  f = term_at k.trees parts.predicate.0

  abbrev d : Definition
  d = Definition.type_operator names c f

  abbrev one_sequent : Sequent
  one_sequent = sequent_at k.made i

  definition : IsTypeDefinition names c f one_sequent
  definition = record { witness = h.witness; no_hypotheses = h.no_hypotheses; holds = h.holds; typed = h.typed; closed = h.closed; variables = h.variables }

  predicate-type : HasType f (function c bool)
  predicate-type = predicate-typed names c f one_sequent definition (said k.made proof i l).conclusion

  pub type-without : IsWithoutVariables f
  type-without = closed-typed f (function c bool) h.closed predicate-type

  pub type-defined : IsDefinedBy k.made names c f i
  type-defined = record {
    one = one_sequent;
    at = at_step k.made i l;
    defines = definition;
    taken =
        taking.Takes.type_operator h.new predicate-type h.closed h.variables;
  }

  -- the conclusion, by its number
  pub concl-term : IsTermAt k.trees parts.concl.0
  concl-term = number_term k.trees parts.concl one_sequent.conclusion bool h.concl (said k.made proof i l).conclusion

  pub concl-applies : term_at k.trees parts.concl.0 ≡ app f h.witness
  concl-applies = h.concl.is ∙ h.holds

  abbrev made : Made
  made = Made.type_definition names c f i

  abbrev taken : List Made
  taken = k.made ++ made ∷ []

  among : IsAmong (definitions_of taken) d
  among = subst (λ ds. IsAmong ds d) (sym (definitions_of-append k.made (made ∷ []))) (among-last (definitions_of k.made) d)

  premise : slice_get (sequents_of taken) i ≡ Some one_sequent
  premise = premise-more k.made (made ∷ []) i one_sequent (at_step k.made i l)

  pub first-follows : (version : Version) → IsStep taken (made_of_type version names i c f).first
  first-follows version = record {
    premises = one_sequent ∷ [];
    earlier = (premise, tt {0});
    follows = record {
      rule = first_rule version names c f one_sequent definition;
      defined =
          used taken names c f h.witness one_sequent.conclusion h.holds h.typed among;
    };
    law = record { c = c; f = f; number = i; among = among-last k.made made; is = refl };
  }

  abbrev more : Version → List Made
  more version = taken ++ Made.step (made_of_type version names i c f).first ∷ []

  pub second-follows : (version : Version) → IsStep (more version) (made_of_type version names i c f).second
  second-follows version = record {
    premises = one_sequent ∷ [];
    earlier = (premise-more taken (Made.step (made_of_type version names i c f).first ∷ []) i one_sequent premise, tt {0});
    follows = record {
      rule = second_rule version names c f one_sequent definition;
      defined = used (more version) names c f h.witness one_sequent.conclusion h.holds h.typed
          (subst (λ es. IsAmong es d) (sym (definitions_of-append taken (Made.step (made_of_type version names i c f).first ∷ [])))
          (among-front (definitions_of taken) [] d among));
    };
    law = record {
      c = c;
      f = f;
      number = i;
      among =
          among-front taken (Made.step (made_of_type version names i c f).first ∷ []) made (among-last k.made made);
      is = refl;
    };
  }

-- the step of a law, of what its numbers stand for
module _ (version : Version) (trees : Trees) (kind : StepKind) (i : ℕ) (names : TypeNames) (s : OneSequent) (t : Sequent) (x : OneStep)
    (law : IsLawStep version kind names i s x) (n : IsStated trees s t) where
  law_step-is : step_view trees x ≡ step_by kind (i ∷ []) (rule.Parameters.type_operator names version) t
  law_step-is = λ j. record {
    kind = law.by_rule j;
    premises = law.premise j;
    parameters = law.given trees j;
    sequent =
        (ap (numbers.sequent_at trees) law.says ∙ n.is) j;
  }

  law_step-known : IsStepKnown trees x
  law_step-known = record { parameters = law.known trees; sequent = subst (numbers.IsKnown trees) (sym law.says) n.known }

module _ (version : Version) (a b : Trees) (k : Keeps a b) (symbols after : List Taken) (xs : List OneStep) (ms : List OneMade) {memo : ParamMemo}
    (h : IsKept a symbols xs ms memo) (names : TypeNames) (i : ℕ) (l : i < length (steps_of (made_view a symbols xs ms))) (parts : TypeParts)
    (p : AreTypeParts (record { trees = a; made = made_view a symbols xs ms }) names i parts) (laws : Laws)
    (s : AreLaws version a names (type_at a parts.whole.0) (term_at a parts.predicate.0) laws) (steps : LawSteps)
    (q : AreLawSteps version names i laws steps)
    (is : TakesType names (term_at a parts.concl.0) (symbols_at a symbols) (symbols_at b after)) (known : AreKnownSymbols b after) where
  abbrev now : Kept
  now = record { trees = a; made = made_view a symbols xs ms }

  abbrev whole : HolType
  whole = type_at a parts.whole.0

  abbrev predicate : Term
  predicate = term_at a parts.predicate.0

  abbrev new : Symbol
  new = Symbol.defined (Definition.type_operator names whole predicate)

  abbrev defined : Made
  defined = Made.type_definition names whole predicate i

  abbrev old : List Made
  old = made_view a symbols xs ms

  abbrev noted : List OneMade
  noted = (ms ++ one.TypeOp names.operator i ∷ []) ++ one.Step (length xs) ∷ []

  stay : symbols_at a symbols ≡ symbols_at b symbols
  stay = symbols_at-Keeps k symbols h.symbols_known

  newly : symbols_at b after ≡ symbols_at b symbols ++ new ∷ []
  newly = is predicate p.witness whole (concl-applies now h.proof names i l parts p) p.typed ∙ ap (λ ss. ss ++ new ∷ []) stay

  kept : IsKept b symbols xs ms memo
  kept = IsKept-Keeps k symbols xs ms h

  stays : old ≡ made_view b symbols xs ms
  stays = made_view-Keeps k symbols xs ms h.symbols_known h.known

  defined-view : made_view b after xs (ms ++ one.TypeOp names.operator i ∷ []) ≡ old ++ defined ∷ []
  defined-view = made_view-things b symbols xs ms kept after (new ∷ []) newly (one.TypeOp names.operator i ∷ []) (defined ∷ []) refl
      ∙ ap (λ l. l ++ defined ∷ []) (sym stays)

  defined-kept : IsKept b after xs (ms ++ one.TypeOp names.operator i ∷ []) memo
  defined-kept =
      IsKept-things b symbols xs ms kept after (new ∷ []) newly (one.TypeOp names.operator i ∷ []) (defined ∷ []) refl known (tt {0}, tt {0}) refl refl refl
      (subst (λ m. IsDefinedBy m names whole predicate i) stays (type-defined now h.proof names i l parts p), tt {0})

  first-is : step_view a steps.first ≡ (made_of_type version names i whole predicate).first
  first-is = law_step-is version a FirstLaw i names laws.first (first_law_of version names whole) steps.first q.first s.first

  second-is : step_view a steps.second ≡ (made_of_type version names i whole predicate).second
  second-is = law_step-is version a SecondLaw i names laws.second (second_law_of version names whole predicate) steps.second q.second s.second

  first-known : IsStepKnown a steps.first
  first-known = law_step-known version a FirstLaw i names laws.first (first_law_of version names whole) steps.first q.first s.first

  second-known : IsStepKnown a steps.second
  second-known = law_step-known version a SecondLaw i names laws.second (second_law_of version names whole predicate) steps.second q.second s.second

  first-stays : step_view b steps.first ≡ (made_of_type version names i whole predicate).first
  first-stays = sym (step_view-Keeps k steps.first first-known) ∙ first-is

  second-stays : step_view b steps.second ≡ (made_of_type version names i whole predicate).second
  second-stays = sym (step_view-Keeps k steps.second second-known) ∙ second-is

  first-view : made_view b after (xs ++ steps.first ∷ []) noted ≡ (old ++ defined ∷ []) ++ Made.step (made_of_type version names i whole predicate).first ∷ []
  first-view = made_view-pushed b after xs (ms ++ one.TypeOp names.operator i ∷ []) defined-kept steps.first
      ∙ (λ j. defined-view j ++ Made.step (first-stays j) ∷ [])

  first-kept : IsKept b after (xs ++ steps.first ∷ []) noted memo
  first-kept =
      IsKept-pushed b after xs (ms ++ one.TypeOp names.operator i ∷ []) defined-kept steps.first (IsStepKnown-Keeps k steps.first first-known)
      (subst (λ m. IsStep m (step_view b steps.first)) (sym defined-view)
      (subst (IsStep (old ++ defined ∷ [])) (sym first-stays) (first-follows now h.proof names i l parts p version)))

  both-view : made_view b after (with_laws xs steps) (noted ++ one.Step (length (xs ++ steps.first ∷ [])) ∷ [])
      ≡ with_type old (made_of_type version names i whole predicate)
  both-view = made_view-pushed b after (xs ++ steps.first ∷ []) noted first-kept steps.second ∙ (λ j. first-view j ++ Made.step (second-stays j) ∷ [])

  both-kept : IsKept b after (with_laws xs steps) (noted ++ one.Step (length (xs ++ steps.first ∷ [])) ∷ []) memo
  both-kept =
      IsKept-pushed b after (xs ++ steps.first ∷ []) noted first-kept steps.second (IsStepKnown-Keeps k steps.second second-known)
      (subst (λ m. IsStep m (step_view b steps.second)) (sym first-view)
      (subst (IsStep ((old ++ defined ∷ []) ++ Made.step (made_of_type version names i whole predicate).first ∷ [])) (sym second-stays)
      (second-follows now h.proof names i l parts p version)))

  next : length (xs ++ steps.first ∷ []) ≡ length xs + 1
  next = length-append xs (steps.first ∷ [])

  -- the operator is made, and then the steps
  pub made_view-type : made_view b after (with_laws xs steps) (with_operator ms names.operator i (length xs))
      ≡ with_type old (made_of_type version names i whole predicate)
  made_view-type = ap (λ n. made_view b after (with_laws xs steps) (noted ++ one.Step n ∷ [])) (sym next) ∙ both-view

  pub IsKept-type : IsKept b after (with_laws xs steps) (with_operator ms names.operator i (length xs)) memo
  IsKept-type = subst (λ n. IsKept b after (with_laws xs steps) (noted ++ one.Step n ∷ []) memo) next both-kept
