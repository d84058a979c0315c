-- Where a definition may be made, its word makes it; where a sequent may be assumed or exported, its word does so.
use Rattle.std.proofs.Common.{◌≡◌, ℕ, nat_le, Bool, true, false, List, [], ◌∷◌, ◌++◌, map, length, None, Some, Result, Ok, refl, ap, ◌∙◌, arith, IsTrue}
use Rattle.std.specs.Prelude.{nat_eq}
use Rattle.std.specs.List.{list_all, list_any, AllByRecursion}
use Rattle.std.proofs.lemmas.Bool.Decides.{nat_tests}
use Rattle.common.specs.declared.faults.Kind.{Kind}
use Rattle.hol_spec.specs.declared.Version.{Version}
use Rattle.hol_spec.specs.declared.Version.TheVariants.{Five, Six}
use Rattle.hol_spec.specs.Names.{Name}
use Rattle.hol_spec.specs.Types.{HolType}
use Rattle.hol_spec.specs.Primitives.{bool}
use Rattle.hol_spec.specs.Terms.{Term, app, lam, HasType, term_eq, equation}
use Rattle.hol_spec.specs.TermSubstitution.{TermPairs, sub}
use Rattle.hol_spec.specs.Sequents.{Sequent, IsSequent, within}
use Rattle.hol_spec.specs.Limits.{TypeWithin, TermWithin, SequentWithin, greatest_size, greatest_depth, greatest_parameter_count}
use Rattle.hol_spec.specs.Measures.{Measure, type_measure, sequent_measure}
use Rattle.hol_spec.specs.Definitions.{Definition, TypeNames}
use Rattle.hol_spec.specs.NewTypes.{new_type, abstraction_type, representation_type}
use Rattle.hol_spec.specs.Defining.{is_closed, has_type_variables_of}
use Rattle.hol_spec.specs.DefinitionLists.{ConstantPairs, names_of, defining_equations, is_definition_list, definitions_in, constants_put}
use Rattle.hol_spec.specs.TypeDefinitions.{IsTypeDefinition, are_type_variables_of, first_law_of, second_law_of}
use Rattle.hol_spec.specs.Symbols.{defined, is_taken_constant}
use Rattle.hol_spec.specs.Taking.{AreNew}
use Rattle.hol_spec.specs.Rules.{Parameters, derived, IsDefining}
use Rattle.hol_spec.specs.Rules as rule
use Rattle.hol_spec.specs.Proofs.{Made, symbols_of, steps_of, sequent_at, Step}
use Rattle.hol_spec.specs.declared.StepKind.TheVariants as by_rule
use Rattle.hol_laws.specs.ListLaws.{distinct-itself}
use Rattle.hol_proof_laws.specs.SymbolGrowth.{symmetric}
use Rattle.hol_laws.specs.TermLaws.{term_eq-Decides}
use Rattle.article_spec.specs.State.{Object, State}
use Rattle.article_spec.specs.Results.{◌>>◌, ◌>>=◌}
use Rattle.common.specs.declared.faults.Kind.TheVariants.{NotTheSequent}
use Rattle.article_spec.specs.Conditions.{demand, in_limits, all_bool, is_of_type, follows}
use Rattle.article_spec.specs.Changes.{with_theorem, first_same}
use Rattle.article_spec.specs.RuleSteps.{step_by, application_parts, stated, restatement}
use Rattle.article_spec.specs.DefiningWords.{define_const, define_const_list, define_type_op, constant_objects}
use Rattle.article_spec.specs.Stating.{assume_or_meet, axiom_word, export, thm}
use Rattle.article_laws.specs.SoundStates.{IsWithin}
use Rattle.article_trial_laws.specs.TrialSteps.{Dictionary}
use Rattle.article_write_laws.specs.Scenes.{Scene, body_state}
use Rattle.article_write_laws.specs.TypeWriting.{sequent-in_limits}
use Rattle.article_write_laws.specs.GivenWriting.{list_object, constant_pair, terms-read, names-read, constants-read}
use Rattle.article_write_laws.specs.RuleWords.{concluded, typed-is, is_of_type-is}
use Rattle.article_laws.specs.SoundStating.{assumption}

truth : (b : Bool) → IsTrue b → b ≡ true
truth b h = h

module _ (c : Scene) (d : Dictionary) (m : List Made) (stack : List Object) where
  -- A constant
  pub define_const-word : (n : Name) (t : Term) (a : HolType) → is_taken_constant (symbols_of m) n ≡ false → IsDefining a t
      → SequentWithin (derived [] (equation a (Term.constant n a) t))
      → define_const (body_state c d m (Object.term t ∷ Object.name n ∷ stack))
      ≡ Ok (with_theorem (body_state c d (m ++ Made.symbol (defined (Definition.constant n t)) ∷ []) (Object.constant n ∷ stack))
      (step_by by_rule.DefineConst [] (Parameters.constant n t) (derived [] (equation a (Term.constant n a) t))))
  define_const-word n t a new h w =
      rw (new, truth (is_closed t) h.closed, typed-is t a h.typed, truth (has_type_variables_of a t) h.variables)
      (concluded (body_state c d (m ++ Made.symbol (defined (Definition.constant n t)) ∷ []) (Object.constant n ∷ stack))
      (step_by by_rule.DefineConst [] (Parameters.constant n t) (derived [] (equation a (Term.constant n a) t))) w)

  -- A list of constants
  closed-all : (es : TermPairs) → AllByRecursion (λ e. IsDefining e.0.1 e.1) es → list_all (λ e. is_closed e.1) es ≡ true
  closed-all [] h = refl
  closed-all (e ∷ es) h = rw (truth (is_closed e.1) h.0.closed, closed-all es h.1) refl

  variables-all : (es : TermPairs) → AllByRecursion (λ e. IsDefining e.0.1 e.1) es → list_all (λ e. has_type_variables_of e.0.1 e.1) es ≡ true
  variables-all [] h = refl
  variables-all (e ∷ es) h = rw (truth (has_type_variables_of e.0.1 e.1) h.0.variables, variables-all es h.1) refl

  pub define_const_list-word : (i : ℕ) (pairs : ConstantPairs) → list_any (is_taken_constant (symbols_of m)) (names_of pairs) ≡ false
      → AllByRecursion (λ e. IsDefining e.0.1 e.1) (defining_equations pairs (sequent_at m i).hypotheses) → IsTrue (is_definition_list pairs (sequent_at m i))
      → SequentWithin (derived [] (sub [] (constants_put pairs) (sequent_at m i).conclusion))
      → define_const_list (body_state c d m (Object.theorem i ∷ list_object constant_pair pairs ∷ stack))
      ≡ Ok (with_theorem
      (body_state c d (m ++ map Made.symbol (map defined (definitions_in pairs (sequent_at m i).hypotheses)))
      (Object.list (constant_objects (names_of pairs)) ∷ stack))
      (step_by by_rule.DefineConstList (i ∷ []) (rule.constants pairs) (derived [] (sub [] (constants_put pairs) (sequent_at m i).conclusion))))
  define_const_list-word i pairs new h list w =
      rw (
        constants-read pairs,
        new,
        closed-all (defining_equations pairs (sequent_at m i).hypotheses) h,
        variables-all (defining_equations pairs (sequent_at m i).hypotheses) h,
        truth (is_definition_list pairs (sequent_at m i)) list,
      )
      (concluded (body_state c d (m ++ map Made.symbol (map defined (definitions_in pairs (sequent_at m i).hypotheses)))
      (Object.list (constant_objects (names_of pairs)) ∷ stack))
      (step_by by_rule.DefineConstList (i ∷ []) (rule.constants pairs) (derived [] (sub [] (constants_put pairs) (sequent_at m i).conclusion))) w)

  -- A type operator
  sizes : (ms : List Measure) → AllByRecursion IsWithin ms → list_all (λ k. nat_le k.size greatest_size) ms ≡ true
  sizes [] h = refl
  sizes (k ∷ ms) h = let e : nat_le k.size greatest_size ≡ true = grind (arith, nat_tests, h.0.size) in rw (e, sizes ms h.1) refl

  depths : (ms : List Measure) → AllByRecursion IsWithin ms → list_all (λ k. nat_le k.depth greatest_depth) ms ≡ true
  depths [] h = refl
  depths (k ∷ ms) h = let e : nat_le k.depth greatest_depth ≡ true = grind (arith, nat_tests, h.0.depth) in rw (e, depths ms h.1) refl

  counts : (ms : List Measure) → AllByRecursion IsWithin ms → list_all (λ k. nat_le k.parameters greatest_parameter_count) ms ≡ true
  counts [] h = refl
  counts (k ∷ ms) h = let e : nat_le k.parameters greatest_parameter_count ≡ true = grind (arith, nat_tests, h.0.parameters) in rw (e, counts ms h.1) refl

  all-in_limits : (ms : List Measure) → AllByRecursion IsWithin ms → in_limits ms ≡ Ok tt
  all-in_limits ms h = rw (sizes ms h, depths ms h, counts ms h) refl

  app-function : (f x : Term) → TermWithin (app f x) → TermWithin f
  app-function f x h = record { size = omega (arith, h.size); depth = omega (arith, h.depth) }

  app-argument : (f x : Term) → TermWithin (app f x) → TermWithin x
  app-argument f x h = record { size = omega (arith, h.size); depth = omega (arith, h.depth) }

  lam-type : (a : HolType) (b : Term) → TermWithin (lam a b) → TypeWithin a
  lam-type a b h = record { size = omega (arith, h.size); depth = omega (arith, h.depth) }

  lam-body : (a : HolType) (b : Term) → TermWithin (lam a b) → TermWithin b
  lam-body a b h = record { size = omega (arith, h.size); depth = omega (arith, h.depth) }

  constant-type : (n : Name) (a : HolType) → TermWithin (Term.constant n a) → TypeWithin a
  constant-type n a h = record { size = omega (arith, h.size); depth = omega (arith, h.depth) }

  conclusion-within : (t : Term) → SequentWithin (derived [] t) → TermWithin t
  conclusion-within t h = record { size = omega (arith, h.size); depth = omega (arith, h.depth) }

  type-measured : (a : HolType) → TypeWithin a → IsWithin (type_measure a)
  type-measured a h = record { size = h.size; depth = h.depth; parameters = omega arith }

  sequent-measured : (s : Sequent) → SequentWithin s → IsWithin (sequent_measure s)
  sequent-measured s h = record { size = h.size; depth = h.depth; parameters = h.parameters }

  free-type : (n : Name) (a : HolType) → TermWithin (Term.free n a) → TypeWithin a
  free-type n a h = record { size = omega (arith, h.size); depth = omega (arith, h.depth) }

  -- the types of which the first law speaks
  record AreWithin (names : TypeNames) (a : HolType) : Type 0 where
    new : TypeWithin (new_type names)
    abstraction : TypeWithin (abstraction_type names a)
    representation : TypeWithin (representation_type names a)

  types-within : (version : Version) (names : TypeNames) (a : HolType) → SequentWithin (first_law_of version names a) → AreWithin names a
  types-within Five names a h =
      let whole = conclusion-within _ h in
      let body = app-argument _ _ (app-function _ _ whole) in
      record {
        new = free-type _ _ (app-argument _ _ whole);
        abstraction = constant-type _ _ (app-function _ _ body);
        representation = constant-type _ _ (app-function _ _ (app-argument _ _ body));
      }
  types-within Six names a h =
      let left = app-argument _ _ (app-function _ _ (conclusion-within _ h)) in
      let body = lam-body _ _ left in
      record {
        new = lam-type _ _ left;
        abstraction = constant-type _ _ (app-function _ _ body);
        representation = constant-type _ _ (app-function _ _ (app-argument _ _ body));
      }

  type-limits : (version : Version) (names : TypeNames) (a : HolType) (f : Term) → SequentWithin (first_law_of version names a)
      → SequentWithin (second_law_of version names a f)
      → in_limits (type_measure (new_type names) ∷ type_measure (abstraction_type names a) ∷ type_measure (representation_type names a) ∷ sequent_measure
      (first_law_of version names a) ∷ sequent_measure (second_law_of version names a f) ∷ []) ≡ Ok tt
  type-limits version names a f one two =
      let types = types-within version names a one in
      all-in_limits (type_measure (new_type names) ∷ type_measure (abstraction_type names a) ∷ type_measure (representation_type names a) ∷ sequent_measure
      (first_law_of version names a) ∷ sequent_measure (second_law_of version names a f) ∷ []) (
        type-measured (new_type names) types.new,
        (
          type-measured (abstraction_type names a) types.abstraction,
          (
            type-measured (representation_type names a) types.representation,
            (sequent-measured (first_law_of version names a) one, (sequent-measured (second_law_of version names a f) two, tt {0})),
          ),
        ),
      )

  predicate : (f t u : Term) → u ≡ app f t → application_parts u ≡ Some (f, t)
  predicate f t u e = ap application_parts e

  pub define_type_op-word : (i : ℕ) (names : TypeNames) (a : HolType) (f : Term) → AreNew (symbols_of m) names → IsTypeDefinition names a f (sequent_at m i)
      → SequentWithin (first_law_of c.version names a) → SequentWithin (second_law_of c.version names a f)
      → define_type_op
      (body_state c d m (Object.theorem i ∷ list_object Object.name names.variables ∷ Object.name names.representation ∷ Object.name names.abstraction ∷
      Object.name names.operator ∷ stack))
      ≡ Ok (with_theorem
      (with_theorem (body_state c d (m ++ Made.type_definition names a f i ∷ [])
      (Object.constant names.representation ∷ Object.constant names.abstraction ∷ Object.type_operator names.operator ∷ stack))
      (step_by by_rule.FirstLaw (i ∷ []) (rule.type_operator names c.version) (first_law_of c.version names a)))
      (step_by by_rule.SecondLaw (i ∷ []) (rule.type_operator names c.version) (second_law_of c.version names a f)))
  define_type_op-word i names a f new h one two =
      let hyps : nat_eq (length (sequent_at m i).hypotheses) 0 ≡ true = ap (λ l. nat_eq (length l) 0) h.no_hypotheses in
      rw (
        names-read names.variables,
        new.operator,
        new.abstraction,
        new.representation,
        new.apart,
        predicate f h.witness (sequent_at m i).conclusion h.holds,
        truth (is_closed f) h.closed,
        truth (are_type_variables_of names.variables f) h.variables,
        hyps,
        typed-is h.witness a h.typed,
        type-limits c.version names a f one two,
      ) refl

  -- An assumption
  all-bool : (ts : List Term) → AllByRecursion (λ t. HasType t bool) ts → list_all (is_of_type bool) ts ≡ true
  all-bool [] h = refl
  all-bool (t ∷ ts) h = rw (is_of_type-is t bool h.0, all-bool ts h.1) refl

  sequent-bool : (s : Sequent) → IsSequent s → all_bool (s.conclusion ∷ s.hypotheses) ≡ Ok tt
  sequent-bool s h = rw (all-bool (s.conclusion ∷ s.hypotheses) (h.conclusion, h.hypotheses)) refl

  stated-itself : (s : Sequent) → IsSequent s → stated s.hypotheses s.conclusion ≡ s
  stated-itself s h = ap (λ l. derived l s.conclusion) (distinct-itself term_eq (symmetric term_eq term_eq-Decides) s.hypotheses h.no_repeats)

  -- what an assumption comes to, for the sequent that is stated
  abbrev assumes : Sequent → Result State Kind
  assumes s = assume_or_meet (body_state c d m stack) (assumption s) (first_same (body_state c d m stack) c.assumptions s)

  axiom-assumes : (s : Sequent) → IsSequent s
      → axiom_word (body_state c d m (Object.term s.conclusion ∷ list_object Object.term s.hypotheses ∷ stack)) ≡ assumes s
  axiom-assumes s h =
      (let e : axiom_word (body_state c d m (Object.term s.conclusion ∷ list_object Object.term s.hypotheses ∷ stack))
      ≡ assumes (stated s.hypotheses s.conclusion) = rw (terms-read s.hypotheses, sequent-bool s h) refl in e)
      ∙ ap assumes (stated-itself s h)

  pub axiom-recorded : (s : Sequent) → IsSequent s → first_same (body_state c d m stack) c.assumptions s ≡ None → SequentWithin s
      → axiom_word (body_state c d m (Object.term s.conclusion ∷ list_object Object.term s.hypotheses ∷ stack))
      ≡ Ok (with_theorem (body_state (record c { assumptions = c.assumptions ++ length (steps_of m) ∷ [] }) d m stack)
      (step_by by_rule.Axiom [] (Parameters.sequent s) s))
  axiom-recorded s h new w =
      axiom-assumes s h ∙ ap (assume_or_meet (body_state c d m stack) (assumption s)) new
      ∙ concluded (body_state (record c { assumptions = c.assumptions ++ length (steps_of m) ∷ [] }) d m stack)
      (step_by by_rule.Axiom [] (Parameters.sequent s) s) w

  pub axiom-met : (s : Sequent) (i : ℕ) → IsSequent s → first_same (body_state c d m stack) c.assumptions s ≡ Some i → SequentWithin s
      → axiom_word (body_state c d m (Object.term s.conclusion ∷ list_object Object.term s.hypotheses ∷ stack))
      ≡ Ok (with_theorem (body_state c d m stack) (restatement i s))
  axiom-met s i h old w = axiom-assumes s h ∙ ap (assume_or_meet (body_state c d m stack) (assumption s)) old ∙ concluded (body_state c d m stack)
      (restatement i s) w

  -- An export: where none before says its sequent
  abbrev exporting : Step → Result State Kind
  exporting x = export (body_state c d m stack) x (first_same (body_state c d m stack) c.exports x.sequent)

  abbrev exports : ℕ → Sequent → Result State Kind
  exports i s = (follows (sequent_at m i) s >> Ok (restatement i s)) >>= exporting

  pub thm-exported : (s : Sequent) (i : ℕ) → IsSequent s → IsTrue (within (sequent_at m i) s) → first_same (body_state c d m stack) c.exports s ≡ None
      → SequentWithin s
      → thm (body_state c d m (Object.term s.conclusion ∷ list_object Object.term s.hypotheses ∷ Object.theorem i ∷ stack))
      ≡ Ok (body_state (record c { exports = c.exports ++ length (steps_of m) ∷ [] }) d (m ++ Made.step (restatement i s) ∷ []) stack)
  thm-exported s i h says new w =
      (let e : thm (body_state c d m (Object.term s.conclusion ∷ list_object Object.term s.hypotheses ∷ Object.theorem i ∷ stack))
      ≡ exports i (stated s.hypotheses s.conclusion) = rw (terms-read s.hypotheses, sequent-bool s h) refl in e)
      ∙ ap (exports i) (stated-itself s h)
      ∙ ap (λ b. (demand b NotTheSequent >> Ok (restatement i s)) >>= exporting) (truth (within (sequent_at m i) s) says)
      ∙ ap (export (body_state c d m stack) (restatement i s)) new
      ∙ ap (λ r. r >> Ok (body_state (record c { exports = c.exports ++ length (steps_of m) ∷ [] }) d (m ++ Made.step (restatement i s) ∷ []) stack))
      (sequent-in_limits s w)
