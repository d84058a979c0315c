-- What defines symbols keeps a run sound.
use Rattle.hol_spec.specs.declared.Version.{Version}
use Rattle.hol_spec.specs.declared.Version.TheVariants.{Five, Six}
use Rattle.std.proofs.Common.{◌≡◌, ℕ, ◌+◌, ◌<◌, List, [], ◌∷◌, ◌++◌, map, length, true, false, ◌&&◌, cond, Option, None, Some, Result, Ok, slice_get, refl, sym, ap, subst, ◌∙◌, arith}
use Rattle.std.specs.Prelude.{is_some, not, nat_eq}
use Rattle.std.specs.Option.{ok_or, option_map, option_or, option_to_list}
use Rattle.std.specs.List.{AllByRecursion, IsAmong, filter_map, cons_option, list_all, list_any}
use Rattle.std.proofs.lemmas.List.{length-append, append_assoc}
use Rattle.std.proofs.lemmas.List.Folds.{list_any-append}
use Rattle.std.proofs.Math.Seq.{get_or-append_seam}
use Rattle.std.proofs.lemmas.Bool.Decides.{Decides-eqb}
use Rattle.std.proofs.lemmas.Option.{same_Some}
use Rattle.std.proofs.lemmas.Bool.{and_parts, or_parts, or_from, not-true}
use Rattle.hol_spec.specs.Names.{Name}
use Rattle.hol_spec.specs.NameEquality.{name_eq}
use Rattle.hol_laws.specs.NameEqualityLaws.{name_eq-Decides}
use Rattle.hol_spec.specs.Lists.{is_in}
use Rattle.hol_laws.specs.ListLaws.{All-filter}
use Rattle.hol_spec.specs.Types.{HolType}
use Rattle.hol_spec.specs.Primitives.{bool}
use Rattle.hol_spec.specs.Terms.{Term, Variable, free, app, variable_eq, type_of, HasType}
use Rattle.hol_spec.specs.TermSubstitution.{TermPairs}
use Rattle.hol_spec.specs.Sequents.{Sequent}
use Rattle.common.specs.declared.faults.Kind.{Kind}
use Rattle.common.specs.declared.faults.Kind.TheVariants.{NameTaken, NotClosed, ExtraTypeVars, BadDefinitionList, BadTypeVars, NotTheSequent}
use Rattle.hol_spec.specs.Definitions.{Definition, TypeNames}
use Rattle.hol_spec.specs.Defining.{is_closed, has_type_variables_of}
use Rattle.hol_spec.specs.Repeats.{no_repeats}
use Rattle.hol_spec.specs.Equations.{Equation, equation_parts}
use Rattle.hol_proof_laws.specs.EquationLaws.{equation_parts-is, equation-sides}
use Rattle.hol_spec.specs.DefinitionLists.{ConstantPairs, names_of, variables_of, variable_side, of_equation, variable_equation, defining_equations, definiens, is_definition_list, definitions_in}
use Rattle.hol_spec.specs.TypeDefinitions.{IsTypeDefinition, are_type_variables_of, first_law_of, second_law_of}
use Rattle.hol_spec.specs.Symbols.{Symbol, defined, generic_type, is_input_constant, is_taken_constant}
use Rattle.hol_proof_laws.specs.SymbolGrowth.{symmetric, generic_type-new, term-more, type-more}
use Rattle.hol_spec.specs.Taking.{AreNew}
use Rattle.hol_spec.specs.Taking as taking
use Rattle.hol_spec.specs.Taken.{TypeTaken, TermTaken, TermsTaken}
use Rattle.hol_proof_laws.specs.TakenTerms.{type_of-taken, sides}
use Rattle.hol_laws.specs.Members.{All-weaker}
use Rattle.hol_laws.specs.PlaceLaws.{slice_get-append}
use Rattle.hol_spec.specs.Rules.{Parameters, IsDefining}
use Rattle.hol_spec.specs.Rules as rule
use Rattle.hol_proof_laws.specs.RuleTaken.{lookup-All, list_parts}
use Rattle.hol_proof_laws.specs.RuleSequents.{predicate-typed}
use Rattle.hol_spec.specs.Derivations.{type_definition_in}
use Rattle.hol_proof_laws.specs.StepsDerive.{among-front}
use Rattle.hol_spec.specs.Limits.{SequentWithin}
use Rattle.hol_spec.specs.Proofs.{Made, Step, symbols_of, steps_of, sequents_of, sequent_at, definitions_of}
use Rattle.hol_proof_laws.specs.ProofGrowth.{All-get, symbols_of-append, sequents_of-append, definitions_of-append, over-sequents}
use Rattle.hol_proof_laws.specs.ProofLaws.{symbols_of-symbols}
use Rattle.hol_spec.specs.declared.StepKind.TheVariants as by_rule
use Rattle.article_spec.specs.State.{State, version_at}
use Rattle.article_spec.specs.Conditions.{demand, in_limits, typed}
use Rattle.article_spec.specs.Changes.{with_step, with_type_definition, with_type}
use Rattle.article_spec.specs.RuleSteps.{step_by, application_parts, predicate_fits, are_new_names, NewType, define_const_step, define_const_list_step, type_laws, type_measures, made_of_type}
use Rattle.article_laws.specs.Moves.{with_constants}
use Rattle.article_laws.specs.Soundness.{IsTermObject, HasSoundRun, IsConstantPair, IsStepNumber}
use Rattle.article_laws.specs.SoundStates.{bound, passed, demanded, found, AreTakenAfter, symbols-more, in_limits-All, sequent-within, infer-more, at_step, definition-more, IsWithin}
use Rattle.article_laws.specs.SoundInference.{sequent_at-IsSequent, typed-is, the_step}

-- definitions that are made are among those of what was made
definitions_of-taken : (made : List Made) (ds : List Definition) → definitions_of (made ++ map Made.symbol (map defined ds)) ≡ definitions_of made ++ ds
definitions_of-taken made ds = definitions_of-append made (map Made.symbol (map defined ds)) ∙ ap (λ es. definitions_of made ++ es) (all ds)
  where
    all : (ds : List Definition) → definitions_of (map Made.symbol (map defined ds)) ≡ ds
    all [] = refl
    all (d ∷ ds) = ap (λ es. d ∷ es) (all ds)

all-second : {A : Type 0} (xs ys : List A) → AllByRecursion (IsAmong (xs ++ ys)) ys
all-second xs [] = tt
all-second xs (y ∷ ys) = (
  (
    length xs,
    (
      (let long : length (xs ++ y ∷ ys) ≡ length xs + length (y ∷ ys) = length-append xs (y ∷ ys) in omega (arith, long)),
      sym (get_or-append_seam xs y ys y),
    ),
  ),
  subst (λ zs. AllByRecursion (IsAmong zs) ys) (append_assoc xs (y ∷ []) ys) (all-second (xs ++ y ∷ []) ys),
)

are-defined : (made : List Made) (ds : List Definition) → AllByRecursion (IsAmong (definitions_of (made ++ map Made.symbol (map defined ds)))) ds
are-defined made ds = subst (λ es. AllByRecursion (IsAmong es) ds) (sym (definitions_of-taken made ds)) (all-second (definitions_of made) ds)

-- a premise stays one
premise-more : (m ys : List Made) (i : ℕ) (s : Sequent) → slice_get (sequents_of m) i ≡ Some s → slice_get (sequents_of (m ++ ys)) i ≡ Some s
premise-more m ys i s e = ap (λ l. slice_get l i) (sequents_of-append m ys) ∙ slice_get-append (sequents_of m) (sequents_of ys) i s e

-- a theorem on the stack says a sequent over what is taken
said-taken : (s : State) (i : ℕ) → HasSoundRun s → i < length (steps_of s.made) → TermsTaken (symbols_of s.made) (sequent_at s.made i)
said-taken s i g l = All-get (TermsTaken (symbols_of s.made)) (sequents_of s.made) i (sequent_at s.made i) (over-sequents s.made g.over) (at_step s.made i l)

-- defineConst
pub define_const-sound : (s : State) (n : Name) (u : Term) (x : Step) → HasSoundRun s → IsTermObject s.made u → define_const_step s.made n u ≡ Ok x
    → SequentWithin x.sequent → HasSoundRun (with_step (with_constants s (Definition.constant n u ∷ [])) x)
define_const-sound s n u x g h e within =
    let symbols = symbols_of s.made in
    let new = passed (demand (not (is_taken_constant symbols n)) NameTaken) _ x e in
    let closed = passed (demand (is_closed u) NotClosed) _ x new.2 in
    let a = bound (typed u) _ x closed.2 in
    let variables = passed (demand (has_type_variables_of a.0 u) ExtraTypeVars) _ x a.2 in
    let d = Definition.constant n u in
    let defining : IsDefining a.0 u = record {
      typed = typed-is u a.0 a.1;
      closed = demanded (is_closed u) NotClosed closed.0 closed.1;
      variables =
          demanded (has_type_variables_of a.0 u) ExtraTypeVars variables.0 variables.1;
    } in
    let s1 = with_constants s (d ∷ []) in
    let sound : HasSoundRun s1 = symbols-more s.made s.exports s.assumptions (defined d ∷ []) g (
      (tt {0}, taking.Takes.constant (not-true (is_taken_constant symbols n) (demanded (not (is_taken_constant symbols n)) NameTaken new.0 new.1)) defining),
      h.taken,
      tt {0},
    ) in
    let f = the_step s1.made _ x variables.2 (record {
      next = record {
        premises = [];
        earlier = tt {0};
        rule = rule.Rule.define_const defining refl;
        defined = are-defined s.made (d ∷ []);
        parameters = subst (λ xs. TermTaken xs u) (sym (symbols_of-symbols s.made (defined d ∷ []))) (term-more symbols (defined d ∷ []) u h.taken);
        law = tt {0};
      };
      inference = refl;
    }) in
    infer-more s1.made s.exports s.assumptions x sound f.next f.inference within

-- an equation v = t that is typed and over what is taken
record Defines (symbols : List Symbol) (p : Variable × Term) : Type 0 where
  typed : HasType p.1 p.0.1
  taken : TermTaken symbols p.1

module _ (symbols : List Symbol) where
  of_side : (l r : Term) (v : Variable) (t : Term) → variable_side l r ≡ Some (v, t) → (a : HolType) → HasType l a → HasType r a → TermTaken symbols r
      → Defines symbols (v, t)
  of_side (free n b) r v t e a h k taken =
      let p : ((n, b), r) ≡ (v, t) = same_Some _ _ e in
      let same : b ≡ a = same_Some _ _ h in
      subst (Defines symbols) p (record { typed = k ∙ ap Some (sym same); taken = taken })
  of_side l r v t e a h k taken = absurd (cc)

  of_parts : (h : Term) (o : Option Equation) → equation_parts h ≡ o → HasType h bool → TermTaken symbols h → (v : Variable) (t : Term)
      → of_equation o ≡ Some (v, t) → Defines symbols (v, t)
  of_parts h None is typed taken v t e = absurd (cc)
  of_parts h (Some q) is typed taken v t e =
      let whole = equation_parts-is h q is in
      let both = equation-sides q.ty q.left q.right h whole typed in
      of_side q.left q.right v t e q.ty both.left both.right (sides symbols q.ty q.left q.right h whole taken).right

  equations-All : (hs : List Term) → AllByRecursion (λ h. HasType h bool) hs → AllByRecursion (TermTaken symbols) hs
      → AllByRecursion (Defines symbols) (filter_map variable_equation hs)
  equations-All [] h k = tt
  equations-All (x ∷ xs) h k = go (variable_equation x) (λ v t e. of_parts x (equation_parts x) refl h.0 k.0 v t e) (equations-All xs h.1 k.1)
    where
      go : (o : Option (Variable × Term)) → ((v : Variable) (t : Term) → o ≡ Some (v, t) → Defines symbols (v, t))
          → AllByRecursion (Defines symbols) (filter_map variable_equation xs)
          → AllByRecursion (Defines symbols) (cons_option o (filter_map variable_equation xs))
      go None f rest = rest
      go (Some p) f rest = (f p.0 p.1 refl, rest)

still-new : (symbols : List Symbol) (n m : Name) (t : Term) → is_taken_constant symbols n ≡ false → name_eq n m ≡ false
    → is_taken_constant (symbols ++ defined (Definition.constant m t) ∷ []) n ≡ false
still-new symbols n m t new other =
    let parts = or_parts (is_some (generic_type symbols n)) (list_any (is_input_constant n) symbols) new in
    or_from _ _
    (ap is_some (generic_type-new symbols (defined (Definition.constant m t) ∷ []) n parts.0 ∙ ap (λ b. option_or (cond b (type_of t) None) None) other))
    (list_any-append (is_input_constant n) symbols (defined (Definition.constant m t) ∷ []) ∙ or_from _ _ parts.1 refl)

all-still-new : (symbols : List Symbol) (m : Name) (t : Term) (ns : List Name) → list_any (is_taken_constant symbols) ns ≡ false → is_in name_eq m ns ≡ false
    → list_any (is_taken_constant (symbols ++ defined (Definition.constant m t) ∷ [])) ns ≡ false
all-still-new symbols m t [] e f = refl
all-still-new symbols m t (n ∷ ns) e f =
    let a = or_parts (is_taken_constant symbols n) (list_any (is_taken_constant symbols) ns) e in
    let b = or_parts (name_eq m n) (is_in name_eq m ns) f in
    or_from _ _ (still-new symbols n m t a.0 (symmetric name_eq name_eq-Decides m n b.0)) (all-still-new symbols m t ns a.1 b.1)

-- the constants of a list are taken one after another
listed-taken : (d : Variable → Option Term) → ((v : Variable) (t : Term) → d v ≡ Some t → IsDefining v.1 t) → (ps : ConstantPairs) (m : List Made)
    → ((v : Variable) (t : Term) → d v ≡ Some t → TermTaken (symbols_of m) t)
    → list_all (λ v. is_some (d v)) (variables_of ps) ≡ true → list_any (is_taken_constant (symbols_of m)) (names_of ps) ≡ false
    → no_repeats name_eq (names_of ps) ≡ true
    → AreTakenAfter m (map defined (filter_map (λ p. option_map (Definition.constant p.0) (d p.1)) ps))
listed-taken d defining [] m taken e new apart = tt
listed-taken d defining (p ∷ ps) m taken e new apart = go (d p.1) (defining p.1) (taken p.1) e (λ n f g. listed-taken d defining ps n f g)
  where
    rest : List Definition
    rest = filter_map (λ p. option_map (Definition.constant p.0) (d p.1)) ps

    go : (o : Option Term) → ((t : Term) → o ≡ Some t → IsDefining p.1.1 t) → ((t : Term) → o ≡ Some t → TermTaken (symbols_of m) t)
        → (is_some o && list_all (λ v. is_some (d v)) (variables_of ps)) ≡ true
        → ((n : List Made) → ((v : Variable) (t : Term) → d v ≡ Some t → TermTaken (symbols_of n) t) → list_all (λ v. is_some (d v)) (variables_of ps) ≡ true
        → list_any (is_taken_constant (symbols_of n)) (names_of ps) ≡ false → no_repeats name_eq (names_of ps) ≡ true
        → AreTakenAfter n (map defined (filter_map (λ p. option_map (Definition.constant p.0) (d p.1)) ps)))
        → AreTakenAfter m
        (map defined (cons_option (option_map (Definition.constant p.0) o) (filter_map (λ p. option_map (Definition.constant p.0) (d p.1)) ps)))
    go None f h e later = absurd (cc)
    go (Some t) f h e later =
        let x = defined (Definition.constant p.0 t) in
        let a = or_parts (is_taken_constant (symbols_of m) p.0) (list_any (is_taken_constant (symbols_of m)) (names_of ps)) new in
        let b = and_parts (not (is_in name_eq p.0 (names_of ps))) (no_repeats name_eq (names_of ps)) apart in
        let symbols : symbols_of (m ++ Made.symbol x ∷ []) ≡ symbols_of m ++ x ∷ [] = symbols_of-append m (Made.symbol x ∷ []) in (
          (tt {0}, taking.Takes.constant a.0 (f t refl)),
          h t refl,
          later (m ++ Made.symbol x ∷ []) (λ v u k. subst (λ xs. TermTaken xs u) (sym symbols) (term-more (symbols_of m) (x ∷ []) u (taken v u k))) e
              (subst (λ xs. list_any (is_taken_constant xs) (names_of ps) ≡ false) (sym symbols)
              (all-still-new (symbols_of m) p.0 t (names_of ps) a.1 (not-true (is_in name_eq p.0 (names_of ps)) b.0))) b.1,
        )

together : (symbols : List Symbol) (es : TermPairs) → AllByRecursion (Defines symbols) es → list_all (λ (e : Variable × Term). is_closed e.1) es ≡ true
    → list_all (λ (e : Variable × Term). has_type_variables_of e.0.1 e.1) es ≡ true
    → AllByRecursion (λ (e : Variable × Term). IsDefining e.0.1 e.1) es
together symbols [] h c v = tt
together symbols (e ∷ es) h c v =
    let a = and_parts (is_closed e.1) (list_all (λ (e : Variable × Term). is_closed e.1) es) c in
    let b = and_parts (has_type_variables_of e.0.1 e.1) (list_all (λ (e : Variable × Term). has_type_variables_of e.0.1 e.1) es) v in
    (record { typed = h.0.typed; closed = a.0; variables = b.0 }, together symbols es h.1 a.1 b.1)

pub define_const_list-sound : (s : State) (pairs : ConstantPairs) (i : ℕ) (x : Step) → HasSoundRun s → AllByRecursion (IsConstantPair s.made) pairs
    → IsStepNumber s.made i → define_const_list_step s.made pairs i ≡ Ok x → SequentWithin x.sequent
    → HasSoundRun (with_step (with_constants s (definitions_in pairs (sequent_at s.made i).hypotheses)) x)
define_const_list-sound s pairs i x g k l e within =
    let symbols = symbols_of s.made in
    let one = sequent_at s.made i in
    let equations = defining_equations pairs one.hypotheses in
    let new = passed (demand (not (list_any (is_taken_constant symbols) (names_of pairs))) NameTaken) _ x e in
    let closed = passed (demand (list_all (λ (e : Variable × Term). is_closed e.1) equations) NotClosed) _ x new.2 in
    let variables = passed (demand (list_all (λ (e : Variable × Term). has_type_variables_of e.0.1 e.1) equations) ExtraTypeVars) _ x closed.2 in
    let list = passed (demand (is_definition_list pairs one) BadDefinitionList) _ x variables.2 in
    let is = sequent_at-IsSequent s i g l in
    let over = said-taken s i g l in
    let defines : AllByRecursion (Defines symbols) equations =
    All-filter (Defines symbols) (λ e. is_in variable_eq e.0 (variables_of pairs)) (filter_map variable_equation one.hypotheses)
    (equations-All symbols one.hypotheses is.hypotheses over.hypotheses) in
    let defining = together symbols equations defines (demanded _ NotClosed closed.0 closed.1) (demanded _ ExtraTypeVars variables.0 variables.1) in
    let good = demanded (is_definition_list pairs one) BadDefinitionList list.0 list.1 in
    let parts = list_parts pairs one good in
    let ds = definitions_in pairs one.hypotheses in
    let s1 = with_constants s ds in
    let sound : HasSoundRun s1 = symbols-more s.made s.exports s.assumptions (map defined ds) g
    (listed-taken (definiens pairs one.hypotheses) (λ v u f. lookup-All (λ e. IsDefining e.0.1 e.1) equations v u defining f) pairs s.made
    (λ v u f. (lookup-All (Defines symbols) equations v u defines f).taken)
    parts.defined (not-true (list_any (is_taken_constant symbols) (names_of pairs)) (demanded _ NameTaken new.0 new.1)) parts.names) in
    let f = the_step s1.made _ x list.2 (record {
      next = record {
        premises = one ∷ [];
        earlier = (premise-more s.made (map Made.symbol (map defined ds)) i one (at_step s.made i l), tt {0});
        rule = rule.Rule.define_const_list defining good refl;
        defined = are-defined s.made ds;
        parameters = subst (λ xs. AllByRecursion (λ (q : Name × Variable). TypeTaken xs q.1.1) pairs) (sym (symbols_of-symbols s.made (map defined ds)))
            (All-weaker (IsConstantPair s.made) (λ q. TypeTaken (symbols ++ map defined ds) q.1.1) (λ q j. type-more symbols (map defined ds) q.1.1 j.1.0) pairs
            k);
        law = tt {0};
      };
      inference = refl;
    }) in
    infer-more s1.made s.exports s.assumptions x sound f.next f.inference within

-- defineTypeOp
application-is : (p f t : Term) → application_parts p ≡ Some (f, t) → p ≡ app f t
application-is (app g u) f t e = let q : (g, u) ≡ (f, t) = same_Some _ _ e in ap (λ (x : Term × Term). app x.0 x.1) q
application-is p f t e = absurd (cc)

no-hypotheses : (hs : List Term) → nat_eq (length hs) 0 ≡ true → hs ≡ []
no-hypotheses [] e = refl
no-hypotheses (h ∷ hs) e = let l : length (h ∷ hs) ≡ 0 = (Decides-eqb (length (h ∷ hs)) 0).0 e in absurd (omega (arith, l))

pub record PredicateFits (variables : List Name) (f : Term) : Type 0 where
  pub closed : is_closed f ≡ true
  pub names : are_type_variables_of variables f ≡ true

fits-is : (variables : List Name) (o : Option (Term × Term)) (f u : Term) (x : Unit {0}) → predicate_fits variables o ≡ Ok x → o ≡ Some (f, u)
    → PredicateFits variables f
fits-is variables None f u x e is = absurd (cc)
fits-is variables (Some parts) f u x e is =
    let a = passed (demand (is_closed parts.0) NotClosed) _ x e in
    let same : parts ≡ (f, u) = same_Some _ _ is in
    subst (λ (q : Term × Term). PredicateFits variables q.0) same (record { closed = demanded _ NotClosed a.0 a.1; names = demanded _ BadTypeVars x a.2 })

new-names : (symbols : List Symbol) (names : TypeNames) (x : Unit {0}) → are_new_names symbols names ≡ Ok x → AreNew symbols names
new-names symbols names x e =
    let none = not-true _ (demanded _ NameTaken x e) in
    let a = or_parts _ _ none in
    let b = or_parts _ _ a.0 in
    let c = or_parts _ _ b.0 in
    record { operator = c.0; abstraction = c.1; representation = b.1; apart = a.1 }

used : (m : List Made) (names : TypeNames) (c : HolType) (f u p : Term) → p ≡ app f u → HasType u c
    → IsAmong (definitions_of m) (Definition.type_operator names c f) → AllByRecursion (IsAmong (definitions_of m)) (type_definition_in names p)
used m names c f u p is h k =
    subst (λ q. AllByRecursion (IsAmong (definitions_of m)) (type_definition_in names q)) (sym is)
    (subst (λ o. AllByRecursion (IsAmong (definitions_of m)) (option_to_list (option_map (λ c. Definition.type_operator names c f) o))) (sym h) (k, tt {0}))

-- a law in an article of a version
first_rule : (version : Version) (names : TypeNames) (c : HolType) (f : Term) (one : Sequent) → IsTypeDefinition names c f one
    → rule.Rule by_rule.FirstLaw (one ∷ []) (Parameters.type_operator names version) (first_law_of version names c)
first_rule Five names c f one d = rule.Rule.first_law_free d refl
first_rule Six names c f one d = rule.Rule.first_law d refl

second_rule : (version : Version) (names : TypeNames) (c : HolType) (f : Term) (one : Sequent) → IsTypeDefinition names c f one
    → rule.Rule by_rule.SecondLaw (one ∷ []) (Parameters.type_operator names version) (second_law_of version names c f)
second_rule Five names c f one d = rule.Rule.second_law_free d refl
second_rule Six names c f one d = rule.Rule.second_law d refl

made_of_type-sound : (version : Version) (s : State) (names : TypeNames) (i : ℕ) (c : HolType) (f u : Term) → HasSoundRun s → IsStepNumber s.made i
    → AreNew (symbols_of s.made) names → PredicateFits names.variables f
    → (sequent_at s.made i).hypotheses ≡ [] → (sequent_at s.made i).conclusion ≡ app f u → HasType u c
    → AllByRecursion IsWithin (type_measures version names c f) → HasSoundRun (with_type s (made_of_type version names i c f))
made_of_type-sound version s names i c f u g l new fit alone is typed within =
    let symbols = symbols_of s.made in
    let one = sequent_at s.made i in
    let definition : IsTypeDefinition names c f one =
    record { witness = u; no_hypotheses = alone; holds = is; typed = typed; closed = fit.closed; variables = fit.names } in
    let application : TermTaken symbols (app f u) = subst (TermTaken symbols) is (said-taken s i g l).conclusion in
    let d = Definition.type_operator names c f in
    let m = Made.type_definition names c f i in
    let s1 = with_type_definition s names c f i in
    let sound : HasSoundRun s1 = definition-more s.made s.exports s.assumptions names c f i g
    (record {
      one = one;
      at = at_step s.made i l;
      defines = definition;
      taken =
          taking.Takes.type_operator new (predicate-typed names c f one definition (sequent_at-IsSequent s i g l).conclusion) fit.closed fit.names;
    })
    (type_of-taken symbols u c application.1 typed, application.0) in
    let first = step_by by_rule.FirstLaw (i ∷ []) (Parameters.type_operator names version) (first_law_of version names c) in
    let second = step_by by_rule.SecondLaw (i ∷ []) (Parameters.type_operator names version) (second_law_of version names c f) in
    let premise = premise-more s.made (m ∷ []) i one (at_step s.made i l) in
    let made1 : IsAmong s1.made m = (all-second s.made (m ∷ [])).0 in
    let among : IsAmong (definitions_of s1.made) d =
    subst (λ es. IsAmong es d) (sym (definitions_of-append s.made (m ∷ []))) (all-second (definitions_of s.made) (d ∷ [])).0 in
    let s2 = with_step s1 first in
    let sound2 : HasSoundRun s2 = infer-more s1.made s.exports s.assumptions first sound
    (record {
      premises = one ∷ [];
      earlier = (premise, tt {0});
      rule = first_rule version names c f one definition;
      defined =
          used s1.made names c f u one.conclusion is typed among;
      parameters = tt {0};
      law = record { c = c; f = f; number = i; among = made1; is = refl };
    })
    refl
    (sequent-within (first_law_of version names c) within.1.1.1.0) in
    let among2 : IsAmong (definitions_of s2.made) d =
    subst (λ es. IsAmong es d) (sym (definitions_of-append s1.made (Made.step first ∷ []))) (among-front (definitions_of s1.made) [] d among) in
    let made2 : IsAmong s2.made m = among-front s1.made (Made.step first ∷ []) m made1 in
    infer-more s2.made s.exports s.assumptions second sound2
    (record {
      premises = one ∷ [];
      earlier = (premise-more s1.made (Made.step first ∷ []) i one premise, tt {0});
      rule =
          second_rule version names c f one definition;
      defined = used s2.made names c f u one.conclusion is typed among2;
      parameters = tt {0};
      law =
          record { c = c; f = f; number = i; among = made2; is = refl };
    }) refl
    (sequent-within (second_law_of version names c f) within.1.1.1.1.0)

-- what the definition of a type operator makes, with what is judged of it
pub record TypeMade (version : Version) (made : List Made) (names : TypeNames) (i : ℕ) (x : NewType) : Type 0 where
  pub c : HolType
  pub f : Term
  pub witness : Term
  pub is : x ≡ made_of_type version names i c f
  pub new : AreNew (symbols_of made) names
  pub fits : PredicateFits names.variables f
  pub alone : (sequent_at made i).hypotheses ≡ []
  pub says : (sequent_at made i).conclusion ≡ app f witness
  pub typed : HasType witness c
  pub within : AllByRecursion IsWithin (type_measures version names c f)

pub type_laws-made : (version : Version) (made : List Made) (names : TypeNames) (i : ℕ) (x : NewType) → type_laws version made names i ≡ Ok x
    → TypeMade version made names i x
type_laws-made version made names i x e =
    let one = sequent_at made i in
    let new = passed (are_new_names (symbols_of made) names) _ x e in
    let fits = passed (predicate_fits names.variables (application_parts one.conclusion)) _ x new.2 in
    let alone = passed (demand (nat_eq (length one.hypotheses) 0) NotTheSequent) _ x fits.2 in
    let parts = bound (ok_or (application_parts one.conclusion) NotTheSequent) _ x alone.2 in
    let c = bound (typed parts.0.1) _ x parts.2 in
    let limits = passed (in_limits (type_measures version names c.0 parts.0.0)) _ x c.2 in
    let some : application_parts one.conclusion ≡ Some (parts.0.0, parts.0.1) = found (application_parts one.conclusion) NotTheSequent parts.0 parts.1 in
    record {
      c = c.0;
      f = parts.0.0;
      witness = parts.0.1;
      is = the x (made_of_type version names i c.0 parts.0.0) limits.2;
      new = new-names (symbols_of made) names new.0 new.1;
      fits = fits-is names.variables (application_parts one.conclusion) parts.0.0 parts.0.1 fits.0 fits.1 some;
      alone = no-hypotheses one.hypotheses (demanded (nat_eq (length one.hypotheses) 0) NotTheSequent alone.0 alone.1);
      says = application-is one.conclusion parts.0.0 parts.0.1 some;
      typed = typed-is parts.0.1 c.0 c.1;
      within = in_limits-All (type_measures version names c.0 parts.0.0) limits.0 limits.1;
    }
  where
    the : (x y : NewType) → ◌≡◌ {A = Result NewType Kind} (Ok y) (Ok x) → x ≡ y
    the x y e = cc

pub define_type_op-sound : (s : State) (names : TypeNames) (i : ℕ) (x : NewType) → HasSoundRun s → IsStepNumber s.made i
    → type_laws (version_at s.place) s.made names i ≡ Ok x → HasSoundRun (with_type s x)
define_type_op-sound s names i x g l e =
    let y = type_laws-made (version_at s.place) s.made names i x e in
    subst (λ z. HasSoundRun (with_type s z)) (sym y.is)
    (made_of_type-sound (version_at s.place) s names i y.c y.f y.witness g l y.new y.fits y.alone y.says y.typed y.within)
