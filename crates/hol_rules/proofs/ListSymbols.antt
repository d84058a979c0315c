-- The constants that a sequent's hypotheses define: they may be taken, and their step follows.
use Rattle.std.proofs.Common.{◌≡◌, ℕ, zero, suc, ◌+◌, ◌<◌, refl, sym, ap, subst, ◌∙◌, arith, List, [], ◌∷◌, ◌++◌, length, map, true, false, ◌&&◌, cond, Option, None, Some, slice_get}
use Rattle.std.specs.Prelude.{not, is_some}
use Rattle.std.specs.Option.{option_map, option_or}
use Rattle.std.specs.List.{AllByRecursion, IsAmong, filter_map, cons_option, list_all, list_any}
use Rattle.std.proofs.lemmas.List.{length-append, append_assoc}
use Rattle.std.proofs.lemmas.List.Folds.{list_any-append}
use Rattle.std.proofs.Math.Seq.{get_or-append_seam}
use Rattle.std.proofs.lemmas.Bool.{and_parts, or_parts, or_from, not-true}
use Rattle.hol_spec.specs.Names.{Name}
use Rattle.hol_spec.specs.NameEquality.{name_eq}
use Rattle.hol_laws.specs.NameEqualityLaws.{name_eq-Decides}
use Rattle.hol_spec.specs.Lists.{is_in}
use Rattle.hol_laws.specs.ListLaws.{All-filter}
use Rattle.hol_spec.specs.Primitives.{bool}
use Rattle.hol_spec.specs.Terms.{Term, Variable, free, variable_eq, type_of, HasType}
use Rattle.hol_spec.specs.TermSubstitution.{TermPairs}
use Rattle.hol_spec.specs.Sequents.{Sequent, IsSequent}
use Rattle.hol_spec.specs.Definitions.{Definition}
use Rattle.hol_spec.specs.Defining.{is_closed, has_type_variables_of}
use Rattle.hol_spec.specs.Repeats.{no_repeats}
use Rattle.hol_spec.specs.DefinitionLists.{ConstantPairs, names_of, variables_of, variable_equation, defining_equations, definiens, definitions_in}
use Rattle.hol_spec.specs.Symbols.{Symbol, defined, generic_type, is_input_constant, is_taken_constant}
use Rattle.hol_spec.specs.Taking as taking
use Rattle.hol_spec.specs.Rules.{IsDefining}
use Rattle.hol_spec.specs.Rules as rule
use Rattle.hol_spec.specs.Proofs.{Made, Step, symbols_of, steps_of, sequents_of, sequent_at, definitions_of, IsStep}
use Rattle.hol_proof_laws.specs.DefinitionListLaws.{hypothesis-is}
use Rattle.hol_proof_laws.specs.EquationLaws.{equation-sides}
use Rattle.hol_proof_laws.specs.ProofGrowth.{sequents_of-append, definitions_of-append}
use Rattle.hol_proof_laws.specs.RuleTaken.{lookup-All, list_parts}
use Rattle.hol_proof_laws.specs.SymbolGrowth.{symmetric, generic_type-new}
use Rattle.hol_rules.specs.declared.made.Made.TheVariants as one_made
use Rattle.hol_rules.specs.ConstantLists.{constants_in}
use Rattle.hol_rules.specs.Views.{made_of}
use Rattle.hol_rules.proofs.ListConditions.{listed_step, AreFit}
use Rattle.hol_rules.proofs.RuleSteps.{at_step}
use Rattle.hol_rules.proofs.Taken.{AreTakenAfter}

-- what the hypotheses say of variables is typed
equations-typed : (hs : List Term) → AllByRecursion (λ h. HasType h bool) hs
    → AllByRecursion (λ (e : Variable × Term). HasType e.1 e.0.1) (filter_map variable_equation hs)
equations-typed [] h = tt
equations-typed (x ∷ xs) h = go (variable_equation x) refl (equations-typed xs h.1)
  where
    go : (o : Option (Variable × Term)) → variable_equation x ≡ o
        → AllByRecursion (λ (e : Variable × Term). HasType e.1 e.0.1) (filter_map variable_equation xs)
        → AllByRecursion (λ (e : Variable × Term). HasType e.1 e.0.1) (cons_option o (filter_map variable_equation xs))
    go None is rest = rest
    go (Some e) is rest = ((equation-sides e.0.1 (free e.0.0 e.0.1) e.1 x (hypothesis-is x e h.0 is) h.0).right, rest)

together : (es : TermPairs) → AllByRecursion (λ (e : Variable × Term). HasType e.1 e.0.1) es → list_all (λ (e : Variable × Term). is_closed e.1) es ≡ true
    → list_all (λ (e : Variable × Term). has_type_variables_of e.0.1 e.1) es ≡ true
    → AllByRecursion (λ (e : Variable × Term). IsDefining e.0.1 e.1) es
together [] h c v = tt
together (e ∷ es) h c v =
    let a = and_parts (is_closed e.1) (list_all (λ (e : Variable × Term). is_closed e.1) es) c in
    let b = and_parts (has_type_variables_of e.0.1 e.1) (list_all (λ (e : Variable × Term). has_type_variables_of e.0.1 e.1) es) v in
    (record { typed = h.0; closed = a.0; variables = b.0 }, together es h.1 a.1 b.1)

-- a name that is new stays new beside another
still-new : (symbols : List Symbol) (n m : Name) (t : Term) → is_taken_constant symbols n ≡ false → name_eq n m ≡ false
    → is_taken_constant (symbols ++ defined (Definition.constant m t) ∷ []) n ≡ false
still-new symbols n m t new other =
    let parts = or_parts (is_some (generic_type symbols n)) (list_any (is_input_constant n) symbols) new in
    or_from _ _
    (ap is_some (generic_type-new symbols (defined (Definition.constant m t) ∷ []) n parts.0 ∙ ap (λ b. option_or (cond b (type_of t) None) None) other))
    (list_any-append (is_input_constant n) symbols (defined (Definition.constant m t) ∷ []) ∙ or_from _ _ parts.1 refl)

all-still-new : (symbols : List Symbol) (m : Name) (t : Term) (ns : List Name) → list_any (is_taken_constant symbols) ns ≡ false → is_in name_eq m ns ≡ false
    → list_any (is_taken_constant (symbols ++ defined (Definition.constant m t) ∷ [])) ns ≡ false
all-still-new symbols m t [] e f = refl
all-still-new symbols m t (n ∷ ns) e f =
    let a = or_parts (is_taken_constant symbols n) (list_any (is_taken_constant symbols) ns) e in
    let b = or_parts (name_eq m n) (is_in name_eq m ns) f in
    or_from _ _ (still-new symbols n m t a.0 (symmetric name_eq name_eq-Decides m n b.0)) (all-still-new symbols m t ns a.1 b.1)

-- the constants of a list, each by what defines its variable
module _ (d : Variable → Option Term) where
  abbrev listed : ConstantPairs → List Definition
  listed ps = filter_map (λ p. option_map (Definition.constant p.0) (d p.1)) ps

  listed-taken : ((v : Variable) (t : Term) → d v ≡ Some t → IsDefining v.1 t) → (ps : ConstantPairs) (symbols : List Symbol)
      → list_all (λ v. is_some (d v)) (variables_of ps) ≡ true → list_any (is_taken_constant symbols) (names_of ps) ≡ false → no_repeats name_eq (names_of ps)
      ≡ true
      → AreTakenAfter symbols (map defined (listed ps))
  listed-taken defining [] symbols e new apart = tt
  listed-taken defining (p ∷ ps) symbols e new apart = go (d p.1) (defining p.1) e (λ ss f g. listed-taken defining ps ss f g)
    where
      go : (o : Option Term) → ((t : Term) → o ≡ Some t → IsDefining p.1.1 t) → (is_some o && list_all (λ v. is_some (d v)) (variables_of ps)) ≡ true
          → ((ss : List Symbol) → list_all (λ v. is_some (d v)) (variables_of ps) ≡ true → list_any (is_taken_constant ss) (names_of ps) ≡ false
          → no_repeats name_eq (names_of ps) ≡ true → AreTakenAfter ss (map defined (listed ps)))
          → AreTakenAfter symbols (map defined (cons_option (option_map (Definition.constant p.0) o) (listed ps)))
      go None f e later = absurd (cc)
      go (Some t) f e later =
          let a = or_parts (is_taken_constant symbols p.0) (list_any (is_taken_constant symbols) (names_of ps)) new in
          let b = and_parts (not (is_in name_eq p.0 (names_of ps))) (no_repeats name_eq (names_of ps)) apart in (
            tt {0},
            taking.Takes.constant a.0 (f t refl),
            later (symbols ++ defined (Definition.constant p.0 t) ∷ []) e
                (all-still-new symbols p.0 t (names_of ps) a.1 (not-true (is_in name_eq p.0 (names_of ps)) b.0)) b.1,
          )

  -- each is made under its name
  listed-made : (steps : List Step) (ps : ConstantPairs) → list_all (λ v. is_some (d v)) (variables_of ps) ≡ true
      → made_of (map defined (listed ps)) steps (map (λ n. one_made.Const n) (names_of ps)) ≡ map Made.symbol (map defined (listed ps))
  listed-made steps [] e = refl
  listed-made steps (p ∷ ps) e = go (d p.1) e (listed-made steps ps)
    where
      go : (o : Option Term) → (is_some o && list_all (λ v. is_some (d v)) (variables_of ps)) ≡ true
          → (list_all (λ v. is_some (d v)) (variables_of ps) ≡ true → made_of (map defined (listed ps)) steps (map (λ n. one_made.Const n) (names_of ps))
          ≡ map Made.symbol (map defined (listed ps)))
          → made_of (map defined (cons_option (option_map (Definition.constant p.0) o) (listed ps))) steps
          (one_made.Const p.0 ∷ map (λ n. one_made.Const n) (names_of ps))
          ≡ map Made.symbol (map defined (cons_option (option_map (Definition.constant p.0) o) (listed ps)))
      go None e later = absurd (cc)
      go (Some t) e later = ap (λ l. Made.symbol (defined (Definition.constant p.0 t)) ∷ l) (later e)

  listed-count : (ps : ConstantPairs) → list_all (λ v. is_some (d v)) (variables_of ps) ≡ true → length (names_of ps) ≡ length (map defined (listed ps))
  listed-count [] e = refl
  listed-count (p ∷ ps) e = go (d p.1) e (listed-count ps)
    where
      go : (o : Option Term) → (is_some o && list_all (λ v. is_some (d v)) (variables_of ps)) ≡ true
          → (list_all (λ v. is_some (d v)) (variables_of ps) ≡ true → length (names_of ps) ≡ length (map defined (listed ps)))
          → suc (length (names_of ps)) ≡ length (map defined (cons_option (option_map (Definition.constant p.0) o) (listed ps)))
      go None e later = absurd (cc)
      go (Some t) e later = ap suc (later e)

-- definitions that are made are among those of what was made
all-second : {A : Type 0} (xs ys : List A) → AllByRecursion (IsAmong (xs ++ ys)) ys
all-second xs [] = tt
all-second xs (y ∷ ys) = (
  (
    length xs,
    (
      (let long : length (xs ++ y ∷ ys) ≡ length xs + length (y ∷ ys) = length-append xs (y ∷ ys) in omega (arith, long)),
      sym (get_or-append_seam xs y ys y),
    ),
  ),
  subst (λ zs. AllByRecursion (IsAmong zs) ys) (append_assoc xs (y ∷ []) ys) (all-second (xs ++ y ∷ []) ys),
)

are-defined : (made : List Made) (ds : List Definition) → AllByRecursion (IsAmong (definitions_of (made ++ map Made.symbol (map defined ds)))) ds
are-defined made ds = subst (λ es. AllByRecursion (IsAmong es) ds)
    (sym (definitions_of-append made (map Made.symbol (map defined ds)) ∙ ap (λ es. definitions_of made ++ es) (all ds))) (all-second (definitions_of made) ds)
  where
    all : (ds : List Definition) → definitions_of (map Made.symbol (map defined ds)) ≡ ds
    all [] = refl
    all (d ∷ ds) = ap (λ es. d ∷ es) (all ds)

-- a premise stays one
get-left : {A : Type 0} (xs ys : List A) (i : ℕ) (x : A) → slice_get xs i ≡ Some x → slice_get (xs ++ ys) i ≡ Some x
get-left [] ys i x e = absurd (cc)
get-left (y ∷ xs) ys zero x e = e
get-left (y ∷ xs) ys (suc i) x e = get-left xs ys i x e

premise-more : (m ys : List Made) (i : ℕ) → i < length (steps_of m) → slice_get (sequents_of (m ++ ys)) i ≡ Some (sequent_at m i)
premise-more m ys i l = ap (λ l. slice_get l i) (sequents_of-append m ys) ∙ get-left (sequents_of m) (sequents_of ys) i (sequent_at m i) (at_step m i l)

module _ (symbols : List Symbol) (pairs : ConstantPairs) (one : Sequent) (typed : IsSequent one) (fit : AreFit symbols pairs one) where
  defining : AllByRecursion (λ (e : Variable × Term). IsDefining e.0.1 e.1) (defining_equations pairs one.hypotheses)
  defining =
      together (defining_equations pairs one.hypotheses)
      (All-filter (λ (e : Variable × Term). HasType e.1 e.0.1) (λ e. is_in variable_eq e.0 (variables_of pairs)) (filter_map variable_equation one.hypotheses)
      (equations-typed one.hypotheses typed.hypotheses)) fit.closed fit.variables

  pub list-takes : AreTakenAfter symbols (constants_in pairs one)
  list-takes =
      let parts = list_parts pairs one fit.list in
      listed-taken (definiens pairs one.hypotheses) (λ v u f. lookup-All (λ e. IsDefining e.0.1 e.1) (defining_equations pairs one.hypotheses) v u defining f)
      pairs symbols parts.defined (not-true (list_any (is_taken_constant symbols) (names_of pairs)) fit.new) parts.names

  pub list-made : (steps : List Step) → made_of (constants_in pairs one) steps (map (λ n. one_made.Const n) (names_of pairs))
      ≡ map Made.symbol (constants_in pairs one)
  list-made steps = listed-made (definiens pairs one.hypotheses) steps pairs (list_parts pairs one fit.list).defined

  pub list-count : length (names_of pairs) ≡ length (constants_in pairs one)
  list-count = listed-count (definiens pairs one.hypotheses) pairs (list_parts pairs one fit.list).defined

-- the step follows once the constants are taken
pub list-follows : (made : List Made) (pairs : ConstantPairs) (i : ℕ) → i < length (steps_of made) → IsSequent (sequent_at made i)
    → AreFit (symbols_of made) pairs (sequent_at made i)
    → IsStep (made ++ map Made.symbol (constants_in pairs (sequent_at made i))) (listed_step made pairs i)
list-follows made pairs i l typed fit = record {
  premises = sequent_at made i ∷ [];
  earlier = (premise-more made (map Made.symbol (constants_in pairs (sequent_at made i))) i l, tt {0});
  follows = record {
    rule = rule.Rule.define_const_list (defining (symbols_of made) pairs (sequent_at made i) typed fit) fit.list refl;
    defined =
        are-defined made (definitions_in pairs (sequent_at made i).hypotheses);
  };
  law = tt;
}
