-- What is defined is within the limits: the term of each constant lies in a sequent within them.
use Rattle.hol_spec.specs.declared.Version.{Version}
use Rattle.hol_spec.specs.declared.Version.TheVariants.{Five, Six}
use Rattle.std.proofs.Common.{◌≡◌, length, ℕ, zero, suc, ◌≤◌, List, [], ◌∷◌, ◌++◌, map, Option, None, Some, Ok, inl, refl, sym, ap, subst, arith, Result}
use Rattle.std.specs.Prelude.{not, slice_index_or}
use Rattle.std.specs.Option.{option_map}
use Rattle.std.specs.List.{AllByRecursion, filter_map, cons_option, flat_map}
use Rattle.std.proofs.lemmas.List.{length-map}
use Rattle.common.specs.declared.faults.Kind.TheVariants.{NameTaken, NotClosed, ExtraTypeVars}
use Rattle.hol_spec.specs.Names.{Name}
use Rattle.hol_spec.specs.Lists.{is_in, IsIn}
use Rattle.hol_spec.specs.Types.{HolType, types_of, variable, variable_places}
use Rattle.hol_spec.specs.Terms.{Term, Variable, free, app, lam, constant, variable_eq, equation, type_variable_places}
use Rattle.hol_spec.specs.Limits.{greatest_depth, greatest_size, SequentWithin, type_depth, type_size}
use Rattle.hol_spec.specs.Equations.{Equation, equation_parts}
use Rattle.hol_proof_laws.specs.EquationLaws.{equation_parts-is}
use Rattle.hol_spec.specs.Sequents.{Sequent, terms_of}
use Rattle.hol_spec.specs.Definitions.{Definition, TypeNames}
use Rattle.hol_spec.specs.NewTypes.{new_type, abstraction_type, representation_type}
use Rattle.hol_spec.specs.Defining.{is_closed, has_type_variables_of}
use Rattle.hol_spec.specs.DefinitionLists.{ConstantPairs, variables_of, variable_side, of_equation, variable_equation, defining_equations, definiens, definitions_in}
use Rattle.hol_spec.specs.Primitives.{function, equality_name, equality_type}
use Rattle.hol_spec.specs.TypeDefinitions.{abstracted, represented, new_variable, first_law, first_law_free, first_law_of}
use Rattle.hol_spec.specs.Symbols.{defined, is_taken_constant}
use Rattle.hol_spec.specs.Rules.{Parameters, derived}
use Rattle.hol_spec.specs.Proofs.{Made, symbols_of, sequents_of, sequent_at, Step}
use Rattle.hol_spec.specs.declared.StepKind.TheVariants as by_rule
use Rattle.hol_laws.specs.ListLaws.{All-filter}
use Rattle.hol_laws.specs.Members.{All-mapped, All-each, IsIn-left, IsIn-right}
use Rattle.hol_proof_laws.specs.RuleTaken.{lookup-All}
use Rattle.article_spec.specs.Conditions.{demand, typed}
use Rattle.article_spec.specs.RuleSteps.{step_by, define_const_step, type_measures}
use Rattle.article_laws.specs.SoundStates.{bound, passed, sequent-within, IsWithin}
use Rattle.image_bound_laws.specs.SymbolLimits.{DefinitionWithin, GenericWithin, SymbolWithin, MadeWithin, AreWithin, IsPart, part-within, few-places}
use Rattle.hol_laws.specs.TypeLaws.{count-types_of}
use Rattle.std.proofs.lemmas.Option.{same_Some}
use Rattle.common.specs.declared.faults.Kind.{Kind}

-- the right side of an equation is a part of it
right-part : (a : HolType) (x y h : Term) → h ≡ equation a x y → IsPart y h
right-part a x y h e =
    subst (IsPart y) (sym e) (record {
      size = omega arith;
      depth = omega arith;
      places = All-each (IsIn (type_variable_places (equation a x y))) (type_variable_places y)
          (λ n k. IsIn-right (type_variable_places (app (constant equality_name (equality_type a)) x)) (type_variable_places y) n k);
    })

-- a term that is defined with its own equation
equation-within : (a : HolType) (x y : Term) → SequentWithin (derived [] (equation a x y)) → DefinitionWithin y
equation-within a x y h = part-within (derived [] (equation a x y)) h (equation a x y) (inl refl) y (right-part a x y (equation a x y) refl)

-- defineConst
pub define_const-within : (m : List Made) (n : Name) (t : Term) (x : Step) → define_const_step m n t ≡ Ok x → SequentWithin x.sequent → DefinitionWithin t
define_const-within m n t x e within =
    let new = passed (demand (not (is_taken_constant (symbols_of m) n)) NameTaken) _ x e in
    let closed = passed (demand (is_closed t) NotClosed) _ x new.2 in
    let a = bound (typed t) _ x closed.2 in
    let variables = passed (demand (has_type_variables_of a.0 t) ExtraTypeVars) _ x a.2 in
    let y = step_by by_rule.DefineConst [] (Parameters.constant n t) (derived [] (equation a.0 (Term.constant n a.0) t)) in
    equation-within a.0 (Term.constant n a.0) t (subst (λ (z : Step). SequentWithin z.sequent) (the_step x y variables.2) within)
  where
    the_step : (x y : Step) → ◌≡◌ {A = Result Step Kind} (Ok y) (Ok x) → x ≡ y
    the_step x y e = cc

-- the sequent of each step is within the limits
sequents-within : (made : List Made) → AreWithin made → AllByRecursion SequentWithin (sequents_of made)
sequents-within [] h = tt
sequents-within (Made.symbol x ∷ made) h = sequents-within made h.1
sequents-within (Made.type_definition names c f i ∷ made) h = sequents-within made h.1
sequents-within (Made.step x ∷ made) h = (h.0, sequents-within made h.1)

pub nothing-within : SequentWithin (record { hypotheses = []; conclusion = Term.bound 0 })
nothing-within = record { size = omega arith; depth = omega arith; parameters = omega arith }

pub at-within : (ss : List Sequent) (i : ℕ) → AllByRecursion SequentWithin ss
    → SequentWithin (slice_index_or ss i (record { hypotheses = []; conclusion = Term.bound 0 }))
at-within [] i h = nothing-within
at-within (s ∷ ss) zero h = h.0
at-within (s ∷ ss) (suc i) h = at-within ss i h.1

-- the terms of defining equations are parts of hypotheses
module _ (one : Sequent) (within : SequentWithin one) where
  abbrev Within : Variable × Term → Type 0
  Within p = DefinitionWithin p.1

  of_side : (q : Equation) (h : Term) → IsIn (terms_of one) h → equation_parts h ≡ Some q → (v : Variable) (t : Term) → (l : Term) → q.left ≡ l
      → variable_side l q.right ≡ Some (v, t) → DefinitionWithin t
  of_side q h i is v t (free n b) e f =
      let same : q.right ≡ t = ap (λ (p : Variable × Term). p.1) (same_Some _ _ f) in
      subst DefinitionWithin same (part-within one within h i q.right (right-part q.ty q.left q.right h (equation_parts-is h q is)))
  of_side q h i is v t l e f = absurd (cc)

  of_parts : (h : Term) → IsIn (terms_of one) h → (o : Option Equation) → equation_parts h ≡ o → (v : Variable) (t : Term) → of_equation o ≡ Some (v, t)
      → DefinitionWithin t
  of_parts h i None is v t e = absurd (cc)
  of_parts h i (Some q) is v t e = of_side q h i is v t q.left refl e

  equations-within : (hs : List Term) → AllByRecursion (IsIn (terms_of one)) hs → AllByRecursion Within (filter_map variable_equation hs)
  equations-within [] k = tt
  equations-within (h ∷ hs) k = go (variable_equation h) (of_parts h k.0 (equation_parts h) refl) (equations-within hs k.1)
    where
      go : (o : Option (Variable × Term)) → ((v : Variable) (t : Term) → o ≡ Some (v, t) → DefinitionWithin t)
          → AllByRecursion Within (filter_map variable_equation hs) → AllByRecursion Within (cons_option o (filter_map variable_equation hs))
      go None f rest = rest
      go (Some p) f rest = (f p.0 p.1 refl, rest)

  definitions-within : (pairs qs : ConstantPairs) → AllByRecursion Within (defining_equations pairs one.hypotheses)
      → AllByRecursion SymbolWithin (map defined (filter_map (λ p. option_map (Definition.constant p.0) (definiens pairs one.hypotheses p.1)) qs))
  definitions-within pairs [] h = tt
  definitions-within pairs (q ∷ qs) h =
      go (definiens pairs one.hypotheses q.1) (λ t e. lookup-All Within (defining_equations pairs one.hypotheses) q.1 t h e) (definitions-within pairs qs h)
    where
      go : (o : Option Term) → ((t : Term) → o ≡ Some t → DefinitionWithin t)
          → AllByRecursion SymbolWithin (map defined (filter_map (λ p. option_map (Definition.constant p.0) (definiens pairs one.hypotheses p.1)) qs))
          → AllByRecursion SymbolWithin
          (map defined (cons_option (option_map (Definition.constant q.0) o)
          (filter_map (λ p. option_map (Definition.constant p.0) (definiens pairs one.hypotheses p.1)) qs)))
      go None f rest = rest
      go (Some t) f rest = (f t refl, rest)

  list-within : (pairs : ConstantPairs) → AllByRecursion SymbolWithin (map defined (definitions_in pairs one.hypotheses))
  list-within pairs =
      definitions-within pairs pairs (All-filter Within (λ e. is_in variable_eq e.0 (variables_of pairs)) (filter_map variable_equation one.hypotheses)
      (equations-within one.hypotheses (All-each (IsIn (terms_of one)) one.hypotheses (λ h k. IsIn-left one.hypotheses (one.conclusion ∷ []) h k))))

-- defineConstList
pub define_const_list-within : (m : List Made) (pairs : ConstantPairs) (i : ℕ) → AreWithin m
    → AllByRecursion MadeWithin (map Made.symbol (map defined (definitions_in pairs (sequent_at m i).hypotheses)))
define_const_list-within m pairs i h =
    let one = sequent_at m i in
    All-mapped MadeWithin Made.symbol (map defined (definitions_in pairs one.hypotheses))
    (list-within one (at-within (sequents_of m) i (sequents-within m h)) pairs)

-- the types that a type definition makes
generic-of_law : (s : Sequent) → SequentWithin s → (a : HolType) → type_size a ≤ greatest_size → type_depth a ≤ greatest_depth
    → AllByRecursion (IsIn (flat_map type_variable_places (terms_of s))) (variable_places a) → GenericWithin a
generic-of_law s h a size depth places = record
    { size = omega (arith, size); depth = omega (arith, depth); variables = few-places s h (variable_places a) places }

-- both constants stand in the first law
law-places : (names : TypeNames) (c : HolType) (n : Name)
    → IsIn (variable_places (abstraction_type names c) ++ (variable_places (representation_type names c) ++ [])) n
    → IsIn (flat_map type_variable_places (terms_of (first_law names c))) n
law-places names c n k =
    let new = new_type names in
    let body = abstracted names c (represented names c (Term.bound 0)) in
    let equality = constant equality_name (equality_type (function new new)) in
    IsIn-left (type_variable_places (first_law names c).conclusion) [] n
    (IsIn-left (type_variable_places (app equality (lam new body))) (type_variable_places (lam new (Term.bound 0))) n
    (IsIn-right (type_variable_places equality) (type_variable_places (lam new body)) n
    (IsIn-right (variable_places new) (type_variable_places body) n k)))

free-places : (names : TypeNames) (c : HolType) (n : Name)
    → IsIn (variable_places (abstraction_type names c) ++ (variable_places (representation_type names c) ++ variable_places (new_type names))) n
    → IsIn (flat_map type_variable_places (terms_of (first_law_free names c))) n
free-places names c n k =
    let new = new_type names in
    let v = new_variable names in
    let body = abstracted names c (represented names c v) in
    let equality = constant equality_name (equality_type new) in
    IsIn-left (type_variable_places (first_law_free names c).conclusion) [] n
    (IsIn-left (type_variable_places (app equality body)) (type_variable_places v) n
    (IsIn-right (type_variable_places equality) (type_variable_places body) n k))

abstraction-places : (edition : Version) (names : TypeNames) (c : HolType) (n : Name) → IsIn (variable_places (abstraction_type names c)) n
    → IsIn (flat_map type_variable_places (terms_of (first_law_of edition names c))) n
abstraction-places Five names c n k = free-places names c n
    (IsIn-left (variable_places (abstraction_type names c)) (variable_places (representation_type names c) ++ variable_places (new_type names)) n k)
abstraction-places Six names c n k = law-places names c n
    (IsIn-left (variable_places (abstraction_type names c)) (variable_places (representation_type names c) ++ []) n k)

representation-places : (edition : Version) (names : TypeNames) (c : HolType) (n : Name) → IsIn (variable_places (representation_type names c)) n
    → IsIn (flat_map type_variable_places (terms_of (first_law_of edition names c))) n
representation-places Five names c n k =
    free-places names c n
    (IsIn-right (variable_places (abstraction_type names c)) (variable_places (representation_type names c) ++ variable_places (new_type names)) n
    (IsIn-left (variable_places (representation_type names c)) (variable_places (new_type names)) n k))
representation-places Six names c n k =
    law-places names c n
    (IsIn-right (variable_places (abstraction_type names c)) (variable_places (representation_type names c) ++ []) n
    (IsIn-left (variable_places (representation_type names c)) [] n k))

abstraction-within : (edition : Version) (names : TypeNames) (c : HolType) → SequentWithin (first_law_of edition names c)
    → type_size (abstraction_type names c) ≤ greatest_size → type_depth (abstraction_type names c) ≤ greatest_depth → GenericWithin (abstraction_type names c)
abstraction-within edition names c h size depth =
    let a = abstraction_type names c in
    generic-of_law (first_law_of edition names c) h a size depth
    (All-each (IsIn (flat_map type_variable_places (terms_of (first_law_of edition names c)))) (variable_places a)
    (λ n k. abstraction-places edition names c n k))

representation-within : (edition : Version) (names : TypeNames) (c : HolType) → SequentWithin (first_law_of edition names c)
    → type_size (representation_type names c) ≤ greatest_size → type_depth (representation_type names c) ≤ greatest_depth
    → GenericWithin (representation_type names c)
representation-within edition names c h size depth =
    let r = representation_type names c in
    generic-of_law (first_law_of edition names c) h r size depth
    (All-each (IsIn (flat_map type_variable_places (terms_of (first_law_of edition names c)))) (variable_places r)
    (λ n k. representation-places edition names c n k))

-- an operator within the limits has few arguments
pub arguments-few : (n : Name) (ts : List HolType) → type_depth (HolType.operator n (types_of ts)) ≤ greatest_depth → length ts ≤ greatest_depth
arguments-few n ts h = let same = count-types_of ts in omega (arith, h, same)

-- defineTypeOp
pub define_type_op-within : (edition : Version) (names : TypeNames) (c : HolType) (f : Term) → AllByRecursion IsWithin (type_measures edition names c f)
    → SymbolWithin (defined (Definition.type_operator names c f))
define_type_op-within edition names c f within =
    let law = sequent-within (first_law_of edition names c) within.1.1.1.0 in
    let long = length-map names.variables variable in
    let arguments = arguments-few names.operator (map variable names.variables) within.0.depth in
    let abstraction = within.1.0 in
    let representation = within.1.1.0 in (
      omega (arith, long, arguments),
      abstraction-within edition names c law abstraction.size abstraction.depth,
      representation-within edition names c law representation.size representation.depth,
    )
